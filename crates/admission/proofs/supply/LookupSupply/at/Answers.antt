use Rattle.std.proofs.Common.{◌≡◌, ℕ, ◌+◌, ◌*◌, ◌/◌, ◌%◌, length, get_or, sym, mod-lt, arith}
use Rattle.admission.specs.declared.supply.Lookup.{Lookup}
use Rattle.setups.specs.Supply.{supply}
use Rattle.setups.proofs.SlotWindows.{supply_law, supply_small}
use Rattle.admission.proofs.supply.LookupSupply.at.Goals as goal

-- the count of the rest, and F for each round, are S(t)
lookup-is_supply : (l : Lookup) (t size : ℕ) → size ≡ length l.table.bytes.now
    → get_or l.counts (t % size) 0 + t / size * l.free ≡ supply l.table.bytes.now t
lookup-is_supply l t size e =
    let table = l.table.bytes.now in
    rw (e, l.is_free, l.are_least (t % length table) (mod-lt t l.table.size.0)) (sym (supply_law table t))

pub overflow_add-result : goal.overflow_add-result
overflow_add-result c =
    omega (
      arith,
      lookup-is_supply c.args.self.now c.args.t c.len-size.result c.len-size.ensures,
      supply_small
          c.args.self.now.table.bytes.now c.args.t,
    )

pub returns : goal.returns
returns c = lookup-is_supply c.args.self.now c.args.t c.len-size.result c.len-size.ensures
