use Rattle.std.proofs.Common.{◌*◌, refl, ap}
use Rattle.admission.proofs.SearchResults.{link_served, link_short}
use Rattle.admission.proofs.search.check_link_demand.Goals as goal

pub returns-in-Some : goal.returns-in-Some
returns-in-Some c =
    let gs = c.args.servers.now.items.now in (
      c.from.result,
      refl,
      rw c.from.ensures
          (link_short c.args.table.now.bytes.now gs c.in-Some.t c.args.servers.now.ok
          (rw c.of-lookup.ensures at c.in-Some.ensures)),
    )

pub returns-in-None : goal.returns-in-None
returns-in-None c =
    let gs = c.args.servers.now.items.now in
    let table = c.args.table.now.bytes.now in
    link_served table gs (100 * c.of-lookup.result.free) c.args.table.now.size.0 c.args.servers.now.ok c.requires
    (ap (λ n. 100 * n) (rw c.of-lookup.ensures at c.of-lookup.result.is_free))
    (rw c.of-lookup.ensures at c.in-None.ensures)
