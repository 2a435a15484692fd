-- The invariant of a session.
use Rattle.std.proofs.Common.{◌≡◌, refl, sym, ap, ◌∙◌, ℕ, ◌+◌, ◌%◌, ◌<◌, mod-lt, Bool, true, false, cond, arith}
use Rattle.std.proofs.Common.{List, [], ◌∷◌, ◌++◌, length, take, slice_set, Option, Some, None}
use native.Mathlib.Decide.{dec_lt}
use Rattle.std.proofs.lemmas.Grind.{common_steps}
use Rattle.std.proofs.lemmas.List.{take_more_set, get_or_past}
use Rattle.std.proofs.lemmas.List.FromFn.{map-range_with_len_more}
use Rattle.setups.specs.declared.setup.Guest.{Guest}
use Rattle.setups.specs.Plan.{Plan}
use Rattle.admission.specs.Verdict.{Accepted}
use Rattle.deadlines.proofs.OneAtATime.{ServedBy}
use Rattle.schedule.specs.declared.server.Server.{Server}
use Rattle.schedule.specs.declared.turn.Turn.{Turn}
use Rattle.setups.specs.Supply.{free?}
use Rattle.schedule.specs.declared.turn.Turn.TheVariants.{Fixed}
use Rattle.schedule.specs.ServerSlot.{after_slot, server_at, byte_at, free_turn}
use Rattle.schedule.specs.ServerSlot.{first_server, with_grant, with_refills}
use Rattle.schedule.specs.Session.{server_at_start, servers_at_start, servers_after, turn_at}
use Rattle.schedule.specs.Session.{LimitsInvariant, ServersInvariant, IsNamedByByte, IsTurnOf}
use Rattle.schedule.proofs.Grants.{servers, granted_by_first}
use Rattle.schedule.proofs.ServerSlots.{within_after_slot, at_start, servers_next, length_refills}

-- where the first i of some servers are those at the start, with server i set so are the first i + 1
pub start_more : (vs : List Server) (i : ℕ) → i < length vs → take i vs ≡ servers_at_start i
    → take (i + 1) (slice_set vs i (server_at_start i)) ≡ servers_at_start (i + 1)
start_more vs i l so_far =
    take_more_set vs i (server_at_start i) l ∙ ap (λ us. us ++ server_at_start i ∷ []) so_far
    ∙ sym (map-range_with_len_more server_at_start 0 i i (omega arith))

-- of an accepted plan the limits hold at the start
pub limits_at_start : (p : Plan) (registers : ℕ) → Accepted p registers → LimitsInvariant p.session p.table p.guests 0
limits_at_start p registers ok = record {
  bytes = omega (arith, ok.form.sizes.table);
  few = ok.form.sizes.guests.few;
  servers = ok.form.servers;
  short = omega (arith, ok.form.sizes.session);
  begun = omega arith;
}

-- and so does the invariant of the servers
pub invariant_at_start : (p : Plan) (vs : List Server) → vs ≡ servers_at_start (length p.guests)
    → ServersInvariant p.table p.guests 0 vs
unfolding servers_after
invariant_at_start p vs is = record {
  by_rule = is;
  within_budget = λ i l.
      let none = ap (λ x. x.work) (at_start p.table p.guests i l) in
      omega (arith, ap (λ us. (server_at us i).left) is, none);
}

-- and after one slot more
pub invariant_next : (table : List ℕ) (gs : List Guest) (n : ℕ) (vs ws : List Server) → ServersInvariant table gs n vs
    → ws ≡ after_slot table gs n vs → ServersInvariant table gs (n + 1) ws
invariant_next table gs n vs ws k is = record {
  by_rule = is ∙ ap (after_slot table gs n) k.by_rule ∙ sym (servers_next table gs n);
  within_budget = λ i l.
      let within = within_after_slot table gs n vs i l (k.within_budget i l) in
      omega (arith, ap (λ us. (server_at us i).left) is, within);
}

module _ (table : List ℕ) (gs : List Guest) where
  -- a free slot is granted to one of as many servers as there are guests, or to none
  free_turn_of : (vs : List Server) (r : Option ℕ) → length vs ≡ length gs → ServedBy servers vs r (with_grant vs)
      → IsTurnOf table gs (free_turn r)
  free_turn_of vs None long none = tt
  free_turn_of vs (Some i) long to = (omega arith, omega (arith, to.within, long))

  -- a byte that is not free names a fixed operation
  named_by_byte : (n : ℕ) → free? (byte_at table n) ≡ false → IsNamedByByte table (byte_at table n)
  named_by_byte n taken =
      elim (dec_lt 0 (length table)) [
        | yes some ↦
            record {
              some = grind (arith, common_steps);
              place = n % length table;
              within = mod-lt n some;
              named = refl;
            }
        | no none ↦
            (let free : byte_at table n ≡ 0 = get_or_past table (n % length table) 0 (omega (arith, none)) in
            absurd cc)
      ]

  -- the turn of a slot, by whether its byte is free
  turn_by_byte : (n : ℕ) (free : Bool) (t : Turn) → free? (byte_at table n) ≡ free → IsTurnOf table gs t
      → IsTurnOf table gs (cond free t (Fixed (byte_at table n)))
  turn_by_byte n true t is granted = granted
  turn_by_byte n false t is granted = named_by_byte n is

  -- a slot is that of a fixed operation that the table names, or of one of the guests, or nobody's
  pub turn_of_session : (n : ℕ) → IsTurnOf table gs (turn_at table gs n)
  turn_of_session n =
      let vs = with_refills n gs (servers_after table gs n) in
      turn_by_byte n (free? (byte_at table n)) (free_turn (first_server vs)) refl
      (free_turn_of vs (first_server vs) (length_refills n gs (servers_after table gs n)) (granted_by_first vs))
