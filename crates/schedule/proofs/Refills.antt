-- The servers with their refills, place by place.
use Rattle.std.proofs.Common.{◌≡◌, sym, ap, ◌∙◌, ℕ, ◌+◌, ◌<◌, ◌≤◌, List, length}
use Rattle.std.proofs.Common.{map, take, slice_set, ◌∷◌, ◌++◌, [], arith}
use Rattle.std.specs.List.{range_with_len}
use Rattle.std.proofs.lemmas.List.{take_more_set, length-set, get_or-set_other}
use Rattle.std.proofs.lemmas.List.FromFn.{map-range_with_len_more}
use Rattle.setups.specs.declared.setup.Guest.{Guest}
use Rattle.setups.specs.Plan.{guest_at}
use Rattle.schedule.specs.declared.server.Server.{Server}
use Rattle.schedule.specs.ServerSlot.{with_refill, server_at}

-- the servers before place i have their refills, and the others are as they were
pub record SoFar (slot : ℕ) (gs : List Guest) (old now : List Server) (i : ℕ) : Type 0 where
  pub same : length now ≡ length old
  pub done : take i now ≡ map (λ k. with_refill slot (guest_at gs k) (server_at old k)) (range_with_len 0 i)
  pub rest : (k : ℕ) → i ≤ k → server_at now k ≡ server_at old k

-- so are they with one refill more
pub one_more : (slot : ℕ) (gs : List Guest) (old now : List Server) (i : ℕ) (v : Server) → i < length now
    → v ≡ with_refill slot (guest_at gs i) (server_at now i)
    → SoFar slot gs old now i → SoFar slot gs old (slice_set now i v) (i + 1)
one_more slot gs old now i v l e so = record {
  same = length-set now i v ∙ so.same;
  done =
      let is : v ≡ with_refill slot (guest_at gs i) (server_at old i) =
      e ∙ ap (with_refill slot (guest_at gs i)) (so.rest i (omega arith)) in
      take_more_set now i v l ∙ ap (λ w. take i now ++ w ∷ []) is
      ∙ ap (λ vs. vs ++ with_refill slot (guest_at gs i) (server_at old i) ∷ []) so.done
      ∙ sym (map-range_with_len_more (λ k. with_refill slot (guest_at gs k) (server_at old k)) 0 i i (omega arith));
  rest = λ k past. get_or-set_other now i k v _ (λ same. omega (arith, same, past)) ∙ so.rest k (omega (arith, past));
}
