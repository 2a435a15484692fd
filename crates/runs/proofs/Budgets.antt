-- Full budgets: what the entries of calls grant each guest in its periods.
use Rattle.std.proofs.Common.{◌≡◌, refl, ap, ◌∙◌, ℕ, suc, ◌+◌, ◌-◌, ◌==◌, ◌*◌, ◌≤◌, min, max, Bool, true, false}
use Rattle.std.proofs.Common.{cond, ◌&&◌, nat_le, nat_lt, List, [], ◌∷◌, length, filter, Option, Some, None, arith}
use native.Mathlib.Decide.{dec_lt}
use Rattle.std.proofs.lemmas.Grind.{common_steps}
use Rattle.journal.specs.declared.fields.Fields.{Fields}
use Rattle.journal.specs.Entries.{fields_of}
use Rattle.device.specs.Meaning.{Meaning}
use Rattle.setups.specs.declared.setup.Guest.{Guest}
use Rattle.setups.specs.Plan.{Plan, guest_at}
use Rattle.admission.specs.Verdict.{Accepted}
use Rattle.deadlines.specs.Sums.{sum_below}
use Rattle.deadlines.proofs.Sums.{sum_below_next}
use Rattle.schedule.specs.declared.turn.Turn.{Turn}
use Rattle.schedule.specs.declared.turn.Turn.TheVariants.{Unassigned, Fixed, Granted}
use Rattle.schedule.specs.Turns.{is_granted}
use Rattle.schedule.specs.Session.{turn_at, IsTurnOf}
use Rattle.schedule.proofs.Sessions.{turn_of_session}
use Rattle.schedule.proofs.Counts.{grant_at, whole_granted}
use Rattle.rig.specs.State.{State, state_at_load, jobs_of}
use Rattle.rig.specs.Slot.{first_job, granted_work, work_of, event_of, next_entry}
use Rattle.runs.specs.Traces.{Exchange}
use Rattle.runs.specs.TraceEntries.{entries, is_between, is_grant, grants_among}
use Rattle.runs.specs.Laws.{FullBudgets}
use Rattle.runs.proofs.JobSlots.{grant_in, event_entry}
use Rattle.runs.proofs.Loaded.{AnswersOf}
use Rattle.runs.proofs.TraceEntries.{HoldsFrom, holds_of_entries, next_entry_slot}

-- the entry of a slot that is granted is a grant to the same guest
entry_granted : (n : ℕ) (m : Meaning) (s : State) (g h : ℕ) (r : Option ℕ)
    → is_grant g (fields_of (event_entry n (event_of m (granted_work s h r)))) ≡ (h + 1 == g)
entry_granted n m s g h None = refl
entry_granted n m s g h (Some k) = refl

-- the entry of a slot is a grant to a guest exactly if its turn is
entry_of_turn : (n : ℕ) (m : Meaning) (s : State) (g : ℕ) (table : List ℕ) (gs : List Guest) (t : Turn)
    → IsTurnOf table gs t
    → is_grant g (fields_of (event_entry n (event_of m (work_of s t)))) ≡ is_granted g t
entry_of_turn n m s g table gs Unassigned whose = refl
entry_of_turn n m s g table gs (Fixed p) whose = refl
entry_of_turn n m s g table gs (Granted h) (from, to) =
    let same : h - 1 + 1 ≡ h = omega (arith, from) in
    entry_granted n m s g (h - 1) (first_job (jobs_of s (h - 1))) ∙ ap (λ k. k == g) same

-- the entry of the next slot is a grant to a guest exactly if its turn is
next_entry_granted : (m : Meaning) (s : State) (g : ℕ)
    → is_grant g (fields_of (next_entry s m)) ≡ is_granted g (turn_at s.plan.table s.plan.guests s.passed)
next_entry_granted m s g =
    entry_of_turn s.passed m s g s.plan.table s.plan.guests (turn_at s.plan.table s.plan.guests s.passed)
    (turn_of_session s.plan.table s.plan.guests s.passed)

-- an entry is of slot n, and is as many grants to guest g as f says of that slot
abbrev pub GrantsBy : (ℕ → ℕ) → ℕ → ℕ → Fields → Type 0
GrantsBy f g n e = (e.slot ≡ n) × (cond (is_grant g e) 1 0 ≡ f n)

-- the entries of calls are of the slots that they passed, and are grants to a guest as the turns of these are
pub grants_by_turns : (m : Meaning) (s : State) (xs : List Exchange) (g : ℕ) → AnswersOf m s xs
    → HoldsFrom (GrantsBy (grant_in s.plan g) g) s.passed (entries xs)
grants_by_turns m s xs g all =
    holds_of_entries (GrantsBy (grant_in s.plan g) g) s.plan
    (λ n t is. (
      next_entry_slot n t,
      ap (λ b. cond b 1 0) (next_entry_granted n t g) ∙ ap (λ p. grant_in p g t.passed) is,
    )) m s xs refl all

-- n, or whichever of a and b is nearer to it where it is not between them
abbrev clamp : ℕ → ℕ → ℕ → ℕ
clamp a b n = min b (max a n)

-- one value more, which counts if its place is from a to before b
clamp_next : (f : ℕ → ℕ) (a b n : ℕ) → a ≤ b
    → cond (nat_le a n && nat_lt n b) (f n) 0 + sum_below f (clamp a b n) ≡ sum_below f (clamp a b (suc n))
clamp_next f a b n le =
    elim (dec_lt n a) [
      | yes early ↦
          (let same : clamp a b (suc n) ≡ clamp a b n = omega (arith, early) in
          let out : nat_le a n && nat_lt n b ≡ false = grind (arith, common_steps) in
          omega (arith, ap (λ u. cond u (f n) 0) out, ap (sum_below f) same))
      | no begun ↦
          elim (dec_lt n b) [
            | yes in_time ↦
                (let this : clamp a b n ≡ n = omega (arith, begun, in_time) in
                let next : clamp a b (suc n) ≡ suc n = omega (arith, begun, in_time) in
                let inside : nat_le a n && nat_lt n b ≡ true = grind (arith, common_steps) in
                omega (
                  arith,
                  ap (λ u. cond u (f n) 0) inside,
                  ap (sum_below f) this,
                  ap (sum_below f) next,
                  sum_below_next f n,
                ))
            | no late ↦
                (let same : clamp a b (suc n) ≡ clamp a b n = omega (arith, begun, late) in
                let out : nat_le a n && nat_lt n b ≡ false = grind (arith, common_steps) in
                omega (arith, ap (λ u. cond u (f n) 0) out, ap (sum_below f) same))
          ]
    ]

-- one entry more, which counts if it passes a test and is a grant to guest g
one_more : (t : Fields → Bool) (g : ℕ) (e : Fields) (es : List Fields)
    → length (grants_among g (filter t (e ∷ es)))
    ≡ cond (t e) (cond (is_grant g e) 1 0) 0 + length (grants_among g (filter t es))
one_more t g e es = grind (arith, common_steps)

-- the grants to guest g among successive entries, of those from slot a to before slot b,
-- are the sum of f over these slots
pub grants_between : (f : ℕ → ℕ) (g a b n : ℕ) (es : List Fields) → a ≤ b → HoldsFrom (GrantsBy f g) n es
    → length (grants_among g (filter (is_between a b) es)) + sum_below f (clamp a b n)
    ≡ sum_below f (clamp a b (n + length es))
unfolding HoldsFrom
grants_between f g a b n [] le all =
    let same : n ≡ n + 0 = omega arith in
    omega (arith, ap (λ k. sum_below f (clamp a b k)) same)
grants_between f g a b n (e ∷ es) le ((is, gives), rest) =
    let same : suc n + length es ≡ n + length (e ∷ es) = omega arith in
    omega (
      arith,
      one_more (is_between a b) g e es,
      ap (λ k. cond (is_between a b e) k 0) gives,
      ap (λ k. cond (nat_le a k && nat_lt k b) (f n) 0) is,
      clamp_next f a b n le,
      grants_between f g a b (suc n) es le rest,
      ap (λ k. sum_below f (clamp a b k)) same,
    )

-- after a load of an accepted plan each guest has its full budget in each of its periods
pub full_budgets : (p : Plan) (registers : ℕ) → Accepted p registers → (m : Meaning) (xs : List Exchange)
    → AnswersOf m (state_at_load p) xs → FullBudgets p xs
unfolding FullBudgets
full_budgets p registers ok m xs all i q l h =
    let period = (guest_at p.guests i).period in
    let a = q * period in
    let b = (q + 1) * period in
    let start : clamp a b 0 ≡ a = omega arith in
    let end : clamp a b (0 + length (entries xs)) ≡ b = omega (arith, h) in
    omega (
      arith,
      grants_between (grant_at p registers ok i) (i + 1) a b 0 (entries xs) (omega arith)
          (grants_by_turns m (state_at_load p) xs (i + 1) all),
      ap (sum_below (grant_at p registers ok i)) start,
      ap (sum_below (grant_at p registers ok i)) end,
      whole_granted p registers ok i q l,
      whole_granted p registers ok i (q + 1) l,
    )
