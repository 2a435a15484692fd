-- The entries that a job uses from its start to before its deadline.
use Rattle.std.proofs.Common.{◌≡◌, refl, sym, ap, ap₂, ◌∙◌, ℕ, zero, suc, ◌+◌, ◌<◌, ◌≤◌, ◌⊎◌, inl}
use Rattle.std.proofs.Common.{inr, ⊎_elim, Bool, true, false, cond, List, [], ◌∷◌, ◌++◌, length}
use Rattle.std.proofs.Common.{filter, slice_get, Some, Result, Ok, Err, subst, subst₂, arith, eq-eqb}
use native.Mathlib.Decide.{dec_lt}
use Rattle.std.proofs.lemmas.Grind.{common_steps}
use Rattle.std.proofs.lemmas.Option.{none-some, same_Some}
use Rattle.journal.specs.declared.fields.Fields.{Fields}
use Rattle.device.specs.declared.Refused.{Refused}
use Rattle.device.specs.Meaning.{Meaning, read_answer}
use Rattle.setups.specs.declared.setup.Operation.{Operation}
use Rattle.setups.specs.declared.setup.Operation.TheVariants.{Write, Read}
use Rattle.setups.specs.Plan.{Plan, guest_at, operation_at}
use Rattle.admission.specs.Verdict.{Accepted}
use Rattle.rig.specs.Access.{access_of, read_access}
use Rattle.rig.specs.declared.job.Job.{Job}
use Rattle.rig.specs.Parts.{operations_of}
use Rattle.rig.specs.State.{State, state_at_load, job_of}
use Rattle.rig.specs.Slot.{next_entry, with_operation}
use Rattle.runs.specs.Traces.{Exchange, exchange}
use Rattle.journal.specs.declared.entries.Event.TheVariants as event
use Rattle.journal.specs.Entries.{fields_of}
use Rattle.rig.specs.Replies.{entry_of}
use Rattle.runs.specs.TraceEntries.{entry_before, entries, slots_passed, is_between, is_use_by}
use Rattle.runs.specs.Laws.{CarriesOut, WithdrawnBefore}
use Rattle.rig.specs.Step.{answer_in, state_after, meaning_after}
use Rattle.runs.proofs.Loaded.{state_end, AnswersOf}
use Rattle.runs.proofs.Effects.{PassesSlot, PassesNoSlot, passing_or_still, entry_passing}
use Rattle.runs.proofs.TraceEntries.{entries_passing, entries_still, state_end_append, slot_at}
use Rattle.runs.proofs.JobSlots.{event_entry}
use Rattle.runs.proofs.Ready.{Ready, job_ready, ready_end, ready_at_load}
use Rattle.runs.proofs.JobSteps.{JobStep, stays, releases, withdraws, operates, NotUsed, used_entry, job_step}
use Rattle.runs.proofs.ToGo.{to_go, to_go_operated}
use Rattle.runs.proofs.JobService.{none_late}

-- a filter keeps nothing of which nothing passes
pub filter_none : {X : Type 0} (test : X → Bool) (xs : List X)
    → ((i : ℕ) (x : X) → slice_get xs i ≡ Some x → test x ≡ false) → filter test xs ≡ []
filter_none test [] none = refl
filter_none test (x ∷ xs) none =
    ap (λ b. cond b (x ∷ filter test xs) (filter test xs)) (none 0 x refl)
    ∙ filter_none test xs (λ i y there. none (suc i) y there)

-- the entries of slots from a to before d that are used by task k of guest g, both from 1
abbrev pub uses : ℕ → ℕ → ℕ → ℕ → List Fields → List Fields
uses g k a d es = filter (is_use_by g k) (filter (is_between a d) es)

-- an entry that is no such use does not count
uses_other : (g k a d : ℕ) (e : Fields) (es : List Fields) → is_use_by g k e ≡ false
    → uses g k a d (e ∷ es) ≡ uses g k a d es
uses_other g k a d e es not = grind (arith, common_steps)

-- an entry that is such a use comes before the others
uses_one : (g k a d : ℕ) (e : Fields) (es : List Fields) → a ≤ e.slot → e.slot < d → is_use_by g k e ≡ true
    → uses g k a d (e ∷ es) ≡ e ∷ uses g k a d es
uses_one g k a d e es from before is = grind (arith, common_steps)

-- an entry is at position i of a job, from 1, for this operation
abbrev pub UsedFor : ℕ → Operation → Fields → Type 0
UsedFor i o e = (e.position ≡ i) × CarriesOut o e

-- there are exactly n entries, at the positions after the first so many in turn, for these of some operations
pub record InOrderFrom (os : List Operation) (done n : ℕ) (es : List Fields) : Type 0 where
  pub exactly : length es ≡ n
  pub in_turn : (i : ℕ) (e : Fields) → slice_get es i ≡ Some e → UsedFor (done + i + 1) (operation_at os (done + i)) e

-- no entries are in order for no operations
none_in_order : (os : List Operation) (done n : ℕ) (es : List Fields) → es ≡ [] → n ≡ 0 → InOrderFrom os done n es
none_in_order os done n es none no_more = record {
  exactly = ap length none ∙ sym no_more;
  in_turn = λ i e there. absurd (none-some e (ap (λ xs. slice_get xs i) (sym none) ∙ there));
}

-- entries in order after the next are in order with the next
next_in_order : (os : List Operation) (done n : ℕ) (e : Fields) (es : List Fields)
    → UsedFor (done + 1) (operation_at os done) e
    → InOrderFrom os (done + 1) n es → InOrderFrom os done (suc n) (e ∷ es)
next_in_order os done n e es used rest = record {
  exactly = ap suc rest.exactly;
  in_turn = λ i f there. turn i f there;
}
  where
    turn : (i : ℕ) (f : Fields) → slice_get (e ∷ es) i ≡ Some f → UsedFor (done + i + 1) (operation_at os (done + i)) f
    turn zero f there =
        let at : done ≡ done + 0 = omega arith in
        subst (λ (x : Fields). UsedFor (done + 0 + 1) (operation_at os (done + 0)) x) (same_Some e f there)
        (subst (λ x. UsedFor (x + 1) (operation_at os x) e) at used)
    turn (suc i) f there =
        let at : done + 1 + i ≡ done + suc i = omega arith in
        subst (λ x. UsedFor (x + 1) (operation_at os x) f) at (rest.in_turn i f there)

-- an entry whose access is how a device takes an operation carries it out
carries_out : (m : Meaning) (o : Operation) (n g k i d : ℕ)
    → CarriesOut o (fields_of (event_entry n (event.Used g k i (access_of m o) d)))
carries_out m (Write r v) n g k i d = (refl, refl)
carries_out m (Read r) n g k i d = by (read_answer m r)
  where
    by : (x : Result ℕ Refused) → (fields_of (event_entry n (event.Used g k i (read_access r x) d))).register ≡ r
    by (Ok v) = refl
    by (Err e) = refl

-- a rig that was loaded with a plan has this state after some calls
abbrev pub IsReachable : Plan → State → Type 0
IsReachable p s = (past : List Exchange) × (s ≡ state_end (state_at_load p) past)

-- a rig that has a state after some calls has the state after one more
pub reachable_after : (p : Plan) (s : State) (x : Exchange) → IsReachable p s → IsReachable p (state_after s x.call)
unfolding state_end
reachable_after p s x (past, is) =
    (past ++ x ∷ [], ap (λ t. state_after t x.call) is ∙ sym (state_end_append (state_at_load p) past (x ∷ [])))

-- the job of task k of guest g, both from 0, is due when d slots have passed, the next may not start before,
-- and so far at least a and at most d have passed
pub record BeforeDeadline (g k a d : ℕ) (s : State) : Type 0 where
  pub due : (job_of s g k).deadline ≡ d
  pub alone : d ≤ (job_of s g k).next_start
  pub begun : a ≤ s.passed
  pub before : s.passed ≤ d

-- in some calls the job is withdrawn when fewer than d slots have passed,
-- or what is to go of it is exactly its uses from slot a to before d, in order
abbrev pub EndsWell : Plan → ℕ → ℕ → ℕ → ℕ → State → List Exchange → Type 0
EndsWell p g k a d s xs =
    WithdrawnBefore d s.passed (g + 1) (k + 1) xs
    ⊎ InOrderFrom (operations_of p g k) (job_of s g k).done (to_go (job_of s g k))
    (uses (g + 1) (k + 1) a d (entries xs))

-- what had passed after a first call and passes in some others is what had passed before it and passes in all
slots_after : (m : Meaning) (s : State) (x : Exchange) → x.answer ≡ answer_in m s x.call → (ys : List Exchange)
    → (state_after s x.call).passed + slots_passed ys ≡ s.passed + slots_passed (x ∷ ys)
slots_after m s x said ys =
    ⊎_elim
    (λ (q : PassesSlot m s x.call x.answer).
    omega (arith, ap (λ t. t.passed) q.state, ap length (entries_passing m s x ys q)))
    (λ (q : PassesNoSlot m s x.call x.answer). omega (arith, q.passed, ap length (entries_still m s x ys q)))
    (passing_or_still m s x.call x.answer said)

-- a call passes at most one slot, and takes none back
one_at_most : (m : Meaning) (s : State) (x : Exchange) → x.answer ≡ answer_in m s x.call
    → ((state_after s x.call).passed ≤ s.passed + 1) × (s.passed ≤ (state_after s x.call).passed)
one_at_most m s x said =
    ⊎_elim
    (λ (q : PassesSlot m s x.call x.answer).
    (omega (arith, ap (λ t. t.passed) q.state), omega (arith, ap (λ t. t.passed) q.state)))
    (λ (q : PassesNoSlot m s x.call x.answer). (omega (arith, q.passed), omega (arith, q.passed)))
    (passing_or_still m s x.call x.answer said)

-- a call that is no slot that a job uses adds no use
uses_same : (m : Meaning) (s : State) (x : Exchange) (g k a d : ℕ) → x.answer ≡ answer_in m s x.call
    → NotUsed g k (entry_of (answer_in m s x.call)) → (ys : List Exchange)
    → uses (g + 1) (k + 1) a d (entries (x ∷ ys)) ≡ uses (g + 1) (k + 1) a d (entries ys)
uses_same m s x g k a d said none ys =
    ⊎_elim
    (λ (q : PassesSlot m s x.call x.answer).
    ap (uses (g + 1) (k + 1) a d) (entries_passing m s x ys q)
    ∙ uses_other (g + 1) (k + 1) a d (fields_of (next_entry s m)) (entries ys)
    (subst (NotUsed g k) (ap entry_of (sym said) ∙ entry_passing m s x.call x.answer q) none))
    (λ (q : PassesNoSlot m s x.call x.answer). ap (uses (g + 1) (k + 1) a d) (entries_still m s x ys q))
    (passing_or_still m s x.call x.answer said)

-- a withdrawal before among some calls is among them with one before
withdrawn_later : (m : Meaning) (s : State) (x : Exchange) (d g k : ℕ) (xs : List Exchange)
    → x.answer ≡ answer_in m s x.call
    → WithdrawnBefore d (state_after s x.call).passed g k xs → WithdrawnBefore d s.passed g k (x ∷ xs)
withdrawn_later m s x d g k xs said w = record {
  during = x ∷ w.during;
  rest = w.rest;
  done = w.done;
  split = ap (λ ys. x ∷ ys) w.split;
  early = omega (arith, w.early, slots_after m s x said w.during);
}

module _ (p : Plan) (g k a d : ℕ) (m : Meaning) (s : State) (x : Exchange) (xs : List Exchange) (plan : s.plan ≡ p)
    (said : x.answer ≡ answer_in m s x.call)
    (run : BeforeDeadline g k a d s) (early : s.passed < d) where
  -- the job is still before its deadline after a call that leaves its deadline and its next start
  goes_on : (job_of (state_after s x.call) g k).deadline ≡ (job_of s g k).deadline
      → (job_of (state_after s x.call) g k).next_start ≡ (job_of s g k).next_start
      → BeforeDeadline g k a d (state_after s x.call)
  goes_on due next =
      let few = one_at_most m s x said in
      record {
        due = due ∙ run.due;
        alone = omega (arith, run.alone, next);
        begun = omega (arith, run.begun, few.1);
        before = omega (arith, few.0, early);
      }

  -- a job ends well in a call and those after it, if it does in those after it where it is
  -- still before its deadline
  step_ends_well : JobStep s x.call g k → ((job_of s g k).pending ≡ true → (job_of s g k).done < (job_of s g k).size)
      → (BeforeDeadline g k a d (state_after s x.call) → EndsWell p g k a d (state_after s x.call) xs)
      → EndsWell p g k a d s (x ∷ xs)
  unfolding entries
  step_ends_well (stays same none) undone then =
      ⊎_elim
      (λ w. inl (withdrawn_later m s x d (g + 1) (k + 1) xs said w))
      (λ order. inr (subst₂ (λ (j : Job) es. InOrderFrom (operations_of p g k) j.done (to_go j) es) same
      (sym (uses_same m s x g k a d said (none m).no_use xs)) order))
      (then (goes_on (ap (λ (j : Job). j.deadline) same) (ap (λ (j : Job). j.next_start) same)))
  step_ends_well (releases n asked allowed new) undone then = absurd (omega (arith, new.free, run.alone, early))
  step_ends_well (withdraws asked says is) undone then =
      inl (record {
        during = [];
        rest = xs;
        done = (job_of s g k).done;
        split = ap (λ y. y ∷ xs) (ap₂ exchange asked (said ∙ says m));
        early = omega (arith, early);
      })
  step_ends_well (operates asked says pending is) undone then =
      let j = job_of s g k in
      let e = fields_of (used_entry s m g k) in
      let mine : is_use_by (g + 1) (k + 1) e ≡ true =
      rw (eq-eqb (g + 1) (g + 1) refl, eq-eqb (k + 1) (k + 1) refl) refl in
      let more : uses (g + 1) (k + 1) a d (entries (x ∷ xs)) ≡ e ∷ uses (g + 1) (k + 1) a d (entries xs) =
      ap (λ b. uses (g + 1) (k + 1) a d (entry_before (entry_of b) (entries xs))) (said ∙ says m)
      ∙ uses_one (g + 1) (k + 1) a d e (entries xs) run.begun early mine in
      let used : UsedFor (j.done + 1) (operation_at (operations_of p g k) j.done) e =
      subst (λ (q : Plan). UsedFor (j.done + 1) (operation_at (operations_of q g k) j.done) e) plan (
        refl,
        carries_out m (operation_at (operations_of s.plan g k) j.done) s.passed (g + 1) (k + 1)
            (j.done + 1) j.deadline,
      ) in
      ⊎_elim
      (λ w. inl (withdrawn_later m s x d (g + 1) (k + 1) xs said w))
      (λ order. inr (subst₂ (λ n es. InOrderFrom (operations_of p g k) j.done n es)
      (sym (to_go_operated j pending (undone pending))) (sym more)
      (next_in_order (operations_of p g k) j.done (to_go (with_operation j)) e
      (uses (g + 1) (k + 1) a d (entries xs)) used
      (subst (λ (w : Job). InOrderFrom (operations_of p g k) w.done (to_go w) (uses (g + 1) (k + 1) a d (entries xs)))
      is order))))
      (then (goes_on (ap (λ (w : Job). w.deadline) is) (ap (λ (w : Job). w.next_start) is)))

module _ (p : Plan) (registers : ℕ) (ok : Accepted p registers) (g k a d : ℕ) (gl : g < length p.guests)
    (kl : k < (guest_at p.guests g).task_count) (g16 : g < 16) (k8 : k < 8) where
  -- a job that is due ends well, as nothing of it is to go and the entries of later calls are of later slots
  due_ends_well : (m : Meaning) (s : State) (xs : List Exchange) → IsReachable p s → AnswersOf m s xs
      → BeforeDeadline g k a d s → d ≤ s.passed → EndsWell p g k a d s xs
  due_ends_well m s xs (past, is) all run due =
      inr (none_in_order (operations_of p g k) (job_of s g k).done (to_go (job_of s g k))
      (uses (g + 1) (k + 1) a d (entries xs))
      (ap (filter (is_use_by (g + 1) (k + 1)))
      (filter_none (is_between a d) (entries xs)
      (λ i e there. too_late e (omega (arith, slot_at m s xs all i e there, due)))))
      (subst (λ (t : State). (job_of t g k).deadline ≤ t.passed → to_go (job_of t g k) ≡ 0) (sym is)
      (none_late p registers ok past g k gl kl) (omega (arith, run.due, due))))
    where
      too_late : (e : Fields) → d ≤ e.slot → is_between a d e ≡ false
      too_late e late = grind (arith, common_steps)

  -- a job ends well in calls in which its deadline is reached
  pub ends_well : (m : Meaning) (s : State) (xs : List Exchange) → IsReachable p s → AnswersOf m s xs
      → BeforeDeadline g k a d s → d ≤ s.passed + slots_passed xs → EndsWell p g k a d s xs
  unfolding AnswersOf
  ends_well m s [] reached all run far = due_ends_well m s [] reached all run (unfold entries in omega (arith, far))
  ends_well m s (x ∷ xs) reached all run far =
      elim (dec_lt s.passed d) [
        | yes early ↦
            (let ready : Ready p s =
            subst (Ready p) (sym reached.1) (ready_end p (state_at_load p) reached.0 (ready_at_load p)) in
            step_ends_well p g k a d m s x xs ready.plan all.0 run early (job_step p s ready g k g16 k8 x.call)
            (λ pending. (job_ready p s g k ready pending).undone)
            (λ on. ends_well (meaning_after m s x.call) (state_after s x.call) xs (reachable_after p s x reached) all.1
            on (omega (arith, far, slots_after m s x all.0 xs))))
        | no late ↦ due_ends_well m s (x ∷ xs) reached all run (omega (arith, late))
      ]
