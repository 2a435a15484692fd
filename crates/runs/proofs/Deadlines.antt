-- The deadlines of a run are kept.
use Rattle.std.proofs.Common.{◌≡◌, refl, sym, ap, ◌∙◌, ℕ, ◌+◌, ◌-◌, ◌<◌, ◌≤◌, inl, inr, ⊎_elim, false, List, ◌∷◌, ◌++◌}
use Rattle.std.proofs.Common.{length, filter, slice_get, Option, Some, None, Ok, Err, slice_index, subst, subst₂, arith}
use Rattle.std.proofs.lemmas.Grind.{common_steps}
use Rattle.std.proofs.lemmas.List.Elements.{filter-append}
use Rattle.std.proofs.lemmas.Option.{slice_get_within}
use Rattle.decline.specs.declared.Decline.{Decline}
use Rattle.journal.specs.declared.fields.Fields.{Fields}
use Rattle.device.specs.Meaning.{Meaning}
use Rattle.setups.specs.declared.setup.Operation.{Operation}
use Rattle.setups.specs.Plan.{Plan, guest_at, operation_at}
use Rattle.setups.specs.Limits.{TaskOk}
use Rattle.admission.specs.Verdict.{Accepted}
use Rattle.rig.specs.Parts.{task_of, operations_of}
use Rattle.rig.specs.State.{State, state_at_load, job_of}
use Rattle.rig.specs.Requests.{release_refusal, deadline_from_now, job_from_now, with_release}
use Rattle.rig.proofs.PlanPlaces.{task_ok}
use Rattle.rig.specs.Step.{answer_unless, change_unless}
use Rattle.rig.specs.declared.reply.Reply.TheVariants.{Released}
use Rattle.rig.specs.Calls.{release}
use Rattle.runs.specs.Traces.{Exchange, exchange}
use Rattle.runs.specs.TraceEntries.{entries, slots_passed, is_between, is_use_by}
use Rattle.rig.specs.Replies.{NumberedAnswer, reply_numbers}
use Rattle.runs.specs.Laws.{release_answer, InOrder, WithdrawnBefore, MeetsDeadlines}
use Rattle.rig.specs.Step.{answer_in, state_after, meaning_after}
use Rattle.runs.proofs.Loaded.{state_end, device_end, AnswersOf}
use Rattle.runs.proofs.Effects.{kept_after}
use Rattle.runs.proofs.TraceEntries.{entries_append, slots_passed_append, answers_around, passed_end, slot_at}
use Rattle.runs.proofs.JobRequests.{job_put, StartsJob, starts_job, releasable}
use Rattle.runs.proofs.Ready.{Ready, ready_at_load, ready_end}
use Rattle.runs.proofs.ToGo.{to_go, to_go_started}
use Rattle.runs.proofs.JobService.{own_tasks, guest_place}
use Rattle.runs.proofs.Order.{filter_none, uses, UsedFor, InOrderFrom, BeforeDeadline, EndsWell, reachable_after}
use Rattle.runs.proofs.Order.{ends_well}

-- the first number of an answer that is a reply
first_number : NumberedAnswer → ℕ
first_number (Ok r) = slice_index r.numbers 0
first_number (Err n) = 0

-- a release that is answered with a deadline is not refused, and the deadline is this
accepted : (d x : ℕ) (r : Option Decline) → release_answer d ≡ answer_unless r (reply_numbers (Released x))
    → (r ≡ None) × (d ≡ x)
accepted d x None said = (refl, unfold first_number in ap first_number said)
accepted d x (Some e) said = absurd cc

-- calls whose entries are all of slots before a add no use of slots from a on to those of calls after them
uses_since : (g k a d : ℕ) (xs ys : List Exchange)
    → ((i : ℕ) (e : Fields) → slice_get (entries xs) i ≡ Some e → e.slot < a)
    → uses g k a d (entries (xs ++ ys)) ≡ uses g k a d (entries ys)
uses_since g k a d xs ys early =
    ap (uses g k a d) (entries_append xs ys)
    ∙ ap (filter (is_use_by g k)) (filter-append (is_between a d) (entries xs) (entries ys)
    ∙ ap (λ es. es ++ filter (is_between a d) (entries ys))
    (filter_none (is_between a d) (entries xs) (λ i e there. too_early e (early i e there))))
  where
    too_early : (e : Fields) → e.slot < a → is_between a d e ≡ false
    too_early e below = grind (arith, common_steps)

-- in order from the first on is in order
in_order : (os : List Operation) (n : ℕ) (es : List Fields) → InOrderFrom os 0 n es → InOrder os n es
in_order os n es from = record {
  exactly = from.exactly;
  positions = λ i e there. (here i e there).0;
  operations = λ i e there. (here i e there).1;
}
  where
    here : (i : ℕ) (e : Fields) → slice_get es i ≡ Some e → UsedFor (i + 1) (operation_at os i) e
    here i e there =
        let at : 0 + i ≡ i = omega arith in
        subst (λ j. UsedFor (j + 1) (operation_at os j) e) at (from.in_turn i e there)

-- a release that is not refused starts its job
released_job : (p : Plan) (s : State) (g k n : ℕ) → Ready p s → g - 1 < 16 → k - 1 < 8 → release_refusal s g k n ≡ None
    → StartsJob p s (g - 1) (k - 1) n (job_of (state_after s (release g k n)) (g - 1) (k - 1))
unfolding state_after
released_job p s g k n ready gl kl none =
    let is : job_of (state_after s (release g k n)) (g - 1) (k - 1) ≡ job_from_now s g k n =
    ap (λ r. job_of (change_unless r (with_release s g k n) s) (g - 1) (k - 1)) none
    ∙ ⊎_elim (λ here. here.2) (λ apart. absurd (apart.0 (refl, refl)))
    (job_put s (g - 1) (k - 1) (job_from_now s g k n) (g - 1) (k - 1) (omega (arith, gl, ready.rows.wide))
    (omega (arith, kl, ready.rows.deep (g - 1) gl))) in
    subst₂ (λ q j. StartsJob q s (g - 1) (k - 1) n j) ready.plan (sym is) (starts_job s g k n (releasable s g k n none))

-- the deadlines of a run of a rig that was loaded with an accepted plan are kept
pub deadlines_kept_of : (p : Plan) (registers : ℕ) → Accepted p registers → (m : Meaning) (xs : List Exchange)
    → AnswersOf m (state_at_load p) xs → MeetsDeadlines p xs
unfolding MeetsDeadlines answer_in entries
deadlines_kept_of p registers ok m xs all g k n d past later is reach =
    let s = state_end (state_at_load p) past in
    let x = exchange (release g k n) (release_answer d) in
    let s′ = state_after s x.call in
    let a = slots_passed past in
    let (front, said, back) = answers_around m (state_at_load p) xs past x later all is in
    let (none, due) = accepted d (deadline_from_now s g k) (release_refusal s g k n) said in
    let ready = ready_end p (state_at_load p) past (ready_at_load p) in
    let may = releasable s g k n none in
    let gl : g - 1 < length p.guests =
    omega (arith, may.known.guest_from, may.known.guest_to, ap (λ (q : Plan). length q.guests) ready.plan) in
    let kl : k - 1 < (guest_at p.guests (g - 1)).task_count =
    omega (
      arith,
      may.known.task_from,
      may.known.task_to,
      ap (λ (q : Plan). (guest_at q.guests (g - 1)).task_count) ready.plan,
    ) in
    let g16 : g - 1 < 16 = guest_place p registers ok (g - 1) gl in
    let k8 : k - 1 < 8 = omega (arith, kl, (own_tasks p registers ok (g - 1) gl).few) in
    let job = released_job p s g k n ready g16 k8 none in
    let until : d ≡ s.passed + (task_of p (g - 1) (k - 1)).relative_deadline =
    omega (arith, due, ap (λ (q : Plan). (task_of q (g - 1) (k - 1)).relative_deadline) ready.plan) in
    let now : s.passed ≡ a = omega (arith, passed_end m (state_at_load p) past front) in
    let still : s′.passed ≡ s.passed = kept_after (λ t. t.passed) s (release g k n) refl in
    let task : TaskOk (task_of p (g - 1) (k - 1)) = task_ok p registers ok (g - 1) (k - 1) gl kl in
    let run : BeforeDeadline (g - 1) (k - 1) a d s′ = record {
      due = omega (arith, job.deadline, until);
      alone = omega (arith, job.next_start, until, task.apart);
      begun = omega (arith, now, still);
      before = omega (arith, still, due);
    } in
    let far : d ≤ s′.passed + slots_passed later =
    omega (arith, reach, ap slots_passed is, slots_passed_append past (x ∷ later), now, still) in
    let end : EndsWell p (g - 1) (k - 1) a d s′ later =
    ends_well p registers ok (g - 1) (k - 1) a d gl kl g16 k8
    (meaning_after (device_end m (state_at_load p) past) s x.call) s′ later
    (reachable_after p s x (past, refl)) back run far in
    let gi : g - 1 + 1 ≡ g = omega (arith, may.known.guest_from) in
    let ki : k - 1 + 1 ≡ k = omega (arith, may.known.task_from) in
    let same : uses g k a d (entries xs) ≡ uses g k a d (entries later) =
    ap (λ ys. uses g k a d (entries ys)) is
    ∙ uses_since g k a d past (x ∷ later)
    (λ i e there.
    omega (arith, slot_at m (state_at_load p) past front i e there, slice_get_within (entries past) i e there)) in
    ⊎_elim
    (λ w. inl (subst (λ t. WithdrawnBefore d t g k later) (still ∙ now)
    (subst₂ (λ h l. WithdrawnBefore d s′.passed h l later) gi ki w)))
    (λ o. inr (in_order (operations_of p (g - 1) (k - 1)) n (uses g k a d (entries xs))
    (subst (InOrderFrom (operations_of p (g - 1) (k - 1)) 0 n) (sym same)
    (subst₂ (λ i l. InOrderFrom (operations_of p (g - 1) (k - 1)) i l (uses g k a d (entries later))) job.done
    (to_go_started p s (g - 1) (k - 1) n (job_of s′ (g - 1) (k - 1)) job)
    (subst₂ (λ h l. InOrderFrom (operations_of p (g - 1) (k - 1)) (job_of s′ (g - 1) (k - 1)).done
    (to_go (job_of s′ (g - 1) (k - 1))) (uses h l a d (entries later))) gi ki o)))))
    end
