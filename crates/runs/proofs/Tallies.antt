-- Tallies told: what a question is told of a guest are the counts of its entries, and of the jobs that they finish.
use Rattle.std.proofs.Common.{◌≡◌, refl, sym, ap, ◌∙◌, ℕ, ◌+◌, ◌-◌, ◌<◌, ◌≤◌, ◌==◌, nat_le, Bool}
use Rattle.std.proofs.Common.{cond, List, [], ◌∷◌, ◌++◌, length, slice_set, get_or, count_by}
use Rattle.std.proofs.Common.{Option, Some, None, Ok, ⊎_elim, subst, arith, eq-eqb, is_ok}
use Rattle.std.proofs.lemmas.Grind.{common_steps}
use Rattle.std.proofs.lemmas.List.{get_or-replicate}
use Rattle.std.proofs.lemmas.List.FromFn.{get_or-map-range_with_len}
use Rattle.std.proofs.lemmas.List.Sums.{sum_by-cons}
use Rattle.journal.specs.declared.entries.Event.TheVariants as event
use Rattle.journal.specs.declared.entries.Access.{Access}
use Rattle.journal.specs.declared.fields.Fields.{Fields}
use Rattle.journal.specs.Entries.{fields_of}
use Rattle.device.specs.Meaning.{Meaning}
use Rattle.setups.specs.declared.setup.Guest.{Guest}
use Rattle.setups.specs.Plan.{Plan}
use Rattle.admission.specs.Verdict.{Accepted}
use Rattle.schedule.specs.Session.{turn_at, IsTurnOf}
use Rattle.schedule.proofs.Sessions.{turn_of_session}
use Rattle.schedule.specs.declared.turn.Turn.{Turn}
use Rattle.schedule.specs.declared.turn.Turn.TheVariants.{Unassigned, Fixed, Granted}
use Rattle.rig.specs.declared.tally.Tally.{Tally}
use Rattle.rig.specs.declared.reply.Reply.TheVariants.{Told}
use Rattle.rig.specs.Calls.{PlanCall, question}
use Rattle.rig.specs.Replies.{reply_numbers, entry_of}
use Rattle.rig.specs.State.{State, state_at_load, job_at_start, row_at_start}
use Rattle.rig.specs.State.{no_job, no_tally, job_of, jobs_of, tally_at, tally_of}
use Rattle.rig.specs.Slot.{first_job, granted_work, work_of, next_work, event_of}
use Rattle.rig.specs.Slot.{next_entry, completes, with_idle, with_used, tallies_after}
use Rattle.rig.specs.Step.{answer_unless, effect, answer_in, state_after, meaning_after}
use Rattle.runs.specs.TraceEntries.{entries, is_grant, is_use, is_idle, size_by}
use Rattle.runs.specs.TraceEntries.{size_after, latest_size, finishes, finished_after}
use Rattle.runs.specs.Laws.{TellsTallies}
use Rattle.runs.specs.Traces.{Exchange, exchange}
use Rattle.runs.proofs.Loaded.{state_end, device_end, AnswersOf}
use Rattle.runs.proofs.JobRequests.{element_set}
use Rattle.runs.proofs.JobSlots.{event_entry, first_place, first_pending, granted_tallies, idle_tallies}
use Rattle.runs.proofs.Effects.{PassesSlot, PassesNoSlot, passing_or_still, entry_passing}
use Rattle.runs.proofs.TraceEntries.{entries_passing, entries_still, plan_end, answers_around}
use Rattle.runs.proofs.Ready.{Ready, job_ready, ready_after, ready_at_load}
use Rattle.runs.proofs.JobSteps.{JobStep, stays, releases, withdraws, operates, job_step}

-- 1 for true, 0 for false
abbrev one_if : Bool → ℕ
one_if b = cond b 1 0

-- one call more after some calls
latest_more : (g k n : ℕ) (xs : List Exchange) (x : Exchange)
    → latest_size g k n (xs ++ x ∷ []) ≡ size_after g k (latest_size g k n xs) x
unfolding latest_size
latest_more g k n [] x = refl
latest_more g k n (y ∷ xs) x = latest_more g k (size_after g k n y) xs x

-- the size of a job after a call is what the latest accepted release of its task says, if it was before
size_step : (m : Meaning) (s : State) (c : PlanCall) (g k : ℕ) → JobStep s c g k
    → (job_of (state_after s c) g k).size
    ≡ size_after (g + 1) (k + 1) (job_of s g k).size (exchange c (answer_in m s c))
unfolding answer_in
size_step m s c g k (stays same elsewhere) =
    ap (λ j. j.size) same ∙ sym (unfold answer_in in (elsewhere m).no_release (job_of s g k).size)
size_step m s c g k (releases n asked allowed new) =
    let old = (job_of s g k).size in
    let by : size_by (g + 1) (k + 1) old c ≡ n =
    ap (size_by (g + 1) (k + 1) old) asked ∙ rw (eq-eqb (g + 1) (g + 1) refl, eq-eqb (k + 1) (k + 1) refl) refl in
    new.size
    ∙ sym (ap (λ r. cond (is_ok (answer_unless r (reply_numbers ((effect s c).reply m))))
    (size_by (g + 1) (k + 1) old c) old) allowed ∙ by)
size_step m s c g k (withdraws asked says is) =
    let old = (job_of s g k).size in
    ap (λ j. j.size) is
    ∙ sym
    (ap (λ a. cond (is_ok a) (size_by (g + 1) (k + 1) old c) old) (says m) ∙ ap (size_by (g + 1) (k + 1) old) asked)
size_step m s c g k (operates asked says pending is) =
    let old = (job_of s g k).size in
    ap (λ j. j.size) is
    ∙ sym
    (ap (λ a. cond (is_ok a) (size_by (g + 1) (k + 1) old c) old) (says m) ∙ ap (size_by (g + 1) (k + 1) old) asked)

-- the job of each task has the size of the latest job that it released in some calls
abbrev HasLatestSizes : List Exchange → State → Type 0
HasLatestSizes past s = (g k : ℕ) → g < 16 → k < 8 → (job_of s g k).size ≡ latest_size (g + 1) (k + 1) 0 past

-- so it has after one call more
latest_sizes_after : (p : Plan) (m : Meaning) (s : State) (past : List Exchange) (x : Exchange) → Ready p s
    → x.answer ≡ answer_in m s x.call → HasLatestSizes past s → HasLatestSizes (past ++ x ∷ []) (state_after s x.call)
latest_sizes_after p m s past x ready said sized g k guest task =
    size_step m s x.call g k (job_step p s ready g k guest task x.call)
    ∙ ap (λ n. size_after (g + 1) (k + 1) n (exchange x.call (answer_in m s x.call))) (sized g k guest task)
    ∙ ap (λ a. size_after (g + 1) (k + 1) (latest_size (g + 1) (k + 1) 0 past) (exchange x.call a)) (sym said)
    ∙ sym (latest_more (g + 1) (k + 1) 0 past x)

-- a tally becomes another by what an entry counts for guest g, after some calls
record CountsEntry (g : ℕ) (past : List Exchange) (e : Fields) (before after : Tally) : Type 0 where
  granted : after.granted ≡ before.granted + one_if (is_grant g e)
  used : after.used ≡ before.used + one_if (is_use g e)
  idle : after.idle ≡ before.idle + one_if (is_idle g e)
  finished : after.finished ≡ before.finished + finishes g past (Some e)

-- a change of the tally of guest h + 1 counts an entry for each guest i + 1 that has a tally,
-- if it counts it for guest h + 1 and the entry counts nothing for others
change_counts : (ts : List Tally) (i h : ℕ) (past : List Exchange) (e : Fields) (change : Tally → Tally) → i < length ts
    → ((t : Tally) → CountsEntry (h + 1) past e t (change t))
    → ((t : Tally) → (i ≡ h → ⊥) → CountsEntry (i + 1) past e t t)
    → CountsEntry (i + 1) past e (tally_at ts i) (tally_at (slice_set ts h (change (tally_at ts h))) i)
change_counts ts i h past e change inside own foreign =
    ⊎_elim (λ here. rw here.1 (rw here.0 (own (tally_at ts h)))) (λ apart. rw apart.1 (foreign (tally_at ts i) apart.0))
    (element_set ts h (change (tally_at ts h)) i no_tally inside)

-- an idle slot counts for its guest
idle_counts : (n h : ℕ) (past : List Exchange) (t : Tally)
    → CountsEntry h past (fields_of (event_entry n (event.Idle h))) t (with_idle t)
idle_counts n h past t = record {
  granted = grind (arith, common_steps);
  used = omega arith;
  idle = grind (arith, common_steps);
  finished = omega arith;
}

-- a slot that a job uses counts for its guest, if the job is complete exactly where its position is its size
used_counts : (n : ℕ) (s : State) (i l h k q d : ℕ) (a : Access) (past : List Exchange) (t : Tally)
    → completes (job_of s i l) ≡ (q == latest_size h k 0 past)
    → CountsEntry h past (fields_of (event_entry n (event.Used h k q a d))) t (with_used (job_of s i l) t)
used_counts n s i l h k q d a past t ends = record {
  granted = grind (arith, common_steps);
  used = grind (arith, common_steps);
  idle = omega arith;
  finished = rw (ends, eq-eqb h h refl) (grind (arith, common_steps));
}

-- an idle slot of guest h + 1 counts nothing for another guest
idle_elsewhere : (n i h : ℕ) (past : List Exchange) (t : Tally) → (i ≡ h → ⊥)
    → CountsEntry (i + 1) past (fields_of (event_entry n (event.Idle (h + 1)))) t t
idle_elsewhere n i h past t apart = record {
  granted = grind (arith, common_steps);
  used = omega arith;
  idle = grind (arith, common_steps);
  finished = omega arith;
}

-- a slot that guest h + 1 uses counts nothing for another guest
used_elsewhere : (n i h k q d : ℕ) (a : Access) (past : List Exchange) (t : Tally) → (i ≡ h → ⊥)
    → CountsEntry (i + 1) past (fields_of (event_entry n (event.Used (h + 1) k q a d))) t t
used_elsewhere n i h k q d a past t apart = record {
  granted = grind (arith, common_steps);
  used = grind (arith, common_steps);
  idle = omega arith;
  finished = grind (arith, common_steps);
}

-- an operation is the last one exactly where its position is the size
last_at_size : (size done n : ℕ) → done < size → size ≡ n → nat_le size (done + 1) ≡ (done + 1 == n)
last_at_size size done n undone is = grind (arith, common_steps)

module _ (p : Plan) (few : length p.guests ≤ 16) (m : Meaning) (s : State) (past : List Exchange) (ready : Ready p s)
    (sized : HasLatestSizes past s) (i : ℕ) (il : i < 16) where
  -- guest i + 1 has a tally
  has_tally : i < length s.tallies
  has_tally = omega (arith, il, ready.counts)

  -- after a slot that is granted to guest h + 1 the tally of guest i + 1 counts its entry
  granted_counts : (h : ℕ) (r : Option ℕ) → h < 16 → first_job (jobs_of s h) ≡ r
      → CountsEntry (i + 1) past (fields_of (event_entry s.passed (event_of m (granted_work s h r)))) (tally_of s i)
      (tally_at (tallies_after s (granted_work s h r)) i)
  granted_counts h None hl is =
      rw (idle_tallies s h)
      (change_counts s.tallies i h past (fields_of (event_entry s.passed (event.Idle (h + 1)))) with_idle has_tally
      (λ t. idle_counts s.passed (h + 1) past t) (λ t apart. idle_elsewhere s.passed i h past t apart))
  granted_counts h (Some k) hl is =
      let place : k < 8 = omega (arith, first_place s h k is, ready.rows.deep h hl) in
      let job = job_ready p s h k ready (first_pending s h k is) in
      let ends : completes (job_of s h k) ≡ ((job_of s h k).done + 1 == latest_size (h + 1) (k + 1) 0 past) =
      last_at_size (job_of s h k).size (job_of s h k).done (latest_size (h + 1) (k + 1) 0 past) job.undone
      (sized h k hl place) in
      rw (granted_tallies s h k)
      (change_counts s.tallies i h past (fields_of (event_entry s.passed (event_of m (granted_work s h (Some k)))))
      (with_used (job_of s h k)) has_tally
      (λ t. used_counts s.passed s h k (h + 1) (k + 1) _ _ _ past t ends)
      (λ t apart. used_elsewhere s.passed i h (k + 1) _ _ _ past t apart))

  -- after a slot, whosever turn it is, the tally of guest i + 1 counts its entry
  slot_counts : (table : List ℕ) (gs : List Guest) (t : Turn) → gs ≡ p.guests → IsTurnOf table gs t
      → CountsEntry (i + 1) past (fields_of (event_entry s.passed (event_of m (work_of s t)))) (tally_of s i)
      (tally_at (tallies_after s (work_of s t)) i)
  slot_counts table gs Unassigned guests whose = record {
    granted = omega arith;
    used = omega arith;
    idle = omega arith;
    finished = omega arith;
  }
  slot_counts table gs (Fixed q) guests whose = record {
    granted = omega arith;
    used = omega arith;
    idle = omega arith;
    finished = omega arith;
  }
  slot_counts table gs (Granted g) guests (from, to) =
      granted_counts (g - 1) (first_job (jobs_of s (g - 1))) (omega (arith, from, to, few, ap length guests)) refl

  -- after the next slot it does
  next_counts : CountsEntry (i + 1) past (fields_of (next_entry s m)) (tally_of s i)
      (tally_at (tallies_after s (next_work s)) i)
  next_counts =
      slot_counts s.plan.table s.plan.guests (turn_at s.plan.table s.plan.guests s.passed)
      (ap (λ q. q.guests) ready.plan)
      (turn_of_session s.plan.table s.plan.guests s.passed)

-- a tally becomes another by what some calls, after others, count for guest g
record CountsCalls (g : ℕ) (past xs : List Exchange) (before after : Tally) : Type 0 where
  granted : after.granted ≡ before.granted + count_by (is_grant g) (entries xs)
  used : after.used ≡ before.used + count_by (is_use g) (entries xs)
  idle : after.idle ≡ before.idle + count_by (is_idle g) (entries xs)
  finished : after.finished ≡ before.finished + finished_after g past xs

-- a tally that stays counts no calls
counts_none : (g : ℕ) (past : List Exchange) (t : Tally) → CountsCalls g past [] t t
unfolding entries finished_after
counts_none g past t = record { granted = omega arith; used = omega arith; idle = omega arith; finished = omega arith }

-- a tally that counts the entry of a slot and then other calls counts them all
counts_slot : (g : ℕ) (past : List Exchange) (x : Exchange) (xs : List Exchange) (e : Fields)
    (before between after : Tally) → entry_of x.answer ≡ Some e → entries (x ∷ xs) ≡ e ∷ entries xs
    → CountsEntry g past e before between → CountsCalls g (past ++ x ∷ []) xs between after
    → CountsCalls g past (x ∷ xs) before after
unfolding finished_after
counts_slot g past x xs e before between after brings is first rest = record {
  granted = rw is (omega (arith, first.granted, rest.granted, sum_by-cons (λ f. one_if (is_grant g f)) e (entries xs)));
  used = rw is (omega (arith, first.used, rest.used, sum_by-cons (λ f. one_if (is_use g f)) e (entries xs)));
  idle = rw is (omega (arith, first.idle, rest.idle, sum_by-cons (λ f. one_if (is_idle g f)) e (entries xs)));
  finished = omega (arith, first.finished, rest.finished, ap (finishes g past) brings);
}

-- a call that brings no entry counts nothing
counts_still : (g : ℕ) (past : List Exchange) (x : Exchange) (xs : List Exchange) (before after : Tally)
    → entry_of x.answer ≡ None → entries (x ∷ xs) ≡ entries xs
    → CountsCalls g (past ++ x ∷ []) xs before after → CountsCalls g past (x ∷ xs) before after
unfolding finished_after
counts_still g past x xs before after none is rest = record {
  granted = rw is rest.granted;
  used = rw is rest.used;
  idle = rw is rest.idle;
  finished = omega (arith, rest.finished, ap (finishes g past) none);
}

-- over calls the tally of guest i + 1 counts them
tallies_count : (p : Plan) → length p.guests ≤ 16 → (m : Meaning) (s : State) (past xs : List Exchange) → Ready p s
    → HasLatestSizes past s → AnswersOf m s xs → (i : ℕ) → i < 16
    → CountsCalls (i + 1) past xs (tally_of s i) (tally_of (state_end s xs) i)
unfolding AnswersOf state_end
tallies_count p few m s past [] ready sized all i il = counts_none (i + 1) past (tally_of s i)
tallies_count p few m s past (x ∷ xs) ready sized (first, rest) i il =
    let next = state_after s x.call in
    let others =
    tallies_count p few (meaning_after m s x.call) next (past ++ x ∷ []) xs (ready_after p s x.call ready)
    (latest_sizes_after p m s past x ready first sized) rest i il in
    ⊎_elim
    (λ (q : PassesSlot m s x.call x.answer).
    counts_slot (i + 1) past x xs (fields_of (next_entry s m)) (tally_of s i) (tally_of next i)
    (tally_of (state_end next xs) i)
    (entry_passing m s x.call x.answer q) (entries_passing m s x xs q)
    (subst (λ ts. CountsEntry (i + 1) past (fields_of (next_entry s m)) (tally_of s i) (tally_at ts i))
    (sym (ap (λ t. t.tallies) q.state)) (next_counts p few m s past ready sized i il))
    others)
    (λ (q : PassesNoSlot m s x.call x.answer).
    counts_still (i + 1) past x xs (tally_of s i) (tally_of (state_end next xs) i) q.no_entry (entries_still m s x xs q)
    (subst
    (λ ts. CountsCalls (i + 1) (past ++ x ∷ []) xs (tally_at ts i) (tally_of (state_end next xs) i)) q.tallies others))
    (passing_or_still m s x.call x.answer first)

-- a question that is told a tally names a guest, and is told the tally of that guest
told_tally : (m : Meaning) (s : State) (g : ℕ) (t : Tally) → Ok (reply_numbers (Told t)) ≡ answer_in m s (question g)
    → (1 ≤ g) × (g ≤ length s.plan.guests) × (t ≡ tally_of s (g - 1))
unfolding answer_in
told_tally m s g t is = (grind (arith, common_steps), grind (arith, common_steps), grind (arith, common_steps))

-- before the first call each job has no size
sized_at_load : (p : Plan) → HasLatestSizes [] (state_at_load p)
unfolding latest_size
sized_at_load p g k guest task =
    ap (λ row. (get_or row k no_job).size) (get_or-replicate 16 g row_at_start [] guest)
    ∙ ap (λ j. j.size) (get_or-map-range_with_len job_at_start 0 8 k k no_job task (omega arith))

-- after a load of an accepted plan each question is told the guest's tally
pub tallies_told : (p : Plan) (registers : ℕ) → Accepted p registers → (m : Meaning) (xs : List Exchange)
    → AnswersOf m (state_at_load p) xs → TellsTallies xs
unfolding TellsTallies
tallies_told p registers ok m xs all g t past later is =
    let s = state_at_load p in
    let (front, said, back) =
    answers_around m s xs past (exchange (question g) (Ok (reply_numbers (Told t)))) later all is in
    let (from, to, told) = told_tally (device_end m s past) (state_end s past) g t said in
    let few : g - 1 < 16 =
    omega (arith, from, to, ap (λ q. length q.guests) (plan_end s past), ok.form.sizes.guests.few) in
    let zero : tally_of s (g - 1) ≡ no_tally = get_or-replicate 16 (g - 1) no_tally no_tally few in
    let counts =
    tallies_count p ok.form.sizes.guests.few m s [] past (ready_at_load p) (sized_at_load p) front (g - 1) few in
    let this : g - 1 + 1 ≡ g = omega (arith, from) in
    let is_told : CountsCalls g [] past no_tally t =
    subst (λ k. CountsCalls k [] past no_tally t) this
    (subst (λ u. CountsCalls (g - 1 + 1) [] past no_tally u) (sym told)
    (subst (λ u. CountsCalls (g - 1 + 1) [] past u (tally_of (state_end s past) (g - 1))) zero counts)) in
    record {
      granted = omega (arith, is_told.granted);
      used = omega (arith, is_told.used);
      idle = omega (arith, is_told.idle);
      finished = omega (arith, is_told.finished);
    }
