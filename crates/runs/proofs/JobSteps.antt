-- What a call of a loaded rig does to the job of one task, by what it is.
use Rattle.std.proofs.Common.{◌≡◌, subst, refl, sym, ap, ap₂, ◌∙◌, ℕ, ◌+◌, ◌-◌, ◌<◌, true, false}
use Rattle.std.proofs.Common.{length, Option, Some, None, Ok, ⊎_elim, subst₂, arith, slice_set, ne_eqb, ◌==◌}
use Rattle.std.proofs.lemmas.List.{get_or-set_other, get_or-set_same}
use native.Mathlib.Decide.{ℕ_discrete as dec_eq}
use Rattle.std.proofs.Math.Bool.{and-false}
use Rattle.decline.specs.declared.Decline.{Decline}
use Rattle.journal.specs.declared.entries.Entry.{Entry}
use Rattle.journal.specs.declared.entries.Event.TheVariants as event
use Rattle.journal.specs.declared.fields.Fields.{Fields}
use Rattle.journal.specs.Entries.{fields_of}
use Rattle.device.specs.Meaning.{Meaning}
use Rattle.setups.specs.Plan.{Plan, operation_at}
use Rattle.schedule.specs.Session.{turn_at}
use Rattle.rig.specs.declared.job.Job.{Job}
use Rattle.rig.specs.declared.reply.Reply.TheVariants.{Withdrawn, Passed}
use Rattle.rig.specs.Access.{access_of}
use Rattle.rig.specs.Calls.{PlanCall, release, withdraw, slot}
use Rattle.rig.specs.Parts.{operations_of}
use Rattle.rig.specs.Replies.{reply_numbers, entry_of}
use Rattle.rig.specs.Requests.{job_from_now, done_of, withdrawn_job}
use Rattle.rig.specs.Slot.{slot_refusal, next_entry, with_slot, with_operation}
use Rattle.rig.specs.State.{State, no_job, job_of, jobs_of}
use Rattle.rig.specs.Step.{answer_unless, change_unless, effect, answer_in, state_after}
use Rattle.runs.specs.TraceEntries.{is_use_by, size_by, size_after}
use Rattle.runs.specs.Laws.{withdraw_answer}
use Rattle.runs.specs.Traces.{exchange}
use Rattle.runs.proofs.Effects.{PutsJob, release_puts, withdrawal_puts, kept_after}
use Rattle.runs.proofs.JobRequests.{job_put, StartsJob, starts_job, releasable}
use Rattle.runs.proofs.JobSlots.{job_in, event_entry, SlotFor, other, granted, slot_for}
use Rattle.runs.proofs.Ready.{Ready}

-- an entry, if there is one, is no use by task k of guest g, both from 0
abbrev pub NotUsed : ℕ → ℕ → Option Fields → Type 0
NotUsed g k None = Unit {0}
NotUsed g k (Some e) = is_use_by (g + 1) (k + 1) e ≡ false

-- a call is no slot that a job of task k of guest g uses, and no release of one that is accepted
pub record Elsewhere (m : Meaning) (s : State) (c : PlanCall) (g k : ℕ) : Type 0 where
  pub no_use : NotUsed g k (entry_of (answer_in m s c))
  pub no_release : (n : ℕ) → size_after (g + 1) (k + 1) n (exchange c (answer_in m s c)) ≡ n

-- a call that is refused is none
elsewhere_refused : (m : Meaning) (s : State) (c : PlanCall) (g k : ℕ) (d : Decline) → (effect s c).refusal ≡ Some d
    → Elsewhere m s c g k
unfolding answer_in
elsewhere_refused m s c g k d some =
    let is = ap (λ r. answer_unless r (reply_numbers ((effect s c).reply m))) some in
    record { no_use = rw is tt; no_release = λ n. ap (λ a. size_after (g + 1) (k + 1) n (exchange c a)) is }

-- a call that brings no entry and releases no such job is none
elsewhere_quiet : (m : Meaning) (s : State) (c : PlanCall) (g k : ℕ)
    → entry_of (Ok (reply_numbers ((effect s c).reply m))) ≡ None
    → ((n : ℕ) → size_by (g + 1) (k + 1) n c ≡ n) → Elsewhere m s c g k
unfolding answer_in
elsewhere_quiet m s c g k none same = go (effect s c).refusal refl
  where
    go : (r : Option Decline) → (effect s c).refusal ≡ r → Elsewhere m s c g k
    go (Some d) some = elsewhere_refused m s c g k d some
    go None allowed =
        let is = ap (λ r. answer_unless r (reply_numbers ((effect s c).reply m))) allowed in
        record {
          no_use = rw is (rw none tt);
          no_release = λ n. ap (λ a. size_after (g + 1) (k + 1) n (exchange c a)) is ∙ same n;
        }

-- the entry of a slot for the next operation of the job of task k of guest g, both from 0
abbrev pub used_entry : State → Meaning → ℕ → ℕ → Entry
used_entry s m g k =
    let j = job_of s g k in
    record {
      slot = s.passed;
      event =
          event.Used (g + 1) (k + 1) (j.done + 1)
          (access_of m (operation_at (operations_of s.plan g k) j.done)) j.deadline;
    }

-- what a call does to the job of task k of guest g, both from 0
pub data JobStep (s : State) (c : PlanCall) (g k : ℕ) : Type 0 where
  -- nothing
  stays : job_of (state_after s c) g k ≡ job_of s g k → ((m : Meaning) → Elsewhere m s c g k) → JobStep s c g k
  -- it releases n operations
  releases : (n : ℕ) → c ≡ release (g + 1) (k + 1) n → (effect s c).refusal ≡ None
      → StartsJob s.plan s g k n (job_of (state_after s c) g k) → JobStep s c g k
  -- it withdraws the job
  withdraws : c ≡ withdraw (g + 1) (k + 1) → ((m : Meaning) → answer_in m s c ≡ withdraw_answer (job_of s g k).done)
      → job_of (state_after s c) g k ≡ withdrawn_job (job_of s g k) → JobStep s c g k
  -- it is a slot that the job uses
  operates : c ≡ slot → ((m : Meaning) → answer_in m s c ≡ Ok (reply_numbers (Passed (used_entry s m g k))))
      → (job_of s g k).pending ≡ true
      → job_of (state_after s c) g k ≡ with_operation (job_of s g k) → JobStep s c g k

-- a release by another task is no release by task k of guest g, both from 0
other_release : (g k h l : ℕ) (m n : ℕ) → ((h ≡ g + 1) × (l ≡ k + 1) → ⊥)
    → size_by (g + 1) (k + 1) n (release h l m) ≡ n
other_release g k h l m n apart =
    elim (dec_eq h (g + 1)) [
      | yes here ↦
          elim (dec_eq l (k + 1)) [
            | yes there ↦ absurd (apart (here, there))
            | no e ↦ rw (ne_eqb l (k + 1) e) (rw (and-false (h == g + 1)) refl)
          ]
      | no e ↦ rw (ne_eqb h (g + 1) e) refl
    ]

module _ (p : Plan) (s : State) (ready : Ready p s) (g k : ℕ) (guest : g < 16) (task : k < 8) where
  -- the guest has a row of jobs
  wide : g < length s.jobs
  wide = omega (arith, guest, ready.rows.wide)

  -- the task has a place in that row
  deep : k < length (jobs_of s g)
  deep = omega (arith, task, ready.rows.deep g guest)

  -- a call that puts a job, by what it does where it is not refused and this is its place
  put_step : (c : PlanCall) (h l : ℕ) (j : State → Job) → PutsJob c h l j
      → (((h ≡ g + 1) × (l ≡ k + 1) → ⊥) → (n : ℕ) → size_by (g + 1) (k + 1) n c ≡ n)
      → ((effect s c).refusal ≡ None → h ≡ g + 1 → l ≡ k + 1 → job_of (state_after s c) g k ≡ j s → JobStep s c g k)
      → JobStep s c g k
  unfolding state_after
  put_step c h l j puts elsewhere in_place = go (effect s c).refusal refl
    where
      go : (r : Option Decline) → (effect s c).refusal ≡ r → JobStep s c g k
      go (Some d) some =
          stays (ap (λ r. job_of (change_unless r (effect s c).state s) g k) some)
          (λ m. elsewhere_refused m s c g k d some)
      go None none =
          let known = puts.known s none in
          let becomes = ap (λ r. job_of (change_unless r (effect s c).state s) g k) none
          ∙ ap (λ t. job_of t g k) (puts.state s) in
          ⊎_elim
          (λ here.
          in_place none (omega (arith, here.0, known.guest_from)) (omega (arith, here.1, known.task_from))
          (becomes ∙ here.2))
          (λ apart. stays (becomes ∙ apart.1)
          (λ m. elsewhere_quiet m s c g k (puts.no_entry s m)
          (elsewhere (λ same. apart.0 (omega (arith, same.0), omega (arith, same.1))))))
          (job_put s (h - 1) (l - 1) (j s) g k wide deep)

  -- a release
  release_step : (h l n : ℕ) → JobStep s (release h l n) g k
  release_step h l n =
      put_step (release h l n) h l _ (release_puts h l n) (λ apart x. other_release g k h l n x apart)
      (λ none hg lk is.
      let e : h - 1 ≡ g = omega (arith, hg) in
      let f : l - 1 ≡ k = omega (arith, lk) in
      releases n (ap₂ (λ a b. release a b n) hg lk) none
      (subst (StartsJob s.plan s g k n) (sym is)
      (subst₂ (λ a b. StartsJob s.plan s a b n (job_from_now s h l n)) e f
      (starts_job s h l n (releasable s h l n none)))))

  -- a withdrawal
  withdraw_step : (h l : ℕ) → JobStep s (withdraw h l) g k
  unfolding answer_in
  withdraw_step h l =
      put_step (withdraw h l) h l _ (withdrawal_puts h l) (λ apart x. refl)
      (λ none hg lk is.
      let e : h - 1 ≡ g = omega (arith, hg) in
      let f : l - 1 ≡ k = omega (arith, lk) in
      let same = ap₂ (job_of s) e f in
      withdraws (ap₂ withdraw hg lk)
      (λ m. ap (λ r. answer_unless r (reply_numbers (Withdrawn (done_of s h l)))) none
      ∙ ap (λ (j : Job). withdraw_answer j.done) same)
      (is ∙ ap withdrawn_job same))

  -- what is known of a slot that passes and that the job does not use
  passing_elsewhere : (m : Meaning) → slot_refusal s ≡ None
      → is_use_by (g + 1) (k + 1) (fields_of (next_entry s m)) ≡ false → Elsewhere m s slot g k
  unfolding answer_in
  passing_elsewhere m none not = record { no_use = rw none not; no_release = λ n. rw none refl }

  -- a slot that passes, by what it is to the guest
  passing_step : slot_refusal s ≡ None → SlotFor s g (turn_at s.plan.table s.plan.guests s.passed) → JobStep s slot g k
  unfolding state_after answer_in
  passing_step none (other count same not_by) =
      stays (ap (λ r. job_of (change_unless r (with_slot s) s) g k) none ∙ ap (λ js. job_in js k) same)
      (λ m. passing_elsewhere m none (not_by (k + 1) m))
  passing_step none (granted count None by is) =
      stays (ap (λ r. job_of (change_unless r (with_slot s) s) g k) none ∙ ap (λ js. job_in js k) by.0)
      (λ m. passing_elsewhere m none (ap (λ e. is_use_by (g + 1) (k + 1) (fields_of (event_entry s.passed e))) (is m)))
  passing_step none (granted count (Some q) by is) =
      let becomes : job_of (state_after s slot) g k
      ≡ job_in (slice_set (jobs_of s g) q (with_operation (job_of s g q))) k =
      ap (λ r. job_of (change_unless r (with_slot s) s) g k) none ∙ ap (λ js. job_in js k) by.changed in
      elim (dec_eq q k) [
        | yes here ↦
            operates refl
            (λ m. rw none (ap (λ e. Ok (reply_numbers (Passed (event_entry s.passed e)))) (is m)
            ∙ ap (λ x. Ok (reply_numbers (Passed (used_entry s m g x)))) here))
            (rw here at by.waiting)
            (becomes ∙ ap (λ x. job_in (slice_set (jobs_of s g) x (with_operation (job_of s g x))) k) here
            ∙ get_or-set_same (jobs_of s g) k (with_operation (job_of s g k)) no_job deep)
        | no apart ↦
            stays
            (becomes ∙ get_or-set_other (jobs_of s g) q k (with_operation (job_of s g q)) no_job (λ e. apart (sym e)))
            (λ m. passing_elsewhere m none
            (ap (λ e. is_use_by (g + 1) (k + 1) (fields_of (event_entry s.passed e))) (is m)
            ∙ rw (ne_eqb (q + 1) (k + 1) (λ e. apart (omega (arith, e)))) (and-false (g + 1 == g + 1))))
      ]

  -- a slot
  slot_step : (r : Option Decline) → slot_refusal s ≡ r → JobStep s slot g k
  unfolding state_after
  slot_step (Some d) some =
      stays (ap (λ r. job_of (change_unless r (with_slot s) s) g k) some) (λ m. elsewhere_refused m s slot g k d some)
  slot_step None none = passing_step none (slot_for s g wide)

  -- each call does one of these
  pub job_step : (c : PlanCall) → JobStep s c g k
  job_step slot = slot_step (slot_refusal s) refl
  job_step (release h l n) = release_step h l n
  job_step (withdraw h l) = withdraw_step h l
  job_step c = stays (kept_after (λ t. job_of t g k) s c refl) (λ m. elsewhere_quiet m s c g k refl (λ n. refl))
