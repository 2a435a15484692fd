-- What the calls of a loaded rig do, by their kinds.
use Rattle.std.proofs.Common.{◌≡◌, refl, ap, ◌∙◌, ℕ, ◌-◌, ◌⊎◌, inl, inr, Option, Some, None, Ok, get_or, arith}
use Rattle.decline.specs.declared.Decline.{Decline}
use Rattle.journal.specs.Entries.{fields_of}
use Rattle.device.specs.Meaning.{Meaning}
use Rattle.rig.specs.declared.job.Job.{Job}
use Rattle.rig.specs.declared.reply.Reply.TheVariants.{Withdrawn, Told, Passed}
use Rattle.rig.specs.Calls.{PlanCall, load, release, withdraw, question, slot, guest_of}
use Rattle.rig.specs.Invariants.{JobInvariant}
use Rattle.rig.specs.Replies.{NumberedAnswer, reply_numbers, entry_of}
use Rattle.rig.specs.Requests.{with_job, job_from_now, withdrawn_job}
use Rattle.rig.specs.Slot.{slot_refusal, next_entry, next_work, device_after, with_slot}
use Rattle.rig.specs.State.{State, no_job, jobs_of, job_of, tally_of}
use Rattle.rig.specs.Step.{answer_unless, change_unless, effect, answer_in, state_after, meaning_after}
use Rattle.runs.proofs.JobRequests.{NamesTask, releasable, withdrawable}

-- two states are the same to guest g, from 1: in their plan, in the slots passed, and in its jobs and its tally
pub record SameTo (g : ℕ) (s t : State) : Type 0 where
  pub plan : s.plan ≡ t.plan
  pub passed : s.passed ≡ t.passed
  pub row : jobs_of s (g - 1) ≡ jobs_of t (g - 1)
  pub tally : tally_of s (g - 1) ≡ tally_of t (g - 1)

-- each of its jobs is the same in both
same_job_of : (g k : ℕ) (s t : State) → SameTo g s t → job_of s (g - 1) k ≡ job_of t (g - 1) k
same_job_of g k s t same = ap (λ row. get_or row k no_job) same.row

-- a call is refused alike in two states, and has the same reply
pub record AnsweredAlike (c : PlanCall) (s t : State) : Type 0 where
  pub refusal : (effect s c).refusal ≡ (effect t c).refusal
  pub reply : (m n : Meaning) → (effect s c).reply m ≡ (effect t c).reply n

-- a call is answered alike in states that are the same to this guest, if it names one
abbrev pub AnsweredByGuest : PlanCall → Option ℕ → Type 0
AnsweredByGuest c None = Unit {0}
AnsweredByGuest c (Some g) = (s t : State) → SameTo g s t → AnsweredAlike c s t

-- a call changes nothing, brings no entry, and is answered by what the guest sees that it names
pub record ChangesNothing (c : PlanCall) : Type 0 where
  pub state : (s : State) → (effect s c).state ≡ s
  pub device : (s : State) (m : Meaning) → (effect s c).device m ≡ m
  pub no_entry : (s : State) (m : Meaning) → entry_of (Ok (reply_numbers ((effect s c).reply m))) ≡ None
  pub alike : AnsweredByGuest c (guest_of c)

-- a call puts job j in the place of task k of guest g, whom it names, and brings no entry; its answer and the job go by
-- what the guest sees; and where it is not refused, the task is in the plan and the job keeps its invariant
pub record PutsJob (c : PlanCall) (g k : ℕ) (j : State → Job) : Type 0 where
  pub named : guest_of c ≡ Some g
  pub state : (s : State) → (effect s c).state ≡ with_job s g k (j s)
  pub device : (s : State) (m : Meaning) → (effect s c).device m ≡ m
  pub no_entry : (s : State) (m : Meaning) → entry_of (Ok (reply_numbers ((effect s c).reply m))) ≡ None
  pub alike : (s t : State) → SameTo g s t → AnsweredAlike c s t
  pub same_job : (s t : State) → SameTo g s t → j s ≡ j t
  pub known : (s : State) → (effect s c).refusal ≡ None → NamesTask s.plan g k
  pub invariant : (s : State) → (effect s c).refusal ≡ None
      → JobInvariant s.plan (g - 1) (k - 1) (job_of s (g - 1) (k - 1)) → JobInvariant s.plan (g - 1) (k - 1) (j s)

-- a call is a slot, puts a job or changes nothing
pub data CallKind : PlanCall → Type 0 where
  slots : CallKind slot
  puts_job : (c : PlanCall) (g k : ℕ) (j : State → Job) → PutsJob c g k j → CallKind c
  keeps : (c : PlanCall) → ChangesNothing c → CallKind c

-- a release puts the job that it starts
pub release_puts : (g k n : ℕ) → PutsJob (release g k n) g k (λ s. job_from_now s g k n)
release_puts g k n = record {
  named = refl;
  state = λ s. refl;
  device = λ s m. refl;
  no_entry = λ s m. refl;
  alike = λ s t same. record {
    refusal = rw (same.plan, same.passed, same_job_of g (k - 1) s t same) refl;
    reply = λ l m. rw (same.plan, same.passed) refl;
  };
  same_job = λ s t same. rw (same.plan, same.passed) refl;
  known = λ s none. (releasable s g k n none).known;
  invariant = λ s none old pending. (omega (arith, (releasable s g k n none).some), (releasable s g k n none).cheap);
}

-- a withdrawal puts the job that was there, no longer pending
pub withdrawal_puts : (g k : ℕ) → PutsJob (withdraw g k) g k (λ s. withdrawn_job (job_of s (g - 1) (k - 1)))
withdrawal_puts g k = record {
  named = refl;
  state = λ s. refl;
  device = λ s m. refl;
  no_entry = λ s m. refl;
  alike = λ s t same. record {
    refusal = rw (same.plan, same_job_of g (k - 1) s t same) refl;
    reply = λ m n. ap (λ (j : Job). Withdrawn j.done) (same_job_of g (k - 1) s t same);
  };
  same_job = λ s t same. ap withdrawn_job (same_job_of g (k - 1) s t same);
  known = λ s none. withdrawable s g k none;
  invariant = λ s none old pending. absurd cc;
}

-- the kind of each call
pub call_kind : (c : PlanCall) → CallKind c
call_kind (load p) =
    keeps (load p) (record { state = λ s. refl; device = λ s m. refl; no_entry = λ s m. refl; alike = tt })
call_kind (release g k n) = puts_job (release g k n) g k _ (release_puts g k n)
call_kind (withdraw g k) = puts_job (withdraw g k) g k _ (withdrawal_puts g k)
call_kind (question g) = keeps (question g) (record {
  state = λ s. refl;
  device = λ s m. refl;
  no_entry = λ s m. refl;
  alike = λ s t same. record { refusal = rw same.plan refl; reply = λ m n. ap Told same.tally };
})
call_kind slot = slots

-- what holds where a change is made, and where it is refused, holds of what becomes of it
pub holds_unless : {S : Type 0} (P : S → Type 0) (r : Option Decline) (new old : S) → (r ≡ None → P new) → P old
    → P (change_unless r new old)
holds_unless P None new old made stays = made refl
holds_unless P (Some d) new old made stays = stays

-- what a change keeps is kept where it is made and where it is refused
pub kept_unless : {S Y : Type 0} (f : S → Y) (r : Option Decline) (new old : S) → f new ≡ f old
    → f (change_unless r new old) ≡ f old
kept_unless f r new old same = holds_unless (λ t. f t ≡ f old) r new old (λ none. same) refl

-- a call that keeps something of the state keeps it where it is refused too
pub kept_after : {Y : Type 0} (f : State → Y) (s : State) (c : PlanCall) → f (effect s c).state ≡ f s
    → f (state_after s c) ≡ f s
unfolding state_after
kept_after f s c same = kept_unless f (effect s c).refusal (effect s c).state s same

-- a call keeps the plan
pub plan_after : (s : State) (c : PlanCall) → (state_after s c).plan ≡ s.plan
plan_after s c = kept_after (λ t. t.plan) s c (go c (call_kind c))
  where
    go : (d : PlanCall) → CallKind d → (effect s d).state.plan ≡ s.plan
    go d slots = refl
    go d (puts_job _ g k j puts) = ap (λ t. t.plan) (puts.state s)
    go d (keeps _ quiet) = ap (λ t. t.plan) (quiet.state s)

-- a call with its answer passes a slot
pub record PassesSlot (m : Meaning) (s : State) (c : PlanCall) (a : NumberedAnswer) : Type 0 where
  pub is_slot : c ≡ slot
  pub allowed : slot_refusal s ≡ None
  pub answer : a ≡ Ok (reply_numbers (Passed (next_entry s m)))
  pub state : state_after s c ≡ with_slot s
  pub device : meaning_after m s c ≡ device_after m (next_work s)

-- a call with its answer passes no slot: it brings no entry, and time, tallies and the device stay
pub record PassesNoSlot (m : Meaning) (s : State) (c : PlanCall) (a : NumberedAnswer) : Type 0 where
  pub no_entry : entry_of a ≡ None
  pub passed : (state_after s c).passed ≡ s.passed
  pub tallies : (state_after s c).tallies ≡ s.tallies
  pub device : meaning_after m s c ≡ m

-- the entry of a slot that passes
pub entry_passing : (m : Meaning) (s : State) (c : PlanCall) (a : NumberedAnswer) → PassesSlot m s c a
    → entry_of a ≡ Some (fields_of (next_entry s m))
entry_passing m s c a p = ap entry_of p.answer

-- a slot that is not refused passes
pub slot_passing : (m : Meaning) (s : State) (a : NumberedAnswer) → slot_refusal s ≡ None → a ≡ answer_in m s slot
    → PassesSlot m s slot a
unfolding answer_in state_after meaning_after
slot_passing m s a none is = record {
  is_slot = refl;
  allowed = none;
  answer = is ∙ ap (λ r. answer_unless r (reply_numbers (Passed (next_entry s m)))) none;
  state = ap (λ r. change_unless r (with_slot s) s) none;
  device = ap (λ r. change_unless r (device_after m (next_work s)) m) none;
}

-- a call that is refused passes no slot
refused_still : (m : Meaning) (s : State) (c : PlanCall) (a : NumberedAnswer) (d : Decline)
    → (effect s c).refusal ≡ Some d
    → a ≡ answer_in m s c → PassesNoSlot m s c a
unfolding answer_in state_after meaning_after
refused_still m s c a d some is = record {
  no_entry = ap entry_of (is ∙ ap (λ r. answer_unless r (reply_numbers ((effect s c).reply m))) some);
  passed = ap (λ r. (change_unless r (effect s c).state s).passed) some;
  tallies = ap (λ r. (change_unless r (effect s c).state s).tallies) some;
  device = ap (λ r. change_unless r ((effect s c).device m) m) some;
}

-- a call whose reply brings no entry, and that keeps time, tallies and the device, passes no slot
quiet_still : (m : Meaning) (s : State) (c : PlanCall) (a : NumberedAnswer) → a ≡ answer_in m s c
    → entry_of (Ok (reply_numbers ((effect s c).reply m))) ≡ None
    → (effect s c).state.passed ≡ s.passed → (effect s c).state.tallies ≡ s.tallies → (effect s c).device m ≡ m
    → PassesNoSlot m s c a
unfolding answer_in meaning_after
quiet_still m s c a is none passed tallies device = record {
  no_entry = ap entry_of is ∙ go (effect s c).refusal;
  passed = kept_after (λ t. t.passed) s c passed;
  tallies = kept_after (λ t. t.tallies) s c tallies;
  device = kept_unless (λ n. n) (effect s c).refusal ((effect s c).device m) m device;
}
  where
    go : (r : Option Decline) → entry_of (answer_unless r (reply_numbers ((effect s c).reply m))) ≡ None
    go None = none
    go (Some d) = refl

-- each call of a loaded rig passes a slot or does not
pub passing_or_still : (m : Meaning) (s : State) (c : PlanCall) (a : NumberedAnswer) → a ≡ answer_in m s c
    → PassesSlot m s c a ⊎ PassesNoSlot m s c a
passing_or_still m s c a is = by c is (call_kind c)
  where
    slot_by : (r : Option Decline) → slot_refusal s ≡ r → a ≡ answer_in m s slot
        → PassesSlot m s slot a ⊎ PassesNoSlot m s slot a
    slot_by None none says = inl (slot_passing m s a none says)
    slot_by (Some d) some says = inr (refused_still m s slot a d some says)

    by : (d : PlanCall) → a ≡ answer_in m s d → CallKind d → PassesSlot m s d a ⊎ PassesNoSlot m s d a
    by d says slots = slot_by (slot_refusal s) refl says
    by d says (puts_job _ g k j puts) =
        inr (quiet_still m s d a says (puts.no_entry s m) (ap (λ t. t.passed) (puts.state s))
        (ap (λ t. t.tallies) (puts.state s)) (puts.device s m))
    by d says (keeps _ quiet) =
        inr (quiet_still m s d a says (quiet.no_entry s m) (ap (λ t. t.passed) (quiet.state s))
        (ap (λ t. t.tallies) (quiet.state s)) (quiet.device s m))
