-- One step of a rig: what a call answers, and the rig afterwards.
use Rattle.std.specs.Prelude.{◌≡◌, ◌-◌, Option, Some, None, Result, Ok, Err}
use Rattle.decline.specs.declared.Decline.{Decline}
use Rattle.decline.specs.declared.Decline.TheVariants.{AlreadyLoaded, NotLoaded}
use Rattle.decline.specs.declared.DeclineNumbers.{DeclineNumbers}
use Rattle.decline.specs.Refusals.{numbers_of}
use Rattle.device.specs.Meaning.{Meaning, register_count}
use Rattle.setups.specs.Plan.{Plan, ValuesFit}
use Rattle.admission.specs.Verdict.{Accepted, Declined}
use Rattle.rig.specs.declared.reply.Reply.{Reply}
use Rattle.rig.specs.declared.reply.Reply.TheVariants.{Loaded, Released, Withdrawn, Told, Passed}
use Rattle.rig.specs.Calls.{PlanCall, load, release, withdraw, question, slot}
use Rattle.rig.specs.Replies.{NumberedAnswer, reply_numbers}
use Rattle.rig.specs.State.{State, state_at_load, tally_of}
use Rattle.rig.specs.Slot.{slot_refusal, next_entry, next_work, device_after, with_slot}
use Rattle.rig.specs.Requests.{release_refusal, deadline_from_now, with_release}
use Rattle.rig.specs.Requests.{withdraw_refusal, done_of, with_withdrawal, question_refusal}

-- a rig: what its device means, and what it holds if a setup is loaded
pub record RigState : Type 0 where
  pub device : Meaning
  pub loaded : Option State

-- a fresh rig around a device
abbrev pub fresh_rig : Meaning → RigState
fresh_rig m = record { device = m; loaded = None }

-- a rig with a device of this meaning that is loaded and has this state
abbrev pub loaded_rig : Meaning → State → RigState
loaded_rig m s = record { device = m; loaded = Some s }

-- an answer, or a refusal where there is one
abbrev pub answer_unless : {X : Type 0} → Option Decline → X → Result X DeclineNumbers
answer_unless None x = Ok x
answer_unless (Some d) x = Err (numbers_of d)

-- what becomes of something that is changed, or stays where there is a refusal
abbrev pub change_unless : {S : Type 0} → Option Decline → S → S → S
change_unless None new old = new
change_unless (Some d) new old = old

-- what a call does to a loaded rig: why it is refused, if it is; and if it is not, the reply by what the device means,
-- the state afterwards, and what becomes of the device
pub record Effect : Type 0 where
  pub refusal : Option Decline
  pub reply : Meaning → Reply
  pub state : State
  pub device : Meaning → Meaning

-- the effect of each call on a loaded rig in this state
abbrev pub effect : State → PlanCall → Effect
effect s (load p) = record { refusal = Some AlreadyLoaded; reply = λ m. Loaded; state = s; device = λ m. m }
effect s (release g k n) = record {
  refusal = release_refusal s g k n;
  reply = λ m. Released (deadline_from_now s g k);
  state = with_release s g k n;
  device = λ m. m;
}
effect s (withdraw g k) = record {
  refusal = withdraw_refusal s g k;
  reply = λ m. Withdrawn (done_of s g k);
  state = with_withdrawal s g k;
  device = λ m. m;
}
effect s (question g) = record {
  refusal = question_refusal s g;
  reply = λ m. Told (tally_of s (g - 1));
  state = s;
  device = λ m. m;
}
effect s slot = record {
  refusal = slot_refusal s;
  reply = λ m. Passed (next_entry s m);
  state = with_slot s;
  device = λ m. device_after m (next_work s);
}

-- what a loaded rig answers a call
unfoldable pub answer_in : Meaning → State → PlanCall → NumberedAnswer
answer_in m s c = answer_unless (effect s c).refusal (reply_numbers ((effect s c).reply m))

-- the state of a loaded rig after a call
unfoldable pub state_after : State → PlanCall → State
state_after s c = change_unless (effect s c).refusal (effect s c).state s

-- what the device of a loaded rig means after a call
unfoldable pub meaning_after : Meaning → State → PlanCall → Meaning
meaning_after m s c = change_unless (effect s c).refusal ((effect s c).device m) m

-- what a load of a fresh rig comes to: the plan, of which each value that is written is a number of 16 bits, is
-- accepted for the device's registers and loaded; or it is declined by these three numbers, and the rig stays fresh.
-- The values of a setup have 16 bits, so each plan of a setup comes to one of the two
unfoldable pub IsLoad : Meaning → Plan → NumberedAnswer → RigState → Type 0
IsLoad m p (Ok r) after =
    (r ≡ reply_numbers Loaded) × Accepted p (register_count m) × ValuesFit p × (after ≡ loaded_rig m (state_at_load p))
IsLoad m p (Err n) after = Declined p (register_count m) n × (after ≡ fresh_rig m)

-- a call of a fresh rig: a load goes by its verdict, and every other call is refused
abbrev pub IsFreshStep : Meaning → PlanCall → NumberedAnswer → RigState → Type 0
IsFreshStep m (load p) a after = IsLoad m p a after
IsFreshStep m _ a after = (a ≡ Err (numbers_of NotLoaded)) × (after ≡ fresh_rig m)

-- a call of a loaded rig has the answer, and leaves the rig, that its effect says
abbrev pub IsLoadedStep : Meaning → State → PlanCall → NumberedAnswer → RigState → Type 0
IsLoadedStep m s c a after = (a ≡ answer_in m s c) × (after ≡ loaded_rig (meaning_after m s c) (state_after s c))

-- a call of a rig, by what is loaded
abbrev pub IsStepBy : Option State → Meaning → PlanCall → NumberedAnswer → RigState → Type 0
IsStepBy None m c a after = IsFreshStep m c a after
IsStepBy (Some s) m c a after = IsLoadedStep m s c a after

-- one step: a call of a rig has this answer and leaves this rig
abbrev pub IsStep : RigState → PlanCall → NumberedAnswer → RigState → Type 0
IsStep r c a after = IsStepBy r.loaded r.device c a after
