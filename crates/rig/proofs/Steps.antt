-- Steps of a loaded rig, from what comes of its tables.
use Rattle.std.proofs.Common.{◌≡◌, sym, refl, ap₂, ℕ, Option, Some, None}
use Rattle.decline.specs.declared.Decline.{Decline}
use Rattle.device.specs.Meaning.{Meaning}
use Rattle.rig.specs.declared.reply.Reply.TheVariants.{Released}
use Rattle.rig.specs.Calls.{release}
use Rattle.rig.specs.Replies.{NumberedAnswer, reply_numbers}
use Rattle.rig.specs.State.{State}
use Rattle.rig.specs.Requests.{release_refusal, deadline_from_now, with_release}
use Rattle.rig.specs.Step.{answer_unless, change_unless, answer_in, state_after}
use Rattle.rig.specs.Step.{meaning_after, loaded_rig, IsLoadedStep}

-- what a change leaves as it is stays as it is where it is refused too
pub change_none : {S : Type 0} (r : Option Decline) (x : S) → change_unless r x x ≡ x
change_none None x = refl
change_none (Some d) x = refl

-- a release that is answered so and leaves the tables so is a step
pub release_step : (m : Meaning) (s t : State) (g k n : ℕ) (a : NumberedAnswer)
    → a ≡ answer_unless (release_refusal s g k n) (reply_numbers (Released (deadline_from_now s g k)))
    → t ≡ change_unless (release_refusal s g k n) (with_release s g k n) s
    → IsLoadedStep m s (release g k n) a (loaded_rig m t)
unfolding answer_in state_after meaning_after
release_step m s t g k n a said is = (said, ap₂ loaded_rig (sym (change_none (release_refusal s g k n) m)) is)
