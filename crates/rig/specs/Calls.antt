-- The calls of a rig, as plain data.
use Rattle.std.specs.Prelude.{ℕ, Bool, false, ◌==◌, Option, Some, None}
use Rattle.setups.specs.Plan.{Plan, plan_of}
use Rattle.rig.specs.declared.call.Call.{Call}
use Rattle.rig.specs.declared.call.Call.TheVariants as call

-- a call with its numbers as given, and a setup as a plan
pub data PlanCall : Type 0 where
  -- load this plan
  load : Plan → PlanCall
  -- release a job of so many operations by this guest and task
  release : ℕ → ℕ → ℕ → PlanCall
  -- withdraw the job of this guest and task
  withdraw : ℕ → ℕ → PlanCall
  -- tell what this guest had
  question : ℕ → PlanCall
  -- pass the next slot
  slot : PlanCall

-- a call as plain data
abbrev pub plan_call : Call → PlanCall
plan_call (call.Load setup) = load (plan_of setup)
plan_call (call.Release g k m) = release g k m
plan_call (call.Withdraw g k) = withdraw g k
plan_call (call.Question g) = question g
plan_call call.Slot = slot

-- the guest that a call names, if it names one
abbrev pub guest_of : PlanCall → Option ℕ
guest_of (release g k m) = Some g
guest_of (withdraw g k) = Some g
guest_of (question g) = Some g
guest_of _ = None

-- a guest, if there is one, is guest g
abbrev pub is_named : ℕ → Option ℕ → Bool
is_named g None = false
is_named g (Some h) = h == g

-- a call names guest g
abbrev pub names : ℕ → PlanCall → Bool
names g c = is_named g (guest_of c)
