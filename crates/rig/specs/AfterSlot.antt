-- What comes of a slot, as the tables have it.
use Rattle.std.specs.Prelude.{◌≡◌, ℕ, ◌+◌, List}
use Rattle.setups.specs.Plan.{Plan}
use Rattle.schedule.specs.declared.turn.Turn.{Turn}
use Rattle.rig.specs.declared.job.Job.{Job}
use Rattle.rig.specs.declared.tally.Tally.{Tally}
use Rattle.rig.specs.declared.after_slot.AfterSlot.{AfterSlot}
use Rattle.rig.specs.State.{State}
use Rattle.rig.specs.Slot.{work_of, jobs_after, tallies_after}
use Rattle.rig.specs.Invariants.{JobsInvariant, TalliesInvariant}

-- what comes of a slot in a state, by whose turn it is: what it is for, and jobs and tallies after it,
-- whose invariants hold
pub record IsAfterSlot (s : State) (turn : Turn) (r : AfterSlot) : Type 0 where
  pub work : r.work ≡ work_of s turn
  pub jobs : r.jobs ≡ jobs_after s (work_of s turn)
  pub tallies : r.tallies ≡ tallies_after s (work_of s turn)
  pub jobs_invariant : JobsInvariant s.plan r.jobs
  pub tallies_invariant : TalliesInvariant (s.passed + 1) r.tallies

-- what comes of a slot in a state that is given by its parts
abbrev pub IsAfterSlotByParts : Plan → ℕ → List (List Job) → List Tally → Turn → AfterSlot → Type 0
IsAfterSlotByParts p passed jobs tallies turn r =
    IsAfterSlot (record { plan = p; passed = passed; jobs = jobs; tallies = tallies }) turn r
