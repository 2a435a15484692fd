-- What `run` promises of a whole run.
use Rattle.std.specs.Prelude.{◌≡◌, ℕ, min, List, ◌++◌, length, map, take, drop, Result}
use Rattle.std.specs.List.{All}
use Rattle.decline.specs.declared.Decline.{Decline}
use Rattle.device.specs.Meaning.{Meaning}
use Rattle.setups.specs.Plan.{Plan}
use Rattle.rig.specs.declared.reply.Reply.{Reply}
use Rattle.rig.specs.Calls.{PlanCall}
use Rattle.rig.specs.Replies.{answer_numbers}
use Rattle.rig.specs.Step.{RigState, fresh_rig}
use Rattle.runs.specs.Traces.{Exchange, exchanges, IsTrace}
use Rattle.runs.specs.Laws.{RefusedFresh, LoadedWith, FullBudgets, MeetsDeadlines, TellsTallies, OneView}

-- how a rig came to be as it is before some calls, and where the load is among all calls since it was fresh
pub record History (r : RigState) (xs : List Exchange) : Type 0 where
  -- what its device meant when it was fresh
  pub device : Meaning
  -- all calls that were made until then
  pub past : List Exchange
  pub trace : IsTrace (fresh_rig device) past r
  -- the plan of the accepted load; of these calls and of those, the ones before the load, and the ones since
  pub plan : Plan
  pub before : List Exchange
  pub since : List Exchange
  pub loaded : LoadedWith plan (past ++ xs) before since

-- the law of a whole run, of calls that lead from one rig to another: all parts but the first speak of these calls and
-- of all that were made before them since the rig was fresh, whatever they were and whatever the device
pub record KeepsLaw (r : RigState) (xs : List Exchange) (after : RigState) : Type 0 where
  -- each answer, and the rig afterwards, are those of the steps, one after another, refused calls included
  pub steps : IsTrace r xs after
  -- each call before the load was refused, and changed nothing
  pub before_load : (h : History r xs) → All (RefusedFresh h.device) h.before
  -- each guest has its full budget in each of its periods
  pub budgets : (h : History r xs) → FullBudgets h.plan h.since
  -- each deadline is kept
  pub deadlines : (h : History r xs) → MeetsDeadlines h.plan h.since
  -- each question is told the guest's tally
  pub tallies : (h : History r xs) → TellsTallies h.since
  -- a guest sees the same whatever the others ask
  pub one_view : (h : History r xs) → OneView h.device h.plan h.since after

-- the first n calls, each with the answer in its place
abbrev pub first_exchanges : List PlanCall → List (Result Reply Decline) → ℕ → List Exchange
first_exchanges calls answers n = exchanges (take n calls) (map answer_numbers (take n answers))

-- what `run` leaves of a rig and of places for answers, by how many calls it says that it made
pub record IsRun (r : RigState) (calls : List PlanCall) (places answers : List (Result Reply Decline)) (n : ℕ)
    (after : RigState) : Type 0 where
  -- as many calls are made as there are both calls and places
  pub made : n ≡ min (length calls) (length places)
  -- there are as many places as before
  pub same_places : length answers ≡ length places
  -- the places past them hold what they held
  pub rest : drop n answers ≡ drop n places
  -- and the calls that are made keep the law
  pub law : KeepsLaw r (first_exchanges calls answers n) after
