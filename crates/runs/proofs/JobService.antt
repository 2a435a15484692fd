-- The jobs of a guest as streams that are served the earliest deadline first, so that none is late.
use Rattle.std.proofs.Common.{◌≡◌, refl, sym, ap, ◌∙◌, subst, ℕ, zero, suc, ◌+◌, ◌<◌, ◌≤◌, arith}
use Rattle.std.proofs.Common.{List, [], ◌∷◌, length, Option, Some, None}
use native.Mathlib.Decide.{ℕ_discrete as dec_eq}
use Rattle.decline.specs.declared.Decline.{Decline}
use Rattle.setups.specs.declared.setup.Task.{Task}
use Rattle.setups.specs.Plan.{Plan, guest_at, task_at, tasks_of}
use Rattle.deadlines.specs.Course.{Course, EarliestFirst, SuppliedBy, NothingLate}
use Rattle.deadlines.specs.DeadlineLaw.{DueWorkIsDone}
use Rattle.deadlines.proofs.Lateness.{due_work_is_done}
use Rattle.deadlines.specs.Sums.{sum_below}
use Rattle.deadlines.proofs.Sums.{sum_below_next, sum_below_zero}
use Rattle.schedule.proofs.Counts.{supplied_granted}
use Rattle.admission.specs.Verdict.{Accepted}
use Rattle.setups.proofs.GuestPlaces.{TaskPlaces, task_places, tasks_of-length, tasks_of-ok}
use Rattle.rig.specs.State.{State, job_of, state_at_load}
use Rattle.rig.specs.Slot.{slot_refusal, with_slot}
use Rattle.rig.specs.Step.{change_unless}
use Rattle.rig.proofs.PlanPlaces.{agreeing}
use Rattle.rig.proofs.RigInvariant.{none_pending}
use Rattle.rig.specs.Calls.{PlanCall, question, slot}
use Rattle.runs.specs.Traces.{Exchange}
use Rattle.rig.specs.Step.{effect, state_after}
use Rattle.runs.proofs.Loaded.{state_end}
use Rattle.runs.proofs.Effects.{CallKind, slots, puts_job, keeps, call_kind, holds_unless, kept_after}
use Rattle.runs.proofs.JobSlots.{grant_in}
use Rattle.runs.proofs.Ready.{Ready, ready_at_load, ready_after}
use Rattle.runs.proofs.JobSteps.{job_step}
use Rattle.runs.proofs.ToGo.{to_go, none_to_go}
use Rattle.runs.proofs.Work.{middle, stream_at, brings_by, slots_for, call_serves}

-- how many of the first n slots a plan grants guest i
abbrev grants_to : Plan → ℕ → ℕ → ℕ
grants_to p i n = sum_below (grant_in p (i + 1)) n

-- a call that passes no slot has none for guest i
none_for : (p : Plan) (i : ℕ) (s : State) (c : PlanCall) → (effect s c).state.passed ≡ s.passed → slots_for p i s c ≡ 0
none_for p i s slot same = absurd (omega (arith, same))
none_for p i s c same = refl

-- what it adds to the slots granted to guest i
slots_still : (p : Plan) (i : ℕ) (s : State) (c : PlanCall) → (effect s c).state.passed ≡ s.passed
    → grants_to p i s.passed + slots_for p i s c ≡ grants_to p i (state_after s c).passed
slots_still p i s c same =
    omega (arith, none_for p i s c same, ap (grants_to p i) (kept_after (λ t. t.passed) s c same))

-- what a slot adds to them
slots_passing : (p : Plan) (i : ℕ) (s : State) (r : Option Decline)
    → grants_to p i s.passed + change_unless r (grant_in p (i + 1) s.passed) 0
    ≡ grants_to p i (change_unless r (with_slot s) s).passed
slots_passing p i s None =
    let next : suc s.passed ≡ s.passed + 1 = omega arith in
    sym (sum_below_next (grant_in p (i + 1)) s.passed) ∙ ap (grants_to p i) next
slots_passing p i s (Some d) = omega arith

-- the slots granted to guest i of those that have passed before a call, and the slots that the call has for it, are
-- those granted to it of those that have passed after the call
slots_add : (p : Plan) (i : ℕ) (s : State) (c : PlanCall)
    → grants_to p i s.passed + slots_for p i s c ≡ grants_to p i (state_after s c).passed
unfolding state_after
slots_add p i s c = by c (call_kind c)
  where
    by : (d : PlanCall) → CallKind d
        → grants_to p i s.passed + slots_for p i s d ≡ grants_to p i (state_after s d).passed
    by d slots = slots_passing p i s (slot_refusal s)
    by d (puts_job _ g k j puts) = slots_still p i s d (ap (λ t. t.passed) (puts.state s))
    by d (keeps _ quiet) = slots_still p i s d (ap (λ t. t.passed) (quiet.state s))

-- a call lets no fewer slots have passed
passed_on : (s : State) (c : PlanCall) → s.passed ≤ (state_after s c).passed
unfolding state_after
passed_on s c =
    holds_unless (λ t. s.passed ≤ t.passed) (effect s c).refusal (effect s c).state s (λ none. by c (call_kind c))
    (omega arith)
  where
    by : (d : PlanCall) → CallKind d → s.passed ≤ (effect s d).state.passed
    by d slots = omega arith
    by d (puts_job _ g k j puts) = omega (arith, ap (λ t. t.passed) (puts.state s))
    by d (keeps _ quiet) = omega (arith, ap (λ t. t.passed) (quiet.state s))

-- the states one after another, where each call is made on what came of those before
unfoldable pub state_at : (ℕ → PlanCall) → State → ℕ → State
state_at c s zero = s
state_at c s (suc n) = state_after (state_at c s n) (c n)

-- the first call apart
state_at_first : (c : ℕ → PlanCall) (s : State) (n : ℕ)
    → state_at c s (suc n) ≡ state_at (λ k. c (suc k)) (state_after s (c 0)) n
unfolding state_at
state_at_first c s zero = refl
state_at_first c s (suc n) = ap (λ t. state_after t (c (suc n))) (state_at_first c s n)

-- the calls of a list, and then questions
unfoldable pub call_at : List Exchange → ℕ → PlanCall
call_at [] n = question 0
call_at (x ∷ xs) zero = x.call
call_at (x ∷ xs) (suc n) = call_at xs n

-- after the calls of a list is the state after the list
state_at_end : (s : State) (xs : List Exchange) → state_at (call_at xs) s (length xs) ≡ state_end s xs
unfolding state_at call_at state_end
state_at_end s [] = refl
state_at_end s (x ∷ xs) = state_at_first (call_at (x ∷ xs)) s (length xs) ∙ state_at_end (state_after s x.call) xs

-- the jobs of guest i, as streams, one step for each call
abbrev course_of : Plan → (ℕ → PlanCall) → ℕ → Course
course_of p c i = record {
  time = λ n. (state_at c (state_at_load p) n).passed;
  slots = λ n. slots_for p i (state_at c (state_at_load p) n) (c n);
  before = λ n. stream_at (state_at c (state_at_load p) n) i;
  ready = λ n. stream_at (middle (state_at c (state_at_load p) n) (c n)) i;
}

-- each state from load on is ready
ready_at : (p : Plan) (c : ℕ → PlanCall) (n : ℕ) → Ready p (state_at c (state_at_load p) n)
unfolding state_at
ready_at p c zero = ready_at_load p
ready_at p c (suc n) = ready_after p (state_at c (state_at_load p) n) (c n) (ready_at p c n)

-- the slots that a guest has in the first calls are those granted to it of the slots that have passed
slots_before : (p : Plan) (c : ℕ → PlanCall) (i n : ℕ)
    → sum_below (course_of p c i).slots n ≡ grants_to p i ((course_of p c i).time n)
unfolding state_at
slots_before p c i zero = sum_below_zero (course_of p c i).slots ∙ sym (sum_below_zero (grant_in p (i + 1)))
slots_before p c i (suc n) =
    let added = slots_add p i (state_at c (state_at_load p) n) (c n) in
    omega (arith, sum_below_next (course_of p c i).slots n, slots_before p c i n, added)

-- no fewer slots have passed later
passed_later : (p : Plan) (c : ℕ → PlanCall) (i a b : ℕ) → a ≤ b → (course_of p c i).time a ≤ (course_of p c i).time b
unfolding state_at
passed_later p c i a zero le = let e : a ≡ 0 = omega (arith, le) in rw e (omega arith)
passed_later p c i a (suc b) le =
    elim (dec_eq a (suc b)) [
      | yes e ↦ rw e (omega arith)
      | no apart ↦
          (let last = passed_on (state_at c (state_at_load p) b) (c b) in
          omega (arith, passed_later p c i a b (omega (arith, le, apart)), last))
    ]

module _ (p : Plan) (registers : ℕ) (ok : Accepted p registers) (i : ℕ) (il : i < length p.guests) where
  -- each guest of an accepted plan is one of 16
  pub guest_place : i < 16
  guest_place = omega (arith, il, ok.form.sizes.guests.few)

  -- what is known of its tasks
  pub own_tasks : TaskPlaces p.guests p.tasks i
  own_tasks = task_places p.guests p.tasks i (agreeing p registers ok) il

  -- it has as many tasks as it counts
  tasks_counted : length (tasks_of p.guests p.tasks i) ≡ (guest_at p.guests i).task_count
  tasks_counted = tasks_of-length p.guests p.tasks i own_tasks

module _ (p : Plan) (registers : ℕ) (ok : Accepted p registers) (c : ℕ → PlanCall) (i : ℕ)
    (il : i < length p.guests) where
  -- the place of the guest
  place : i < 16
  place = guest_place p registers ok i il

  -- the place of each of its tasks
  task_place : (k : ℕ) → k < length (tasks_of p.guests p.tasks i) → k < 8
  task_place k l = omega (arith, l, tasks_counted p registers ok i il, (own_tasks p registers ok i il).few)

  -- its tasks
  abbrev own : List Task
  own = tasks_of p.guests p.tasks i

  -- its jobs are served the earliest deadline first
  earliest_first : EarliestFirst (length own) (task_at own) (course_of p c i)
  unfolding state_at
  earliest_first = record {
    start = λ k l. none_to_go (job_of (state_at_load p) i k) (none_pending i k);
    onward = λ n. passed_on (state_at c (state_at_load p) n) (c n);
    brings = λ n k l.
        let s = state_at c (state_at_load p) n in
        let ready = ready_at p c n in
        brings_by p s (c n) i k ready.plan (job_step p s ready i k place (task_place k l) (c n));
    serves = λ n.
        let counted = tasks_counted p registers ok i il in
        let few : length own ≤ 8 = omega (arith, counted, (own_tasks p registers ok i il).few) in
        let s = state_at c (state_at_load p) n in
        call_serves p (length own) i place few (omega (arith, counted)) s (ready_at p c n) (c n);
  }

  -- it has at least the slots that its server gives
  supplied_by : SuppliedBy (guest_at p.guests i).period (guest_at p.guests i).budget (course_of p c i)
  supplied_by a b le =
      let time = (course_of p c i).time in
      let granted = supplied_granted p registers ok i (time a) (time b) il (passed_later p c i a b le) in
      omega (arith, slots_before p c i a, slots_before p c i b, granted)

  -- so nothing of them is left when it is due
  nothing_late : NothingLate (length own) (course_of p c i)
  unfolding DueWorkIsDone
  nothing_late =
      due_work_is_done (guest_at p.guests i).period (guest_at p.guests i).budget own (course_of p c i)
      (tasks_of-ok p.guests p.tasks i ok.form.tasks) (ok.schedulable.guests i il) earliest_first supplied_by

-- of no job whose deadline is reached is an operation to go
abbrev pub NoneLate : State → ℕ → ℕ → Type 0
NoneLate s g k = (job_of s g k).deadline ≤ s.passed → to_go (job_of s g k) ≡ 0

-- so it is after any calls of a rig that was loaded with an accepted plan
pub none_late : (p : Plan) (registers : ℕ) → Accepted p registers → (xs : List Exchange) (i k : ℕ) → i < length p.guests
    → k < (guest_at p.guests i).task_count → NoneLate (state_end (state_at_load p) xs) i k
none_late p registers ok xs i k il kl =
    subst (λ s. NoneLate s i k) (state_at_end (state_at_load p) xs)
    (nothing_late p registers ok (call_at xs) i il (length xs) k (omega (arith, kl, tasks_counted p registers ok i il)))
