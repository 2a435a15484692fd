-- What a slot of a loaded rig does to the jobs and the tally of one guest.
use Rattle.std.proofs.Common.{◌≡◌, refl, sym, ap, ◌∙◌, subst, ℕ, ◌+◌, ◌-◌, ◌<◌, true, false, eq-eqb, ne_eqb, arith}
use Rattle.std.proofs.Common.{List, [], length, slice_set, slice_index_or, Option, Some, None}
use native.Mathlib.Decide.{ℕ_discrete as dec_eq}
use Rattle.std.proofs.lemmas.List.{length-set, get_or-set_other, get_or-set_same}
use Rattle.setups.specs.declared.setup.Guest.{Guest}
use Rattle.setups.specs.Plan.{Plan}
use Rattle.deadlines.proofs.OneAtATime.{after_unit, ServedBy, IsNext, NamesNext, served_by_next}
use Rattle.journal.specs.declared.entries.Event.{Event}
use Rattle.journal.specs.declared.entries.Entry.{Entry}
use Rattle.journal.specs.Entries.{fields_of}
use Rattle.device.specs.Meaning.{Meaning}
use Rattle.schedule.specs.declared.turn.Turn.{Turn}
use Rattle.schedule.specs.declared.turn.Turn.TheVariants as turn
use Rattle.schedule.specs.Session.{turn_at, IsTurnOf}
use Rattle.schedule.proofs.Grants.{grant_count}
use Rattle.schedule.proofs.Sessions.{turn_of_session}
use Rattle.schedule.proofs.Waiting.{by_rank, earliest_is_next}
use Rattle.rig.specs.declared.job.Job.{Job}
use Rattle.rig.specs.State.{State, no_job, no_tally, row_at, jobs_of, job_of, jobs_with, tally_at, tally_of, job_rank}
use Rattle.rig.specs.Slot.{first_job, granted_work, work_of, event_of}
use Rattle.rig.specs.Slot.{with_operation, with_idle, with_used, jobs_after, tallies_after}
use Rattle.runs.specs.TraceEntries.{is_use_by}
use Rattle.runs.proofs.ToGo.{jobs, earlier_first}

-- 1 if a plan grants slot n to guest g, else 0
abbrev pub grant_in : Plan → ℕ → ℕ → ℕ
grant_in p g n = grant_count g (turn_at p.table p.guests n)

-- the job that goes first is pending
pub first_pending : (s : State) (g k : ℕ) → first_job (jobs_of s g) ≡ Some k → (job_of s g k).pending ≡ true
first_pending s g k is =
    let next : IsNext jobs (by_rank job_rank) (jobs_of s g) k =
    subst (NamesNext jobs (by_rank job_rank) (jobs_of s g)) is (earliest_is_next jobs job_rank (jobs_of s g)) in
    next.waiting

-- it has a place among them
pub first_place : (s : State) (g k : ℕ) → first_job (jobs_of s g) ≡ Some k → k < length (jobs_of s g)
first_place s g k is =
    let next : IsNext jobs (by_rank job_rank) (jobs_of s g) k =
    subst (NamesNext jobs (by_rank job_rank) (jobs_of s g)) is (earliest_is_next jobs job_rank (jobs_of s g)) in
    next.within

-- the jobs after a slot for the job that goes first: it has one operation more done
pub granted_jobs : (s : State) (g k : ℕ)
    → jobs_after s (granted_work s g (Some k)) ≡ jobs_with s g k (with_operation (job_of s g k))
granted_jobs s g k =
    let a : g + 1 - 1 ≡ g = omega arith in
    let b : k + 1 - 1 ≡ k = omega arith in
    rw (a, b) refl

-- the tallies after it: its guest's has one slot more used
pub granted_tallies : (s : State) (g k : ℕ)
    → tallies_after s (granted_work s g (Some k)) ≡ slice_set s.tallies g (with_used (job_of s g k) (tally_of s g))
granted_tallies s g k =
    let a : g + 1 - 1 ≡ g = omega arith in
    let b : k + 1 - 1 ≡ k = omega arith in
    rw (a, b) refl

-- the tallies after a slot for no job: its guest's has one slot more idle
pub idle_tallies : (s : State) (g : ℕ)
    → tallies_after s (granted_work s g None) ≡ slice_set s.tallies g (with_idle (tally_of s g))
idle_tallies s g =
    let a : g + 1 - 1 ≡ g = omega arith in
    rw a refl

-- a slot keeps the number of tallies
pub length_tallies : (s : State) (t : Turn) → length (tallies_after s (work_of s t)) ≡ length s.tallies
length_tallies s turn.Unassigned = refl
length_tallies s (turn.Fixed p) = refl
length_tallies s (turn.Granted g) = go (first_job (jobs_of s (g - 1)))
  where
    go : (r : Option ℕ) → length (tallies_after s (granted_work s (g - 1) r)) ≡ length s.tallies
    go None = length-set s.tallies _ _
    go (Some k) = length-set s.tallies _ _

-- a job of another guest leaves the jobs of guest i
pub row_elsewhere : (s : State) (g k : ℕ) (j : Job) (i : ℕ) → (i ≡ g → ⊥) → row_at (jobs_with s g k j) i ≡ jobs_of s i
row_elsewhere s g k j i other = get_or-set_other s.jobs g i _ [] other

-- a job of guest i is in its place among them
pub row_here : (s : State) (i k : ℕ) (j : Job) → i < length s.jobs
    → row_at (jobs_with s i k j) i ≡ slice_set (jobs_of s i) k j
row_here s i k j within = get_or-set_same s.jobs i _ [] within

-- a slot that is granted to another guest leaves the jobs of guest i
pub row_of_other : (s : State) (h i : ℕ) (r : Option ℕ) → (i ≡ h → ⊥)
    → row_at (jobs_after s (granted_work s h r)) i ≡ jobs_of s i
row_of_other s h i None other = refl
row_of_other s h i (Some k) other = ap (λ rows. row_at rows i) (granted_jobs s h k) ∙ row_elsewhere s h k _ i other

-- a slot that is granted to another guest leaves the tally of guest i
pub tally_of_other : (s : State) (h i : ℕ) (r : Option ℕ) → (i ≡ h → ⊥)
    → tally_at (tallies_after s (granted_work s h r)) i ≡ tally_of s i
tally_of_other s h i None other =
    ap (λ ts. tally_at ts i) (idle_tallies s h) ∙ get_or-set_other s.tallies h i _ no_tally other
tally_of_other s h i (Some k) other =
    ap (λ ts. tally_at ts i) (granted_tallies s h k) ∙ get_or-set_other s.tallies h i _ no_tally other

-- the job at a place of a list
abbrev pub job_in : List Job → ℕ → Job
job_in js k = slice_index_or js k no_job

-- the jobs of guest i after a slot whose turn is this
abbrev pub row_after : State → Turn → ℕ → List Job
row_after s t i = row_at (jobs_after s (work_of s t)) i

-- the jobs of guest i after a slot that is granted to it, by the place of its job that goes first
abbrev row_granted : State → ℕ → Option ℕ → List Job
row_granted s i r = row_at (jobs_after s (granted_work s i r)) i

-- in it the job at that place has one operation more done
row_served : (s : State) (i : ℕ) → i < length s.jobs → (r : Option ℕ)
    → row_granted s i r ≡ after_unit jobs (jobs_of s i) r
row_served s i wide None = refl
row_served s i wide (Some q) =
    ap (λ rows. row_at rows i) (granted_jobs s i q) ∙ row_here s i q (with_operation (job_of s i q)) wide

-- a slot that is granted to guest i is for its job that goes first
served_by_first : (s : State) (i : ℕ) → i < length s.jobs
    → let r = first_job (jobs_of s i) in ServedBy jobs (jobs_of s i) r (row_granted s i r)
served_by_first s i wide =
    let js = jobs_of s i in
    let r = first_job js in
    served_by_next jobs (by_rank job_rank) earlier_first js r (row_granted s i r) (earliest_is_next jobs job_rank js)
    (row_served s i wide r)

-- the entry of a slot with this event
abbrev pub event_entry : ℕ → Event → Entry
event_entry n e = record { slot = n; event = e }

-- a slot whose turn is this is not used by guest i
abbrev NotBy : State → ℕ → Turn → Type 0
NotBy s i t =
    (k : ℕ) (m : Meaning) → is_use_by (i + 1) k (fields_of (event_entry s.passed (event_of m (work_of s t)))) ≡ false

-- what a slot is to guest i
pub data SlotFor (s : State) (i : ℕ) (t : Turn) : Type 0 where
  -- it is not granted to it
  other : grant_count (i + 1) t ≡ 0 → row_after s t i ≡ jobs_of s i → NotBy s i t → SlotFor s i t
  -- it is granted to it and is for its job that goes first, if one is pending
  granted : grant_count (i + 1) t ≡ 1 → (r : Option ℕ) → ServedBy jobs (jobs_of s i) r (row_after s t i)
      → ((m : Meaning) → event_of m (work_of s t) ≡ event_of m (granted_work s i r)) → SlotFor s i t

-- a slot that is granted to another guest is not used by guest i
not_used : (s : State) (h i : ℕ) (r : Option ℕ) → (i ≡ h → ⊥)
    → (k : ℕ) (m : Meaning)
    → is_use_by (i + 1) k (fields_of (event_entry s.passed (event_of m (granted_work s h r)))) ≡ false
not_used s h i None apart k m = refl
not_used s h i (Some q) apart k m = rw (ne_eqb (h + 1) (i + 1) (λ e. apart (omega (arith, e)))) refl

-- a slot of each turn is not granted to guest i, or is for its job that goes first
slot_for_turn : (table : List ℕ) (gs : List Guest) (s : State) (i : ℕ) (t : Turn) → i < length s.jobs
    → IsTurnOf table gs t → SlotFor s i t
slot_for_turn table gs s i turn.Unassigned wide whose = other refl refl (λ k m. refl)
slot_for_turn table gs s i (turn.Fixed p) wide whose = other refl refl (λ k m. refl)
slot_for_turn table gs s i (turn.Granted h) wide (from, to) =
    let r = first_job (jobs_of s (h - 1)) in
    elim (dec_eq h (i + 1)) [
      | yes here ↦
          (let count : grant_count (i + 1) (turn.Granted h) ≡ 1 = rw (eq-eqb h (i + 1) here) refl in
          let e : i ≡ h - 1 = omega (arith, here) in
          let by : ServedBy jobs (jobs_of s i) r (row_after s (turn.Granted h) i) =
          subst (λ x. let q = first_job (jobs_of s x) in
          ServedBy jobs (jobs_of s i) q (row_at (jobs_after s (granted_work s x q)) i)) e (served_by_first s i wide) in
          granted count r by (λ m. ap (λ x. event_of m (granted_work s x r)) (sym e)))
      | no apart ↦
          (let elsewhere : i ≡ h - 1 → ⊥ = λ e. apart (omega (arith, e, from)) in
          other (rw (ne_eqb h (i + 1) apart) refl) (row_of_other s (h - 1) i r elsewhere)
          (not_used s (h - 1) i r elsewhere))
    ]

-- the next slot is not granted to guest i, or is for its job that goes first
pub slot_for : (s : State) (i : ℕ) → i < length s.jobs → SlotFor s i (turn_at s.plan.table s.plan.guests s.passed)
slot_for s i wide =
    let table = s.plan.table in
    let gs = s.plan.guests in
    slot_for_turn table gs s i (turn_at table gs s.passed) wide (turn_of_session table gs s.passed)
