-- What is known of a release and a withdrawal that are not refused, and of the jobs after one is put in its place.
use Rattle.std.proofs.Common.{◌≡◌, refl, sym, ap, ◌∙◌, ℕ, ◌+◌, ◌-◌, ◌<◌, ◌≤◌, ◌⊎◌, inl, inr, ⊎_elim}
use Rattle.std.proofs.Common.{true, List, [], length, None, arith, slice_set, slice_index_or}
use Rattle.std.proofs.lemmas.List.{get_or-set_other, get_or-set_same}
use native.Mathlib.Decide.{ℕ_discrete as dec_eq}
use Rattle.std.proofs.lemmas.Grind.{common_steps}
use Rattle.setups.specs.Plan.{Plan, guest_at}
use Rattle.rig.specs.declared.job.Job.{Job}
use Rattle.rig.specs.Parts.{task_of, is_task}
use Rattle.rig.specs.State.{State, no_job, job_at, job_of, jobs_of, jobs_with}
use Rattle.rig.specs.Requests.{release_refusal, job_from_now, withdraw_refusal}

-- an element of a list in which one is set: that one where it is the same place, else the one that was there
pub element_set : {X : Type 0} (xs : List X) (i : ℕ) (x : X) (j : ℕ) (d : X) → j < length xs
    → ((j ≡ i) × (slice_index_or (slice_set xs i x) j d ≡ x))
    ⊎ ((j ≡ i → ⊥) × (slice_index_or (slice_set xs i x) j d ≡ slice_index_or xs j d))
element_set xs i x j d l =
    elim (dec_eq j i) [
      | yes here ↦ inl (here, rw here (get_or-set_same xs i x d (let below : i < length xs = rw here at l in below)))
      | no apart ↦ inr (apart, get_or-set_other xs i j x d apart)
    ]

-- the job of task l of guest h after a job is put in the place of task k of guest g:
-- that one where it is the same place, else the one that was there
pub job_put : (s : State) (g k : ℕ) (j : Job) (h l : ℕ) → h < length s.jobs → l < length (jobs_of s h)
    → ((h ≡ g) × (l ≡ k) × (job_at (jobs_with s g k j) h l ≡ j))
    ⊎ (((h ≡ g) × (l ≡ k) → ⊥) × (job_at (jobs_with s g k j) h l ≡ job_of s h l))
job_put s g k j h l wide deep =
    ⊎_elim
    (λ row. ⊎_elim
    (λ here. inl (row.0, here.0, ap (λ js. slice_index_or js l no_job) row.1 ∙ here.1))
    (λ apart. inr (
      λ same. apart.0 same.1,
      ap (λ js. slice_index_or js l no_job) row.1 ∙ apart.1 ∙ ap (λ i. job_of s i l) (sym row.0),
    ))
    (element_set (jobs_of s g) k j l no_job (let below : l < length (jobs_of s g) = rw row.0 at deep in below)))
    (λ apart. inr (λ same. apart.0 same.0, ap (λ js. slice_index_or js l no_job) apart.1))
    (element_set s.jobs g (slice_set (jobs_of s g) k j) h [] wide)

-- the guest and the task of these numbers, from 1, are in the plan
pub record NamesTask (p : Plan) (g k : ℕ) : Type 0 where
  pub guest_from : 1 ≤ g
  pub guest_to : g ≤ length p.guests
  pub task_from : 1 ≤ k
  pub task_to : k ≤ (guest_at p.guests (g - 1)).task_count

-- guest and task are in the plan where the test for them holds
known : (p : Plan) (g k : ℕ) → is_task p g k ≡ true → NamesTask p g k
known p g k is =
    record {
      guest_from = grind (arith, common_steps);
      guest_to = grind (arith, common_steps);
      task_from = grind (arith, common_steps);
      task_to = grind (arith, common_steps);
    }

-- what is known where task k of guest g, both from 1, may release m operations
pub record Releasable (s : State) (g k m : ℕ) : Type 0 where
  pub known : NamesTask s.plan g k
  pub some : 1 ≤ m
  pub cheap : m ≤ (task_of s.plan (g - 1) (k - 1)).cost
  pub free : (job_of s (g - 1) (k - 1)).next_start ≤ s.passed

-- so much is known of a release that is not refused
pub releasable : (s : State) (g k m : ℕ) → release_refusal s g k m ≡ None → Releasable s g k m
releasable s g k m none = record {
  known = known s.plan g k (grind (arith, common_steps));
  some = grind (arith, common_steps);
  cheap = grind (arith, common_steps);
  free = grind (arith, common_steps);
}

-- the job of task k of guest g of a plan, both from 0, may start with n operations, and this is the job that starts
pub record StartsJob (p : Plan) (s : State) (g k n : ℕ) (j : Job) : Type 0 where
  pub task : k < (guest_at p.guests g).task_count
  pub some : 1 ≤ n
  pub cheap : n ≤ (task_of p g k).cost
  pub free : (job_of s g k).next_start ≤ s.passed
  pub pending : j.pending ≡ true
  pub size : j.size ≡ n
  pub done : j.done ≡ 0
  pub deadline : j.deadline ≡ s.passed + (task_of p g k).relative_deadline
  pub next_start : j.next_start ≡ s.passed + (task_of p g k).separation

-- a release that is not refused starts its job
pub starts_job : (s : State) (g k n : ℕ) → Releasable s g k n
    → StartsJob s.plan s (g - 1) (k - 1) n (job_from_now s g k n)
starts_job s g k n may = record {
  task = omega (arith, may.known.task_from, may.known.task_to);
  some = may.some;
  cheap = may.cheap;
  free = may.free;
  pending = refl;
  size = refl;
  done = refl;
  deadline = refl;
  next_start = refl;
}

-- a withdrawal that is not refused is of a task in the plan
pub withdrawable : (s : State) (g k : ℕ) → withdraw_refusal s g k ≡ None → NamesTask s.plan g k
withdrawable s g k none = known s.plan g k (grind (arith, common_steps))
