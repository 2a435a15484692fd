-- The verdicts on the sample setups.
use Rattle.std.proofs.Common.{[], ◌∷◌, Ok, Err, refl}
use Rattle.decline.specs.declared.Decline.TheVariants.{LinkSpare, LinkDemand, GuestSpare, GuestDemand}
use Rattle.decline.specs.Refusals.{numbers_of}
use Rattle.admission.specs.AdmissionLaws.{LinkSearchBound, TasksSearchBound, OneVerdict}
use Rattle.admission.specs.Verdict.{Accepted, Declined}
use Rattle.samples.specs.Setups.{table_two_fixed, setup_a, setup_a_with, one_guest}
use Rattle.samples.specs.Verdicts.{NeverDeclined}
use Rattle.samples.proofs.Verdicts.{is_verdict?, is_verdict}

-- by what `judge` promises of how far it has to search
module _ (links : LinkSearchBound) (tasks : TasksSearchBound) where
  -- setup A is accepted
  pub setup_a_accepted : Accepted setup_a 64
  unfolding is_verdict?
  setup_a_accepted = is_verdict setup_a 64 links tasks (Ok tt) refl

  -- setup A with deadline 8 is accepted
  pub setup_a_due_8_accepted : Accepted (setup_a_with 8 3) 64
  unfolding is_verdict?
  setup_a_due_8_accepted = is_verdict (setup_a_with 8 3) 64 links tasks (Ok tt) refl

  -- setup A with deadline 7 is declined by number 10
  pub setup_a_due_7_declined : Declined (setup_a_with 7 3) 64 (numbers_of (GuestDemand 1 7))
  unfolding is_verdict?
  setup_a_due_7_declined = is_verdict (setup_a_with 7 3) 64 links tasks (Err (GuestDemand 1 7)) refl

  -- setup A with budget 4 is declined by number 7
  pub setup_a_budget_4_declined : Declined (setup_a_with 10 4) 64 (numbers_of LinkSpare)
  unfolding is_verdict?
  setup_a_budget_4_declined = is_verdict (setup_a_with 10 4) 64 links tasks (Err LinkSpare) refl

  -- a guest of budget 1 in period 2 on the table of two fixed slots is declined by number 8
  pub two_fixed_declined : Declined (one_guest table_two_fixed 2 1) 64 (numbers_of (LinkDemand 2))
  unfolding is_verdict?
  two_fixed_declined = is_verdict (one_guest table_two_fixed 2 1) 64 links tasks (Err (LinkDemand 2)) refl

  -- a guest of budget 1 in period 100 on the table of one free slot is accepted
  pub period_100_accepted : Accepted (one_guest (0 ∷ []) 100 1) 64
  unfolding is_verdict?
  period_100_accepted = is_verdict (one_guest (0 ∷ []) 100 1) 64 links tasks (Ok tt) refl

  -- a guest of budget 1 in period 101 on that table is declined by number 9
  pub period_101_declined : Declined (one_guest (0 ∷ []) 101 1) 64 (numbers_of (GuestSpare 1))
  unfolding is_verdict?
  period_101_declined = is_verdict (one_guest (0 ∷ []) 101 1) 64 links tasks (Err (GuestSpare 1)) refl

  -- and it is never declined
  pub setup_a_never_declined : OneVerdict → NeverDeclined setup_a 64
  unfolding OneVerdict
  setup_a_never_declined one m declined = (one setup_a 64).apart m declined setup_a_accepted
