use Rattle.std.proofs.Common.{refl}
use Rattle.setups.proofs.SlotWindows.{supply_least, supply_law}
use Rattle.admission.specs.AdmissionLaws.{SupplyIsLeast, SupplyRepeats}
use Rattle.admission.proofs.SearchBounds.{link_search_bound, tasks_search_bound, tasks_search_bound_by_pauses}
use Rattle.admission.proofs.UniqueVerdict.{one_verdict}
use Rattle.admission.proofs.admission_laws.Goals as goal

pub returns : goal.returns
unfolding SupplyIsLeast SupplyRepeats
returns c = record {
  one = one_verdict;
  least = supply_least;
  repeats = λ table t le. supply_law table t;
  link = link_search_bound;
  tasks = tasks_search_bound;
  pauses = tasks_search_bound_by_pauses;
  limits = c.limit_numbers.ensures;
  factor = refl;
}
