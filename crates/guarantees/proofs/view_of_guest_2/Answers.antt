use Rattle.std.proofs.Common.{arith, rules}
use Rattle.guarantees.proofs.TenSlots.{same_entries}
use Rattle.guarantees.proofs.view_of_guest_2.Goals as goal

pub returns-clause-same_entries : goal.returns-clause-same_entries
returns-clause-same_entries c =
    let first = c.answers_on_panel.result in
    let second = c.answers_on_panel-2.result in
    same_entries c.setup_a-setup.ensures.never_declined first second (omega arith) (omega arith) (search rules)
    (search rules)
