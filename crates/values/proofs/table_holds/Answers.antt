use Rattle.std.proofs.Common.{drop, refl}
use Rattle.values.specs.Table.{AllHold, worked_rows}
use Rattle.values.proofs.Rows.{supplies_a, supply_a_26, turns_a}
use Rattle.values.proofs.WorkedRuns.{entries_a, releases_a}
use Rattle.values.proofs.table_holds.Goals as goal

pub returns : goal.returns
returns c =
    let a = c.setup_a.ensures in
    let runs : AllHold (drop 10 worked_rows) =
    (turns_a, (entries_a a.never_declined, (releases_a a.never_declined, tt))) in
    let others : AllHold (drop 7 worked_rows) =
    (c.two_fixed.ensures.declined, (c.period_100.ensures.accepted, (c.period_101.ensures.declined, runs))) in
    let later : AllHold (drop 5 worked_rows) =
    (c.setup_a_due_7.ensures.declined, (c.setup_a_budget_4.ensures.declined, others)) in
    ((refl, refl), (supplies_a, (supply_a_26, (a.accepted, (c.setup_a_due_8.ensures.accepted, later)))))
