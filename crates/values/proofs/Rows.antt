-- Why the rows on supply and turns hold.
use Rattle.std.proofs.Common.{◌≡◌, [], ◌∷◌, map, refl}
use Rattle.std.specs.List.{range_with_len}
use Rattle.setups.specs.Supply.{supply, least_to, window_free}
use Rattle.schedule.specs.declared.turn.Turn.TheVariants.{Unassigned, Fixed, Granted}
use Rattle.schedule.specs.ServerSlot.{with_refills}
use Rattle.schedule.specs.Session.{servers_after}
use Rattle.schedule.specs.Timetable.{first_turns}
use Rattle.samples.specs.Setups.{table_a, setup_a}

-- S(0) to S(9) of the table of setup A
pub supplies_a : map (supply table_a) (range_with_len 0 10) ≡ 0 ∷ 0 ∷ 1 ∷ 2 ∷ 3 ∷ 4 ∷ 4 ∷ 5 ∷ 6 ∷ 7 ∷ []
unfolding supply least_to window_free
supplies_a = refl

-- S(26) of the table of setup A
pub supply_a_26 : supply table_a 26 ≡ 20
unfolding supply least_to window_free
supply_a_26 = refl

-- the first ten turns of setup A
pub turns_a : first_turns setup_a 10
    ≡ Fixed 1 ∷ Granted 1 ∷ Granted 1 ∷ Granted 2 ∷ Granted 2
    ∷ Fixed 1 ∷ Granted 1 ∷ Granted 1 ∷ Granted 2 ∷ Unassigned ∷ []
unfolding servers_after with_refills
turns_a = refl
