-- Ten slots of setup A on a lamp panel.
use Rattle.std.specs.Prelude.{List, ◌∷◌, ◌++◌, map, replicate, Result}
use Rattle.decline.specs.declared.Decline.{Decline}
use Rattle.device.specs.Panel.{panel_at_start}
use Rattle.rig.specs.declared.reply.Reply.{Reply}
use Rattle.rig.specs.Calls.{PlanCall, load, slot}
use Rattle.rig.specs.Replies.{answer_numbers}
use Rattle.rig.specs.Step.{RigState, fresh_rig}
use Rattle.runs.specs.Traces.{Exchange, exchanges}
use Rattle.runs.specs.Run.{KeepsLaw}
use Rattle.samples.specs.Setups.{setup_a}

-- some calls with their answers keep the law of whole runs, from a fresh rig around a lamp panel on
abbrev pub IsPanelRun : List Exchange → Type 0
IsPanelRun xs = (after : RigState) × KeepsLaw (fresh_rig panel_at_start) xs after

-- the load of setup A, some requests and ten slots, with what was answered
abbrev pub ten_slots_after : List PlanCall → List (Result Reply Decline) → List Exchange
ten_slots_after requests answers = exchanges (load setup_a ∷ requests ++ replicate 10 slot) (map answer_numbers answers)
