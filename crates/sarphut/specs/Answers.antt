-- What the calls of a rehearsal are answered.
use Rattle.std.specs.Prelude.{List}
use Rattle.device.specs.Panel.{panel_at_start}
use Rattle.rig.specs.Calls.{PlanCall}
use Rattle.rig.specs.Replies.{NumberedAnswer}
use Rattle.rig.specs.Step.{RigState, fresh_rig}
use Rattle.runs.specs.Traces.{IsAnsweredTrace}

-- calls have these answers, one each, when they are made one after another of a fresh rig around a lamp panel
unfoldable pub IsPanelTrace : List PlanCall → List NumberedAnswer → Type 0
IsPanelTrace calls answers = (after : RigState) × IsAnsweredTrace (fresh_rig panel_at_start) calls answers after
