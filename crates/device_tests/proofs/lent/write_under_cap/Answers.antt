use Rattle.std.proofs.Common.{ap, ◌∙◌}
use Rattle.device.specs.Meaning.{Meaning, write_answer}
use Rattle.device_tests.proofs.lent.write_under_cap.Goals as goal

pub returns : goal.returns
returns g c = c.write.ensures.answer ∙ ap (λ (m : Meaning). write_answer m c.args.register c.args.value) c.new.ensures
