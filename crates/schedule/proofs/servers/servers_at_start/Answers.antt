use Rattle.std.proofs.Common.{◌≡◌, sym, ap, ◌∙◌, arith}
use Rattle.std.proofs.lemmas.List.{take_all, length-set}
use Rattle.schedule.specs.Session.{servers_at_start}
use Rattle.schedule.proofs.Sessions.{start_more}
use Rattle.schedule.proofs.servers.servers_at_start.Goals as goal

pub loop-i-preserved : goal.loop-i-preserved
loop-i-preserved c = (
  length-set c.loop-i.servers c.loop-i.i _ ∙ c.loop-i.invariant.0,
  start_more c.loop-i.servers c.loop-i.i (omega (arith, c.loop-i.invariant.0, c.loop-i-test.true)) c.loop-i.invariant.1,
)

pub returns : goal.returns
returns c =
    let all : c.loop-i.i ≡ 16 = omega (arith, c.loop-i.auto, c.loop-i-test.false) in
    sym (take_all c.loop-i.i c.loop-i.servers (omega (arith, c.loop-i.invariant.0, c.loop-i-test.false)))
    ∙ c.loop-i.invariant.1
    ∙ ap servers_at_start all
