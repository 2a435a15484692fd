use Rattle.std.proofs.Common.{◌≡◌, sym, ap, ◌∙◌, length, map, arith}
use Rattle.std.specs.List.{range_with_len}
use Rattle.std.proofs.lemmas.List.{take_all}
use Rattle.setups.specs.Plan.{guest_at}
use Rattle.schedule.specs.ServerSlot.{with_refill, with_refills, server_at}
use Rattle.schedule.proofs.Refills.{one_more}
use Rattle.schedule.proofs.server.refill.Goals as goal

pub loop-i-preserved : goal.loop-i-preserved
loop-i-preserved c =
    one_more c.args.slot c.args.guests.now c.args.servers.now c.loop-i.servers c.loop-i.i c.with_refill.result
    (omega (arith, c.loop-i.auto, c.requires.agree, c.loop-i-test.true))
    c.with_refill.ensures c.loop-i.invariant

pub returns : goal.returns
unfolding with_refills
returns c =
    let i_is : c.loop-i.i ≡ length c.args.guests.now = omega (arith, c.loop-i.auto, c.loop-i-test.false) in
    sym (take_all c.loop-i.i c.loop-i.servers (omega (arith, c.loop-i.auto, c.requires.agree, i_is)))
    ∙ c.loop-i.invariant.done
    ∙ ap (λ n. map (λ k. with_refill c.args.slot (guest_at c.args.guests.now k) (server_at c.args.servers.now k))
    (range_with_len 0 n)) i_is
