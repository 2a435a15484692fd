use Rattle.std.proofs.Common.{◌≡◌, ◌∙◌, length, take, ◌++◌, drop, arith}
use Rattle.std.proofs.lemmas.Grind.{common_steps}
use Rattle.std.proofs.lemmas.List.{take-append-le, take_all, length-take-le}
use Rattle.schedule.proofs.Sessions.{invariant_next}
use Rattle.schedule.proofs.servers.pass_with.Goals as goal

pub returns-clause-invariant : goal.returns-clause-invariant
returns-clause-invariant c =
    let n = length c.args.guests.now in
    let long : length c.pass-turn.new.servers ≡ n =
    grind (arith, common_steps, c.pass-turn.auto.servers, length-take-le) in
    let first : take n (c.pass-turn.new.servers ++ drop n c.args.servers) ≡ c.pass-turn.new.servers =
    take-append-le n c.pass-turn.new.servers _ (omega (arith, long))
    ∙ take_all n c.pass-turn.new.servers (omega (arith, long)) in
    invariant_next c.args.table.now c.args.guests.now c.args.slot (take n c.args.servers) _ c.requires.invariant
    (first ∙ c.pass-turn.ensures.after)
