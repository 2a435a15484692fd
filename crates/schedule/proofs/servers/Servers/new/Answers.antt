use Rattle.std.proofs.Common.{◌≡◌, ◌≤◌, ap, ◌∙◌, length, take, arith}
use Rattle.std.proofs.lemmas.List.FromFn.{take-map-range_with_len}
use Rattle.setups.specs.Plan.{plan_of}
use Rattle.schedule.specs.Session.{servers_at_start}
use Rattle.schedule.proofs.Sessions.{limits_at_start, invariant_at_start}
use Rattle.schedule.proofs.servers.Servers.new.Goals as goal

pub invariant_of-result : goal.invariant_of-result
invariant_of-result c =
    let p = plan_of c.args.setup.now in
    let ok = c.in_ok-judge.ensures.verdict in
    let n = length c.args.setup.now.guests.now in
    let few : n ≤ 16 = ok.form.sizes.guests.few in
    let vs : take n c.servers_at_start.result ≡ servers_at_start n =
    ap (take n) c.servers_at_start.ensures ∙ take-map-range_with_len _ 0 16 n few in
    rw (c.array_with.ensures.whole ok.form.sizes.table.1, c.array_with-2.ensures.whole few)
    (omega (arith, ok.form.sizes.table), few, limits_at_start p _ ok, invariant_at_start p _ vs)
