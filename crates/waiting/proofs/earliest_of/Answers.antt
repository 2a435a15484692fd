use Rattle.std.proofs.Common.{rules, ◌≡◌, length}
use Rattle.std.specs.Option.{option_map}
use Rattle.waiting.proofs.Best.{IsBest, best_names_first}
use Rattle.waiting.proofs.Least.{names_first}
use Rattle.waiting.proofs.earliest_of.Goals as goal

pub returns-clause-law : goal.returns-clause-law
returns-clause-law g c =
    let is_position : c.map.result ≡ option_map (λ b. b.0) c.loop-position.best = search rules in
    let best : IsBest g.R.Waits.waits g.R.Waits.rank c.args.records.now
    (length c.args.records.now) c.loop-position.best = search rules in
    rw is_position (best_names_first g.R.Waits.waits g.R.Waits.rank c.args.records.now c.loop-position.best best)

pub returns-clause-answer : goal.returns-clause-answer
returns-clause-answer g c =
    names_first g.R.Waits.waits g.R.Waits.rank c.args.records.now c.map.result (returns-clause-law g c)
