use Rattle.std.proofs.Common.{◌≡◌, length, take}
use Rattle.schedule.specs.Session.{servers_at_start}
use Rattle.schedule.proofs.servers.servers_at_start.Given as goal

abbrev pub invariant-loop-i : goal.invariant-loop-i
invariant-loop-i l = (length l.servers ≡ 16) × (take l.i l.servers ≡ servers_at_start l.i)
