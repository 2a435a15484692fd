use Rattle.std.proofs.Common.{◌-◌, ◌^◌}
use Rattle.inspect.proofs.listing.list_blocks.Given as goal

abbrev pub decreases-loop-filled : goal.decreases-loop-filled
decreases-loop-filled g l = 2 ^ 64 - l.counts.blocks
