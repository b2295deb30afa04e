use Rattle.std.proofs.Common.{◌+◌, length}
use Rattle.tri_overlap.proofs.shapes.+meet_within.Given as goal

abbrev pub decreases-meet_within : goal.decreases-meet_within
decreases-meet_within l = length l.first.now + length l.second.now
