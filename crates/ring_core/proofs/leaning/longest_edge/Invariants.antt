use Rattle.std.proofs.Common.{◌<◌, length}
use Rattle.ring_core.proofs.leaning.longest_edge.Given as goal

abbrev pub invariant-loop-i : goal.invariant-loop-i
invariant-loop-i l = l.longest < length l.ring
