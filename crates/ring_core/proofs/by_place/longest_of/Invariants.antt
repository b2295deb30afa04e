use Rattle.std.proofs.Common.{◌<◌, length}
use Rattle.ring_core.proofs.by_place.longest_of.Given as goal

abbrev pub invariant-loop-p : goal.invariant-loop-p
invariant-loop-p l = l.longest < length l.ring
