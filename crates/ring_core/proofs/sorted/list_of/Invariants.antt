use Rattle.ring_core.specs.own.Sorted.{AreListedSoFar}
use Rattle.ring_core.proofs.sorted.list_of.Given as goal

abbrev pub invariant-loop-j : goal.invariant-loop-j
invariant-loop-j g l = AreListedSoFar l.axis l.corners l.numbers l.j l.list.items
