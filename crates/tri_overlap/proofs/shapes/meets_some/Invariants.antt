use Rattle.std.proofs.Common.{◌↔◌, drop}
use Rattle.tri_overlap.specs.own.Pairs.{MeetsSome}
use Rattle.tri_overlap.proofs.shapes.meets_some.Given as goal

abbrev pub invariant-loop-other : goal.invariant-loop-other
invariant-loop-other l = MeetsSome l.triangle l.others ↔ MeetsSome l.triangle (drop l.other-index l.others)
