use Rattle.std.proofs.Common.{◌↔◌, drop}
use Rattle.tri_overlap.specs.own.Pairs.{SomePairMeets}
use Rattle.tri_overlap.proofs.shapes.some_pair_meets.Given as goal

abbrev pub invariant-loop-triangle : goal.invariant-loop-triangle
invariant-loop-triangle l = SomePairMeets l.first l.second ↔ SomePairMeets (drop l.triangle-index l.first) l.second
