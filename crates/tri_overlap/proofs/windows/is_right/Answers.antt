use Rattle.std.proofs.Common.{arith, FitsSigned}
use Rattle.std.specs.Int.{w128}
use Rattle.std.proofs.lemmas.Int.{ints, to_z-of_z}
use Rattle.tri_overlap.proofs.Farthest.{not_left}
use Rattle.tri_overlap.proofs.windows.is_right.Goals as goal

pub returns : goal.returns
returns c =
    let i : FitsSigned w128 c.turn.result = omega (arith, ints) in
    λ b p inside. not_left p.d _ _ p.d_positive (rw c.turn.ensures.value at (simp to_z-of_z at b)) (c.farthest_left.ensures p inside)
