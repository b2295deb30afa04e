-- A ring of positive area has three corners.
use Rattle.std.proofs.Common.{◌≤◌, arith, List, [], ◌∷◌, length}
use Rattle.std.proofs.lemmas.Int.{ints}
use lib.IntN.{pos}
use lib.Signed.{◌<ℤ◌}
use Rattle.geo_exact.specs.declared.corner.Corner.{Corner}
use Rattle.geo_exact.specs.Area.{area2}

pub three_corners : (ring : List Corner) → pos 0 <ℤ area2 ring → 3 ≤ length ring
three_corners [] h = absurd (omega (arith, ints))
three_corners (a ∷ []) h = absurd (omega (arith, ints))
three_corners (a ∷ b ∷ []) h = absurd (omega (arith, ints))
three_corners (a ∷ b ∷ c ∷ rest) h = omega arith
