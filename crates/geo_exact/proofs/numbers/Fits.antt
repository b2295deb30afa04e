-- Coordinates fit in machine integers.
use Rattle.std.proofs.Common.{arith, FitsSigned, w64}
use Rattle.std.proofs.lemmas.Int.{ints}
use Rattle.geo_exact.specs.declared.corner.Corner.{Corner}

pub fits_x : (corner : Corner) → FitsSigned w64 corner.x
fits_x corner = omega (arith, ints, corner.x_in_range)

pub fits_y : (corner : Corner) → FitsSigned w64 corner.y
fits_y corner = omega (arith, ints, corner.y_in_range)
