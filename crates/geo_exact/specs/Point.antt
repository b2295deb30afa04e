-- Rational points, of which the theory speaks; a corner is one (OGC 06-103r4, 6.1.4, Point).
use Rattle.std.specs.Prelude.{◌≡◌, ℤ, pos, ◌*ℤ◌, ◌<ℤ◌}
use Rattle.geo_exact.specs.declared.corner.Corner.{Corner}

-- the point (x / d, y / d)
pub record Point : Type 0 where
  pub x : ℤ
  pub y : ℤ
  pub d : ℤ
  pub d_positive : pos 0 <ℤ d

-- p is the point of the corner
pub record IsPlaceOf (p : Point) (corner : Corner) : Type 0 where
  pub same_x : p.x ≡ corner.x *ℤ p.d
  pub same_y : p.y ≡ corner.y *ℤ p.d

-- a corner's own point, with denominator 1
abbrev pub corner_point : Corner → Point
corner_point corner = record { x = corner.x; y = corner.y; d = pos 1; d_positive = record { lt = tt } }
