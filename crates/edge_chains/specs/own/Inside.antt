-- The test of lying strictly inside an edge (`IsStrictlyInside`): what the code
-- computes. Public contracts do not speak of it.
use Rattle.std.specs.Prelude.{ℤ, pos, Bool, ◌&&◌, not}
use Rattle.std.specs.Ordering.{int_eq}
use Rattle.std.specs.Int.{int_min, int_max}
use Rattle.geo_exact.specs.declared.corner.Corner.{Corner}
use Rattle.geo_exact.specs.Turn.{turn}
use Rattle.geo_exact.specs.Bounds.{is_from_to}
use Rattle.geo_exact.specs.Order.{is_same}

-- z is u or v, or between them
abbrev pub is_between : ℤ → ℤ → ℤ → Bool
is_between u v z = is_from_to (int_min u v) (int_max u v) z

-- the test of `IsStrictlyInside`
abbrev pub is_strictly_inside : Corner → Corner → Corner → Bool
is_strictly_inside c a b = (is_between a.x b.x c.x && is_between a.y b.y c.y)
    && (int_eq (turn a b c) (pos 0) && (not (is_same c a) && not (is_same c b)))
