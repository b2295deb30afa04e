-- The area between two edges, at the levels that both have (this product's own; areas are those of OGC 06-103r4,
-- 6.1.10.2, Area, and a level is a value of y).
use Rattle.std.specs.Prelude.{ℤ, pos, neg_ℤ, ◌+ℤ◌, ◌-ℤ◌, ◌*ℤ◌, int_le, int_lt, if◌then◌else◌}
use Rattle.std.specs.Int.{int_min, int_max, int_signum}
use Rattle.std.specs.Int.RustNames.{unsigned_abs}
use Rattle.geo_exact.specs.Rings.{Edge}
use Rattle.common_areas.specs.Fractions.{Fraction, whole, times}

-- a number without its sign
abbrev pub size : ℤ → ℤ
size z = pos (unsigned_abs z)

-- 1 for an edge that goes up, -1 for one that goes down, 0 for a level one
abbrev pub way : Edge → ℤ
way edge = int_signum (edge.to.y -ℤ edge.from.y)

-- how far the edge goes up or down
abbrev pub rise : Edge → ℤ
rise edge = size (edge.to.y -ℤ edge.from.y)

-- the lowest and the highest of the levels that both edges have
abbrev pub lowest : Edge → Edge → ℤ
lowest e f = int_max (int_min e.from.y e.to.y) (int_min f.from.y f.to.y)

abbrev pub highest : Edge → Edge → ℤ
highest e f = int_min (int_max e.from.y e.to.y) (int_max f.from.y f.to.y)

-- where the edge's line is at a level: x, times the edge's rise
abbrev pub place : Edge → ℤ → ℤ
place edge y = way edge *ℤ (edge.from.x *ℤ (edge.to.y -ℤ y) +ℤ edge.to.x *ℤ (y -ℤ edge.from.y))

-- how far right of the second edge's line the first one's is at a level, times both rises
abbrev pub gap : Edge → Edge → ℤ → ℤ
gap e f y = place e y *ℤ rise f -ℤ place f y *ℤ rise e

-- The area between two lines over a height. Their gaps at its bottom and its top are u / c and v / c: the area is a
-- trapezoid's or, where the lines cross on the way, that of two triangles.
abbrev pub area_of_gaps : (height c u v : ℤ) → Fraction
area_of_gaps height c u v =
    if int_le (pos 0) (u *ℤ v)
    then record { n = height *ℤ (size u +ℤ size v); d = pos 2 *ℤ c }
    else record { n = height *ℤ (u *ℤ u +ℤ v *ℤ v); d = pos 2 *ℤ c *ℤ (size u +ℤ size v) }

-- the area between two edges, at the levels that both have
abbrev pub area_between : Edge → Edge → Fraction
area_between e f =
    if int_lt (lowest e f) (highest e f)
    then area_of_gaps (highest e f -ℤ lowest e f) (rise e *ℤ rise f) (gap e f (lowest e f)) (gap e f (highest e f))
    else whole (pos 0)

-- the same, counted where one edge goes up and the other down, and taken off where both go up or both go down
abbrev pub between : Edge → Edge → Fraction
between e f = times (neg_ℤ (way e *ℤ way f)) (area_between e f)
