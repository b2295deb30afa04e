-- Twice the area common to two rings (OGC 06-103r4, 6.1.10.2, Area, and 6.1.15, Intersection), as a fraction. A part of
-- the plane that the rings go round several times is counted as often as the product of their winding numbers there.
use Rattle.std.specs.Prelude.{pos, List, [], ◌∷◌}
use Rattle.geo_exact.specs.declared.corner.Corner.{Corner}
use Rattle.geo_exact.specs.Rings.{Edge, edges}
use Rattle.common_areas.specs.Fractions.{Fraction, whole, plus}
use Rattle.common_areas.specs.Between.{between}

-- the sum of the edges' shares
abbrev pub sum_shares : (Edge → Fraction) → List Edge → Fraction
sum_shares share [] = whole (pos 0)
sum_shares share (edge ∷ rest) = plus (share edge) (sum_shares share rest)

-- Twice the area common to two rings: the sum, over each edge of the one and each edge of the other, of the area
-- between them at the levels that both have. It is counted where one edge goes up and the other down, and taken off
-- where both go alike.
abbrev pub common_area2 : List Corner → List Corner → Fraction
common_area2 r s = sum_shares (λ e. sum_shares (between e) (edges s)) (edges r)
