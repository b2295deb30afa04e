-- Common areas with several rings, and rings that wind at most once (this product's own; winding numbers are those of
-- OGC 06-103r4, 6.1.11, Polygon).
use Rattle.std.specs.Prelude.{◌≡◌, ℤ, pos, ◌+ℤ◌, ◌≤ℤ◌, List, [], ◌∷◌, ◌++◌}
use Rattle.std.specs.List.{AllByRecursion}
use Rattle.geo_exact.specs.declared.corner.Corner.{Corner}
use Rattle.geo_exact.specs.Point.{Point}
use Rattle.geo_exact.specs.Rings.{Edge, edges}
use Rattle.geo_exact.specs.Turn.{IsOnRing}
use Rattle.geo_exact.specs.Winding.{winding, IsInterior}
use Rattle.common_areas.specs.Fractions.{Fraction, whole, plus}
use Rattle.common_areas.specs.Common.{common_area2}

-- off its edges the ring goes round each point once or not at all
abbrev pub WindsOnce : List Corner → Type 0
WindsOnce ring = (p : Point) → ¬ IsOnRing p ring → (pos 0 ≤ℤ winding p ring) × (winding p ring ≤ℤ pos 1)

-- twice the areas that a ring has in common with each of several rings, all together
abbrev pub common_with : List Corner → List (List Corner) → Fraction
common_with r [] = whole (pos 0)
common_with r (part ∷ parts) = plus (common_area2 r part) (common_with r parts)

-- how often the rings together go round p
abbrev pub sum_of_windings : Point → List (List Corner) → ℤ
sum_of_windings p [] = pos 0
sum_of_windings p (part ∷ parts) = winding p part +ℤ sum_of_windings p parts

-- the edges of all the rings
abbrev pub all_edges_of : List (List Corner) → List Edge
all_edges_of [] = []
all_edges_of (part ∷ parts) = edges part ++ all_edges_of parts

-- off all edges the rings together go round each point as often as one ring does
abbrev pub MakeUpOffEdges : List (List Corner) → List Corner → Type 0
MakeUpOffEdges parts ring = (p : Point) → ¬ IsOnRing p ring → AllByRecursion (λ part. ¬ IsOnRing p part) parts
    → sum_of_windings p parts ≡ winding p ring

-- the second ring goes once round each interior point of the first that is on none of its edges
abbrev pub IsCoveredBy : List Corner → List Corner → Type 0
IsCoveredBy r s = (p : Point) → IsInterior p r → ¬ IsOnRing p s → winding p s ≡ pos 1
