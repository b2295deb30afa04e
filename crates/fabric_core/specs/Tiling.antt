-- A tiling: rows that cover a city and nothing else, without a gap, an overlap or a tolerance (this product's own;
-- interiors and winding numbers are those of OGC 06-103r4, 6.1.11, Polygon). It is said of all rational points that
-- lie on no edge; a row is a parcel's ring under the parcel's number.
use Rattle.std.specs.Prelude.{◌≡◌, pos, ◌≤ℤ◌, List, ◌∷◌, ◌++◌, map}
use Rattle.std.specs.List.{AllByRecursion}
use Rattle.geo_exact.specs.declared.corner.Corner.{Corner}
use Rattle.geo_exact.specs.Point.{Point}
use Rattle.geo_exact.specs.Turn.{IsOnRing}
use Rattle.geo_exact.specs.Winding.{winding, IsInterior}
use Rattle.geo_exact.specs.Area.{area2}
use Rattle.geo_exact.specs.Layers.{NumberedRing}
use Rattle.edge_chains.specs.Net.{area2_of_rings}

-- the rows' rings
abbrev pub corner_lists : List NumberedRing → List (List Corner)
corner_lists rows = map (λ row. row.corners) rows

-- p lies on no edge of the rows, nor of the city
pub record IsOffEdges (p : Point) (rows : List NumberedRing) (city : List Corner) : Type 0 where
  pub off_city : ¬ IsOnRing p city
  pub off_rows : AllByRecursion (λ row. ¬ IsOnRing p row.corners) rows

-- p is in none of the rows: each has winding number 0 there
abbrev pub IsInNone : Point → List NumberedRing → Type 0
IsInNone p rows = AllByRecursion (λ row. winding p row.corners ≡ pos 0) rows

-- p is in exactly one of the rows: its winding number there is 1, and every other row's is 0
pub record IsInOne (p : Point) (rows : List NumberedRing) : Type 0 where
  pub before : List NumberedRing
  pub row : NumberedRing
  pub behind : List NumberedRing
  pub are_all : rows ≡ before ++ row ∷ behind
  pub is_in_row : winding p row.corners ≡ pos 1
  pub none_before : IsInNone p before
  pub none_behind : IsInNone p behind

-- Off all edges, a point inside the city is in exactly one row, and the city goes round it once; a point that is not
-- inside is in none, and the city does not go round it. And the rows' twice-areas sum to the city's.
pub record IsTiling (rows : List NumberedRing) (city : List Corner) : Type 0 where
  pub inside : (p : Point) → IsOffEdges p rows city → IsInterior p city → (winding p city ≡ pos 1) × IsInOne p rows
  pub outside : (p : Point) → IsOffEdges p rows city → ¬ IsInterior p city → (winding p city ≡ pos 0) × IsInNone p rows
  pub areas : area2_of_rings (corner_lists rows) ≡ area2 city

-- the ring goes round p once or not at all
abbrev pub IsWoundAtMostOnce : Point → List Corner → Type 0
IsWoundAtMostOnce p ring = (pos 0 ≤ℤ winding p ring) × (winding p ring ≤ℤ pos 1)
