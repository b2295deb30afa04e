-- How much of each parcel lies in each zone, as whole numbers (this product's own).
use Rattle.std.specs.Prelude.{◌≡◌, ℕ, ◌+◌, ◌*◌, ◌<◌, ℤ, pos, ◌+ℤ◌, nat_eq, if◌then◌else◌, List, [], ◌∷◌, ◌++◌}
use Rattle.std.specs.Prelude.{length, map}
use Rattle.std.specs.List.{Contains}
use Rattle.geo_exact.specs.Area.{area2}
use Rattle.geo_exact.specs.Layers.{NumberedRing}
use Rattle.common_areas.specs.Common.{common_area2}
use Rattle.area_bounds.specs.declared.parts.TheConstants.{PARTS}
use Rattle.zone_tables.specs.Overlap.{Overlaps, AreInPairOrder}
use Rattle.area_shares.specs.declared.shared.AreaLine.{AreaLine}
use Rattle.area_shares.specs.Shares.{IsWithinOne}

-- a line's parcel and zone
abbrev pub pair_of : AreaLine → ℕ × ℕ
pair_of line = (line.id, line.zone)

-- twice the area that the lines of a parcel have together
abbrev pub area2_of_lines : ℕ → List AreaLine → ℤ
area2_of_lines id [] = pos 0
area2_of_lines id (line ∷ lines) = (if nat_eq line.id id then line.area2 else pos 0) +ℤ area2_of_lines id lines

-- how many corners the zone with this number has
abbrev pub corners_of_zone : ℕ → List NumberedRing → ℕ
corners_of_zone number [] = 0
corners_of_zone number (zone ∷ zones) =
    (if nat_eq zone.number number then length zone.corners else 0) + corners_of_zone number zones

-- how many corners the zones have together that the pairs name with a parcel
abbrev pub corners_of_zones : ℕ → List (ℕ × ℕ) → List NumberedRing → ℕ
corners_of_zones id [] zones = 0
corners_of_zones id (pair ∷ pairs) zones =
    (if nat_eq pair.0 id then corners_of_zone pair.1 zones else 0) + corners_of_zones id pairs zones

-- The parcel's corners times those of all its zones are below 67,108,864: rounding loses less than 1 in all then.
abbrev pub HasFewCorners : NumberedRing → List NumberedRing → List (ℕ × ℕ) → Type 0
HasFewCorners row zones pairs = length row.corners * corners_of_zones row.number pairs zones < PARTS

-- Each line of a parcel and a zone has twice their common area, at most 1 away, where the parcel has few corners.
abbrev pub AreNear : List NumberedRing → List NumberedRing → List (ℕ × ℕ) → List AreaLine → Type 0
AreNear rows zones pairs lines = (row zone : NumberedRing) (line : AreaLine) → Contains rows row → Contains zones zone
    → Contains lines line → line.id ≡ row.number → line.zone ≡ zone.number → HasFewCorners row zones pairs
    → IsWithinOne (common_area2 row.corners zone.corners) line.area2

-- all pairs of some parcels, ascending
pub record ArePairsOfParcels (rows zones : List NumberedRing) (pairs : List (ℕ × ℕ)) : Type 0 where
  pub ascend : AreInPairOrder pairs
  pub sound : (id zone : ℕ) → Contains pairs (id, zone) → Overlaps rows zones id zone
  pub complete : (id zone other : ℕ) → Contains pairs (id, zone) → Overlaps rows zones id other
      → Contains pairs (id, other)

-- A line for each pair, in their order. The lines of each parcel that has one sum to its twice-area, exactly.
pub record AreAreaLines (rows zones : List NumberedRing) (pairs : List (ℕ × ℕ)) (lines : List AreaLine) : Type 0 where
  pub are_pairs : map pair_of lines ≡ pairs
  pub sums : (row : NumberedRing) → Contains rows row → Contains (map (λ line. line.id) lines) row.number
      → area2_of_lines row.number lines ≡ area2 row.corners
  pub near : AreNear rows zones pairs lines

-- new is old with the lines of some parcels' pairs behind it
pub record AddsAreaLines (rows zones : List NumberedRing) (pairs : List (ℕ × ℕ))
    (old new : List AreaLine) : Type 0 where
  pub added : List AreaLine
  pub is_added : new ≡ old ++ added
  pub are_lines : AreAreaLines rows zones pairs added

-- The same of all pairs of a table: the lines of each parcel sum to its twice-area, exactly.
pub record IsAreaTable (rows zones : List NumberedRing) (pairs : List (ℕ × ℕ)) (lines : List AreaLine) : Type 0 where
  pub are_pairs : map pair_of lines ≡ pairs
  pub sums : (row : NumberedRing) → Contains rows row → area2_of_lines row.number lines ≡ area2 row.corners
  pub near : AreNear rows zones pairs lines
