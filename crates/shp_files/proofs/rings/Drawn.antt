-- The corners of a polygon whose points pass their checks.
use Rattle.std.proofs.Common.{◌≡◌, ℕ, zero, suc, ◌+◌, ◌*◌, ◌-◌, ◌<◌, ℤ, List, [], ◌∷◌, length, None, Result}
use Rattle.std.proofs.Common.{Ok, Err, refl, sym, ap, ◌∙◌, arith}
use Rattle.geo_exact.specs.declared.corner.Corner.{Corner}
use Rattle.geo_exact.specs.declared.coord.Unit.{Unit as LengthUnit}
use Rattle.geo_exact.specs.declared.coord.CoordFault.{CoordFault}
use Rattle.geo_exact.specs.Grid.{coordinate}
use Rattle.geo_exact.proofs.doubles.Coordinates.{accepted_is}
use Rattle.shp_files.specs.Layout.{double_at}
use Rattle.shp_files.specs.LayerFile.{closed}
use Rattle.shp_files.specs.Checks.{first_failure, coordinate_checks, closing_checks, ring_checks}
use Rattle.shp_files.specs.own.Reading.{IsReadAs, AreReadAs}
use Rattle.shp_files.proofs.lines.Lines.{pass, pass_parts}
use Rattle.shp_files.proofs.rings.Points.{one_read, one_refused, point_read}
use Rattle.shp_files.proofs.rings.Ring.{ring_parts, other_point, same_corner, closed_read}

-- a coordinate that passes is read
record CoordinateRead (main : List ℕ) (unit : LengthUnit) (at : ℕ) : Type 0 where
  number : ℤ
  is : coordinate (double_at main at) unit ≡ Ok number

coordinate_read : (main : List ℕ) (unit : LengthUnit) (position at count : ℕ)
    → first_failure (coordinate_checks main unit position at (suc count)) ≡ None
    → CoordinateRead main unit at
coordinate_read main unit position at count passes = go (coordinate (double_at main at) unit) refl
  where
    go : (r : Result ℤ CoordFault) → coordinate (double_at main at) unit ≡ r → CoordinateRead main unit at
    go (Ok k) e = record { number = k; is = e }
    go (Err c) e = let refused = one_refused main unit position at count c e in absurd cc

-- a point whose coordinates pass is read as a corner
record PointRead (main : List ℕ) (unit : LengthUnit) (at : ℕ) : Type 0 where
  corner : Corner
  is : IsReadAs unit main at corner

point_found : (main : List ℕ) (unit : LengthUnit) (position at count : ℕ)
    → first_failure (coordinate_checks main unit position at (suc (suc count))) ≡ None
    → PointRead main unit at
point_found main unit position at count passes =
    let x = coordinate_read main unit position at (suc count) passes in
    let y = coordinate_read main unit position (at + 8) count (sym (one_read main unit position at (suc count) x.number x.is) ∙ passes) in
    record {
      corner = record {
        x = x.number;
        y = y.number;
        x_in_range = (accepted_is (double_at main at) unit x.number x.is).1;
        y_in_range = (accepted_is (double_at main (at + 8)) unit y.number y.is).1;
      };
      is = record { x = x.is; y = y.is };
    }

-- so many points that pass are read as corners
record PointsRead (main : List ℕ) (unit : LengthUnit) (at count : ℕ) : Type 0 where
  corners : List Corner
  are : AreReadAs unit main at corners
  size : length corners ≡ count

points_found : (main : List ℕ) (unit : LengthUnit) (position at count : ℕ)
    → first_failure (coordinate_checks main unit position at (2 * count)) ≡ None
    → PointsRead main unit at count
points_found main unit position at zero passes = record { corners = []; are = tt; size = refl }
points_found main unit position at (suc count) passes =
    let two : 2 * suc count ≡ suc (suc (2 * count)) = omega arith in
    let first = point_found main unit position at (2 * count)
    (ap (λ n. first_failure (coordinate_checks main unit position at n)) (sym two) ∙ passes) in
    let rest = points_found main unit position (at + 16) count
    (sym (point_read main unit position at count first.corner first.is) ∙ passes) in
    record { corners = first.corner ∷ rest.corners; are = (first.is, rest.are); size = ap suc rest.size }

-- the ring of so many points, the last of which is the first again
pub record RingRead (main : List ℕ) (unit : LengthUnit) (at count : ℕ) : Type 0 where
  pub corners : List Corner
  pub are : AreReadAs unit main at (closed corners)
  pub size : length corners + 1 ≡ count

-- points that are read, and then one that is the first again
ring_closed : (main : List ℕ) (unit : LengthUnit) (position at count : ℕ) (corners : List Corner) (closing : Corner)
    → 1 < count → length corners ≡ count - 1
    → AreReadAs unit main at corners → IsReadAs unit main (at + 16 * (count - 1)) closing
    → first_failure (closing_checks main unit position at (at + 16 * (count - 1))) ≡ None → RingRead main unit at count
unfolding closing_checks
ring_closed main unit position at count [] closing more size are last passes = absurd (omega (arith, more, size))
ring_closed main unit position at count (first ∷ rest) closing more size are last passes =
    let differs = other_point main unit at (at + 16 * (count - 1)) first closing are.0 last in
    let same : first ≡ closing = same_corner first closing (sym differs ∙ (pass _ _ _ passes).0) in
    record {
      corners = first ∷ rest;
      are = closed_read unit main at (at + 16 * (count - 1)) (first ∷ rest) first closing are (omega arith) refl
          (omega (arith, size)) last same;
      size = omega (arith, more, size);
    }

-- a ring that passes is read
pub ring_found : (main : List ℕ) (unit : LengthUnit) (position at count : ℕ) → 1 < count
    → first_failure (ring_checks main unit position at count) ≡ None
    → RingRead main unit at count
ring_found main unit position at count more passes =
    let parts = pass_parts _ _ (ap first_failure (sym (ring_parts main unit position at count (omega (arith, more)))) ∙ passes) in
    let ends = pass_parts (coordinate_checks main unit position (at + 16 * (count - 1)) 2) _ parts.1 in
    let points = points_found main unit position at (count - 1) parts.0 in
    let last = point_found main unit position (at + 16 * (count - 1)) 0 ends.0 in
    ring_closed main unit position at count points.corners last.corner more points.size points.are last.is ends.1
