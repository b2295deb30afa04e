-- The lines of coordinates, one coordinate and one point at a time.
use Rattle.std.proofs.Common.{◌≡◌, ℕ, zero, suc, ◌+◌, ◌*◌, ◌-◌, ◌<◌, ℤ, List, [], ◌∷◌, ◌++◌, length}
use Rattle.std.proofs.Common.{Some, None, Ok, Err, refl, ap, ◌∙◌, arith, subst}
use Rattle.geo_exact.specs.declared.corner.Corner.{Corner}
use Rattle.geo_exact.specs.declared.coord.Unit.{Unit as LengthUnit}
use Rattle.geo_exact.specs.declared.coord.CoordFault.{CoordFault}
use Rattle.geo_exact.specs.Grid.{coordinate}
use Rattle.shp_files.specs.declared.fault.FileFault.{FileFault}
use Rattle.shp_files.specs.declared.fault.FaultKind.TheVariants as kinds
use Rattle.shp_files.specs.Layout.{double_at}
use Rattle.shp_files.specs.Checks.{Check, first_failure, fault, refusal, coordinate_checks}
use Rattle.shp_files.proofs.lines.Lines.{goes_on, stops}
use Rattle.shp_files.specs.own.Reading.{IsReadAs, AreReadAs}

-- a coordinate that is read leaves the answer to the others
pub one_read : (main : List ℕ) (unit : LengthUnit) (position at count : ℕ) (k : ℤ) → coordinate (double_at main at) unit ≡ Ok k
    → first_failure (coordinate_checks main unit position at (suc count))
    ≡ first_failure (coordinate_checks main unit position (at + 8) count)
unfolding coordinate_checks first_failure
one_read main unit position at count k e = rw e refl

-- a coordinate that is refused is the first failure
pub one_refused : (main : List ℕ) (unit : LengthUnit) (position at count : ℕ) (c : CoordFault)
    → coordinate (double_at main at) unit ≡ Err c
    → first_failure (coordinate_checks main unit position at (suc count)) ≡ Some (fault position at (kinds.Coord c))
unfolding coordinate_checks first_failure
one_refused main unit position at count c e = rw e refl

pub none_left : (main : List ℕ) (unit : LengthUnit) (position at : ℕ)
    → first_failure (coordinate_checks main unit position at 0) ≡ None
unfolding coordinate_checks first_failure
none_left main unit position at = refl

-- a point takes two coordinates
pub point_read : (main : List ℕ) (unit : LengthUnit) (position at count : ℕ) (corner : Corner) → IsReadAs unit main at corner
    → first_failure (coordinate_checks main unit position at (2 * suc count))
    ≡ first_failure (coordinate_checks main unit position (at + 16) (2 * count))
point_read main unit position at count corner is =
    let two : 2 * suc count ≡ suc (suc (2 * count)) = omega arith in
    let on : at + 8 + 8 ≡ at + 16 = omega arith in
    ap (λ n. first_failure (coordinate_checks main unit position at n)) two
    ∙ one_read main unit position at (suc (2 * count)) corner.x is.x
    ∙ one_read main unit position (at + 8) (2 * count) corner.y is.y
    ∙ ap (λ n. first_failure (coordinate_checks main unit position n (2 * count))) on

-- some coordinates, and then more
pub coordinates_append : (main : List ℕ) (unit : LengthUnit) (position at count more : ℕ)
    → coordinate_checks main unit position at (count + more) ≡ coordinate_checks main unit position at count
    ++ coordinate_checks main unit position (at + 8 * count) more
unfolding coordinate_checks
coordinates_append main unit position at zero more =
    let same : at + 8 * 0 ≡ at = omega arith in
    let all : 0 + more ≡ more = omega arith in
    rw (same, all) refl
coordinates_append main unit position at (suc count) more =
    let all : suc count + more ≡ suc (count + more) = omega arith in
    let place : at + 8 * suc count ≡ at + 8 + 8 * count = omega arith in
    rw (all, place) (ap (λ lines. refusal position at (coordinate (double_at main at) unit) ∷ lines)
    (coordinates_append main unit position (at + 8) count more))

-- one more point is read
pub read_more : (main : List ℕ) (unit : LengthUnit) (position at count place : ℕ) → place ≡ at + 16 * count
    → None ≡ first_failure (coordinate_checks main unit position at (2 * count))
    → None ≡ first_failure (coordinate_checks main unit position place 2)
    → None ≡ first_failure (coordinate_checks main unit position at (2 * (count + 1)))
read_more main unit position at count place is before here =
    let all : 2 * (count + 1) ≡ 2 * count + 2 = omega arith in
    let there : at + 8 * (2 * count) ≡ place = omega (arith, is) in
    rw (
      all,
      coordinates_append main unit position at (2 * count) 2,
      there,
      goes_on _ (coordinate_checks main unit position place 2) before,
    ) here

-- a point that is refused is the first failure of all
pub refused_at : (main : List ℕ) (unit : LengthUnit) (position at count all place : ℕ) (found : FileFault) → count < all
    → place ≡ at + 16 * count
    → None ≡ first_failure (coordinate_checks main unit position at (2 * count))
    → Some found ≡ first_failure (coordinate_checks main unit position place 2)
    → Some found ≡ first_failure (coordinate_checks main unit position at (2 * all))
refused_at main unit position at count all place found below is before here =
    let parts : 2 * all ≡ 2 * count + (2 + 2 * (all - (count + 1))) = omega arith in
    let there : at + 8 * (2 * count) ≡ place = omega (arith, is) in
    let after : List Check = coordinate_checks main unit position place (2 + 2 * (all - (count + 1))) in
    rw (
      parts,
      coordinates_append main unit position at (2 * count) (2 + 2 * (all - (count + 1))),
      there,
      goes_on _ after before,
      coordinates_append main unit position place 2 (2 * (all - (count + 1))),
    ) (stops _ _ found here)

-- one more corner
pub reads_push : (unit : LengthUnit) (bytes : List ℕ) (at : ℕ) (corners : List Corner) (corner : Corner) (place : ℕ)
    → place ≡ at + 16 * length corners → AreReadAs unit bytes at corners → IsReadAs unit bytes place corner
    → AreReadAs unit bytes at (corners ++ corner ∷ [])
reads_push unit bytes at [] corner place is before here =
    let there : place ≡ at = omega (arith, is) in
    (subst (λ (n : ℕ). IsReadAs unit bytes n corner) there here, tt)
reads_push unit bytes at (first ∷ rest) corner place is before here =
    (before.0, reads_push unit bytes (at + 16) rest corner place (omega (arith, is)) before.1 here)
