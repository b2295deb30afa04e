-- A layer file keeps to the limits: how many rings and corners it has, and their numbers.
use Rattle.std.proofs.Common.{ℕ, ◌+◌, ◌≤◌, ◌<◌, List, [], ◌∷◌, length, Option, inl, inr, ap, sym, subst, arith}
use Rattle.geo_exact.specs.declared.coord.Unit.{Unit as LengthUnit}
use Rattle.geo_exact.specs.declared.limits.TheConstants.{LAYER_CORNERS, LAYER_RECORDS}
use Rattle.shp_files.specs.LayerFile.{NumberedRing, AreRecords, corner_count, normal_rings, IsLayerFile}
use Rattle.shp_files.specs.Limits.{NumbersRise}
use Rattle.shp_files.proofs.rings.Distinct.{kept_fewer}
use Rattle.shp_files.proofs.rings.Turned.{is_normal}

-- there are no more rings than records
pub rings_fewer : (unit : LengthUnit) (number : ℕ) (records : List (List ℕ)) (drawn : List NumberedRing)
    → AreRecords unit number records drawn
    → length (normal_rings drawn) ≤ length records
rings_fewer unit number [] [] are = omega arith
rings_fewer unit number [] (ring ∷ rings) are = absurd are
rings_fewer unit number (bytes ∷ records) [] are = omega arith
rings_fewer unit number (bytes ∷ records) (ring ∷ rings) are =
    elim are [
      | inl null ↦ omega (arith, rings_fewer unit (number + 1) records (ring ∷ rings) null.1)
      | inr polygon ↦ omega (arith, rings_fewer unit (number + 1) records rings polygon.2)
    ]

-- their numbers rise from the first record's to the last's
pub numbers_rise : (unit : LengthUnit) (number above last : ℕ) (records : List (List ℕ)) (drawn : List NumberedRing)
    → AreRecords unit number records drawn
    → above < number → number + length records ≤ last + 1 → NumbersRise above last (normal_rings drawn)
numbers_rise unit number above last [] [] are low high = tt
numbers_rise unit number above last [] (ring ∷ rings) are low high = absurd are
numbers_rise unit number above last (bytes ∷ records) [] are low high = tt
numbers_rise unit number above last (bytes ∷ records) (ring ∷ rings) are low high =
    elim are [
      | inl null ↦ numbers_rise unit (number + 1) above last records (ring ∷ rings) null.1 (omega (arith, low)) (omega (arith, high))
      | inr polygon ↦ (
        omega (arith, low, polygon.0),
        omega (arith, high, polygon.0),
        numbers_rise unit (number + 1) ring.number last records rings polygon.2 (omega (arith, polygon.0)) (omega (arith, high)),
      )
    ]

-- in the normal form they have no more corners than as they are drawn
pub corners_fewer : (drawn : List NumberedRing) → corner_count (normal_rings drawn) ≤ corner_count drawn
corners_fewer [] = omega arith
corners_fewer (ring ∷ rings) = omega (arith, (is_normal ring.corners).same_length, kept_fewer ring.corners, corners_fewer rings)

-- a layer file has no more rings than records
pub rings_within : (main : List ℕ) (index : Option (List ℕ)) (unit : LengthUnit) (rings : List NumberedRing)
    → IsLayerFile main index unit rings → length rings ≤ LAYER_RECORDS
rings_within main index unit rings file =
    let fewer = rings_fewer unit 1 file.records file.drawn file.has_records in
    let is = ap (λ (rs : List NumberedRing). length rs) file.has_rings in
    omega (arith, is, fewer, file.records_within)

-- and no more corners than are drawn
pub corners_within : (main : List ℕ) (index : Option (List ℕ)) (unit : LengthUnit) (rings : List NumberedRing)
    → IsLayerFile main index unit rings → corner_count rings ≤ LAYER_CORNERS
corners_within main index unit rings file =
    let fewer = corners_fewer file.drawn in
    let is = ap (λ rs. corner_count rs) file.has_rings in
    omega (arith, is, fewer, file.corners_within)

-- its numbers rise from record to record
pub numbers_within : (main : List ℕ) (index : Option (List ℕ)) (unit : LengthUnit) (rings : List NumberedRing)
    → IsLayerFile main index unit rings → NumbersRise 0 LAYER_RECORDS rings
numbers_within main index unit rings file =
    subst (λ (rs : List NumberedRing). NumbersRise 0 LAYER_RECORDS rs) (sym file.has_rings)
    (numbers_rise unit 1 0 LAYER_RECORDS file.records file.drawn file.has_records (omega arith) (omega (arith, file.records_within)))
