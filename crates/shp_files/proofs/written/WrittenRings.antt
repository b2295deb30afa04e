-- The rings of a layer that is written: they are in normal form by their type, and their corners are counted in one way.
use Rattle.std.proofs.Common.{◌≡◌, ◌+◌, ◌≤◌, List, [], ◌∷◌, length, Some, All, refl, arith, length-append}
use Rattle.std.proofs.lemmas.List.Elements.{All-nil, All-cons}
use Rattle.geo_exact.specs.declared.coord.Unit.TheVariants.{Mm}
use Rattle.geo_exact.specs.declared.raw_ring.RawRing.{RawRing}
use Rattle.geo_exact.specs.declared.limits.TheConstants.{LAYER_CORNERS, LAYER_RECORDS}
use Rattle.shp_files.specs.LayerFile.{rings_of, corner_count, IsLayerFile}
use Rattle.shp_files.specs.NormalForm.{IsNormal}
use Rattle.shp_files.specs.Written.{corner_lists, all_corners, numbered_from, written_main, written_index}
use Rattle.shp_files.proofs.written.WrittenLayer.{written_with_index}

-- the corners of all rings, as they are written and as a layer counts them
pub same_count : {A : Type 0} (rings : List (RawRing A)) → length (all_corners (corner_lists rings)) ≡ corner_count (rings_of rings)
same_count [] = refl
same_count (ring ∷ rings) =
    let all : length (all_corners (corner_lists (ring ∷ rings))) ≡ length ring.corners
    + length (all_corners (corner_lists rings)) = length-append ring.corners (all_corners (corner_lists rings)) in
    omega (arith, all, same_count rings)

all_normal : {A : Type 0} (rings : List (RawRing A)) → All IsNormal (corner_lists rings)
all_normal [] = All-nil IsNormal
all_normal (ring ∷ rings) = All-cons IsNormal ring.corners (corner_lists rings)
    (ring.enough, ring.few, ring.no_repeats, ring.not_clockwise) (all_normal rings)

-- the two files that are written are those of the same rings, numbered from 1
pub read_back : {A : Type 0} (rings : List (RawRing A)) → length rings ≤ LAYER_RECORDS
    → corner_count (rings_of rings) ≤ LAYER_CORNERS
    → IsLayerFile (written_main (corner_lists rings)) (Some (written_index (corner_lists rings))) Mm
    (numbered_from 1 (corner_lists rings))
read_back rings few together =
    written_with_index (corner_lists rings) (all_normal rings) (omega (arith, few, as_many rings))
    (omega (arith, together, same_count rings))
  where
    as_many : {A : Type 0} (rings : List (RawRing A)) → length (corner_lists rings) ≡ length rings
    as_many [] = refl
    as_many (ring ∷ rings) = omega (arith, as_many rings)
