-- The rows of a layer are within the limits of what is written.
use Rattle.std.proofs.Common.{◌≡◌, refl, ◌≤◌, ◌∙◌, sym, ap, subst, arith, map, ℕ, List, [], ◌∷◌, length}
use Rattle.std.proofs.lemmas.List.{length-map}
use Rattle.std.proofs.lemmas.List.Elements.{length_all_zip}
use Rattle.std.specs.List.{AllByRecursion}
use Rattle.geo_exact.specs.declared.corner.Corner.{Corner}
use Rattle.geo_exact.specs.declared.coord.Unit.{Unit as LengthUnit}
use Rattle.geo_exact.specs.declared.raw_ring.RawRing.{RawRing}
use Rattle.geo_exact.specs.Layers.{NumberedRing, numbered, rings_of, corner_count}
use Rattle.geo_exact.specs.declared.limits.TheConstants.{LAYER_RECORDS, LAYER_CORNERS, RING_CORNERS}
use Rattle.ring_core.specs.declared.shape.Shape.{Shape}
use Rattle.shp_files.specs.LayerFile.{IsLayerFile}
use Rattle.shp_files.specs.Written.{corner_lists as lists_of_rings}
use Rattle.fabric_core.specs.Tiling.{corner_lists}
use Rattle.fabric_core.specs.Rows.{Tiles, IsRowOf, corners_of_layer}
use Rattle.fabric_core.specs.Limits.{AreWithinLimits}
use Rattle.city_layers.specs.TilingFiles.{Files, IsTiledBy}

-- the items of two lists that are equal, one by one
abbrev first : {X : Type 0} → X → List X → X
first d [] = d
first d (x ∷ xs) = x

abbrev rest : {X : Type 0} → List X → List X
rest [] = []
rest (x ∷ xs) = xs

empty_or : {X : Type 0} (x : X) (xs : List X) → [] ≡ x ∷ xs → ⊥
empty_or x xs e = absurd (omega (arith, ap length e))

-- ---- how many rings
pub as_many : {S : Type 0} (ring : S → List Corner) (shapes : List S) (rows : List NumberedRing) → map ring shapes ≡ corner_lists rows
    → length shapes ≡ length rows
as_many ring shapes rows e = sym (length-map shapes ring) ∙ ap length e ∙ length-map rows (λ row. row.corners)

pub few_rows : (files : Files) (unit : LengthUnit) (city : List Corner) (tiles : Tiles) → IsTiledBy files unit city tiles
    → ((records : List NumberedRing) → IsLayerFile files.main files.index unit records → length records ≤ LAYER_RECORDS)
    → length tiles.rows ≤ LAYER_RECORDS
few_rows files unit city tiles h few =
    subst (λ n. n ≤ LAYER_RECORDS) (length_all_zip (IsRowOf (corners_of_layer h.records city)) h.records tiles.rows
    h.are_refined.are_rows)
    (few h.records h.are_records)

-- the rings of shapes, where their rows are these
pub lists_of_shapes : {A : Type 0} (shapes : List (ℕ × Shape A)) (rows : List NumberedRing)
    → map (λ shape. numbered shape.0 shape.1.ring.corners) shapes ≡ rows → map (λ shape. shape.1.ring.corners) shapes
    ≡ corner_lists rows
lists_of_shapes shapes rows e = rings shapes ∙ ap corner_lists e
  where
    rings : {A : Type 0} (shapes : List (ℕ × Shape A))
        → map (λ shape. shape.1.ring.corners) shapes ≡ corner_lists (map (λ shape. numbered shape.0 shape.1.ring.corners) shapes)
    rings [] = refl
    rings (shape ∷ shapes) = ap (λ lists. shape.1.ring.corners ∷ lists) (rings shapes)

-- ---- how many corners
pub each_short : {S : Type 0} (ring : S → List Corner) (shapes : List S) (rows : List NumberedRing)
    → map ring shapes ≡ corner_lists rows
    → AllByRecursion (λ row. length row.corners ≤ RING_CORNERS) rows
    → AllByRecursion (λ shape. length (ring shape) ≤ RING_CORNERS) shapes
each_short ring [] rows e h = tt
each_short ring (shape ∷ shapes) [] e h = absurd (empty_or (ring shape) (map ring shapes) (sym e))
each_short ring (shape ∷ shapes) (row ∷ rows) e h = (
  subst (λ corners. length corners ≤ RING_CORNERS) (sym (ap (first []) e)) h.0,
  each_short ring shapes rows (ap rest e) h.1,
)

pub same_corner_count : {A : Type 0} (rings : List (RawRing A)) (rows : List NumberedRing) → lists_of_rings rings ≡ corner_lists rows
    → corner_count (rings_of rings) ≡ corner_count rows
same_corner_count [] [] e = refl
same_corner_count [] (row ∷ rows) e = absurd (empty_or row.corners (corner_lists rows) e)
same_corner_count (ring ∷ rings) [] e = absurd (empty_or ring.corners (lists_of_rings rings) (sym e))
same_corner_count (ring ∷ rings) (row ∷ rows) e =
    let here : length ring.corners ≡ length row.corners = ap length (ap (first []) e) in
    omega (arith, here, same_corner_count rings rows (ap rest e))

pub few_corners : {A : Type 0} (rings : List (RawRing A)) (rows : List NumberedRing) → lists_of_rings rings ≡ corner_lists rows
    → AreWithinLimits rows → corner_count (rings_of rings) ≤ LAYER_CORNERS
few_corners rings rows e h = subst (λ n. n ≤ LAYER_CORNERS) (sym (same_corner_count rings rows e)) h.together
