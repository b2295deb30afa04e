-- How the code keeps rows: their numbers in one list, and their rings in another. Public contracts do not speak of it.
use Rattle.std.specs.Prelude.{◌≡◌, ℕ, ◌≤◌, List, [], ◌∷◌, length, map, ◌+◌, ◌*◌}
use Rattle.std.specs.List.{AllZip, Contains}
use Rattle.geo_exact.specs.declared.corner.Corner.{Corner}
use Rattle.cell_index.specs.declared.entry.IndexEntry.{IndexEntry}
use Rattle.geo_exact.specs.Rings.{begun_at_least}
use Rattle.geo_exact.specs.Layers.{NumberedRing, numbered}
use Rattle.geo_exact.specs.declared.limits.TheConstants.{LAYER_CORNERS, RING_CORNERS}
use Rattle.ring_core.specs.declared.ring.Ring.{Ring}
use Rattle.edge_chains.specs.Noding.{IsNoded, all_corners}
use Rattle.ring_core.specs.declared.shape.Shape.{Shape}
use Rattle.parcel_table.specs.declared.parcels.Parcel.{Parcel}
use Rattle.parcel_table.specs.Table.{with_shape}
use Rattle.fabric_core.specs.Rows.{corners_of_layer, numbers}

-- the rings under the numbers at their places
abbrev pub numbered_rows : List ℕ → List (List Corner) → List NumberedRing
numbered_rows [] rings = []
numbered_rows (number ∷ rest) [] = []
numbered_rows (number ∷ rest) (ring ∷ rings) = numbered number ring ∷ numbered_rows rest rings

-- the corners of checked rings
abbrev pub corners_of_rings : {A : Type 0} → List (Ring A) → List (List Corner)
corners_of_rings rings = map (λ ring. ring.corners) rings

-- each shape is that of the ring at its place
abbrev pub AreShapesOfRings : {A : Type 0} → List (Ring A) → List (Shape A) → Type 0
AreShapesOfRings rings shapes = AllZip (λ ring shape. shape.ring.corners ≡ ring.corners) rings shapes

-- the corners of shapes' rings
abbrev pub corners_of_shapes : {A : Type 0} → List (Shape A) → List (List Corner)
corners_of_shapes shapes = map (λ shape. shape.ring.corners) shapes

-- the rings are the records', noded for all corners of the layer and begun at their least corners, and their numbers
-- stand beside them
pub record AreNodedRings (records : List NumberedRing) (city : List Corner) (ids : List ℕ)
    (rings : List (List Corner)) (refined : List Corner) : Type 0 where
  pub noded : List (List Corner)
  pub are_numbers : ids ≡ numbers records
  pub are_noded :
      AllZip (λ record_ring out. IsNoded record_ring.corners (corners_of_layer records city) out) records noded
  pub are_begun : rings ≡ map begun_at_least noded
  pub is_refined : IsNoded city (corners_of_layer records city) refined

-- the entry is that of the parcel with this id: its key and its box
pub record IsEntryAt {A : Type 0} (parcels : List (ℕ × Parcel A)) (id : ℕ) (entry : IndexEntry) : Type 0 where
  pub parcel : Parcel A
  pub is_here : Contains parcels (entry.key, parcel)
  pub has_id : parcel.id ≡ id
  pub has_box : entry.bounds ≡ parcel.shape.bounds

-- the parcel under this key, where there is one, has this id
abbrev pub IsIdOf : {A : Type 0} → List (ℕ × Parcel A) → ℕ → ℕ → Type 0
IsIdOf {A} parcels key id = (parcel : Parcel A) → Contains parcels (key, parcel) → parcel.id ≡ id

-- the most corners of a refined city: each edge is cut at most at all corners of the layer and the city
abbrev pub most_refined : ℕ
most_refined = RING_CORNERS * (LAYER_CORNERS + RING_CORNERS + 1)

-- so few corners that their edges can be counted
pub record AreFewCorners (rings : List (List Corner)) (refined : List Corner) : Type 0 where
  pub together : length (all_corners rings) ≤ LAYER_CORNERS
  pub in_city : length refined ≤ most_refined

-- the parcels, those with these ids one after the other with these shapes
abbrev pub replaced : {A : Type 0} → List ℕ → List (Shape A) → List (ℕ × Parcel A) → List (ℕ × Parcel A)
replaced [] shapes parcels = parcels
replaced (id ∷ ids) [] parcels = parcels
replaced (id ∷ ids) (shape ∷ shapes) parcels = replaced ids shapes (with_shape id shape parcels)
