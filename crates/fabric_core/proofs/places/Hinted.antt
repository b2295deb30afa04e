-- What stands under a hinted key is a parcel, whatever the key, and a place that is found inside it is inside it.
use Rattle.std.proofs.Common.{true, ◌≡◌, ◌≤◌, sym, ℕ, List, length}
use Rattle.std.specs.List.{AllByRecursion, Contains}
use Rattle.geo_exact.specs.declared.corner.Corner.{Corner}
use Rattle.geo_exact.specs.declared.limits.TheConstants.{RING_CORNERS}
use Rattle.geo_exact.specs.Bounds.{holds_corner}
use Rattle.geo_exact.specs.Layers.{numbered}
use Rattle.geo_exact.specs.Point.{Point, corner_point}
use Rattle.geo_exact.specs.Winding.{IsInterior}
use Rattle.geo_exact.proofs.boxes.InBoxes.{Decides-holds_corner}
use Rattle.parcel_table.specs.declared.parcels.Parcel.{Parcel}
use Rattle.parcel_table.specs.Table.{rows_of_keyed}
use Rattle.parcel_table.proofs.Tables.{row_of_parcel}
use Rattle.fabric_core.specs.Locate.{IsInsideOf}
use Rattle.fabric_core.proofs.places.Located.{inside_row}
use Rattle.fabric_core.proofs.tilings.OneParcel.{of_each}

module _ {A : Type 0} (all : List (ℕ × Parcel A)) (key : ℕ) (parcel : Parcel A) (there : Contains all (key, parcel)) where
  pub is_short : AllByRecursion (λ row. length row.corners ≤ RING_CORNERS) (rows_of_keyed all)
      → length parcel.shape.ring.corners ≤ RING_CORNERS
  is_short short =
      of_each (λ row. length row.corners ≤ RING_CORNERS) (rows_of_keyed all) (numbered parcel.id parcel.shape.ring.corners) short
      (row_of_parcel all key parcel there)

  pub inside_it : (p : Point) → IsInterior p parcel.shape.ring.corners → IsInsideOf (rows_of_keyed all) p parcel.id
  inside_it p inside =
      inside_row p (rows_of_keyed all) parcel.id parcel.shape.ring.corners (row_of_parcel all key parcel there) inside

  pub inside_core : (corner : Corner) → true ≡ holds_corner parcel.shape.core corner
      → IsInsideOf (rows_of_keyed all) (corner_point corner) parcel.id
  inside_core corner held =
      inside_it (corner_point corner) (parcel.shape.cored corner ((Decides-holds_corner parcel.shape.core corner).0 (sym held)))
