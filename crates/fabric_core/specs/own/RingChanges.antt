-- What an edit does to each ring that has an edge, or a corner. Public contracts do not speak of it.
use Rattle.std.specs.Prelude.{◌≡◌, ◌≢◌, ⊤, ℕ, Bool, if◌then◌else◌, List, map}
use Rattle.std.specs.List.{AllByRecursion, filter}
use Rattle.geo_exact.specs.declared.corner.Corner.{Corner}
use Rattle.geo_exact.specs.Layers.{NumberedRing, numbered}
use Rattle.geo_exact.specs.Segments.{IsStrictlyInside}
use Rattle.ring_core.specs.declared.shape.Shape.{Shape}
use Rattle.ring_edits.specs.declared.edit.Edit.{Edit}
use Rattle.ring_edits.specs.declared.edit.Edit.TheVariants.{Insert, Straighten}
use Rattle.ring_edits.specs.Edits.{has_edge_between, put_between, with_corner, has_corner, without_corner, straightened}
use Rattle.ring_edits.specs.Edits.{BendsAt}
use Rattle.fabric_core.specs.declared.ring_change.RingChange.{RingChange}
use Rattle.fabric_core.specs.declared.ring_change.RingChange.TheVariants.{PutIn, TakeOut}
use Rattle.fabric_core.specs.Rows.{numbers}
use Rattle.fabric_core.specs.Journal.{State}

-- the edit that makes this change
abbrev pub edit_of : {A : Type 0} → RingChange → Edit A
edit_of (PutIn from to at) = Insert from to at
edit_of (TakeOut at) = Straighten at

-- a corner is put between two corners that are not one
abbrev pub HasTwoEnds : RingChange → Type 0
HasTwoEnds (PutIn from to at) = from ≢ to
HasTwoEnds (TakeOut at) = ⊤

-- a corner that each ring has which is changed
abbrev pub corner_of : RingChange → Corner
corner_of (PutIn from to at) = from
corner_of (TakeOut at) = at

-- the ring is changed
abbrev pub is_changed : RingChange → List Corner → Bool
is_changed (PutIn from to at) ring = has_edge_between from to ring
is_changed (TakeOut at) ring = has_corner at ring

-- a parcel's ring after the change, and the city's
abbrev pub changed_ring : RingChange → List Corner → List Corner
changed_ring (PutIn from to at) ring = with_corner from to at ring
changed_ring (TakeOut at) ring = straightened at ring

abbrev pub changed_city : RingChange → List Corner → List Corner
changed_city (PutIn from to at) ring = put_between from to at ring
changed_city (TakeOut at) ring = without_corner at ring

-- the change leaves the ring's ground as it is
abbrev pub KeepsGround : RingChange → List Corner → Type 0
KeepsGround (PutIn from to at) ring = IsStrictlyInside at from to
KeepsGround (TakeOut at) ring = ¬ BendsAt at ring

-- the rows that are changed, and a row after the change, where its ring is one
-- that is changed, and where it may be none
abbrev pub rows_changed : RingChange → List NumberedRing → List NumberedRing
rows_changed change rows = filter (λ row. is_changed change row.corners) rows

abbrev pub renewed : RingChange → NumberedRing → NumberedRing
renewed change row = numbered row.number (changed_ring change row.corners)

abbrev pub changed_row : RingChange → NumberedRing → NumberedRing
changed_row change row = if is_changed change row.corners then renewed change row else row

-- shapes of the rings that are changed, after the change
abbrev pub AreShapesOf : {A : Type 0} → RingChange → List NumberedRing → List (Shape A) → Type 0
AreShapesOf change rows shapes =
    map (λ shape. shape.ring.corners) shapes ≡ map (λ row. changed_ring change row.corners) (rows_changed change rows)

-- the change takes these ids out and brings these rows, which have the same ids; no ground is changed
pub record IsRenewalOf (state : State) (change : RingChange) (out : List ℕ) (rows : List NumberedRing) : Type 0 where
  pub two_ends : HasTwoEnds change
  pub ground : AllByRecursion (λ row. KeepsGround change row.corners) state.rows
  pub city_ground : KeepsGround change state.refined
  pub rows_are : rows ≡ map (renewed change) (rows_changed change state.rows)
  pub out_are : out ≡ numbers rows
