-- Where a point lies among parcels: in the interior of one, on the boundary of some, or outside of
-- all (OGC 06-103r4, 6.1.11, Polygon, for interior and boundary). It is said over all rows; a row is
-- a parcel's ring under the parcel's id.
use Rattle.std.specs.Prelude.{◌≡◌, ◌≢◌, ◌↔◌, ℕ, List, []}
use Rattle.std.specs.List.{Contains}
use Rattle.std.specs.List.Sorted.{IsStrictlyIncreasing}
use Rattle.geo_exact.specs.Point.{Point}
use Rattle.geo_exact.specs.Turn.{IsOnRing}
use Rattle.geo_exact.specs.Winding.{IsInterior}
use Rattle.geo_exact.specs.Layers.{NumberedRing}
use Rattle.fabric_core.specs.declared.locate.At.{At}
use Rattle.fabric_core.specs.declared.locate.At.TheVariants.{Inside, OnEdge, Outside}

-- p lies on an edge of the parcel with this id
pub record IsOnEdgeOf (rows : List NumberedRing) (p : Point) (id : ℕ) : Type 0 where
  pub row : NumberedRing
  pub is_row : Contains rows row
  pub has_id : row.number ≡ id
  pub is_on_edge : IsOnRing p row.corners

-- p lies inside the parcel with this id
pub record IsInsideOf (rows : List NumberedRing) (p : Point) (id : ℕ) : Type 0 where
  pub row : NumberedRing
  pub is_row : Contains rows row
  pub has_id : row.number ≡ id
  pub is_inside : IsInterior p row.corners

-- these are the ids of all parcels on whose edges p lies, ascending, each once
pub record AreAllOnEdge (rows : List NumberedRing) (p : Point) (ids : List ℕ) : Type 0 where
  pub ascend : IsStrictlyIncreasing ids
  pub exactly : (id : ℕ) → Contains ids id ↔ IsOnEdgeOf rows p id

-- p lies inside exactly one parcel, and on no parcel's edge: what the law says of a point of the city off all edges
pub record IsInsideOneOnly (rows : List NumberedRing) (p : Point) : Type 0 where
  pub id : ℕ
  pub is_inside : IsInsideOf rows p id
  pub no_other : (other : ℕ) → IsInsideOf rows p other → other ≡ id
  pub no_edge : (other : ℕ) → ¬ IsOnEdgeOf rows p other

-- on edges, where p lies on any: of all parcels that have it there; else inside one that has it inside (in a tiling
-- there is no other); else outside
abbrev pub IsLocatedAt : {A : Type 0} → List NumberedRing → Point → At A → Type 0
IsLocatedAt rows p (OnEdge ids) = AreAllOnEdge rows p ids.items × (ids.items ≢ [])
IsLocatedAt rows p (Inside id) = AreAllOnEdge rows p [] × IsInsideOf rows p id
IsLocatedAt rows p Outside = AreAllOnEdge rows p [] × ((id : ℕ) → ¬ IsInsideOf rows p id)
