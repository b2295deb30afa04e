-- Corners of a ring in order along an axis: what the code of the clipping looks through for a witness. Public contracts
-- do not speak of it.
use Rattle.std.specs.Prelude.{◌≡◌, ℕ, ℤ, pos, ◌+ℤ◌, ◌^◌, ◌<◌, List, length, slice_index_or}
use Rattle.std.specs.List.{Contains}
use Rattle.std.specs.List.Sorted.{IsNonDecreasingBy}
use Rattle.geo_exact.specs.declared.bounds.Bounds.{Bounds}
use Rattle.geo_exact.specs.declared.corner.Corner.{Corner}
use Rattle.geo_exact.specs.Bounds.{HoldsCorner}
use Rattle.geo_exact.specs.Places.{corner_at}
use Rattle.ring_core.specs.declared.blocks.Span.{Span}
use Rattle.ring_core.specs.declared.sorted.Axis.{Axis}
use Rattle.ring_core.specs.declared.sorted.Axis.TheVariants.{X, Y}
use Rattle.ring_core.specs.declared.sorted.Listed.{Listed}
use Rattle.ring_core.specs.own.Blocks.{IsInSpan}

-- a corner's coordinate along the axis
abbrev pub along : Axis → Corner → ℤ
along X corner = corner.x
along Y corner = corner.y

-- the key rises with the coordinate along the axis, and is 0 at the least that 64 bits have
abbrev pub IsKey : Axis → Corner → ℕ → Type 0
IsKey axis corner key = pos key ≡ along axis corner +ℤ pos (2 ^ 63)

-- what is listed is corner j, with its number, under its key along the axis
pub record IsListed (axis : Axis) (corners : List Corner) (numbers : List ℕ) (j : ℕ) (it : Listed) : Type 0 where
  pub key : IsKey axis (corner_at corners j) it.key
  pub corner : it.corner ≡ corner_at corners j
  pub number : it.number ≡ slice_index_or numbers j 0

-- corner j is listed at place i
abbrev pub IsListedAt : Axis → List Corner → List ℕ → ℕ → List Listed → ℕ → Type 0
IsListedAt axis corners numbers j list i = (d : Listed) → IsListed axis corners numbers j (slice_index_or list i d)

-- the first n corners are listed
abbrev pub AreListedSoFar : Axis → List Corner → List ℕ → ℕ → List Listed → Type 0
AreListedSoFar axis corners numbers n list = (j : ℕ) → j < n
    → (it : Listed) × Contains list it × IsListed axis corners numbers j it

-- all corners are listed, in order along the axis
pub record AreListed (axis : Axis) (corners : List Corner) (numbers : List ℕ) (list : List Listed) : Type 0 where
  pub sorted : IsNonDecreasingBy (λ it. it.key) list
  pub each : AreListedSoFar axis corners numbers (length corners) list

-- all are, or none is
abbrev pub AreListedOrNone : Axis → List Corner → List ℕ → List Listed → Type 0
AreListedOrNone axis corners numbers list = 0 < length list → AreListed axis corners numbers list

-- along each axis all are, or none is
pub record AreSortedOrNone (corners : List Corner) (numbers : List ℕ)
    (from_west from_south : List Listed) : Type 0 where
  pub by_x : AreListedOrNone X corners numbers from_west
  pub by_y : AreListedOrNone Y corners numbers from_south

-- what is listed of a corner that the box holds stands in the span
abbrev pub HasHeld : Axis → Bounds → List Listed → Span → Type 0
HasHeld axis box list span = (corner : Corner) (i : ℕ) (d : Listed) → i < length list
    → IsKey axis corner (slice_index_or list i d).key → HoldsCorner box corner → IsInSpan i span
