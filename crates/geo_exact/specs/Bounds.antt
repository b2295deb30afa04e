-- Boxes with sides along the axes (OGC 06-103r4, 6.1.2.2, Envelope: the least such box of a figure).
use Rattle.std.specs.Prelude.{◌⊎◌, ℤ, ◌*ℤ◌, ◌<ℤ◌, ◌≤ℤ◌, int_le, Bool, ◌&&◌, List}
use Rattle.std.specs.Int.{int_min, int_max}
use Rattle.std.specs.List.{All}
use Rattle.geo_exact.specs.declared.corner.Corner.{Corner}
use Rattle.geo_exact.specs.declared.bounds.Bounds.{Bounds}
use Rattle.geo_exact.specs.Point.{Point}

-- the box holds the corner, its sides included
pub record HoldsCorner (box : Bounds) (corner : Corner) : Type 0 where
  pub west : box.low.x ≤ℤ corner.x
  pub east : corner.x ≤ℤ box.high.x
  pub south : box.low.y ≤ℤ corner.y
  pub north : corner.y ≤ℤ box.high.y

-- z is at least u and at most v
abbrev pub is_from_to : ℤ → ℤ → ℤ → Bool
is_from_to u v z = int_le u z && int_le z v

-- the test of `HoldsCorner`
abbrev pub holds_corner : Bounds → Corner → Bool
holds_corner box corner = is_from_to box.low.x box.high.x corner.x && is_from_to box.low.y box.high.y corner.y

-- p is inside the box, on none of its sides
pub record IsInsideBox (p : Point) (box : Bounds) : Type 0 where
  pub west : (box.low.x *ℤ p.d) <ℤ p.x
  pub east : p.x <ℤ (box.high.x *ℤ p.d)
  pub south : (box.low.y *ℤ p.d) <ℤ p.y
  pub north : p.y <ℤ (box.high.y *ℤ p.d)

-- p is beyond a side of the box, and not on it
abbrev pub IsBeyondBox : Point → Bounds → Type 0
IsBeyondBox p box =
    (p.x <ℤ (box.low.x *ℤ p.d)) ⊎ ((box.high.x *ℤ p.d) <ℤ p.x) ⊎ (p.y <ℤ (box.low.y *ℤ p.d))
    ⊎ ((box.high.y *ℤ p.d) <ℤ p.y)

-- the box has no inner point: in x or in y it ends where it begins, or before
abbrev pub IsEmptyBox : Bounds → Type 0
IsEmptyBox box = (box.high.x ≤ℤ box.low.x) ⊎ (box.high.y ≤ℤ box.low.y)

-- of the ranges from u to v and from s to t one ends at the other's beginning or before it
abbrev pub EndsBefore : (u v s t : ℤ) → Type 0
EndsBefore u v s t = (v ≤ℤ s) ⊎ (t ≤ℤ u)

-- in x or in y one of the boxes ends where the other begins, or before: then nothing is inside both
abbrev pub BoxesAreApart : Bounds → Bounds → Type 0
BoxesAreApart s t = EndsBefore s.low.x s.high.x t.low.x t.high.x ⊎ EndsBefore s.low.y s.high.y t.low.y t.high.y

-- the range from s to t lies in the one from u to v
abbrev pub LiesBetween : (u v s t : ℤ) → Type 0
LiesBetween u v s t = (u ≤ℤ s) × (t ≤ℤ v)

-- the second box reaches as far as the first on each side
abbrev pub IsWider : Bounds → Bounds → Type 0
IsWider box wider = LiesBetween wider.low.x wider.high.x box.low.x box.high.x
    × LiesBetween wider.low.y wider.high.y box.low.y box.high.y

-- the least box of the corners: it holds them all, and every box that does reaches as far
pub record IsLeastBox (box : Bounds) (corners : List Corner) : Type 0 where
  pub holds : All (HoldsCorner box) corners
  pub is_least : (other : Bounds) → All (HoldsCorner other) corners → IsWider box other

-- a number lies both between u and v and between s and t, in either order, all ends included
abbrev pub RangesMeet : (u v s t : ℤ) → Type 0
RangesMeet u v s t = (int_min u v ≤ℤ int_max s t) × (int_min s t ≤ℤ int_max u v)

-- the boxes of the edges a b and c d have a common point, their sides included
abbrev pub EdgeBoxesMeet : (a b c d : Corner) → Type 0
EdgeBoxesMeet a b c d = RangesMeet a.x b.x c.x d.x × RangesMeet a.y b.y c.y d.y
