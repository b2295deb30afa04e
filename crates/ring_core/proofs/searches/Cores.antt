-- Boxes that a ring does not come into: it goes round all places of one as often.
use Rattle.std.proofs.Common.{◌≡◌, inl, inr, ⊎_elim, subst, arith, List, [], ◌∷◌, ◌⊎◌}
use Rattle.std.proofs.lemmas.Int.{ints}
use lib.IntN.{ℤ, pos, ◌*ℤ◌}
use lib.Signed.{◌≤ℤ◌, ◌<ℤ◌, lt_z}
use Rattle.geo_exact.proofs.numbers.Orders.{Decides-int_lt}
use Rattle.geo_exact.proofs.corners_and_turns.CornerOrder.{cases_of}
use Rattle.geo_exact.specs.declared.bounds.Bounds.{Bounds}
use Rattle.geo_exact.specs.declared.corner.Corner.{Corner}
use Rattle.geo_exact.specs.Bounds.{HoldsCorner, IsBeyondBox}
use Rattle.geo_exact.specs.Point.{Point, corner_point}
use Rattle.geo_exact.specs.Rings.{Edge}
use Rattle.geo_exact.specs.Turn.{IsOnEdge, IsOnSome, IsOnRing}
use Rattle.geo_exact.specs.Winding.{IsInterior}
use Rattle.geo_exact.proofs.numbers.Differences.{times_one}
use Rattle.geo_exact.proofs.numbers.Signs.{mul_lt}
use Rattle.geo_exact.proofs.corners_and_turns.Means.{edge_of_segment}
use Rattle.geo_exact.proofs.rings.Ways.{winding_along}
use Rattle.leaning_boxes.proofs.Besides.{not_beyond}

-- of two ranges of which one ends before the other begins, a number is beyond one
beyond_one : (h l d z : ℤ) → pos 0 <ℤ d → h <ℤ l → (z <ℤ (l *ℤ d)) ⊎ ((h *ℤ d) <ℤ z)
beyond_one h l d z p k = let m = mul_lt h l d p k in elim (cases_of (lt_z z (l *ℤ d)) (Decides-int_lt z (l *ℤ d))) [
  | inl q ↦ inl q
  | inr q ↦ inr (omega (arith, ints, q, m))
]

-- of two boxes of which one ends before the other begins, a point is beyond one
pub apart_across : (one other : Bounds) (p : Point) → one.high.x <ℤ other.low.x → IsBeyondBox p one ⊎ IsBeyondBox p other
apart_across one other p h = elim (beyond_one one.high.x other.low.x p.d p.x p.d_positive h) [
  | inl q ↦ inr (inl q)
  | inr q ↦ inl (inr (inl q))
]

pub apart_up : (one other : Bounds) (p : Point) → one.high.y <ℤ other.low.y → IsBeyondBox p one ⊎ IsBeyondBox p other
apart_up one other p h = elim (beyond_one one.high.y other.low.y p.d p.y p.d_positive h) [
  | inl q ↦ inr (inr (inr (inl q)))
  | inr q ↦ inl (inr (inr (inr q)))
]

-- a corner in the box is not beyond it
pub held_is_not_beyond : (box : Bounds) (c : Corner) → HoldsCorner box c → IsBeyondBox (corner_point c) box → ⊥
held_is_not_beyond box c h (inl k) = omega (arith, ints, times_one box.low.x, h.west, k)
held_is_not_beyond box c h (inr (inl k)) = omega (arith, ints, times_one box.high.x, h.east, k)
held_is_not_beyond box c h (inr (inr (inl k))) = omega (arith, ints, times_one box.low.y, h.south, k)
held_is_not_beyond box c h (inr (inr (inr k))) = omega (arith, ints, times_one box.high.y, h.north, k)

-- where one corner of a box that a ring does not come into is inside the ring, each is
pub all_inside : (box : Bounds) (ring : List Corner) (a : Corner) → ((p : Point) → IsOnRing p ring → IsBeyondBox p box)
    → HoldsCorner box a → IsInterior (corner_point a) ring → (c : Corner) → HoldsCorner box c → IsInterior (corner_point c) ring
all_inside box ring a missed ha inside c hc = record {
  off_edges = λ on. held_is_not_beyond box c hc (missed (corner_point c) on);
  is_wound = subst (λ z. pos 1 ≤ℤ z)
      (winding_along (corner_point a) (corner_point c) ring
      (λ m way on. not_beyond box a c ha hc m (edge_of_segment a c m way) (missed m on))) inside.is_wound;
}

-- the low corner is in the box where any corner is
pub holds_low : (box : Bounds) (c : Corner) → HoldsCorner box c → HoldsCorner box box.low
holds_low box c h = record {
  west = omega (arith, ints);
  east = omega (arith, ints, h.west, h.east);
  south = omega (arith, ints);
  north = omega (arith, ints, h.south, h.north);
}

-- ---- edge after edge: what is on one of them is beyond the box, or on one of those that are left
pub more_beyond : (box : Bounds) (p : Point) (edge : Edge) (rest es : List Edge) (T : Type 0) → es ≡ edge ∷ rest
    → (IsOnEdge p edge.from edge.to → IsBeyondBox p box) → (T → IsBeyondBox p box ⊎ IsOnSome p es)
    → T → IsBeyondBox p box ⊎ IsOnSome p rest
more_beyond box p edge rest es T e beside so_far t =
    ⊎_elim (λ beyond. inl beyond)
    (λ some. ⊎_elim (λ here. inl (beside here)) (λ later. inr later) (subst (IsOnSome p) e some))
    (so_far t)

pub all_beyond : (box : Bounds) (p : Point) (edge : Edge) (es : List Edge) (T : Type 0) → es ≡ edge ∷ []
    → (IsOnEdge p edge.from edge.to → IsBeyondBox p box) → (T → IsBeyondBox p box ⊎ IsOnSome p es) → T → IsBeyondBox p box
all_beyond box p edge es T e beside so_far t =
    ⊎_elim (λ beyond. beyond)
    (λ some. ⊎_elim (λ here. beside here) (λ none. absurd none) (subst (IsOnSome p) e some))
    (so_far t)
