-- What a common point of two edges says of the turns and the boxes of their ends.
use Rattle.std.proofs.Common.{◌≡◌, ◌⊎◌, ◌∙◌, ap, arith, inl, inr}
use Rattle.std.proofs.lemmas.Int.{ints, by_lt_z}
use Rattle.std.specs.Int.{int_min, int_max}
use lib.IntN.{ℤ, pos, ◌*ℤ◌, neg_ℤ}
use lib.Signed.{◌<ℤ◌, ◌≤ℤ◌}
use Rattle.geo_exact.specs.declared.corner.Corner.{Corner}
use Rattle.geo_exact.specs.Point.{Point}
use Rattle.geo_exact.specs.Bounds.{RangesMeet}
use Rattle.geo_exact.specs.Turn.{turn, turn_at, IsOnEdge}
use Rattle.geo_exact.proofs.numbers.Signs.{mul_lt}
use Rattle.geo_exact.proofs.corners_and_turns.TurnLaws.{turn_at_back, turn_swap}
use Rattle.geo_exact.proofs.numbers.Orders.{positive_not_zero}
use Rattle.leaning_boxes.proofs.Parallels.{left_of_line}

-- the ends of the edge from c to d are both left of the way from a to b, or both right of it
abbrev pub AreOneSide : Corner → Corner → Corner → Corner → Type 0
AreOneSide a b c d = ((pos 0 <ℤ turn a b c) × (pos 0 <ℤ turn a b d)) ⊎ ((turn a b c <ℤ pos 0) × (turn a b d <ℤ pos 0))

pub not_one_side : (a b c d : Corner) (p : Point) → IsOnEdge p a b → IsOnEdge p c d → AreOneSide a b c d → ⊥
not_one_side a b c d p h k s =
    elim s [
      | inl q ↦ positive_not_zero (turn_at a b p) (left_of_line a b c d p k q.0 q.1) h.on_line
      | inr q ↦ let left_c = turned (turn b a c) (turn a b c) (turn_swap a b c) q.0 in
          let left_d = turned (turn b a d) (turn a b d) (turn_swap a b d) q.1 in
          positive_not_zero (turn_at b a p) (left_of_line b a c d p k left_c left_d) (turn_at_back a b p ∙ ap neg_ℤ h.on_line)
    ]
  where
    turned : (t s : ℤ) → t ≡ neg_ℤ s → s <ℤ pos 0 → pos 0 <ℤ t
    turned t s e g = omega (arith, ints)

le_cancel : (u v d : ℤ) → pos 0 <ℤ d → (u *ℤ d) ≤ℤ (v *ℤ d) → u ≤ℤ v
le_cancel u v d h k = by_lt_z v u (λ q. absurd (omega (arith, ints, mul_lt v u d h q))) (λ q. q)

overlap : (u v s t d w : ℤ) → pos 0 <ℤ d → (int_min u v *ℤ d) ≤ℤ w → w ≤ℤ (int_max u v *ℤ d)
    → (int_min s t *ℤ d) ≤ℤ w → w ≤ℤ (int_max s t *ℤ d)
    → RangesMeet u v s t
overlap u v s t d w h a b c e =
    (le_cancel (int_min u v) (int_max s t) d h (omega (arith, ints)), le_cancel (int_min s t) (int_max u v) d h (omega (arith, ints)))

pub boxes_overlap : (a b c d : Corner) (p : Point) → IsOnEdge p a b → IsOnEdge p c d → RangesMeet a.x b.x c.x d.x
    × RangesMeet a.y b.y c.y d.y
boxes_overlap a b c d p h k = (
  overlap a.x b.x c.x d.x p.d p.x p.d_positive h.from_x h.to_x k.from_x k.to_x,
  overlap a.y b.y c.y d.y p.d p.y p.d_positive h.from_y h.to_y k.from_y k.to_y,
)
