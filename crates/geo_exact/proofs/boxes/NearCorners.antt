-- A counterclockwise triangle that goes round no place beyond a box lies in the box: near each of its corners are places inside it.
use Rattle.std.proofs.Common.{◌≡◌, ◌*◌, refl, arith, [], ◌∷◌, inl, inr}
use Rattle.std.proofs.lemmas.Int.{ints, by_lt_z}
use lib.IntN.{ℤ, pos, ◌+ℤ◌, ◌*ℤ◌}
use lib.Signed.{◌<ℤ◌, ◌≤ℤ◌}
use Rattle.geo_exact.specs.declared.bounds.Bounds.{Bounds}
use Rattle.geo_exact.specs.declared.corner.Corner.{Corner}
use Rattle.geo_exact.specs.Bounds.{HoldsCorner, IsBeyondBox}
use Rattle.geo_exact.specs.Limit.{IsWithin, limit}
use Rattle.geo_exact.specs.Point.{Point}
use Rattle.geo_exact.specs.Turn.{turn, turn_at}
use Rattle.geo_exact.specs.Winding.{winding}
use Rattle.geo_exact.proofs.numbers.Signs.{mul_pos}
use Rattle.geo_exact.proofs.numbers.Polynomials.{Expr, var, lit, add, mul, same_by}
use Rattle.geo_exact.proofs.corners_and_turns.TurnLaws.{turn_at_expr, turn_expr, turn_cycle}
use Rattle.geo_exact.proofs.rings.Triangles.{triangle_winds_inside}

-- ---- k parts of the corner c to one of each other corner
abbrev near : (k : ℤ) → pos 0 <ℤ (k +ℤ pos 2) → (a b c : Corner) → Point
near k h a b c = record { x = k *ℤ c.x +ℤ a.x +ℤ b.x; y = k *ℤ c.y +ℤ a.y +ℤ b.y; d = k +ℤ pos 2; d_positive = h }

abbrev mean_expr : Expr → Expr → Expr → Expr
mean_expr z u v = add (add (mul (var 6) z) u) v

-- the turn at that place along the edge from one corner to another
abbrev at_near : Expr → Expr → Expr → Expr → Expr
at_near ux uy wx wy =
    turn_at_expr ux uy wx wy (mean_expr (var 4) (var 0) (var 2)) (mean_expr (var 5) (var 1) (var 3)) (add (var 6) (lit (pos 2)))

abbrev whole_turn : Expr
whole_turn = turn_expr (var 0) (var 1) (var 2) (var 3) (var 4) (var 5)

module _ (k : ℤ) (h : pos 0 <ℤ (k +ℤ pos 2)) (a b c : Corner) where
  first_turn : turn_at a b (near k h a b c) ≡ k *ℤ turn a b c
  first_turn =
      same_by (a.x ∷ a.y ∷ b.x ∷ b.y ∷ c.x ∷ c.y ∷ k ∷ []) (at_near (var 0) (var 1) (var 2) (var 3))
      (mul (var 6) whole_turn) refl

  second_turn : turn_at b c (near k h a b c) ≡ turn a b c
  second_turn = same_by (a.x ∷ a.y ∷ b.x ∷ b.y ∷ c.x ∷ c.y ∷ k ∷ []) (at_near (var 2) (var 3) (var 4) (var 5)) whole_turn refl

  third_turn : turn_at c a (near k h a b c) ≡ turn a b c
  third_turn = same_by (a.x ∷ a.y ∷ b.x ∷ b.y ∷ c.x ∷ c.y ∷ k ∷ []) (at_near (var 4) (var 5) (var 0) (var 1)) whole_turn refl

-- ---- so many parts that the place is beyond what the corner is beyond
abbrev parts : ℤ
parts = pos (5 * limit)

low_beyond : (l u v z : ℤ) → IsWithin limit u → IsWithin limit v → IsWithin limit z → z <ℤ l
    → (parts *ℤ z +ℤ u +ℤ v) <ℤ (l *ℤ (parts +ℤ pos 2))
low_beyond l u v z hu hv hz below = omega (arith, ints, hu.low, hu.high, hv.low, hv.high, hz.low, hz.high)

high_beyond : (l u v z : ℤ) → IsWithin limit u → IsWithin limit v → IsWithin limit z → l <ℤ z
    → (l *ℤ (parts +ℤ pos 2)) <ℤ (parts *ℤ z +ℤ u +ℤ v)
high_beyond l u v z hu hv hz above = omega (arith, ints, hu.low, hu.high, hv.low, hv.high, hz.low, hz.high)

by_contradiction : (u v : ℤ) → (v <ℤ u → ⊥) → u ≤ℤ v
by_contradiction u v h = by_lt_z v u (λ p. absurd (h p)) (λ p. p)

not_both : (w : ℤ) → w ≡ pos 0 → w ≡ pos 1 → ⊥
not_both w e f = omega (arith, ints, e, f)

-- the box holds each of the three corners
module _ (box : Bounds) (a b c : Corner) (none : (p : Point) → IsBeyondBox p box → winding p (a ∷ b ∷ c ∷ []) ≡ pos 0) where
  abbrev positive : pos 0 <ℤ (parts +ℤ pos 2)
  positive = record { lt = tt }

  -- a place inside the triangle is not beyond the box
  not_beyond : (p : Point) → pos 0 <ℤ turn a b c → pos 0 <ℤ turn_at a b p → pos 0 <ℤ turn_at b c p
      → pos 0 <ℤ turn_at c a p → ¬ IsBeyondBox p box
  not_beyond p left x y z beyond = not_both (winding p (a ∷ b ∷ c ∷ [])) (none p beyond) (triangle_winds_inside a b c p left x y z)

holds_near : (box : Bounds) (a b c : Corner) → ¬ IsBeyondBox (near parts (record { lt = tt }) a b c) box → HoldsCorner box c
holds_near box a b c not_beyond = record {
  west = by_contradiction box.low.x c.x (λ below.
      not_beyond (inl (low_beyond box.low.x a.x b.x c.x a.x_in_range b.x_in_range c.x_in_range below)));
  east = by_contradiction c.x box.high.x (λ above.
      not_beyond (inr (inl (high_beyond box.high.x a.x b.x c.x a.x_in_range b.x_in_range c.x_in_range above))));
  south = by_contradiction box.low.y c.y (λ below.
      not_beyond (inr (inr (inl (low_beyond box.low.y a.y b.y c.y a.y_in_range b.y_in_range c.y_in_range below)))));
  north = by_contradiction c.y box.high.y (λ above.
      not_beyond (inr (inr (inr (high_beyond box.high.y a.y b.y c.y a.y_in_range b.y_in_range c.y_in_range above)))));
}

more_of : (t : ℤ) → pos 0 <ℤ t → pos 0 <ℤ (parts *ℤ t)
more_of t h = mul_pos parts t (record { lt = tt }) h

-- three turns of one sign, told in another order
module _ (box : Bounds) (a b c : Corner) (left : pos 0 <ℤ turn a b c)
    (none : (p : Point) → IsBeyondBox p box → winding p (a ∷ b ∷ c ∷ []) ≡ pos 0) where
  abbrev whole : pos 0 <ℤ (parts +ℤ pos 2)
  whole = record { lt = tt }

  second_left : pos 0 <ℤ turn b c a
  second_left = rw (turn_cycle a b c) left

  third_left : pos 0 <ℤ turn c a b
  third_left = rw (turn_cycle b c a, turn_cycle a b c) left

  pub holds_third : HoldsCorner box c
  holds_third =
      holds_near box a b c
      (not_beyond box a b c none (near parts whole a b c) left
      (rw (first_turn parts whole a b c) (more_of (turn a b c) left)) (rw (second_turn parts whole a b c) left)
      (rw (third_turn parts whole a b c) left))

  pub holds_first : HoldsCorner box a
  holds_first =
      holds_near box b c a
      (not_beyond box a b c none (near parts whole b c a) left
      (rw (third_turn parts whole b c a) second_left) (rw (first_turn parts whole b c a) (more_of (turn b c a) second_left))
      (rw (second_turn parts whole b c a) second_left))

  pub holds_second : HoldsCorner box b
  holds_second =
      holds_near box c a b
      (not_beyond box a b c none (near parts whole c a b) left
      (rw (second_turn parts whole c a b) third_left) (rw (third_turn parts whole c a b) third_left)
      (rw (first_turn parts whole c a b) (more_of (turn c a b) third_left)))
