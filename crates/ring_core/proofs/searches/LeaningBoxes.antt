-- What lies beyond a side of a leaning box is no corner that the box holds.
use Rattle.std.proofs.Common.{◌≡◌, arith, refl, [], ◌∷◌}
use Rattle.std.proofs.lemmas.Int.{ints}
use lib.IntN.{ℤ, pos, ◌+ℤ◌, ◌-ℤ◌, ◌*ℤ◌}
use lib.Signed.{◌<ℤ◌, ◌≤ℤ◌}
use Rattle.geo_exact.specs.declared.corner.Corner.{Corner}
use Rattle.geo_exact.specs.Turn.{turn}
use Rattle.geo_exact.proofs.numbers.Polynomials.{Expr, var, lit, add, mul, sub, same_by}
use Rattle.geo_exact.proofs.corners_and_turns.TurnLaws.{turn_expr}
use Rattle.ring_core.specs.declared.triangle.Tri.{Tri}
use Rattle.ring_core.specs.Clipping.{IsInTriangle}
use Rattle.ring_core.proofs.clipping.HeldInside.{mean_above, mean_below}
use Rattle.ring_core.proofs.ears.PutBack.{turn_parts}

pub one_more : (l t : ℤ) → l <ℤ t → (l +ℤ pos 1) ≤ℤ t
one_more l t h = omega (arith, ints)

pub below_itself : (l t : ℤ) → l ≤ℤ t → t ≤ℤ (l -ℤ pos 1) → ⊥
below_itself l t h k = omega (arith, ints)

pub above_itself : (l t : ℤ) → t ≤ℤ l → (l +ℤ pos 1) ≤ℤ t → ⊥
above_itself l t h k = omega (arith, ints)

-- ---- a triangle whose corners are all beyond a parallel of a line is beyond it
abbrev turned : Expr → Expr → Expr
turned x y = turn_expr (var 0) (var 1) (var 2) (var 3) x y

weighed_turn : (f t a b c q : Corner)
    → turn b c q *ℤ (turn f t a -ℤ turn f t q) +ℤ turn c a q *ℤ (turn f t b -ℤ turn f t q) +ℤ turn a b q *ℤ
    (turn f t c -ℤ turn f t q) ≡ pos 0
weighed_turn f t a b c q =
    same_by (f.x ∷ f.y ∷ t.x ∷ t.y ∷ a.x ∷ a.y ∷ b.x ∷ b.y ∷ c.x ∷ c.y ∷ q.x ∷ q.y ∷ [])
    (add
    (add
    (mul (turn_expr (var 6) (var 7) (var 8) (var 9) (var 10) (var 11)) (sub (turned (var 4) (var 5)) (turned (var 10) (var 11))))
    (mul (turn_expr (var 8) (var 9) (var 4) (var 5) (var 10) (var 11)) (sub (turned (var 6) (var 7)) (turned (var 10) (var 11)))))
    (mul (turn_expr (var 4) (var 5) (var 6) (var 7) (var 10) (var 11)) (sub (turned (var 8) (var 9)) (turned (var 10) (var 11)))))
    (lit (pos 0))
    refl

module _ (f t : Corner) (triangle : Tri) (q : Corner) (h : IsInTriangle q triangle.a triangle.b triangle.c) where
  some_weight : pos 0 <ℤ (turn triangle.b triangle.c q +ℤ turn triangle.c triangle.a q +ℤ turn triangle.a triangle.b q)
  some_weight = rw (turn_parts triangle.a triangle.b triangle.c q) triangle.turns_left

  pub turns_below : (high : ℤ) → turn f t triangle.a ≤ℤ high → turn f t triangle.b ≤ℤ high
      → turn f t triangle.c ≤ℤ high → turn f t q ≤ℤ high
  turns_below high =
      mean_below (turn triangle.b triangle.c q) (turn triangle.c triangle.a q) (turn triangle.a triangle.b q)
      (turn f t triangle.a) (turn f t triangle.b) (turn f t triangle.c) (turn f t q) h.along_bc h.along_ca h.along_ab some_weight
      (weighed_turn f t triangle.a triangle.b triangle.c q) high

  pub turns_above : (low : ℤ) → low ≤ℤ turn f t triangle.a → low ≤ℤ turn f t triangle.b → low ≤ℤ turn f t triangle.c
      → low ≤ℤ turn f t q
  turns_above low =
      mean_above (turn triangle.b triangle.c q) (turn triangle.c triangle.a q) (turn triangle.a triangle.b q)
      (turn f t triangle.a) (turn f t triangle.b) (turn f t triangle.c) (turn f t q) h.along_bc h.along_ca h.along_ab some_weight
      (weighed_turn f t triangle.a triangle.b triangle.c q) low
