-- Rational points at one place, with different denominators: turns do not tell them apart.
use Rattle.std.proofs.Common.{◌≡◌, refl, arith, [], ◌∷◌}
use Rattle.std.proofs.lemmas.Int.{ints}
use lib.IntN.{ℤ, pos, ◌-ℤ◌, ◌*ℤ◌}
use Rattle.geo_exact.specs.declared.corner.Corner.{Corner}
use Rattle.geo_exact.specs.Point.{Point}
use Rattle.geo_exact.specs.Turn.{turn_at}
use Rattle.geo_exact.proofs.numbers.Polynomials.{var, add, mul, neg, same_by}
use Rattle.geo_exact.proofs.corners_and_turns.TurnLaws.{turn_at_expr}

-- p and q are one place
pub record IsSamePlace (p q : Point) : Type 0 where
  pub same_x : p.x *ℤ q.d ≡ q.x *ℤ p.d
  pub same_y : p.y *ℤ q.d ≡ q.y *ℤ p.d

-- q.d times the turn at p, less p.d times the turn at q
turns_differ : (a b : Corner) (p q : Point)
    → q.d *ℤ turn_at a b p -ℤ p.d *ℤ turn_at a b q ≡ (b.x -ℤ a.x) *ℤ (p.y *ℤ q.d -ℤ q.y *ℤ p.d) -ℤ (b.y -ℤ a.y) *ℤ
    (p.x *ℤ q.d -ℤ q.x *ℤ p.d)
turns_differ a b p q =
    same_by (a.x ∷ a.y ∷ b.x ∷ b.y ∷ p.x ∷ p.y ∷ p.d ∷ q.x ∷ q.y ∷ q.d ∷ [])
    (add
    (mul (var 9) (turn_at_expr (var 0) (var 1) (var 2) (var 3) (var 4) (var 5) (var 6)))
    (neg (mul (var 6) (turn_at_expr (var 0) (var 1) (var 2) (var 3) (var 7) (var 8) (var 9)))))
    (add
    (mul (add (var 2) (neg (var 0))) (add (mul (var 5) (var 9)) (neg (mul (var 8) (var 6)))))
    (neg (mul (add (var 3) (neg (var 1))) (add (mul (var 4) (var 9)) (neg (mul (var 7) (var 6)))))))
    refl

cancelled : (s t k l y z : ℤ) → s -ℤ t ≡ k *ℤ y -ℤ l *ℤ z → y ≡ pos 0 → z ≡ pos 0 → s ≡ t
cancelled s t k l y z e i j = omega (arith, ints, rw (i, j) at e)

difference : (u v : ℤ) → u ≡ v → u -ℤ v ≡ pos 0
difference u v e = omega (arith, ints)

pub turn_at_place : (a b : Corner) (p q : Point) → IsSamePlace p q → q.d *ℤ turn_at a b p ≡ p.d *ℤ turn_at a b q
turn_at_place a b p q h =
    cancelled (q.d *ℤ turn_at a b p) (p.d *ℤ turn_at a b q) (b.x -ℤ a.x) (b.y -ℤ a.y) (p.y *ℤ q.d -ℤ q.y *ℤ p.d)
    (p.x *ℤ q.d -ℤ q.x *ℤ p.d)
    (turns_differ a b p q) (difference (p.y *ℤ q.d) (q.y *ℤ p.d) h.same_y) (difference (p.x *ℤ q.d) (q.x *ℤ p.d) h.same_x)
