-- Convex sets of rational points: blends of points, and half planes.
use Rattle.std.proofs.Common.{◌≡◌, refl, ◌∙◌, ap, arith, [], ◌∷◌}
use Rattle.std.proofs.lemmas.Int.{ints, by_lt_z}
use lib.IntN.{ℤ, pos, ◌+ℤ◌, ◌-ℤ◌, ◌*ℤ◌}
use lib.Signed.{◌<ℤ◌, ◌≤ℤ◌}
use Rattle.geo_exact.specs.declared.corner.Corner.{Corner}
use Rattle.geo_exact.specs.Point.{Point}
use Rattle.geo_exact.specs.Turn.{turn_at}
use Rattle.geo_exact.proofs.numbers.Signs.{mul_pos, mul_not_neg}
use Rattle.geo_exact.proofs.numbers.Polynomials.{Expr, var, add, mul, sub, same_by}

-- s is k p + l q + m r with no negative coefficient, in homogeneous coordinates: a place in the triangle of p, q and r
pub record IsBlend (s p q r : Point) (k l m : ℤ) : Type 0 where
  pub first : pos 0 ≤ℤ k
  pub second : pos 0 ≤ℤ l
  pub third : pos 0 ≤ℤ m
  pub x : s.x ≡ k *ℤ p.x +ℤ l *ℤ q.x +ℤ m *ℤ r.x
  pub y : s.y ≡ k *ℤ p.y +ℤ l *ℤ q.y +ℤ m *ℤ r.y
  pub d : s.d ≡ k *ℤ p.d +ℤ l *ℤ q.d +ℤ m *ℤ r.d

-- with three points the set has each of their blends
abbrev pub IsConvex : (Point → Type 0) → Type 0
IsConvex P = (s p q r : Point) (k l m : ℤ) → IsBlend s p q r k l m → P p → P q → P r → P s

-- a sum of products in which no factor is negative, and all second ones are positive, has the sign of its first factors
pub blend_positive : (k l m a b c u v w : ℤ) → pos 0 ≤ℤ k → pos 0 ≤ℤ l → pos 0 ≤ℤ m
    → pos 0 <ℤ (k *ℤ u +ℤ l *ℤ v +ℤ m *ℤ w) → pos 0 <ℤ a → pos 0 <ℤ b → pos 0 <ℤ c
    → pos 0 <ℤ (k *ℤ a +ℤ l *ℤ b +ℤ m *ℤ c)
blend_positive k l m a b c u v w hk hl hm h ha hb hc =
    let not_neg : (z t : ℤ) → pos 0 ≤ℤ z → pos 0 <ℤ t → pos 0 ≤ℤ (z *ℤ t) =
    λ z t i j. mul_not_neg z t i (omega (arith, ints)) in
    by_lt_z (pos 0) k
    (λ p. omega (arith, ints, mul_pos k a p ha, not_neg l b hl hb, not_neg m c hm hc))
    (λ p. by_lt_z (pos 0) l
    (λ q. omega (arith, ints, mul_pos l b q hb, not_neg k a hk ha, not_neg m c hm hc))
    (λ q. by_lt_z (pos 0) m
    (λ r. omega (arith, ints, mul_pos m c r hc, not_neg k a hk ha, not_neg l b hl hb))
    (λ r. let ek : k ≡ pos 0 = omega (arith, ints) in
    let el : l ≡ pos 0 = omega (arith, ints) in
    let em : m ≡ pos 0 = omega (arith, ints) in
    absurd (omega (arith, ints, rw (ek, el, em) at h)))))

-- a turn as a polynomial in homogeneous coordinates
abbrev form : ℤ → ℤ → ℤ → ℤ → ℤ → ℤ → ℤ → ℤ
form ax ay bx by x y d = (bx -ℤ ax) *ℤ (y -ℤ ay *ℤ d) -ℤ (by -ℤ ay) *ℤ (x -ℤ ax *ℤ d)

abbrev form_expr : Expr → Expr → Expr → Expr
form_expr x y d = sub (mul (sub (var 2) (var 0)) (sub y (mul (var 1) d))) (mul (sub (var 3) (var 1)) (sub x (mul (var 0) d)))

abbrev sum_expr : Expr → Expr → Expr → Expr
sum_expr p q r = add (add (mul (var 4) p) (mul (var 5) q)) (mul (var 6) r)

form_blend : (ax ay bx by k l m px py pd qx qy qd rx ry rd : ℤ)
    → form ax ay bx by (k *ℤ px +ℤ l *ℤ qx +ℤ m *ℤ rx) (k *ℤ py +ℤ l *ℤ qy +ℤ m *ℤ ry) (k *ℤ pd +ℤ l *ℤ qd
    +ℤ m *ℤ rd)
    ≡ k *ℤ form ax ay bx by px py pd +ℤ l *ℤ form ax ay bx by qx qy qd +ℤ m *ℤ form ax ay bx by rx ry rd
form_blend ax ay bx by k l m px py pd qx qy qd rx ry rd =
    same_by (ax ∷ ay ∷ bx ∷ by ∷ k ∷ l ∷ m ∷ px ∷ py ∷ pd ∷ qx ∷ qy ∷ qd ∷ rx ∷ ry ∷ rd ∷ [])
    (form_expr (sum_expr (var 7) (var 10) (var 13)) (sum_expr (var 8) (var 11) (var 14)) (sum_expr (var 9) (var 12) (var 15)))
    (sum_expr (form_expr (var 7) (var 8) (var 9)) (form_expr (var 10) (var 11) (var 12)) (form_expr (var 13) (var 14) (var 15)))
    refl

-- turns are linear over blends
pub turn_at_blend : (a b : Corner) (s p q r : Point) (k l m : ℤ) → IsBlend s p q r k l m
    → turn_at a b s ≡ k *ℤ turn_at a b p +ℤ l *ℤ turn_at a b q +ℤ m *ℤ turn_at a b r
turn_at_blend a b s p q r k l m h =
    ap (λ z. form a.x a.y b.x b.y z s.y s.d) h.x
    ∙ ap (λ z. form a.x a.y b.x b.y (k *ℤ p.x +ℤ l *ℤ q.x +ℤ m *ℤ r.x) z s.d) h.y
    ∙ ap (λ z. form a.x a.y b.x b.y (k *ℤ p.x +ℤ l *ℤ q.x +ℤ m *ℤ r.x) (k *ℤ p.y +ℤ l *ℤ q.y +ℤ m *ℤ r.y) z) h.d
    ∙ form_blend a.x a.y b.x b.y k l m p.x p.y p.d q.x q.y q.d r.x r.y r.d

-- p is left of the way from a to b
abbrev pub IsLeft : Corner → Corner → Point → Type 0
IsLeft a b p = pos 0 <ℤ turn_at a b p

pub left_convex : (a b : Corner) → IsConvex (IsLeft a b)
left_convex a b s p q r k l m h hp hq hr =
    let positive : pos 0 <ℤ (k *ℤ p.d +ℤ l *ℤ q.d +ℤ m *ℤ r.d) = rw (← h.d) s.d_positive in
    rw (turn_at_blend a b s p q r k l m h)
    (blend_positive k l m (turn_at a b p) (turn_at a b q) (turn_at a b r) p.d q.d r.d h.first h.second h.third positive hp hq hr)

pub both_convex : (P Q : Point → Type 0) → IsConvex P → IsConvex Q → IsConvex (λ p. P p × Q p)
both_convex P Q hP hQ s p q r k l m h hp hq hr = (hP s p q r k l m h hp.0 hq.0 hr.0, hQ s p q r k l m h hp.1 hq.1 hr.1)

pub three_convex : (P Q R : Point → Type 0) → IsConvex P → IsConvex Q → IsConvex R → IsConvex (λ p. P p × Q p × R p)
three_convex P Q R hP hQ hR s p q r k l m h hp hq hr =
    (hP s p q r k l m h hp.0 hq.0 hr.0, hQ s p q r k l m h hp.1 hq.1 hr.1, hR s p q r k l m h hp.2 hq.2 hr.2)
