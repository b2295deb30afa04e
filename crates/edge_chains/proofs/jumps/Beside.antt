-- Points close beside an edge and close to its start: so close that each turn there has the sign of the first of
-- three whole numbers that is not 0.
use Rattle.std.proofs.Common.{◌≡◌, ◌≢◌, ◌⊎◌, inl, inr, refl, sym, subst, arith, ℕ, ◌+◌, ◌*◌, ℤ, pos}
use Rattle.std.proofs.Common.{◌+ℤ◌, ◌-ℤ◌, ◌*ℤ◌, [], ◌∷◌}
use Rattle.std.proofs.lemmas.Int.{ints, by_lt_z}
use lib.Signed.{◌<ℤ◌, ◌≤ℤ◌}
use Rattle.geo_exact.specs.declared.corner.Corner.{Corner}
use Rattle.geo_exact.specs.Limit.{IsWithin, limit}
use Rattle.geo_exact.specs.Point.{Point}
use Rattle.geo_exact.specs.Turn.{turn, turn_at}
use Rattle.geo_exact.proofs.numbers.Polynomials.{var, add, mul, sub, same_by}
use Rattle.geo_exact.proofs.corners_and_turns.TurnLaws.{turn_expr}
use Rattle.geo_exact.proofs.numbers.Within.{product_within}

-- the denominator, and how much of it is one step along the edge: more than any sum of what comes behind
abbrev pub whole : ℤ
whole = pos ((8 * (limit * limit) + 1) * (2 * limit + 1))

abbrev pub step : ℤ
step = pos (2 * limit + 1)

-- the point one step from a towards b, moved by (ex, ey) of the denominator
abbrev pub near : Corner → Corner → ℤ → ℤ → Point
near a b ex ey = record {
  x = a.x *ℤ whole +ℤ (b.x -ℤ a.x) *ℤ step +ℤ ex;
  y = a.y *ℤ whole +ℤ (b.y -ℤ a.y) *ℤ step +ℤ ey;
  d = whole;
  d_positive = record { lt = tt };
}

-- how the directions of u v and a b turn
abbrev pub cross : Corner → Corner → Corner → Corner → ℤ
cross u v a b = (v.x -ℤ u.x) *ℤ (b.y -ℤ a.y) -ℤ (v.y -ℤ u.y) *ℤ (b.x -ℤ a.x)

-- and those of u v and (ex, ey)
abbrev pub push : Corner → Corner → ℤ → ℤ → ℤ
push u v ex ey = (v.x -ℤ u.x) *ℤ ey -ℤ (v.y -ℤ u.y) *ℤ ex

turn_near' : (ux uy vx vy ax ay bx by ex ey big mid : ℤ)
    → (vx -ℤ ux) *ℤ ((ay *ℤ big +ℤ (by -ℤ ay) *ℤ mid +ℤ ey) -ℤ uy *ℤ big) -ℤ (vy -ℤ uy) *ℤ
    ((ax *ℤ big +ℤ (bx -ℤ ax) *ℤ mid +ℤ ex) -ℤ ux *ℤ big)
    ≡ big *ℤ ((vx -ℤ ux) *ℤ (ay -ℤ uy) -ℤ (vy -ℤ uy) *ℤ (ax -ℤ ux)) +ℤ mid *ℤ ((vx -ℤ ux) *ℤ (by -ℤ ay)
    -ℤ (vy -ℤ uy) *ℤ (bx -ℤ ax))
    +ℤ ((vx -ℤ ux) *ℤ ey -ℤ (vy -ℤ uy) *ℤ ex)
turn_near' ux uy vx vy ax ay bx by ex ey big mid =
    same_by (ux ∷ uy ∷ vx ∷ vy ∷ ax ∷ ay ∷ bx ∷ by ∷ ex ∷ ey ∷ big ∷ mid ∷ [])
    (sub
    (mul (sub (var 2) (var 0)) (sub (add (add (mul (var 5) (var 10)) (mul (sub (var 7) (var 5)) (var 11))) (var 9)) (mul (var 1) (var 10))))
    (mul (sub (var 3) (var 1)) (sub (add (add (mul (var 4) (var 10)) (mul (sub (var 6) (var 4)) (var 11))) (var 8))
    (mul (var 0) (var 10)))))
    (add (add
    (mul (var 10) (turn_expr (var 0) (var 1) (var 2) (var 3) (var 4) (var 5)))
    (mul (var 11) (sub (mul (sub (var 2) (var 0)) (sub (var 7) (var 5))) (mul (sub (var 3) (var 1)) (sub (var 6) (var 4))))))
    (sub (mul (sub (var 2) (var 0)) (var 9)) (mul (sub (var 3) (var 1)) (var 8))))
    refl

pub turn_near : (u v a b : Corner) (ex ey : ℤ) → turn_at u v (near a b ex ey) ≡ whole *ℤ turn u v a
    +ℤ step *ℤ cross u v a b +ℤ push u v ex ey
turn_near u v a b ex ey = turn_near' u.x u.y v.x v.y a.x a.y b.x b.y ex ey whole step

-- differences of coordinates, and their products, are not large
apart : (p q : ℤ) → IsWithin limit p → IsWithin limit q → IsWithin (2 * limit) (p -ℤ q)
apart p q h k = record { low = omega (arith, ints); high = omega (arith, ints) }

sum_within : (m n : ℕ) (p q : ℤ) → IsWithin m p → IsWithin m q → IsWithin (2 * m) (p -ℤ q)
sum_within m n p q h k = record { low = omega (arith, ints); high = omega (arith, ints) }

pub cross_within : (u v a b : Corner) → IsWithin (8 * (limit * limit)) (cross u v a b)
cross_within u v a b =
    sum_within (4 * (limit * limit)) 0 ((v.x -ℤ u.x) *ℤ (b.y -ℤ a.y)) ((v.y -ℤ u.y) *ℤ (b.x -ℤ a.x))
    (product_within (2 * limit) (2 * limit) (v.x -ℤ u.x) (b.y -ℤ a.y) (apart v.x u.x v.x_in_range u.x_in_range)
    (apart b.y a.y b.y_in_range a.y_in_range))
    (product_within (2 * limit) (2 * limit) (v.y -ℤ u.y) (b.x -ℤ a.x) (apart v.y u.y v.y_in_range u.y_in_range)
    (apart b.x a.x b.x_in_range a.x_in_range))

-- the sum of the three has the sign of the first of them that is not 0
lead_up : (t x y : ℤ) → IsWithin (8 * (limit * limit)) x → IsWithin (2 * limit) y → pos 0 <ℤ t
    → pos 0 <ℤ (whole *ℤ t +ℤ step *ℤ x +ℤ y)
lead_up t x y h k l = omega (arith, ints)

lead_down : (t x y : ℤ) → IsWithin (8 * (limit * limit)) x → IsWithin (2 * limit) y → t <ℤ pos 0
    → (whole *ℤ t +ℤ step *ℤ x +ℤ y) <ℤ pos 0
lead_down t x y h k l = omega (arith, ints)

next_up : (t x y : ℤ) → IsWithin (2 * limit) y → t ≡ pos 0 → pos 0 <ℤ x
    → pos 0 <ℤ (whole *ℤ t +ℤ step *ℤ x +ℤ y)
next_up t x y k e l = omega (arith, ints)

next_down : (t x y : ℤ) → IsWithin (2 * limit) y → t ≡ pos 0 → x <ℤ pos 0
    → (whole *ℤ t +ℤ step *ℤ x +ℤ y) <ℤ pos 0
next_down t x y k e l = omega (arith, ints)

pub last_one : (t x y : ℤ) → t ≡ pos 0 → x ≡ pos 0 → whole *ℤ t +ℤ step *ℤ x +ℤ y ≡ y
last_one t x y e f = omega (arith, ints)

-- ---- on which side of an edge the near points are
-- (ex, ey) is so short that no edge turns to it by more than one step
abbrev pub IsShort : ℤ → ℤ → Type 0
IsShort ex ey = (u v : Corner) → IsWithin (2 * limit) (push u v ex ey)

-- both points are left of the edge u v
abbrev pub AreLeft : Corner → Corner → Point → Point → Type 0
AreLeft u v l r = (pos 0 <ℤ turn_at u v l) × (pos 0 <ℤ turn_at u v r)

-- both points are right of the edge u v
abbrev pub AreRight : Corner → Corner → Point → Point → Type 0
AreRight u v l r = (turn_at u v l <ℤ pos 0) × (turn_at u v r <ℤ pos 0)

-- both points are left of the edge u v, or both are right of it
abbrev pub AreOnOneSide : Corner → Corner → Point → Point → Type 0
AreOnOneSide u v l r = AreLeft u v l r ⊎ AreRight u v l r

-- both points are on the side of u v that the sign of z names: left for a positive z, right for a negative one
pub record AreOnSide (z : ℤ) (u v : Corner) (l r : Point) : Type 0 where
  pub left : pos 0 <ℤ z → AreLeft u v l r
  pub right : z <ℤ pos 0 → AreRight u v l r

-- near points are where the turn from u v to a says
pub near_side : (u v a b : Corner) (ex ey fx fy : ℤ) → IsShort ex ey → IsShort fx fy
    → AreOnSide (turn u v a) u v (near a b ex ey) (near a b fx fy)
near_side u v a b ex ey fx fy i j = record {
  left = λ p. (up ex ey i p, up fx fy j p);
  right = λ p. (down ex ey i p, down fx fy j p);
}
  where
    up : (x y : ℤ) → IsShort x y → pos 0 <ℤ turn u v a → pos 0 <ℤ turn_at u v (near a b x y)
    up x y k p = subst (λ z. pos 0 <ℤ z) (sym (turn_near u v a b x y))
        (lead_up (turn u v a) (cross u v a b) (push u v x y) (cross_within u v a b) (k u v) p)

    down : (x y : ℤ) → IsShort x y → turn u v a <ℤ pos 0 → turn_at u v (near a b x y) <ℤ pos 0
    down x y k p = subst (λ z. z <ℤ pos 0) (sym (turn_near u v a b x y))
        (lead_down (turn u v a) (cross u v a b) (push u v x y) (cross_within u v a b) (k u v) p)

-- where a is on the line of u v, they are where the turn from u v to a b says
pub near_next_side : (u v a b : Corner) (ex ey fx fy : ℤ) → IsShort ex ey → IsShort fx fy → turn u v a ≡ pos 0
    → AreOnSide (cross u v a b) u v (near a b ex ey) (near a b fx fy)
near_next_side u v a b ex ey fx fy i j t = record {
  left = λ p. (up ex ey i p, up fx fy j p);
  right = λ p. (down ex ey i p, down fx fy j p);
}
  where
    up : (x y : ℤ) → IsShort x y → pos 0 <ℤ cross u v a b → pos 0 <ℤ turn_at u v (near a b x y)
    up x y k p = subst (λ z. pos 0 <ℤ z) (sym (turn_near u v a b x y))
        (next_up (turn u v a) (cross u v a b) (push u v x y) (k u v) t p)

    down : (x y : ℤ) → IsShort x y → cross u v a b <ℤ pos 0 → turn_at u v (near a b x y) <ℤ pos 0
    down x y k p = subst (λ z. z <ℤ pos 0) (sym (turn_near u v a b x y))
        (next_down (turn u v a) (cross u v a b) (push u v x y) (k u v) t p)

-- they are on one side, unless the number that names it is 0
pub one_side : (z : ℤ) (u v : Corner) (l r : Point) → AreOnSide z u v l r → (AreOnOneSide u v l r × (z ≢ pos 0)) ⊎ (z ≡ pos 0)
one_side z u v l r h = by_lt_z (pos 0) z
    (λ p. inl (inl (h.left p), λ e. omega (arith, ints)))
    (λ p. by_lt_z z (pos 0)
    (λ q. inl (inr (h.right q), λ e. omega (arith, ints)))
    (λ q. inr (omega (arith, ints))))

-- ---- heights
-- one step from a whole number towards another is past it and past all before it, and short of all behind it
pub step_past : (p q w : ℤ) → p <ℤ q → w ≤ℤ p → (w *ℤ whole) <ℤ (p *ℤ whole +ℤ (q -ℤ p) *ℤ step +ℤ pos 0)
step_past p q w up h = omega (arith, ints)

pub step_short : (p q w : ℤ) → IsWithin limit p → IsWithin limit q → p <ℤ w
    → (p *ℤ whole +ℤ (q -ℤ p) *ℤ step +ℤ pos 0) <ℤ (w *ℤ whole)
step_short p q w h k l = omega (arith, ints)
