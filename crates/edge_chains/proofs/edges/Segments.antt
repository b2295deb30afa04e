-- What holds at both ends of a segment holds along it: to be on one side of an edge, of a level line or of an upright line.
use Rattle.std.proofs.Common.{◌≡◌, ◌∙◌, refl, sym, ap, subst, arith, [], ◌∷◌}
use Rattle.std.proofs.lemmas.Int.{ints, clamps, by_lt_z}
use Rattle.std.specs.Int.{int_min, int_max}
use lib.IntN.{ℤ, pos, negsuc, ◌+ℤ◌, ◌-ℤ◌, ◌*ℤ◌, neg_ℤ}
use lib.Signed.{◌<ℤ◌, ◌≤ℤ◌}
use Rattle.geo_exact.specs.declared.corner.Corner.{Corner}
use Rattle.geo_exact.specs.Point.{Point}
use Rattle.geo_exact.specs.Turn.{turn_at, IsOnEdge}
use Rattle.geo_exact.proofs.numbers.Orders.{lt_not_ge, positive_not_zero}
use Rattle.geo_exact.proofs.numbers.Signs.{mul_pos, pos_of_mul, convex}
use Rattle.geo_exact.proofs.numbers.Polynomials.{var, lit, add, mul, neg, same_by}
use Rattle.geo_exact.proofs.corners_and_turns.TurnLaws.{turn_at_expr, turn_at_back}
use Rattle.geo_exact.specs.Segments.{IsOnSegment}

-- ---- the ends are on it
pub start_on_segment : (p r : Point) → IsOnSegment p p r
start_on_segment p r = record {
  k = pos 1;
  m = pos 1;
  n = pos 0;
  k_positive = record { lt = tt };
  m_not_negative = omega (arith, ints);
  n_not_negative = omega (arith, ints);
  in_x = omega (arith, ints);
  in_y = omega (arith, ints);
  in_d = omega (arith, ints);
}

-- ---- numbers that are linear in (x, y, d)
abbrev weigh : ℤ → ℤ → ℤ → ℤ → ℤ → ℤ → ℤ
weigh f g h x y d = f *ℤ x +ℤ g *ℤ y +ℤ h *ℤ d

scaled : (f g h k x y d : ℤ) → k *ℤ weigh f g h x y d ≡ weigh f g h (k *ℤ x) (k *ℤ y) (k *ℤ d)
scaled f g h k x y d =
    same_by (f ∷ g ∷ h ∷ k ∷ x ∷ y ∷ d ∷ [])
    (mul (var 3) (add (add (mul (var 0) (var 4)) (mul (var 1) (var 5))) (mul (var 2) (var 6))))
    (add (add (mul (var 0) (mul (var 3) (var 4))) (mul (var 1) (mul (var 3) (var 5)))) (mul (var 2) (mul (var 3) (var 6))))
    refl

summed : (f g h m n x y d x' y' d' : ℤ)
    → weigh f g h (m *ℤ x +ℤ n *ℤ x') (m *ℤ y +ℤ n *ℤ y') (m *ℤ d +ℤ n *ℤ d') ≡ m *ℤ weigh f g h x y d
    +ℤ n *ℤ weigh f g h x' y' d'
summed f g h m n x y d x' y' d' =
    same_by (f ∷ g ∷ h ∷ m ∷ n ∷ x ∷ y ∷ d ∷ x' ∷ y' ∷ d' ∷ [])
    (add (add
    (mul (var 0) (add (mul (var 3) (var 5)) (mul (var 4) (var 8))))
    (mul (var 1) (add (mul (var 3) (var 6)) (mul (var 4) (var 9)))))
    (mul (var 2) (add (mul (var 3) (var 7)) (mul (var 4) (var 10)))))
    (add
    (mul (var 3) (add (add (mul (var 0) (var 5)) (mul (var 1) (var 6))) (mul (var 2) (var 7))))
    (mul (var 4) (add (add (mul (var 0) (var 8)) (mul (var 1) (var 9))) (mul (var 2) (var 10)))))
    refl

weigh_mean : (f g h : ℤ) (q p r : Point) (s : IsOnSegment q p r)
    → s.k *ℤ weigh f g h q.x q.y q.d ≡ s.m *ℤ weigh f g h p.x p.y p.d +ℤ s.n *ℤ weigh f g h r.x r.y r.d
weigh_mean f g h q p r s =
    scaled f g h s.k q.x q.y q.d
    ∙ ap (λ z. weigh f g h z (s.k *ℤ q.y) (s.k *ℤ q.d)) s.in_x
    ∙ ap (λ z. weigh f g h (s.m *ℤ p.x +ℤ s.n *ℤ r.x) z (s.k *ℤ q.d)) s.in_y
    ∙ ap (λ z. weigh f g h (s.m *ℤ p.x +ℤ s.n *ℤ r.x) (s.m *ℤ p.y +ℤ s.n *ℤ r.y) z) s.in_d
    ∙ summed f g h s.m s.n p.x p.y p.d r.x r.y r.d

-- the two parts are not both 0
some_part : (k m n d p r : ℤ) → pos 0 <ℤ k → pos 0 <ℤ d → pos 0 ≤ℤ m → pos 0 ≤ℤ n
    → k *ℤ d ≡ m *ℤ p +ℤ n *ℤ r → pos 0 <ℤ (m +ℤ n)
some_part k m n d p r hk hd hm hn e = by_lt_z (pos 0) (m +ℤ n) (λ l. l)
    (λ l. absurd (
    let a : m ≡ pos 0 = omega (arith, ints) in
    let b : n ≡ pos 0 = omega (arith, ints) in
    let z : k *ℤ d ≡ pos 0 = e ∙ ap (λ s. s *ℤ p +ℤ n *ℤ r) a ∙ ap (λ s. pos 0 *ℤ p +ℤ s *ℤ r) b ∙ nothing p r in
    let i : pos 0 <ℤ (k *ℤ d) = mul_pos k d hk hd in positive_not_zero (k *ℤ d) i z))
  where
    nothing : (p r : ℤ) → pos 0 *ℤ p +ℤ pos 0 *ℤ r ≡ pos 0
    nothing p r = omega (arith, ints)

-- such a number is positive along a segment where it is at both ends
weigh_positive : (f g h : ℤ) (q p r : Point) → IsOnSegment q p r
    → pos 0 <ℤ weigh f g h p.x p.y p.d → pos 0 <ℤ weigh f g h r.x r.y r.d → pos 0 <ℤ weigh f g h q.x q.y q.d
weigh_positive f g h q p r s i j =
    pos_of_mul s.k (weigh f g h q.x q.y q.d) s.k_positive
    (subst (λ z. pos 0 <ℤ z) (sym (weigh_mean f g h q p r s))
    (convex s.m s.n (weigh f g h p.x p.y p.d) (weigh f g h r.x r.y r.d) s.m_not_negative s.n_not_negative
    (some_part s.k s.m s.n q.d p.d r.d s.k_positive q.d_positive s.m_not_negative s.n_not_negative s.in_d) i j))

-- ---- the sides of an edge
turn_weighs : (a b : Corner) (p : Point) → turn_at a b p ≡ weigh (a.y -ℤ b.y) (b.x -ℤ a.x) ((b.y -ℤ a.y) *ℤ a.x
    -ℤ (b.x -ℤ a.x) *ℤ a.y) p.x p.y p.d
turn_weighs a b p =
    same_by (a.x ∷ a.y ∷ b.x ∷ b.y ∷ p.x ∷ p.y ∷ p.d ∷ [])
    (turn_at_expr (var 0) (var 1) (var 2) (var 3) (var 4) (var 5) (var 6))
    (add (add
    (mul (add (var 1) (neg (var 3))) (var 4))
    (mul (add (var 2) (neg (var 0))) (var 5)))
    (mul (add (mul (add (var 3) (neg (var 1))) (var 0)) (neg (mul (add (var 2) (neg (var 0))) (var 1)))) (var 6)))
    refl

turns_up : (a b : Corner) (q p r : Point) → IsOnSegment q p r → pos 0 <ℤ turn_at a b p → pos 0 <ℤ turn_at a b r
    → pos 0 <ℤ turn_at a b q
turns_up a b q p r s i j =
    subst (λ z. pos 0 <ℤ z) (sym (turn_weighs a b q))
    (weigh_positive (a.y -ℤ b.y) (b.x -ℤ a.x) ((b.y -ℤ a.y) *ℤ a.x -ℤ (b.x -ℤ a.x) *ℤ a.y) q p r s
    (subst (λ z. pos 0 <ℤ z) (turn_weighs a b p) i) (subst (λ z. pos 0 <ℤ z) (turn_weighs a b r) j))

-- a segment left of an edge has no point on it
pub left_has_none : (a b : Corner) (q p r : Point) → IsOnSegment q p r → pos 0 <ℤ turn_at a b p
    → pos 0 <ℤ turn_at a b r → ¬ IsOnEdge q a b
left_has_none a b q p r s i j e = positive_not_zero (turn_at a b q) (turns_up a b q p r s i j) e.on_line

-- nor has one right of it
pub right_has_none : (a b : Corner) (q p r : Point) → IsOnSegment q p r → turn_at a b p <ℤ pos 0
    → turn_at a b r <ℤ pos 0 → ¬ IsOnEdge q a b
right_has_none a b q p r s i j e =
    let start = turned (turn_at a b p) (turn_at b a p) i (turn_at_back a b p) in
    let end = turned (turn_at a b r) (turn_at b a r) j (turn_at_back a b r) in
    never (turn_at a b q) (turn_at b a q) (turns_up b a q p r s start end) (turn_at_back a b q) e.on_line
  where
    turned : (t u : ℤ) → t <ℤ pos 0 → u ≡ neg_ℤ t → pos 0 <ℤ u
    turned t u h e = omega (arith, ints)

    never : (t u : ℤ) → pos 0 <ℤ u → u ≡ neg_ℤ t → t ≡ pos 0 → ⊥
    never t u h e f = omega (arith, ints)

-- ---- the sides of a level line and of an upright line: what is more than w, or less, in one coordinate
-- each as such a weighed sum
more_y : (w x y d : ℤ) → weigh (pos 0) (pos 1) (neg_ℤ w) x y d ≡ y -ℤ w *ℤ d
more_y w x y d =
    same_by (w ∷ x ∷ y ∷ d ∷ [])
    (add (add (mul (lit (pos 0)) (var 1)) (mul (lit (pos 1)) (var 2))) (mul (neg (var 0)) (var 3)))
    (add (var 2) (neg (mul (var 0) (var 3)))) refl

less_y : (w x y d : ℤ) → weigh (pos 0) (negsuc 0) w x y d ≡ w *ℤ d -ℤ y
less_y w x y d =
    same_by (w ∷ x ∷ y ∷ d ∷ [])
    (add (add (mul (lit (pos 0)) (var 1)) (mul (lit (negsuc 0)) (var 2))) (mul (var 0) (var 3)))
    (add (mul (var 0) (var 3)) (neg (var 2))) refl

more_x : (w x y d : ℤ) → weigh (pos 1) (pos 0) (neg_ℤ w) x y d ≡ x -ℤ w *ℤ d
more_x w x y d =
    same_by (w ∷ x ∷ y ∷ d ∷ [])
    (add (add (mul (lit (pos 1)) (var 1)) (mul (lit (pos 0)) (var 2))) (mul (neg (var 0)) (var 3)))
    (add (var 1) (neg (mul (var 0) (var 3)))) refl

less_x : (w x y d : ℤ) → weigh (negsuc 0) (pos 0) w x y d ≡ w *ℤ d -ℤ x
less_x w x y d =
    same_by (w ∷ x ∷ y ∷ d ∷ [])
    (add (add (mul (lit (negsuc 0)) (var 1)) (mul (lit (pos 0)) (var 2))) (mul (var 0) (var 3)))
    (add (mul (var 0) (var 3)) (neg (var 1))) refl

to_more : (z s t : ℤ) → z ≡ t -ℤ s → s <ℤ t → pos 0 <ℤ z
to_more z s t e h = omega (arith, ints)

from_more : (z s t : ℤ) → z ≡ t -ℤ s → pos 0 <ℤ z → s <ℤ t
from_more z s t e h = omega (arith, ints)

-- of two numbers of each point, whose difference is such a sum: the one less than the other at both ends of a segment is so along it
stays_less : (f g h : ℤ) (low high : Point → ℤ) → ((t : Point) → weigh f g h t.x t.y t.d ≡ high t -ℤ low t)
    → (q p r : Point) → IsOnSegment q p r → low p <ℤ high p → low r <ℤ high r → low q <ℤ high q
stays_less f g h low high e q p r s i j =
    from_more _ (low q) (high q) (e q)
    (weigh_positive f g h q p r s (to_more _ (low p) (high p) (e p) i) (to_more _ (low r) (high r) (e r) j))

stays_above : (w : ℤ) (q p r : Point) → IsOnSegment q p r → (w *ℤ p.d) <ℤ p.y → (w *ℤ r.d) <ℤ r.y → (w *ℤ q.d) <ℤ q.y
stays_above w = stays_less (pos 0) (pos 1) (neg_ℤ w) (λ t. w *ℤ t.d) (λ t. t.y) (λ t. more_y w t.x t.y t.d)

stays_below : (w : ℤ) (q p r : Point) → IsOnSegment q p r → p.y <ℤ (w *ℤ p.d) → r.y <ℤ (w *ℤ r.d) → q.y <ℤ (w *ℤ q.d)
stays_below w = stays_less (pos 0) (negsuc 0) w (λ t. t.y) (λ t. w *ℤ t.d) (λ t. less_y w t.x t.y t.d)

stays_right : (w : ℤ) (q p r : Point) → IsOnSegment q p r → (w *ℤ p.d) <ℤ p.x → (w *ℤ r.d) <ℤ r.x → (w *ℤ q.d) <ℤ q.x
stays_right w = stays_less (pos 1) (pos 0) (neg_ℤ w) (λ t. w *ℤ t.d) (λ t. t.x) (λ t. more_x w t.x t.y t.d)

stays_left : (w : ℤ) (q p r : Point) → IsOnSegment q p r → p.x <ℤ (w *ℤ p.d) → r.x <ℤ (w *ℤ r.d) → q.x <ℤ (w *ℤ q.d)
stays_left w = stays_less (negsuc 0) (pos 0) w (λ t. t.x) (λ t. w *ℤ t.d) (λ t. less_x w t.x t.y t.d)

-- ---- what is beyond both ends of an edge, in one coordinate, is off it
past_both : (u v d z : ℤ) → (u *ℤ d) <ℤ z → (v *ℤ d) <ℤ z → z ≤ℤ (int_max u v *ℤ d) → ⊥
past_both u v d z h k l = by_lt_z v u
    (λ p. let e : int_max u v ≡ u = omega (arith, ints, clamps) in lt_not_ge (u *ℤ d) z h (rw e at l))
    (λ p. let e : int_max u v ≡ v = omega (arith, ints, clamps) in lt_not_ge (v *ℤ d) z k (rw e at l))

short_of_both : (u v d z : ℤ) → z <ℤ (u *ℤ d) → z <ℤ (v *ℤ d) → (int_min u v *ℤ d) ≤ℤ z → ⊥
short_of_both u v d z h k l = by_lt_z v u
    (λ p. let e : int_min u v ≡ v = omega (arith, ints, clamps) in lt_not_ge z (v *ℤ d) k (rw e at l))
    (λ p. let e : int_min u v ≡ u = omega (arith, ints, clamps) in lt_not_ge z (u *ℤ d) h (rw e at l))

-- a segment above an edge has no point on it
pub above_has_none : (u v : Corner) (q p r : Point) → IsOnSegment q p r
    → (u.y *ℤ p.d) <ℤ p.y → (u.y *ℤ r.d) <ℤ r.y → (v.y *ℤ p.d) <ℤ p.y → (v.y *ℤ r.d) <ℤ r.y → ¬ IsOnEdge q u v
above_has_none u v q p r s i j k l e = past_both u.y v.y q.d q.y (stays_above u.y q p r s i j) (stays_above v.y q p r s k l) e.to_y

pub below_has_none : (u v : Corner) (q p r : Point) → IsOnSegment q p r
    → p.y <ℤ (u.y *ℤ p.d) → r.y <ℤ (u.y *ℤ r.d) → p.y <ℤ (v.y *ℤ p.d) → r.y <ℤ (v.y *ℤ r.d) → ¬ IsOnEdge q u v
below_has_none u v q p r s i j k l e = short_of_both u.y v.y q.d q.y (stays_below u.y q p r s i j) (stays_below v.y q p r s k l) e.from_y

-- nor has one farther to the right than both ends, or farther to the left
pub farther_has_none : (u v : Corner) (q p r : Point) → IsOnSegment q p r
    → (u.x *ℤ p.d) <ℤ p.x → (u.x *ℤ r.d) <ℤ r.x → (v.x *ℤ p.d) <ℤ p.x → (v.x *ℤ r.d) <ℤ r.x → ¬ IsOnEdge q u v
farther_has_none u v q p r s i j k l e = past_both u.x v.x q.d q.x (stays_right u.x q p r s i j) (stays_right v.x q p r s k l) e.to_x

pub nearer_has_none : (u v : Corner) (q p r : Point) → IsOnSegment q p r
    → p.x <ℤ (u.x *ℤ p.d) → r.x <ℤ (u.x *ℤ r.d) → p.x <ℤ (v.x *ℤ p.d) → r.x <ℤ (v.x *ℤ r.d) → ¬ IsOnEdge q u v
nearer_has_none u v q p r s i j k l e = short_of_both u.x v.x q.d q.x (stays_left u.x q p r s i j) (stays_left v.x q p r s k l) e.from_x
