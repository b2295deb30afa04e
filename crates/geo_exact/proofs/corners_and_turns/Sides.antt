-- A segment between rational points and an edge: on which side of the segment a corner is, and where the two meet.
use Rattle.std.proofs.Common.{◌≡◌, ◌∙◌, ◌⊎◌, inl, inr, refl, arith, [], ◌∷◌}
use Rattle.std.proofs.lemmas.Int.{ints}
use lib.IntN.{ℤ, pos, ◌+ℤ◌, ◌-ℤ◌, ◌*ℤ◌, neg_ℤ}
use lib.Signed.{◌<ℤ◌, ◌≤ℤ◌}
use Rattle.geo_exact.specs.declared.corner.Corner.{Corner}
use Rattle.geo_exact.specs.Point.{Point}
use Rattle.geo_exact.specs.Turn.{turn_at, IsOnEdge}
use Rattle.geo_exact.specs.Segments.{IsOnSegment}
use Rattle.geo_exact.proofs.numbers.Signs.{convex}
use Rattle.geo_exact.proofs.numbers.Polynomials.{Expr, var, add, mul, neg, sub, same_by}
use Rattle.geo_exact.proofs.corners_and_turns.TurnLaws.{turn_at_expr, turn_at_back}
use Rattle.geo_exact.proofs.corners_and_turns.OnEdge.{mean_low, mean_high, min_reaches, max_reaches, on_edge_back}

-- positive where c is left of the way from p to q: the turn there, times both denominators
abbrev pub side : Point → Point → Corner → ℤ
side p q c = p.x *ℤ (q.y -ℤ c.y *ℤ q.d) -ℤ p.y *ℤ (q.x -ℤ c.x *ℤ q.d) +ℤ p.d *ℤ (q.x *ℤ c.y -ℤ q.y *ℤ c.x)

abbrev pub side_expr : Expr → Expr → Expr → Expr → Expr → Expr → Expr → Expr → Expr
side_expr px py pd qx qy qd cx cy =
    add (sub (mul px (sub qy (mul cy qd))) (mul py (sub qx (mul cx qd)))) (mul pd (sub (mul qx cy) (mul qy cx)))

-- some point is on the segment from p to q and on the edge from u to w
abbrev pub Meets : Point → Point → Corner → Corner → Type 0
Meets p q u w = (m : Point) × IsOnSegment m p q × IsOnEdge m u w

-- ---- the place where the two lines meet, as a sum of u and w and as one of p and q
abbrev apart_expr : Expr
apart_expr = turn_at_expr (var 6) (var 7) (var 8) (var 9) (var 0) (var 1) (var 2)

abbrev beyond_expr : Expr
beyond_expr = turn_at_expr (var 6) (var 7) (var 8) (var 9) (var 3) (var 4) (var 5)

abbrev first_expr : Expr
first_expr = side_expr (var 0) (var 1) (var 2) (var 3) (var 4) (var 5) (var 6) (var 7)

abbrev last_expr : Expr
last_expr = side_expr (var 0) (var 1) (var 2) (var 3) (var 4) (var 5) (var 8) (var 9)

meeting_x : (p q : Point) (u w : Corner)
    → neg_ℤ (turn_at u w q) *ℤ p.x +ℤ turn_at u w p *ℤ q.x ≡ side p q w *ℤ u.x -ℤ side p q u *ℤ w.x
meeting_x p q u w =
    same_by (p.x ∷ p.y ∷ p.d ∷ q.x ∷ q.y ∷ q.d ∷ u.x ∷ u.y ∷ w.x ∷ w.y ∷ [])
    (add (mul (neg beyond_expr) (var 0)) (mul apart_expr (var 3)))
    (sub (mul last_expr (var 6)) (mul first_expr (var 8)))
    refl

meeting_y : (p q : Point) (u w : Corner)
    → neg_ℤ (turn_at u w q) *ℤ p.y +ℤ turn_at u w p *ℤ q.y ≡ side p q w *ℤ u.y -ℤ side p q u *ℤ w.y
meeting_y p q u w =
    same_by (p.x ∷ p.y ∷ p.d ∷ q.x ∷ q.y ∷ q.d ∷ u.x ∷ u.y ∷ w.x ∷ w.y ∷ [])
    (add (mul (neg beyond_expr) (var 1)) (mul apart_expr (var 4)))
    (sub (mul last_expr (var 7)) (mul first_expr (var 9)))
    refl

pub meeting_d : (p q : Point) (u w : Corner)
    → neg_ℤ (turn_at u w q) *ℤ p.d +ℤ turn_at u w p *ℤ q.d ≡ side p q w -ℤ side p q u
meeting_d p q u w =
    same_by (p.x ∷ p.y ∷ p.d ∷ q.x ∷ q.y ∷ q.d ∷ u.x ∷ u.y ∷ w.x ∷ w.y ∷ [])
    (add (mul (neg beyond_expr) (var 2)) (mul apart_expr (var 5)))
    (sub last_expr first_expr)
    refl

-- the heights of u and w from p, weighed by the sides of the other, sum up to the turn at p times the height from p to q
pub heights_from_start : (p q : Point) (u w : Corner)
    → side p q w *ℤ (u.y *ℤ p.d -ℤ p.y) -ℤ side p q u *ℤ (w.y *ℤ p.d -ℤ p.y)
    ≡ turn_at u w p *ℤ (q.y *ℤ p.d -ℤ p.y *ℤ q.d)
heights_from_start p q u w =
    same_by (p.x ∷ p.y ∷ p.d ∷ q.x ∷ q.y ∷ q.d ∷ u.x ∷ u.y ∷ w.x ∷ w.y ∷ [])
    (sub (mul last_expr (sub (mul (var 7) (var 2)) (var 1))) (mul first_expr (sub (mul (var 9) (var 2)) (var 1))))
    (mul apart_expr (sub (mul (var 4) (var 2)) (mul (var 1) (var 5))))
    refl

pub heights_from_end : (p q : Point) (u w : Corner)
    → side p q w *ℤ (u.y *ℤ q.d -ℤ q.y) -ℤ side p q u *ℤ (w.y *ℤ q.d -ℤ q.y)
    ≡ turn_at u w q *ℤ (q.y *ℤ p.d -ℤ p.y *ℤ q.d)
heights_from_end p q u w =
    same_by (p.x ∷ p.y ∷ p.d ∷ q.x ∷ q.y ∷ q.d ∷ u.x ∷ u.y ∷ w.x ∷ w.y ∷ [])
    (sub (mul last_expr (sub (mul (var 7) (var 5)) (var 4))) (mul first_expr (sub (mul (var 9) (var 5)) (var 4))))
    (mul beyond_expr (sub (mul (var 4) (var 2)) (mul (var 1) (var 5))))
    refl

-- and the other way about
pub heights_to_first : (p q : Point) (u w : Corner)
    → turn_at u w p *ℤ (u.y *ℤ q.d -ℤ q.y) -ℤ turn_at u w q *ℤ (u.y *ℤ p.d -ℤ p.y) ≡ side p q u *ℤ (w.y -ℤ u.y)
heights_to_first p q u w =
    same_by (p.x ∷ p.y ∷ p.d ∷ q.x ∷ q.y ∷ q.d ∷ u.x ∷ u.y ∷ w.x ∷ w.y ∷ [])
    (sub (mul apart_expr (sub (mul (var 7) (var 5)) (var 4))) (mul beyond_expr (sub (mul (var 7) (var 2)) (var 1))))
    (mul first_expr (sub (var 9) (var 7)))
    refl

pub heights_to_last : (p q : Point) (u w : Corner)
    → turn_at u w p *ℤ (w.y *ℤ q.d -ℤ q.y) -ℤ turn_at u w q *ℤ (w.y *ℤ p.d -ℤ p.y) ≡ side p q w *ℤ (w.y -ℤ u.y)
heights_to_last p q u w =
    same_by (p.x ∷ p.y ∷ p.d ∷ q.x ∷ q.y ∷ q.d ∷ u.x ∷ u.y ∷ w.x ∷ w.y ∷ [])
    (sub (mul apart_expr (sub (mul (var 9) (var 5)) (var 4))) (mul beyond_expr (sub (mul (var 9) (var 2)) (var 1))))
    (mul last_expr (sub (var 9) (var 7)))
    refl

-- ---- a point between p and q, k parts of p and l parts of q
abbrev pub mixed : (k l : ℤ) (p q : Point) → pos 0 <ℤ (k *ℤ p.d +ℤ l *ℤ q.d) → Point
mixed k l p q h = record { x = k *ℤ p.x +ℤ l *ℤ q.x; y = k *ℤ p.y +ℤ l *ℤ q.y; d = k *ℤ p.d +ℤ l *ℤ q.d; d_positive = h }

once : (z : ℤ) → pos 1 *ℤ z ≡ z
once z = omega (arith, ints)

pub mixed_on_segment : (k l : ℤ) (p q : Point) (h : pos 0 <ℤ (k *ℤ p.d +ℤ l *ℤ q.d)) → pos 0 ≤ℤ k → pos 0 ≤ℤ l
    → IsOnSegment
    (mixed k l p q h) p q
mixed_on_segment k l p q h hk hl = record {
  k = pos 1;
  m = k;
  n = l;
  k_positive = record { lt = tt };
  m_not_negative = hk;
  n_not_negative = hl;
  in_x = once (k *ℤ p.x +ℤ l *ℤ q.x);
  in_y = once (k *ℤ p.y +ℤ l *ℤ q.y);
  in_d = once (k *ℤ p.d +ℤ l *ℤ q.d);
}

-- the turn at such a point
pub turn_mixed : (k l : ℤ) (p q : Point) (h : pos 0 <ℤ (k *ℤ p.d +ℤ l *ℤ q.d)) (u w : Corner)
    → turn_at u w (mixed k l p q h) ≡ k *ℤ turn_at u w p +ℤ l *ℤ turn_at u w q
turn_mixed k l p q h u w =
    same_by (p.x ∷ p.y ∷ p.d ∷ q.x ∷ q.y ∷ q.d ∷ u.x ∷ u.y ∷ w.x ∷ w.y ∷ k ∷ l ∷ [])
    (turn_at_expr (var 6) (var 7) (var 8) (var 9)
    (add (mul (var 10) (var 0)) (mul (var 11) (var 3)))
    (add (mul (var 10) (var 1)) (mul (var 11) (var 4)))
    (add (mul (var 10) (var 2)) (mul (var 11) (var 5))))
    (add (mul (var 10) apart_expr) (mul (var 11) beyond_expr))
    refl

no_turn : (s t : ℤ) → neg_ℤ t *ℤ s +ℤ s *ℤ t ≡ pos 0
no_turn s t = same_by (s ∷ t ∷ []) (add (mul (neg (var 1)) (var 0)) (mul (var 0) (var 1))) (sub (var 0) (var 0)) refl ∙ omega
    (arith, ints)

-- z is k parts of u and l parts of w: the mean of the two
weighed : (k l u w z n : ℤ) → z ≡ k *ℤ u -ℤ l *ℤ w → n ≡ k -ℤ l
    → k *ℤ (u *ℤ n -ℤ z) +ℤ neg_ℤ l *ℤ (w *ℤ n -ℤ z) ≡ pos 0
weighed k l u w z n h i =
    rw (h, i)
    (same_by (k ∷ l ∷ u ∷ w ∷ [])
    (add
    (mul (var 0) (sub (mul (var 2) (sub (var 0) (var 1))) (sub (mul (var 0) (var 2)) (mul (var 1) (var 3)))))
    (mul (neg (var 1)) (sub (mul (var 3) (sub (var 0) (var 1))) (sub (mul (var 0) (var 2)) (mul (var 1) (var 3))))))
    (sub (var 0) (var 0))
    refl ∙ omega (arith, ints))

turned_over : (t : ℤ) → t ≤ℤ pos 0 → pos 0 ≤ℤ neg_ℤ t
turned_over t h = omega (arith, ints)

some_weight : (k l s t : ℤ) → pos 0 ≤ℤ k → pos 0 ≤ℤ l → (pos 0 <ℤ k) ⊎ (pos 0 <ℤ l) → pos 0 <ℤ s → pos 0 <ℤ t
    → pos 0 <ℤ
    (k *ℤ s +ℤ l *ℤ t)
some_weight k l s t hk hl (inl h) hs ht = convex k l s t hk hl (omega (arith, ints)) hs ht
some_weight k l s t hk hl (inr h) hs ht = convex k l s t hk hl (omega (arith, ints)) hs ht

-- p is left of the edge or on its line, q right of it or on its line, and not both on it; u is right of the segment or on its line, and
-- w left of it or on it: then the two meet
pub meets_rising : (p q : Point) (u w : Corner) → pos 0 ≤ℤ turn_at u w p → turn_at u w q ≤ℤ pos 0
    → (turn_at u w q <ℤ pos 0) ⊎ (pos 0 <ℤ turn_at u w p) → side p q u ≤ℤ pos 0 → pos 0 ≤ℤ side p q w → Meets p q u w
meets_rising p q u w hp hq either hu hw =
    let k = neg_ℤ (turn_at u w q) in
    let l = turn_at u w p in
    let apart : pos 0 <ℤ (k *ℤ p.d +ℤ l *ℤ q.d) =
    some_weight k l p.d q.d (turned_over (turn_at u w q) hq) hp
    (one_of (turn_at u w q) (turn_at u w p) either) p.d_positive q.d_positive in
    let m : Point = mixed k l p q apart in
    let total : pos 0 <ℤ (side p q w +ℤ neg_ℤ (side p q u)) = whole m.d (side p q w) (side p q u) apart (meeting_d p q u w) in
    let ku : pos 0 ≤ℤ neg_ℤ (side p q u) = turned_over (side p q u) hu in
    let mx = weighed (side p q w) (side p q u) u.x w.x m.x m.d (meeting_x p q u w) (meeting_d p q u w) in
    let my = weighed (side p q w) (side p q u) u.y w.y m.y m.d (meeting_y p q u w) (meeting_d p q u w) in (
      m,
      mixed_on_segment k l p q apart (turned_over (turn_at u w q) hq) hp,
      record {
        on_line = turn_mixed k l p q apart u w ∙ no_turn (turn_at u w p) (turn_at u w q);
        from_x = min_reaches u.x w.x m.d m.x apart (mean_low (side p q w) (neg_ℤ (side p q u)) (u.x *ℤ m.d)
            (w.x *ℤ m.d) m.x hw ku total mx);
        to_x = max_reaches u.x w.x m.d m.x apart (mean_high (side p q w) (neg_ℤ (side p q u)) (u.x *ℤ m.d)
            (w.x *ℤ m.d) m.x hw ku total mx);
        from_y = min_reaches u.y w.y m.d m.y apart (mean_low (side p q w) (neg_ℤ (side p q u)) (u.y *ℤ m.d)
            (w.y *ℤ m.d) m.y hw ku total my);
        to_y = max_reaches u.y w.y m.d m.y apart (mean_high (side p q w) (neg_ℤ (side p q u)) (u.y *ℤ m.d)
            (w.y *ℤ m.d) m.y hw ku total my);
      },
    )
  where
    whole : (n k l : ℤ) → pos 0 <ℤ n → n ≡ k -ℤ l → pos 0 <ℤ (k +ℤ neg_ℤ l)
    whole n k l h e = omega (arith, ints)

    one_of : (s t : ℤ) → (s <ℤ pos 0) ⊎ (pos 0 <ℤ t) → (pos 0 <ℤ neg_ℤ s) ⊎ (pos 0 <ℤ t)
    one_of s t (inl h) = inl (omega (arith, ints))
    one_of s t (inr h) = inr h

-- the same, p right of the edge
pub meets_falling : (p q : Point) (u w : Corner) → turn_at u w p ≤ℤ pos 0 → pos 0 ≤ℤ turn_at u w q
    → (turn_at u w p <ℤ pos 0) ⊎ (pos 0 <ℤ turn_at u w q) → pos 0 ≤ℤ side p q u → side p q w ≤ℤ pos 0 → Meets p q u w
meets_falling p q u w hp hq either hu hw =
    let m = meets_rising p q w u
    (over (turn_at u w p) (turn_at w u p) (turn_at_back u w p) hp) (under (turn_at u w q) (turn_at w u q) (turn_at_back u w q) hq)
    (one_of (turn_at u w p) (turn_at w u p) (turn_at u w q) (turn_at w u q) (turn_at_back u w p) (turn_at_back u w q) either)
    hw hu in
    (m.0, m.1, on_edge_back w u m.0 m.2)
  where
    over : (s t : ℤ) → t ≡ neg_ℤ s → s ≤ℤ pos 0 → pos 0 ≤ℤ t
    over s t e h = omega (arith, ints)

    under : (s t : ℤ) → t ≡ neg_ℤ s → pos 0 ≤ℤ s → t ≤ℤ pos 0
    under s t e h = omega (arith, ints)

    one_of : (s s' t t' : ℤ) → s' ≡ neg_ℤ s → t' ≡ neg_ℤ t → (s <ℤ pos 0) ⊎ (pos 0 <ℤ t) → (t' <ℤ pos 0)
        ⊎ (pos 0 <ℤ s')
    one_of s s' t t' e f (inl h) = inr (omega (arith, ints))
    one_of s s' t t' e f (inr h) = inl (omega (arith, ints))
