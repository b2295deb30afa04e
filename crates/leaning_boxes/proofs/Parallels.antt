-- Edges that a parallel of a line parts have no point in common.
use Rattle.std.proofs.Common.{◌≡◌, ◌∙◌, ap, arith, [], ◌∷◌, refl}
use Rattle.std.proofs.lemmas.Int.{ints, by_lt_z}
use Rattle.std.specs.Int.{int_min, int_max}
use lib.IntN.{ℤ, pos, ◌+ℤ◌, ◌-ℤ◌, ◌*ℤ◌, neg_ℤ}
use lib.Signed.{◌<ℤ◌, ◌≤ℤ◌}
use Rattle.geo_exact.specs.declared.corner.Corner.{Corner}
use Rattle.geo_exact.specs.Point.{Point, corner_point}
use Rattle.geo_exact.specs.Turn.{turn, turn_at, IsOnEdge}
use Rattle.geo_exact.proofs.numbers.Differences.{neg-mul}
use Rattle.geo_exact.proofs.numbers.Signs.{mul_pos, pos_of_mul, convex, mul_lt}
use Rattle.geo_exact.proofs.numbers.Polynomials.{var, add, mul, neg, same_by}
use Rattle.geo_exact.proofs.corners_and_turns.TurnLaws.{turn_at_expr, turn_expr, turn_at_corner}
use Rattle.geo_exact.proofs.corners_and_turns.Means.{same_place}
use Rattle.geo_exact.proofs.corners_and_turns.SamePlace.{turn_at_place}
use Rattle.geo_exact.proofs.numbers.Orders.{le_of_lt}
use Rattle.geo_exact.proofs.corners_and_turns.OnEdge.{min_left, max_right, on_edge_back}

-- the range of an edge whose first end is not beyond its second
range : (u v d w : ℤ) → u ≤ℤ v → (int_min u v *ℤ d) ≤ℤ w → w ≤ℤ (int_max u v *ℤ d) → ((u *ℤ d) ≤ℤ w)
    × (w ≤ℤ (v *ℤ d))
range u v d w o h k = (rw (min_left u v o) at h, rw (max_right u v o) at k)

-- ---- a point of an edge whose ends are beyond a parallel of a line is beyond it: s times the turn is above k
beyond_x : (s k : ℤ) (a b c d : Corner) (p : Point)
    → (d.x -ℤ c.x) *ℤ (s *ℤ turn_at a b p -ℤ k *ℤ p.d)
    ≡ (d.x *ℤ p.d -ℤ p.x) *ℤ (s *ℤ turn a b c -ℤ k) +ℤ (p.x -ℤ c.x *ℤ p.d) *ℤ (s *ℤ turn a b d -ℤ k)
    +ℤ (s *ℤ (b.x -ℤ a.x)) *ℤ turn_at c d p
beyond_x s k a b c d p =
    same_by (a.x ∷ a.y ∷ b.x ∷ b.y ∷ c.x ∷ c.y ∷ d.x ∷ d.y ∷ p.x ∷ p.y ∷ p.d ∷ s ∷ k ∷ [])
    (mul (add (var 6) (neg (var 4)))
    (add (mul (var 11) (turn_at_expr (var 0) (var 1) (var 2) (var 3) (var 8) (var 9) (var 10))) (neg (mul (var 12) (var 10)))))
    (add
    (add
    (mul (add (mul (var 6) (var 10)) (neg (var 8)))
    (add (mul (var 11) (turn_expr (var 0) (var 1) (var 2) (var 3) (var 4) (var 5))) (neg (var 12))))
    (mul (add (var 8) (neg (mul (var 4) (var 10))))
    (add (mul (var 11) (turn_expr (var 0) (var 1) (var 2) (var 3) (var 6) (var 7))) (neg (var 12)))))
    (mul (mul (var 11) (add (var 2) (neg (var 0)))) (turn_at_expr (var 4) (var 5) (var 6) (var 7) (var 8) (var 9) (var 10))))
    refl

beyond_y : (s k : ℤ) (a b c d : Corner) (p : Point)
    → (d.y -ℤ c.y) *ℤ (s *ℤ turn_at a b p -ℤ k *ℤ p.d)
    ≡ (d.y *ℤ p.d -ℤ p.y) *ℤ (s *ℤ turn a b c -ℤ k) +ℤ (p.y -ℤ c.y *ℤ p.d) *ℤ (s *ℤ turn a b d -ℤ k)
    +ℤ (s *ℤ (b.y -ℤ a.y)) *ℤ turn_at c d p
beyond_y s k a b c d p =
    same_by (a.x ∷ a.y ∷ b.x ∷ b.y ∷ c.x ∷ c.y ∷ d.x ∷ d.y ∷ p.x ∷ p.y ∷ p.d ∷ s ∷ k ∷ [])
    (mul (add (var 7) (neg (var 5)))
    (add (mul (var 11) (turn_at_expr (var 0) (var 1) (var 2) (var 3) (var 8) (var 9) (var 10))) (neg (mul (var 12) (var 10)))))
    (add
    (add
    (mul (add (mul (var 7) (var 10)) (neg (var 9)))
    (add (mul (var 11) (turn_expr (var 0) (var 1) (var 2) (var 3) (var 4) (var 5))) (neg (var 12))))
    (mul (add (var 9) (neg (mul (var 5) (var 10))))
    (add (mul (var 11) (turn_expr (var 0) (var 1) (var 2) (var 3) (var 6) (var 7))) (neg (var 12)))))
    (mul (mul (var 11) (add (var 3) (neg (var 1)))) (turn_at_expr (var 4) (var 5) (var 6) (var 7) (var 8) (var 9) (var 10))))
    refl

-- the mean of two positive numbers, at a place w between u d and v d
mean_pos : (u v d w s t r n z : ℤ) → pos 0 <ℤ d → u <ℤ v → ((u *ℤ d) ≤ℤ w) × (w ≤ℤ (v *ℤ d)) → pos 0 <ℤ s
    → pos 0 <ℤ t
    → (v -ℤ u) *ℤ r ≡ (v *ℤ d -ℤ w) *ℤ s +ℤ (w -ℤ u *ℤ d) *ℤ t +ℤ n *ℤ z → z ≡ pos 0 → pos 0 <ℤ r
mean_pos u v d w s t r n z hd o between hs ht e f =
    let long : pos 0 <ℤ ((v *ℤ d -ℤ w) +ℤ (w -ℤ u *ℤ d)) = omega (arith, ints, mul_lt u v d hd o) in
    let mean : pos 0 <ℤ ((v *ℤ d -ℤ w) *ℤ s +ℤ (w -ℤ u *ℤ d) *ℤ t) =
    convex (v *ℤ d -ℤ w) (w -ℤ u *ℤ d) s t (omega (arith, ints, between.0, between.1))
    (omega (arith, ints, between.0, between.1)) long hs ht in
    pos_of_mul (v -ℤ u) r (omega (arith, ints)) (whole (v -ℤ u) r ((v *ℤ d -ℤ w) *ℤ s) ((w -ℤ u *ℤ d) *ℤ t) n z e f mean)
  where
    whole : (k q x y m o : ℤ) → k *ℤ q ≡ x +ℤ y +ℤ m *ℤ o → o ≡ pos 0 → pos 0 <ℤ (x +ℤ y) → pos 0 <ℤ (k *ℤ q)
    whole k q x y m o g h i = omega (arith, ints, rw h at g)

-- the turn at the place of a corner
turn_at_its_place : (a b c : Corner) (p : Point) → p.x ≡ c.x *ℤ p.d → p.y ≡ c.y *ℤ p.d → turn_at a b p ≡ p.d *ℤ turn a b c
turn_at_its_place a b c p h k =
    let same : pos 1 *ℤ turn_at a b p ≡ p.d *ℤ turn_at a b (corner_point c) =
    turn_at_place a b p (corner_point c) (record { same_x = omega (arith, ints, h); same_y = omega (arith, ints, k) }) in
    let once : turn_at a b p ≡ pos 1 *ℤ turn_at a b p = omega (arith, ints) in
    once ∙ same ∙ ap (λ t. p.d *ℤ t) (turn_at_corner a b c)

beyond_place : (s k d t : ℤ) → s *ℤ (d *ℤ t) -ℤ k *ℤ d ≡ d *ℤ (s *ℤ t -ℤ k)
beyond_place s k d t =
    same_by (s ∷ k ∷ d ∷ t ∷ [])
    (add (mul (var 0) (mul (var 2) (var 3))) (neg (mul (var 1) (var 2)))) (mul (var 2) (add (mul (var 0) (var 3)) (neg (var 1)))) refl

module _ (s k : ℤ) (a b : Corner) (p : Point) where
  abbrev excess : Corner → ℤ
  excess c = s *ℤ turn a b c -ℤ k

  abbrev excess_at : ℤ
  excess_at = s *ℤ turn_at a b p -ℤ k *ℤ p.d

  rising : (m n : Corner) → IsOnEdge p m n → pos 0 <ℤ excess m → pos 0 <ℤ excess n → m.x <ℤ n.x → pos 0 <ℤ excess_at
  rising m n g hs ht o =
      mean_pos m.x n.x p.d p.x (excess m) (excess n) excess_at (s *ℤ (b.x -ℤ a.x)) (turn_at m n p) p.d_positive o
      (range m.x n.x p.d p.x (le_of_lt m.x n.x o) g.from_x g.to_x) hs ht (beyond_x s k a b m n p) g.on_line

  upward : (m n : Corner) → IsOnEdge p m n → pos 0 <ℤ excess m → pos 0 <ℤ excess n → m.y <ℤ n.y → pos 0 <ℤ excess_at
  upward m n g hs ht o =
      mean_pos m.y n.y p.d p.y (excess m) (excess n) excess_at (s *ℤ (b.y -ℤ a.y)) (turn_at m n p) p.d_positive o
      (range m.y n.y p.d p.y (le_of_lt m.y n.y o) g.from_y g.to_y) hs ht (beyond_y s k a b m n p) g.on_line

  pub beyond : (c d : Corner) → IsOnEdge p c d → pos 0 <ℤ excess c → pos 0 <ℤ excess d → pos 0 <ℤ excess_at
  beyond c d h u v =
      by_lt_z c.x d.x (λ o. rising c d h u v o) (λ o. by_lt_z d.x c.x (λ q. rising d c (on_edge_back c d p h) v u q)
      (λ q. by_lt_z c.y d.y (λ r. upward c d h u v r) (λ r. by_lt_z d.y c.y (λ w. upward d c (on_edge_back c d p h) v u w)
      (λ w. let e : turn_at a b p ≡ p.d *ℤ turn a b c =
      turn_at_its_place a b c p (same_place c.x d.x p.d p.x o q h.from_x h.to_x) (same_place c.y d.y p.d p.y r w h.from_y h.to_y) in
      rw (e, beyond_place s k p.d (turn a b c)) (mul_pos p.d (excess c) p.d_positive u)))))

-- a point of an edge whose ends are left of a line is left of it
pub left_of_line : (a b c d : Corner) (p : Point) → IsOnEdge p c d → pos 0 <ℤ turn a b c → pos 0 <ℤ turn a b d
    → pos 0 <ℤ turn_at a b p
left_of_line a b c d p h s t =
    back (turn_at a b p) p.d (beyond (pos 1) (pos 0) a b p c d h (once (turn a b c) s) (once (turn a b d) t))
  where
    once : (t : ℤ) → pos 0 <ℤ t → pos 0 <ℤ (pos 1 *ℤ t -ℤ pos 0)
    once t h = omega (arith, ints)

    back : (t d : ℤ) → pos 0 <ℤ (pos 1 *ℤ t -ℤ pos 0 *ℤ d) → pos 0 <ℤ t
    back t d h = omega (arith, ints)

-- edges that a parallel of a line parts have no common point: the turns of the ends of one are at most k, those of the other above it
pub not_past : (a b c d m n : Corner) (k : ℤ) (p : Point) → IsOnEdge p c d → IsOnEdge p m n
    → turn a b c ≤ℤ k → turn a b d ≤ℤ k → k <ℤ turn a b m → k <ℤ turn a b n → ⊥
not_past a b c d m n k p h g u v w x =
    differ (turn_at a b p) (pos 2 *ℤ k +ℤ pos 1) p.d
    (beyond (pos 2) (pos 2 *ℤ k +ℤ pos 1) a b p m n g (above (turn a b m) k w) (above (turn a b n) k x))
    (beyond (neg_ℤ (pos 2)) (neg_ℤ (pos 2 *ℤ k +ℤ pos 1)) a b p c d h (under (turn a b c) k u) (under (turn a b d) k v))
  where
    above : (t k : ℤ) → k <ℤ t → pos 0 <ℤ (pos 2 *ℤ t -ℤ (pos 2 *ℤ k +ℤ pos 1))
    above t k h = omega (arith, ints)

    under : (t k : ℤ) → t ≤ℤ k → pos 0 <ℤ (neg_ℤ (pos 2) *ℤ t -ℤ neg_ℤ (pos 2 *ℤ k +ℤ pos 1))
    under t k h = omega (arith, ints)

    differ : (t j d : ℤ) → pos 0 <ℤ (pos 2 *ℤ t -ℤ j *ℤ d) → pos 0 <ℤ (neg_ℤ (pos 2) *ℤ t -ℤ neg_ℤ j *ℤ d) → ⊥
    differ t j d h k = omega (arith, ints, neg-mul j d)
