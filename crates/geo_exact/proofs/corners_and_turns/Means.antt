-- Points of a segment as weighed means: turns along it, and the edge between two corners as the segment between their places.
use Rattle.std.proofs.Common.{◌≡◌, ◌∙◌, ◌⊎◌, inl, inr, refl, sym, ap, arith, [], ◌∷◌}
use Rattle.std.proofs.lemmas.Int.{ints, by_lt_z}
use Rattle.std.specs.Int.{int_min, int_max}
use lib.IntN.{ℤ, pos, ◌+ℤ◌, ◌-ℤ◌, ◌*ℤ◌, *ℤ_comm}
use lib.Signed.{◌<ℤ◌, ◌≤ℤ◌}
use Rattle.geo_exact.specs.declared.corner.Corner.{Corner}
use Rattle.geo_exact.specs.Point.{Point, corner_point}
use Rattle.geo_exact.specs.Turn.{turn_at, IsOnEdge}
use Rattle.geo_exact.specs.Segments.{IsOnSegment}
use Rattle.geo_exact.proofs.numbers.Orders.{le_of_lt}
use Rattle.geo_exact.proofs.numbers.Signs.{mul_pos, mul_not_neg, zero_factor}
use Rattle.geo_exact.proofs.numbers.Polynomials.{var, lit, add, mul, sub, same_by}
use Rattle.geo_exact.proofs.corners_and_turns.TurnLaws.{turn_at_expr, turn_at_corner}
use Rattle.geo_exact.proofs.corners_and_turns.OnEdge.{
  min_left,
  max_left,
  max_right,
  mean_low,
  mean_high,
  min_reaches,
  max_reaches,
  on_edge_back,
  starts_on,
  ends_on,
}
use Rattle.geo_exact.proofs.rings.Ways.{segment_back}

-- ---- a turn at a mean is the mean of the turns
turn_scaled : (a b : Corner) (k x y d : ℤ)
    → k *ℤ ((b.x -ℤ a.x) *ℤ (y -ℤ a.y *ℤ d) -ℤ (b.y -ℤ a.y) *ℤ (x -ℤ a.x *ℤ d))
    ≡ (b.x -ℤ a.x) *ℤ (k *ℤ y -ℤ a.y *ℤ (k *ℤ d)) -ℤ (b.y -ℤ a.y) *ℤ (k *ℤ x -ℤ a.x *ℤ (k *ℤ d))
turn_scaled a b k x y d =
    same_by (a.x ∷ a.y ∷ b.x ∷ b.y ∷ x ∷ y ∷ d ∷ k ∷ [])
    (mul (var 7) (turn_at_expr (var 0) (var 1) (var 2) (var 3) (var 4) (var 5) (var 6)))
    (turn_at_expr (var 0) (var 1) (var 2) (var 3) (mul (var 7) (var 4)) (mul (var 7) (var 5)) (mul (var 7) (var 6)))
    refl

turn_summed : (a b : Corner) (m n : ℤ) (p r : Point)
    → (b.x -ℤ a.x) *ℤ ((m *ℤ p.y +ℤ n *ℤ r.y) -ℤ a.y *ℤ (m *ℤ p.d +ℤ n *ℤ r.d)) -ℤ (b.y -ℤ a.y) *ℤ
    ((m *ℤ p.x +ℤ n *ℤ r.x) -ℤ a.x *ℤ (m *ℤ p.d +ℤ n *ℤ r.d))
    ≡ m *ℤ turn_at a b p +ℤ n *ℤ turn_at a b r
turn_summed a b m n p r =
    same_by (a.x ∷ a.y ∷ b.x ∷ b.y ∷ p.x ∷ p.y ∷ p.d ∷ r.x ∷ r.y ∷ r.d ∷ m ∷ n ∷ [])
    (turn_at_expr (var 0) (var 1) (var 2) (var 3)
    (add (mul (var 10) (var 4)) (mul (var 11) (var 7)))
    (add (mul (var 10) (var 5)) (mul (var 11) (var 8)))
    (add (mul (var 10) (var 6)) (mul (var 11) (var 9))))
    (add
    (mul (var 10) (turn_at_expr (var 0) (var 1) (var 2) (var 3) (var 4) (var 5) (var 6)))
    (mul (var 11) (turn_at_expr (var 0) (var 1) (var 2) (var 3) (var 7) (var 8) (var 9))))
    refl

pub turn_mean : (a b : Corner) (q p r : Point) (s : IsOnSegment q p r)
    → s.k *ℤ turn_at a b q ≡ s.m *ℤ turn_at a b p +ℤ s.n *ℤ turn_at a b r
turn_mean a b q p r s =
    turn_scaled a b s.k q.x q.y q.d
    ∙ ap (λ z. (b.x -ℤ a.x) *ℤ (s.k *ℤ q.y -ℤ a.y *ℤ (s.k *ℤ q.d)) -ℤ (b.y -ℤ a.y) *ℤ (z -ℤ a.x *ℤ (s.k *ℤ q.d)))
    s.in_x
    ∙ ap (λ z. (b.x -ℤ a.x) *ℤ (z -ℤ a.y *ℤ (s.k *ℤ q.d)) -ℤ (b.y -ℤ a.y) *ℤ ((s.m *ℤ p.x +ℤ s.n *ℤ r.x)
    -ℤ a.x *ℤ (s.k *ℤ q.d))) s.in_y
    ∙ ap (λ z. (b.x -ℤ a.x) *ℤ ((s.m *ℤ p.y +ℤ s.n *ℤ r.y) -ℤ a.y *ℤ z) -ℤ (b.y -ℤ a.y) *ℤ
    ((s.m *ℤ p.x +ℤ s.n *ℤ r.x) -ℤ a.x *ℤ z)) s.in_d
    ∙ turn_summed a b s.m s.n p r

-- ---- an edge is the segment between the places of its ends
two_parts : (k m n d : ℤ) → pos 0 <ℤ k → pos 0 <ℤ d → k *ℤ d ≡ m *ℤ pos 1 +ℤ n *ℤ pos 1 → pos 0 <ℤ (m +ℤ n)
two_parts k m n d hk hd e = omega (arith, ints, e, mul_pos k d hk hd)

mean_of : (k m n u w x d : ℤ) → k *ℤ x ≡ m *ℤ u +ℤ n *ℤ w → k *ℤ d ≡ m *ℤ pos 1 +ℤ n *ℤ pos 1
    → m *ℤ (u *ℤ d -ℤ x) +ℤ n *ℤ
    (w *ℤ d -ℤ x) ≡ pos 0
mean_of k m n u w x d e f =
    same_by (m ∷ n ∷ u ∷ w ∷ x ∷ d ∷ [])
    (add (mul (var 0) (sub (mul (var 2) (var 5)) (var 4))) (mul (var 1) (sub (mul (var 3) (var 5)) (var 4))))
    (sub (mul (var 5) (add (mul (var 0) (var 2)) (mul (var 1) (var 3))))
    (mul (add (mul (var 0) (lit (pos 1))) (mul (var 1) (lit (pos 1)))) (var 4)))
    refl
    ∙ ap (λ z. d *ℤ z -ℤ (m *ℤ pos 1 +ℤ n *ℤ pos 1) *ℤ x) (sym e)
    ∙ ap (λ z. d *ℤ (k *ℤ x) -ℤ z *ℤ x) (sym f)
    ∙ same_by (k ∷ x ∷ d ∷ []) (sub (mul (var 2) (mul (var 0) (var 1))) (mul (mul (var 0) (var 2)) (var 1)))
    (sub (var 0) (var 0)) refl
    ∙ nothing k
  where
    nothing : (z : ℤ) → z -ℤ z ≡ pos 0
    nothing z = omega (arith, ints)

pub edge_of_segment : (u w : Corner) (q : Point) → IsOnSegment q (corner_point u) (corner_point w) → IsOnEdge q u w
edge_of_segment u w q s =
    let some : pos 0 <ℤ (s.m +ℤ s.n) = two_parts s.k s.m s.n q.d s.k_positive q.d_positive s.in_d in
    let mx = mean_of s.k s.m s.n u.x w.x q.x q.d s.in_x s.in_d in
    let my = mean_of s.k s.m s.n u.y w.y q.y q.d s.in_y s.in_d in
    record {
      on_line = zero_factor s.k (turn_at u w q) s.k_positive
          (turn_mean u w q (corner_point u) (corner_point w) s
          ∙ ap (λ z. s.m *ℤ z +ℤ s.n *ℤ turn_at u w (corner_point w)) (turn_at_corner u w u ∙ starts_on u w)
          ∙ ap (λ z. s.m *ℤ pos 0 +ℤ s.n *ℤ z) (turn_at_corner u w w ∙ ends_on u w)
          ∙ none s.m s.n);
      from_x = min_reaches u.x w.x q.d q.x q.d_positive (mean_low s.m s.n (u.x *ℤ q.d)
          (w.x *ℤ q.d) q.x s.m_not_negative s.n_not_negative some mx);
      to_x = max_reaches u.x w.x q.d q.x q.d_positive (mean_high s.m s.n (u.x *ℤ q.d)
          (w.x *ℤ q.d) q.x s.m_not_negative s.n_not_negative some mx);
      from_y = min_reaches u.y w.y q.d q.y q.d_positive (mean_low s.m s.n (u.y *ℤ q.d)
          (w.y *ℤ q.d) q.y s.m_not_negative s.n_not_negative some my);
      to_y = max_reaches u.y w.y q.d q.y q.d_positive (mean_high s.m s.n (u.y *ℤ q.d)
          (w.y *ℤ q.d) q.y s.m_not_negative s.n_not_negative some my);
    }
  where
    none : (m n : ℤ) → m *ℤ pos 0 +ℤ n *ℤ pos 0 ≡ pos 0
    none m n = omega (arith, ints)

rest_of : (x y : ℤ) → x ≤ℤ y → pos 0 ≤ℤ (y -ℤ x)
rest_of x y h = omega (arith, ints)

apart : (x y : ℤ) → x <ℤ y → pos 0 <ℤ (y -ℤ x)
apart x y h = omega (arith, ints)

from_line : (x y t : ℤ) → x -ℤ y ≡ t → t ≡ pos 0 → x ≡ y
from_line x y t e h = omega (arith, ints)

-- one that goes to the right
by_x : (u w : Corner) (q : Point) → u.x <ℤ w.x → IsOnEdge q u w → IsOnSegment q (corner_point u) (corner_point w)
by_x u w q h e = record {
  k = w.x -ℤ u.x;
  m = w.x *ℤ q.d -ℤ q.x;
  n = q.x -ℤ u.x *ℤ q.d;
  k_positive = apart u.x w.x h;
  m_not_negative = rest_of q.x (w.x *ℤ q.d) (rw (max_right u.x w.x (le_of_lt u.x w.x h)) at e.to_x);
  n_not_negative = rest_of (u.x *ℤ q.d) q.x (rw (min_left u.x w.x (le_of_lt u.x w.x h)) at e.from_x);
  in_x = same_by (u.x ∷ u.y ∷ w.x ∷ w.y ∷ q.x ∷ q.y ∷ q.d ∷ [])
      (mul (sub (var 2) (var 0)) (var 4))
      (add (mul (sub (mul (var 2) (var 6)) (var 4)) (var 0)) (mul (sub (var 4) (mul (var 0) (var 6))) (var 2)))
      refl;
  in_y = from_line ((w.x -ℤ u.x) *ℤ q.y) ((w.x *ℤ q.d -ℤ q.x) *ℤ u.y +ℤ (q.x -ℤ u.x *ℤ q.d) *ℤ w.y) (turn_at u w q)
      (same_by (u.x ∷ u.y ∷ w.x ∷ w.y ∷ q.x ∷ q.y ∷ q.d ∷ [])
      (sub (mul (sub (var 2) (var 0)) (var 5)) (add (mul (sub (mul (var 2) (var 6)) (var 4)) (var 1))
      (mul (sub (var 4) (mul (var 0) (var 6))) (var 3))))
      (turn_at_expr (var 0) (var 1) (var 2) (var 3) (var 4) (var 5) (var 6))
      refl)
      e.on_line;
  in_d = same_by (u.x ∷ u.y ∷ w.x ∷ w.y ∷ q.x ∷ q.y ∷ q.d ∷ [])
      (mul (sub (var 2) (var 0)) (var 6))
      (add (mul (sub (mul (var 2) (var 6)) (var 4)) (lit (pos 1))) (mul (sub (var 4) (mul (var 0) (var 6))) (lit (pos 1))))
      refl;
}

-- one that goes upward
by_y : (u w : Corner) (q : Point) → u.y <ℤ w.y → IsOnEdge q u w → IsOnSegment q (corner_point u) (corner_point w)
by_y u w q h e = record {
  k = w.y -ℤ u.y;
  m = w.y *ℤ q.d -ℤ q.y;
  n = q.y -ℤ u.y *ℤ q.d;
  k_positive = apart u.y w.y h;
  m_not_negative = rest_of q.y (w.y *ℤ q.d) (rw (max_right u.y w.y (le_of_lt u.y w.y h)) at e.to_y);
  n_not_negative = rest_of (u.y *ℤ q.d) q.y (rw (min_left u.y w.y (le_of_lt u.y w.y h)) at e.from_y);
  in_x = sym (from_line ((w.y *ℤ q.d -ℤ q.y) *ℤ u.x +ℤ (q.y -ℤ u.y *ℤ q.d) *ℤ w.x) ((w.y -ℤ u.y) *ℤ q.x) (turn_at u w q)
      (same_by (u.x ∷ u.y ∷ w.x ∷ w.y ∷ q.x ∷ q.y ∷ q.d ∷ [])
      (sub (add (mul (sub (mul (var 3) (var 6)) (var 5)) (var 0)) (mul (sub (var 5) (mul (var 1) (var 6))) (var 2)))
      (mul (sub (var 3) (var 1)) (var 4)))
      (turn_at_expr (var 0) (var 1) (var 2) (var 3) (var 4) (var 5) (var 6))
      refl)
      e.on_line);
  in_y = same_by (u.x ∷ u.y ∷ w.x ∷ w.y ∷ q.x ∷ q.y ∷ q.d ∷ [])
      (mul (sub (var 3) (var 1)) (var 5))
      (add (mul (sub (mul (var 3) (var 6)) (var 5)) (var 1)) (mul (sub (var 5) (mul (var 1) (var 6))) (var 3)))
      refl;
  in_d = same_by (u.x ∷ u.y ∷ w.x ∷ w.y ∷ q.x ∷ q.y ∷ q.d ∷ [])
      (mul (sub (var 3) (var 1)) (var 6))
      (add (mul (sub (mul (var 3) (var 6)) (var 5)) (lit (pos 1))) (mul (sub (var 5) (mul (var 1) (var 6))) (lit (pos 1))))
      refl;
}

-- one of no length
pub place_on_segment : (u w : Corner) (q : Point) → q.x ≡ u.x *ℤ q.d → q.y ≡ u.y *ℤ q.d
    → IsOnSegment q (corner_point u) (corner_point w)
place_on_segment u w q h i = record {
  k = pos 1;
  m = q.d;
  n = pos 0;
  k_positive = record { lt = tt };
  m_not_negative = le_of_lt (pos 0) q.d q.d_positive;
  n_not_negative = record { le = tt };
  in_x = first q.x u.x w.x q.d h;
  in_y = first q.y u.y w.y q.d i;
  in_d = all_of q.d;
}
  where
    first : (x u w d : ℤ) → x ≡ u *ℤ d → pos 1 *ℤ x ≡ d *ℤ u +ℤ pos 0 *ℤ w
    first x u w d h =
        ap (λ z. pos 1 *ℤ z) h
        ∙ same_by (u ∷ w ∷ d ∷ []) (mul (lit (pos 1)) (mul (var 0) (var 2)))
        (add (mul (var 2) (var 0)) (mul (lit (pos 0)) (var 1))) refl

    all_of : (d : ℤ) → pos 1 *ℤ d ≡ d *ℤ pos 1 +ℤ pos 0 *ℤ pos 1
    all_of d = omega (arith, ints)

-- what lies between two equal numbers is each of them
pub same_place : (u v d w : ℤ) → v ≤ℤ u → u ≤ℤ v → (int_min u v *ℤ d) ≤ℤ w → w ≤ℤ (int_max u v *ℤ d)
    → w ≡ u *ℤ d
same_place u v d w o i h k = both (rw (min_left u v i) at h) (rw (max_left u v o) at k)
  where
    both : (u *ℤ d) ≤ℤ w → w ≤ℤ (u *ℤ d) → w ≡ u *ℤ d
    both a b = omega (arith, ints)

pub segment_of_edge : (u w : Corner) (q : Point) → IsOnEdge q u w → IsOnSegment q (corner_point u) (corner_point w)
segment_of_edge u w q e =
    by_lt_z u.x w.x (λ h. by_x u w q h e)
    (λ i. by_lt_z w.x u.x (λ h. segment_back q (corner_point w) (corner_point u) (by_x w u q h (on_edge_back u w q e)))
    (λ j. by_lt_z u.y w.y (λ h. by_y u w q h e)
    (λ k. by_lt_z w.y u.y (λ h. segment_back q (corner_point w) (corner_point u) (by_y w u q h (on_edge_back u w q e)))
    (λ l. place_on_segment u w q (same_place u.x w.x q.d q.x i j e.from_x e.to_x) (same_place u.y w.y q.d q.y k l e.from_y e.to_y)))))

-- ---- a part of a segment
part_sum : (k m n k' m' n' r q u w : ℤ) → k *ℤ r ≡ m *ℤ q +ℤ n *ℤ u → k' *ℤ q ≡ m' *ℤ u +ℤ n' *ℤ w
    → (k *ℤ k') *ℤ r ≡ (m *ℤ m' +ℤ n *ℤ k') *ℤ u +ℤ (m *ℤ n') *ℤ w
part_sum k m n k' m' n' r q u w e f =
    same_by (k ∷ k' ∷ r ∷ []) (mul (mul (var 0) (var 1)) (var 2)) (mul (var 1) (mul (var 0) (var 2))) refl
    ∙ ap (λ z. k' *ℤ z) e
    ∙ same_by (m ∷ n ∷ k' ∷ q ∷ u ∷ []) (mul (var 2) (add (mul (var 0) (var 3)) (mul (var 1) (var 4))))
    (add (mul (var 0) (mul (var 2) (var 3))) (mul (mul (var 1) (var 2)) (var 4))) refl
    ∙ ap (λ z. m *ℤ z +ℤ (n *ℤ k') *ℤ u) f
    ∙ same_by (m ∷ n ∷ k' ∷ m' ∷ n' ∷ u ∷ w ∷ [])
    (add (mul (var 0) (add (mul (var 3) (var 5)) (mul (var 4) (var 6)))) (mul (mul (var 1) (var 2)) (var 5)))
    (add (mul (add (mul (var 0) (var 3)) (mul (var 1) (var 2))) (var 5)) (mul (mul (var 0) (var 4)) (var 6)))
    refl

-- r between q and u, and q between u and w
pub segment_part : (r q u w : Point) → IsOnSegment r q u → IsOnSegment q u w → IsOnSegment r u w
segment_part r q u w s t = record {
  k = s.k *ℤ t.k;
  m = s.m *ℤ t.m +ℤ s.n *ℤ t.k;
  n = s.m *ℤ t.n;
  k_positive = mul_pos s.k t.k s.k_positive t.k_positive;
  m_not_negative = both (mul_not_neg s.m t.m s.m_not_negative t.m_not_negative)
      (mul_not_neg s.n t.k s.n_not_negative (le_of_lt (pos 0) t.k t.k_positive));
  n_not_negative = mul_not_neg s.m t.n s.m_not_negative t.n_not_negative;
  in_x = part_sum s.k s.m s.n t.k t.m t.n r.x q.x u.x w.x s.in_x t.in_x;
  in_y = part_sum s.k s.m s.n t.k t.m t.n r.y q.y u.y w.y s.in_y t.in_y;
  in_d = part_sum s.k s.m s.n t.k t.m t.n r.d q.d u.d w.d s.in_d t.in_d;
}
  where
    both : {x y : ℤ} → pos 0 ≤ℤ x → pos 0 ≤ℤ y → pos 0 ≤ℤ (x +ℤ y)
    both h k = omega (arith, ints)

-- ---- a segment cut at one of its points
cut_first : (k m n k' m' n' q c p r : ℤ) → k *ℤ c ≡ m *ℤ p +ℤ n *ℤ r → k' *ℤ q ≡ m' *ℤ p +ℤ n' *ℤ r
    → (n *ℤ k') *ℤ q ≡ (n *ℤ m' -ℤ n' *ℤ m) *ℤ p +ℤ (n' *ℤ k) *ℤ c
cut_first k m n k' m' n' q c p r e f =
    same_by (n ∷ k' ∷ q ∷ []) (mul (mul (var 0) (var 1)) (var 2)) (mul (var 0) (mul (var 1) (var 2))) refl
    ∙ ap (λ z. n *ℤ z) f
    ∙ same_by (m ∷ n ∷ m' ∷ n' ∷ p ∷ r ∷ [])
    (mul (var 1) (add (mul (var 2) (var 4)) (mul (var 3) (var 5))))
    (add (mul (sub (mul (var 1) (var 2)) (mul (var 3) (var 0))) (var 4)) (mul (var 3) (add (mul (var 0) (var 4)) (mul (var 1) (var 5)))))
    refl
    ∙ ap (λ z. (n *ℤ m' -ℤ n' *ℤ m) *ℤ p +ℤ n' *ℤ z) (sym e)
    ∙ same_by (k ∷ n' ∷ c ∷ ((n *ℤ m' -ℤ n' *ℤ m) *ℤ p) ∷ []) (add (var 3) (mul (var 1) (mul (var 0) (var 2))))
    (add (var 3) (mul (mul (var 1) (var 0)) (var 2))) refl

-- the part of the segment from p to r up to c, where c has a part of r
up_to : (q c p r : Point) (s : IsOnSegment c p r) (t : IsOnSegment q p r) → pos 0 <ℤ s.n → (t.n *ℤ s.m) ≤ℤ (s.n *ℤ t.m)
    → IsOnSegment q p c
up_to q c p r s t h l = record {
  k = s.n *ℤ t.k;
  m = s.n *ℤ t.m -ℤ t.n *ℤ s.m;
  n = t.n *ℤ s.k;
  k_positive = mul_pos s.n t.k h t.k_positive;
  m_not_negative = rest_of (t.n *ℤ s.m) (s.n *ℤ t.m) l;
  n_not_negative = mul_not_neg t.n s.k t.n_not_negative (le_of_lt (pos 0) s.k s.k_positive);
  in_x = cut_first s.k s.m s.n t.k t.m t.n q.x c.x p.x r.x s.in_x t.in_x;
  in_y = cut_first s.k s.m s.n t.k t.m t.n q.y c.y p.y r.y s.in_y t.in_y;
  in_d = cut_first s.k s.m s.n t.k t.m t.n q.d c.d p.d r.d s.in_d t.in_d;
}

-- a point that has no part of r is the start
no_part : (k m n q p r c : ℤ) → k *ℤ q ≡ m *ℤ p +ℤ n *ℤ r → n ≡ pos 0 → k *ℤ q ≡ m *ℤ p +ℤ pos 0 *ℤ c
no_part k m n q p r c e h = e ∙ ap (λ z. m *ℤ p +ℤ z *ℤ r) h ∙ same_by (m ∷ p ∷ r ∷ c ∷ [])
    (add (mul (var 0) (var 1)) (mul (lit (pos 0)) (var 2))) (add (mul (var 0) (var 1)) (mul (lit (pos 0)) (var 3))) refl

at_start : (q c p r : Point) (t : IsOnSegment q p r) → t.n ≡ pos 0 → IsOnSegment q p c
at_start q c p r t h = record {
  k = t.k;
  m = t.m;
  n = pos 0;
  k_positive = t.k_positive;
  m_not_negative = t.m_not_negative;
  n_not_negative = record { le = tt };
  in_x = no_part t.k t.m t.n q.x p.x r.x c.x t.in_x h;
  in_y = no_part t.k t.m t.n q.y p.y r.y c.y t.in_y h;
  in_d = no_part t.k t.m t.n q.d p.d r.d c.d t.in_d h;
}

-- the two parts of a mean are not both 0
pub some_part : (q p r : Point) (s : IsOnSegment q p r) → pos 0 <ℤ (s.m +ℤ s.n)
some_part q p r s = by_lt_z (pos 0) (s.m +ℤ s.n) (λ h. h)
    (λ h. absurd (none s.k s.m s.n q.d p.d r.d s.k_positive q.d_positive s.m_not_negative s.n_not_negative s.in_d h))
  where
    none : (k m n d e f : ℤ) → pos 0 <ℤ k → pos 0 <ℤ d → pos 0 ≤ℤ m → pos 0 ≤ℤ n
        → k *ℤ d ≡ m *ℤ e +ℤ n *ℤ f → (m +ℤ n) ≤ℤ pos 0 → ⊥
    none k m n d e f hk hd hm hn i l =
        let z : m ≡ pos 0 = omega (arith, ints) in
        let y : n ≡ pos 0 = omega (arith, ints) in
        let both : k *ℤ d ≡ pos 0 *ℤ e +ℤ pos 0 *ℤ f = i ∙ ap (λ x. x *ℤ e +ℤ n *ℤ f) z
        ∙ ap (λ x. pos 0 *ℤ e +ℤ x *ℤ f) y in
        omega (arith, ints, both, mul_pos k d hk hd)

-- a point of a segment lies on one of its two parts
pub segment_cut : (q c p r : Point) → IsOnSegment c p r → IsOnSegment q p r → IsOnSegment q p c ⊎ IsOnSegment q c r
segment_cut q c p r s t =
    by_lt_z (s.n *ℤ t.m) (t.n *ℤ s.m)
    (λ h. inr (segment_back q r c (later h)))
    (λ h. inl (earlier h))
  where
    zero_or : (x : ℤ) → pos 0 ≤ℤ x → (x ≤ℤ pos 0 → x ≡ pos 0)
    zero_or x h k = omega (arith, ints)

    flat : (n m' n' m : ℤ) → n ≡ pos 0 → (n' *ℤ m) ≤ℤ (n *ℤ m') → pos 0 ≤ℤ n' → pos 0 <ℤ (m +ℤ n)
        → n' ≡ pos 0
    flat n m' n' m e h k l =
        by_lt_z (pos 0) n'
        (λ i. absurd (none (n *ℤ m') (n' *ℤ m) (ap (λ z. z *ℤ m') e ∙ none_of m') h (mul_pos n' m i (positive n m e l))))
        (λ i. zero_or n' k i)
      where
        none_of : (z : ℤ) → pos 0 *ℤ z ≡ pos 0
        none_of z = omega (arith, ints)

        positive : (u v : ℤ) → u ≡ pos 0 → pos 0 <ℤ (v +ℤ u) → pos 0 <ℤ v
        positive u v a b = omega (arith, ints)

        none : (u v : ℤ) → u ≡ pos 0 → v ≤ℤ u → pos 0 <ℤ v → ⊥
        none u v a b d = omega (arith, ints)

    earlier : (t.n *ℤ s.m) ≤ℤ (s.n *ℤ t.m) → IsOnSegment q p c
    earlier h =
        by_lt_z (pos 0) s.n
        (λ i. up_to q c p r s t i h)
        (λ i. at_start q c p r t (flat s.n t.m t.n s.m (zero_or s.n s.n_not_negative i) h t.n_not_negative (some_part c p r s)))

    later : (s.n *ℤ t.m) <ℤ (t.n *ℤ s.m) → IsOnSegment q r c
    later h =
        let s' = segment_back c p r s in
        let t' = segment_back q p r t in
        let l : (t.m *ℤ s.n) ≤ℤ (s.m *ℤ t.n) = turned s.n t.m t.n s.m h in
        by_lt_z (pos 0) s.m
        (λ i. up_to q c r p s' t' i l)
        (λ i. at_start q c r p t' (flat s.m t.n t.m s.n (zero_or s.m s.m_not_negative i) l t.m_not_negative
        (swapped s.m s.n (some_part c p r s))))
      where
        turned : (a b d e : ℤ) → (a *ℤ b) <ℤ (d *ℤ e) → (b *ℤ a) ≤ℤ (e *ℤ d)
        turned a b d e o = omega (arith, ints, *ℤ_comm a b, *ℤ_comm d e)

        swapped : (a b : ℤ) → pos 0 <ℤ (a +ℤ b) → pos 0 <ℤ (b +ℤ a)
        swapped a b o = omega (arith, ints)
