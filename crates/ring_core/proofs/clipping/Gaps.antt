-- The edge that closes the gap where a flat corner or an ear was taken out meets no other edge of the ring but in a shared corner.
use Rattle.std.proofs.Common.{◌≡◌, ◌∙◌, ◌⊎◌, inl, inr, ⊎_elim, refl, sym, ap, subst, arith, [], ◌∷◌}
use Rattle.std.proofs.lemmas.Int.{ints, by_lt_z}
use lib.IntN.{ℤ, pos, ◌+ℤ◌, ◌-ℤ◌, ◌*ℤ◌, neg_ℤ, *ℤ_comm}
use lib.Signed.{◌<ℤ◌, ◌≤ℤ◌}
use Rattle.geo_exact.specs.declared.corner.Corner.{Corner}
use Rattle.geo_exact.specs.Point.{Point, IsPlaceOf, corner_point}
use Rattle.geo_exact.specs.Turn.{turn, turn_at, IsOnEdge}
use Rattle.geo_exact.specs.Segments.{IsOnSegment}
use Rattle.geo_exact.proofs.numbers.Orders.{le_of_lt, le_both}
use Rattle.geo_exact.proofs.numbers.Differences.{neg-mul, mul-neg}
use Rattle.geo_exact.proofs.numbers.Signs.{mul_pos, mul_not_neg, mul_neg, mul_neg_pos, mul_not_pos, mul_zero}
use Rattle.geo_exact.proofs.numbers.Signs.{not_neg_of_mul, zero_factor, convex}
use Rattle.geo_exact.proofs.numbers.Polynomials.{var, lit, add, mul, sub, same_by}
use Rattle.geo_exact.proofs.corners_and_turns.TurnLaws.{turn_at_corner, turn_cycle}
use Rattle.geo_exact.proofs.corners_and_turns.OnEdge.{on_edge_back, starts_on, ends_on}
use Rattle.geo_exact.proofs.rings.Triangles.{on_triangle_edge}
use Rattle.geo_exact.proofs.rings.Ways.{segment_back}
use Rattle.geo_exact.proofs.corners_and_turns.Sides.{mixed, mixed_on_segment, turn_mixed}
use Rattle.geo_exact.proofs.corners_and_turns.Means.{turn_mean, segment_of_edge, edge_of_segment, segment_part, segment_cut, some_part}
use Rattle.ring_core.specs.Clipping.{IsInTriangle}

-- ---- signs, over plain numbers
falls : (t : ℤ) → t <ℤ pos 0 → pos 0 <ℤ neg_ℤ t
falls t h = omega (arith, ints)

cancels : (s t : ℤ) → neg_ℤ t *ℤ s +ℤ s *ℤ t ≡ pos 0
cancels s t = same (s *ℤ t) (neg_ℤ t *ℤ s) (opposite s t)
  where
    opposite : (s t : ℤ) → neg_ℤ t *ℤ s ≡ neg_ℤ (s *ℤ t)
    opposite s t = neg-mul t s ∙ ap neg_ℤ (*ℤ_comm t s)

    same : (x y : ℤ) → y ≡ neg_ℤ x → y +ℤ x ≡ pos 0
    same x y e = omega (arith, ints)

pub both : (x y : ℤ) → pos 0 ≤ℤ x → pos 0 ≤ℤ y → pos 0 ≤ℤ (x +ℤ y)
both x y h k = omega (arith, ints)

-- ---- in the triangle p k n, counterclockwise: a point q off the sides at k, and a corner v outside
-- v is beyond the side from n to p where the way from q to v meets neither of the other two
module _ (p k n v : Corner) (q : Point) (left : pos 0 <ℤ turn p k n) (a : pos 0 <ℤ turn_at p k q) (b : pos 0 <ℤ turn_at k n q)
    (c : pos 0 ≤ℤ turn_at n p q) where
  -- where the way from q to v meets the line on which a number s at q and t at v is 0
  gap : (s t : ℤ) → pos 0 <ℤ s → t <ℤ pos 0 → pos 0 <ℤ (neg_ℤ t *ℤ q.d +ℤ s *ℤ pos 1)
  gap s t hs ht = convex (neg_ℤ t) s q.d (pos 1) (le_of_lt (pos 0) (neg_ℤ t) (falls t ht)) (le_of_lt (pos 0) s hs)
      (total t s hs ht) q.d_positive (record { lt = tt })
    where
      total : (t s : ℤ) → pos 0 <ℤ s → t <ℤ pos 0 → pos 0 <ℤ (neg_ℤ t +ℤ s)
      total t s h i = omega (arith, ints)

  met : (s t : ℤ) → pos 0 <ℤ s → t <ℤ pos 0 → Point
  met s t hs ht = mixed (neg_ℤ t) s q (corner_point v) (gap s t hs ht)

  met_between : (s t : ℤ) (hs : pos 0 <ℤ s) (ht : t <ℤ pos 0) → IsOnSegment (met s t hs ht) q (corner_point v)
  unfolding met
  met_between s t hs ht =
      mixed_on_segment (neg_ℤ t) s q (corner_point v) (gap s t hs ht) (le_of_lt (pos 0) (neg_ℤ t) (falls t ht)) (le_of_lt (pos 0) s hs)

  met_turn : (s t : ℤ) (hs : pos 0 <ℤ s) (ht : t <ℤ pos 0) (e f : Corner)
      → turn_at e f (met s t hs ht) ≡ neg_ℤ t *ℤ turn_at e f q +ℤ s *ℤ turn e f v
  unfolding met
  met_turn s t hs ht e f =
      turn_mixed (neg_ℤ t) s q (corner_point v) (gap s t hs ht) e f ∙ ap (λ z. neg_ℤ t *ℤ turn_at e f q +ℤ s *ℤ z)
      (turn_at_corner e f v)

  through_first : turn p k v <ℤ pos 0 → pos 0 ≤ℤ turn n p v
      → pos 0 ≤ℤ (neg_ℤ (turn p k v) *ℤ turn_at k n q +ℤ turn_at p k q *ℤ turn k n v)
      → ((r : Point) → IsOnSegment r q (corner_point v) → IsOnEdge r p k → ⊥) → ⊥
  through_first h g l none =
      let r = met (turn_at p k q) (turn p k v) a h in
      none r (met_between (turn_at p k q) (turn p k v) a h)
      (on_triangle_edge p k n r left
      (met_turn (turn_at p k q) (turn p k v) a h p k ∙ cancels (turn_at p k q) (turn p k v))
      (subst (λ z. pos 0 ≤ℤ z) (sym (met_turn (turn_at p k q) (turn p k v) a h k n)) l)
      (subst (λ z. pos 0 ≤ℤ z) (sym (met_turn (turn_at p k q) (turn p k v) a h n p))
      (both (neg_ℤ (turn p k v) *ℤ turn_at n p q) (turn_at p k q *ℤ turn n p v)
      (mul_not_neg (neg_ℤ (turn p k v)) (turn_at n p q) (le_of_lt (pos 0) (neg_ℤ (turn p k v)) (falls (turn p k v) h)) c)
      (mul_not_neg (turn_at p k q) (turn n p v) (le_of_lt (pos 0) (turn_at p k q) a) g))))

  through_second : turn k n v <ℤ pos 0 → pos 0 ≤ℤ turn n p v
      → pos 0 ≤ℤ (neg_ℤ (turn k n v) *ℤ turn_at p k q +ℤ turn_at k n q *ℤ turn p k v)
      → ((r : Point) → IsOnSegment r q (corner_point v) → IsOnEdge r k n → ⊥) → ⊥
  through_second h g l none =
      let r = met (turn_at k n q) (turn k n v) b h in
      none r (met_between (turn_at k n q) (turn k n v) b h)
      (on_triangle_edge k n p r (subst (λ z. pos 0 <ℤ z) (sym (turn_cycle p k n)) left)
      (met_turn (turn_at k n q) (turn k n v) b h k n ∙ cancels (turn_at k n q) (turn k n v))
      (subst (λ z. pos 0 ≤ℤ z) (sym (met_turn (turn_at k n q) (turn k n v) b h n p))
      (both (neg_ℤ (turn k n v) *ℤ turn_at n p q) (turn_at k n q *ℤ turn n p v)
      (mul_not_neg (neg_ℤ (turn k n v)) (turn_at n p q) (le_of_lt (pos 0) (neg_ℤ (turn k n v)) (falls (turn k n v) h)) c)
      (mul_not_neg (turn_at k n q) (turn n p v) (le_of_lt (pos 0) (turn_at k n q) b) g)))
      (subst (λ z. pos 0 ≤ℤ z) (sym (met_turn (turn_at k n q) (turn k n v) b h p k)) l))

  -- which of the two sides the way meets first
  beyond : (IsInTriangle v p k n → ⊥)
      → (turn p k v <ℤ pos 0 → (r : Point) → IsOnSegment r q (corner_point v) → IsOnEdge r p k → ⊥)
      → (turn k n v <ℤ pos 0 → (r : Point) → IsOnSegment r q (corner_point v) → IsOnEdge r k n → ⊥)
      → turn n p v <ℤ pos 0
  beyond out first second =
      by_lt_z (turn n p v) (pos 0) (λ h. h)
      (λ g. absurd (by_lt_z (turn p k v) (pos 0)
      (λ h. by_lt_z (neg_ℤ (turn p k v) *ℤ turn_at k n q +ℤ turn_at p k q *ℤ turn k n v) (pos 0)
      (λ l. by_lt_z (turn k n v) (pos 0)
      (λ i. through_second i g (other (turn p k v) (turn_at k n q) (turn_at p k q) (turn k n v) l) (second i))
      (λ i. never (turn p k v) (turn_at k n q) (turn_at p k q) (turn k n v) l h b a i))
      (λ l. through_first h g l (first h)))
      (λ h. by_lt_z (turn k n v) (pos 0)
      (λ i. through_second i g (at_least (turn k n v) (turn_at p k q) (turn_at k n q) (turn p k v) i a b h) (second i))
      (λ i. out (record { along_ab = h; along_bc = i; along_ca = g })))))
    where
      other : (t z s w : ℤ) → (neg_ℤ t *ℤ z +ℤ s *ℤ w) <ℤ pos 0 → pos 0 ≤ℤ (neg_ℤ w *ℤ s +ℤ z *ℤ t)
      other t z s w l = plain (neg_ℤ t *ℤ z) (t *ℤ z) (s *ℤ w) (neg_ℤ w *ℤ s) (w *ℤ s) (z *ℤ t) (neg-mul t z) (neg-mul w s)
          (*ℤ_comm w s) (*ℤ_comm z t) l
        where
          plain : (a b c d e f : ℤ) → a ≡ neg_ℤ b → d ≡ neg_ℤ e → e ≡ c → f ≡ b → (a +ℤ c) <ℤ pos 0
              → pos 0 ≤ℤ (d +ℤ f)
          plain a b c d e f h i j k l = omega (arith, ints)

      never : (t z s w : ℤ) → (neg_ℤ t *ℤ z +ℤ s *ℤ w) <ℤ pos 0 → t <ℤ pos 0 → pos 0 <ℤ z → pos 0 <ℤ s
          → pos 0 ≤ℤ w → ⊥
      never t z s w l h i j o =
          plain (neg_ℤ t *ℤ z) (t *ℤ z) (s *ℤ w) (neg-mul t z) (mul_neg_pos t z h i) (mul_not_neg s w (le_of_lt (pos 0) s j) o) l
        where
          plain : (a b c : ℤ) → a ≡ neg_ℤ b → b <ℤ pos 0 → pos 0 ≤ℤ c → (a +ℤ c) <ℤ pos 0 → ⊥
          plain a b c h i j k = omega (arith, ints)

      at_least : (w s z t : ℤ) → w <ℤ pos 0 → pos 0 <ℤ s → pos 0 <ℤ z → pos 0 ≤ℤ t
          → pos 0 ≤ℤ (neg_ℤ w *ℤ s +ℤ z *ℤ t)
      at_least w s z t h i j o =
          plain (neg_ℤ w *ℤ s) (w *ℤ s) (z *ℤ t) (neg-mul w s) (mul_neg_pos w s h i) (mul_not_neg z t (le_of_lt (pos 0) z j) o)
        where
          plain : (a b c : ℤ) → a ≡ neg_ℤ b → b <ℤ pos 0 → pos 0 ≤ℤ c → pos 0 ≤ℤ (a +ℤ c)
          plain a b c h i j = omega (arith, ints)

-- ---- an edge from u to w of the ring, beside the corner k with the neighbours p and n: U says that u is the corner after k, W that w is
-- the one before it
pub record IsBeside (p k n u w : Corner) (U W : Type 0) : Type 0 where
  pub first : (q : Point) → IsOnEdge q p k → IsOnEdge q u w → ¬ (W × IsPlaceOf q p) → ⊥
  pub second : (q : Point) → IsOnEdge q k n → IsOnEdge q u w → ¬ (U × IsPlaceOf q n) → ⊥
  pub starts : U → u ≡ n
  pub ends : W → w ≡ p
  pub starts_or : U ⊎ (¬ U)
  pub ends_or : W ⊎ (¬ W)
  pub not_both : U → W → ⊥

-- of an ear: neither end of the edge, where it is no neighbour of k, is in the triangle
pub record IsOutside (p k n u w : Corner) (U W : Type 0) : Type 0 where
  pub start : ¬ U → ¬ IsInTriangle u p k n
  pub end : ¬ W → ¬ IsInTriangle w p k n

-- the sign of a mean
mean_not_pos : (k m n s t z : ℤ) → pos 0 <ℤ k → pos 0 ≤ℤ m → pos 0 ≤ℤ n → k *ℤ z ≡ m *ℤ s +ℤ n *ℤ t
    → s ≤ℤ pos 0 → t ≤ℤ pos 0
    → pos 0 <ℤ z → ⊥
mean_not_pos k m n s t z hk hm hn e hs ht h = omega (arith, ints, e, mul_pos k z hk h, mul_not_pos m s hm hs, mul_not_pos n t hn ht)

mean_neg : (k m n s t z : ℤ) → pos 0 <ℤ k → pos 0 ≤ℤ m → pos 0 ≤ℤ n → pos 0 <ℤ (m +ℤ n)
    → k *ℤ z ≡ m *ℤ s +ℤ n *ℤ t
    → s <ℤ pos 0 → t <ℤ pos 0 → pos 0 ≤ℤ z → ⊥
mean_neg k m n s t z hk hm hn total e hs ht h =
    omega (
      arith,
      ints,
      e,
      mul_not_neg k z (omega (arith, ints)) h,
      turned m n s t (convex m n (neg_ℤ s) (neg_ℤ t) hm hn total (falls s hs) (falls t ht)),
    )
  where
    turned : (m n s t : ℤ) → pos 0 <ℤ (m *ℤ neg_ℤ s +ℤ n *ℤ neg_ℤ t) → (m *ℤ s +ℤ n *ℤ t) <ℤ pos 0
    turned m n s t h = less (m *ℤ s) (n *ℤ t) (m *ℤ neg_ℤ s) (n *ℤ neg_ℤ t) (mul-neg m s) (mul-neg n t) h
      where
        less : (x y x' y' : ℤ) → x' ≡ neg_ℤ x → y' ≡ neg_ℤ y → pos 0 <ℤ (x' +ℤ y') → (x +ℤ y) <ℤ pos 0
        less x y x' y' a b c = omega (arith, ints)

-- a mean that has no part of the second, at the place of the first
no_second : (k m n t z : ℤ) → pos 0 <ℤ k → pos 0 ≤ℤ n → k *ℤ z ≡ m *ℤ pos 0 +ℤ n *ℤ t → t <ℤ pos 0
    → pos 0 ≤ℤ z → n ≡ pos 0
no_second k m n t z hk hn e ht h = by_lt_z (pos 0) n
    (λ i. absurd (omega (arith, ints, e, mul_neg n t i ht, mul_not_neg k z (omega (arith, ints)) h, mul_zero m)))
    (λ i. le_both n (pos 0) i hn)

same_as_first : (k m n x d u w : ℤ) → pos 0 <ℤ k → k *ℤ x ≡ m *ℤ u +ℤ n *ℤ w
    → k *ℤ d ≡ m *ℤ pos 1 +ℤ n *ℤ pos 1 → n ≡ pos 0 → x ≡ u *ℤ d
same_as_first k m n x d u w hk e f h =
    equal x (u *ℤ d) (zero_factor k (x -ℤ u *ℤ d) hk
    (same_by (k ∷ x ∷ u ∷ d ∷ []) (mul (var 0) (sub (var 1) (mul (var 2) (var 3))))
    (sub (mul (var 0) (var 1)) (mul (var 2) (mul (var 0) (var 3)))) refl
    ∙ ap (λ z. z -ℤ u *ℤ (k *ℤ d)) (e ∙ ap (λ z. m *ℤ u +ℤ z *ℤ w) h)
    ∙ ap (λ z. (m *ℤ u +ℤ pos 0 *ℤ w) -ℤ u *ℤ z) (f ∙ ap (λ z. m *ℤ pos 1 +ℤ z *ℤ pos 1) h)
    ∙ same_by (m ∷ u ∷ w ∷ []) (sub (add (mul (var 0) (var 1)) (mul (lit (pos 0)) (var 2)))
    (mul (var 1) (add (mul (var 0) (lit (pos 1))) (mul (lit (pos 0)) (lit (pos 1)))))) (sub (var 0) (var 0)) refl
    ∙ nothing m))
  where
    equal : (x y : ℤ) → x -ℤ y ≡ pos 0 → x ≡ y
    equal x y e = omega (arith, ints)

    nothing : (z : ℤ) → z -ℤ z ≡ pos 0
    nothing z = omega (arith, ints)

pub at_first : (u w : Corner) (q : Point) (s : IsOnSegment q (corner_point u) (corner_point w)) → s.n ≡ pos 0 → IsPlaceOf q u
at_first u w q s h = record {
  same_x = same_as_first s.k s.m s.n q.x q.d u.x w.x s.k_positive s.in_x s.in_d h;
  same_y = same_as_first s.k s.m s.n q.y q.d u.y w.y s.k_positive s.in_y s.in_d h;
}

-- the turn at a point between two corners
pub corner_mean : (a b u w : Corner) (q : Point) (s : IsOnSegment q (corner_point u) (corner_point w))
    → s.k *ℤ turn_at a b q ≡ s.m *ℤ turn a b u +ℤ s.n *ℤ turn a b w
corner_mean a b u w q s =
    turn_mean a b q (corner_point u) (corner_point w) s
    ∙ ap (λ z. s.m *ℤ z +ℤ s.n *ℤ turn_at a b (corner_point w)) (turn_at_corner a b u)
    ∙ ap (λ z. s.m *ℤ turn a b u +ℤ s.n *ℤ z) (turn_at_corner a b w)

-- ---- the gap of an ear
-- a point of the edge in the triangle, off the sides at k, is where it follows k or leads to p
module _ (p k n u w : Corner) (U W : Type 0) (left : pos 0 <ℤ turn p k n) (e : IsBeside p k n u w U W)
    (q : Point) (on : IsOnEdge q u w) where
  segment : IsOnSegment q (corner_point u) (corner_point w)
  segment = segment_of_edge u w q on

  mean : (a b : Corner) → segment.k *ℤ turn_at a b q ≡ segment.m *ℤ turn a b u +ℤ segment.n *ℤ turn a b w
  mean a b = corner_mean a b u w q segment

  not_both_right : (a b : Corner) → turn a b u ≤ℤ pos 0 → turn a b w ≤ℤ pos 0 → pos 0 <ℤ turn_at a b q → ⊥
  not_both_right a b =
      mean_not_pos segment.k segment.m segment.n (turn a b u) (turn a b w) (turn_at a b q)
      segment.k_positive segment.m_not_negative segment.n_not_negative (mean a b)

  towards_start : (r : Point) → IsOnSegment r q (corner_point u) → IsOnEdge r u w
  towards_start r s = edge_of_segment u w r (segment_part r q (corner_point u) (corner_point w) s segment)

  towards_end : (r : Point) → IsOnSegment r q (corner_point w) → IsOnEdge r u w
  towards_end r s =
      on_edge_back w u r
      (edge_of_segment w u r (segment_part r q (corner_point w) (corner_point u) s
      (segment_back q (corner_point u) (corner_point w) segment)))

  level : (a b c : Corner) → c ≡ a ⊎ c ≡ b → turn a b c ≤ℤ pos 0
  level a b c (inl h) = subst (λ (z : Corner). turn a b z ≤ℤ pos 0) (sym h) (zero (turn a b a) (starts_on a b))
    where
      zero : (t : ℤ) → t ≡ pos 0 → t ≤ℤ pos 0
      zero t h = omega (arith, ints)
  level a b c (inr h) = subst (λ (z : Corner). turn a b z ≤ℤ pos 0) (sym h) (zero (turn a b b) (ends_on a b))
    where
      zero : (t : ℤ) → t ≡ pos 0 → t ≤ℤ pos 0
      zero t h = omega (arith, ints)

  pub start_beyond : ¬ IsInTriangle u p k n → pos 0 <ℤ turn_at p k q → pos 0 <ℤ turn_at k n q → pos 0 ≤ℤ turn_at n p q
      → ¬ U
      → turn n p u <ℤ pos 0
  start_beyond out a b c not =
      beyond p k n u q left a b c out
      (λ h r s i. e.first r i (towards_start r s)
      (λ z. not_both_right p k (le_of_lt (turn p k u) (pos 0) h) (level p k w (inl (e.ends z.0))) a))
      (λ h r s i. e.second r i (towards_start r s) (λ z. not z.0))

  pub end_beyond : ¬ IsInTriangle w p k n → pos 0 <ℤ turn_at p k q → pos 0 <ℤ turn_at k n q → pos 0 ≤ℤ turn_at n p q → ¬ W
      → turn n p w <ℤ pos 0
  end_beyond out a b c not =
      beyond p k n w q left a b c out
      (λ h r s i. e.first r i (towards_end r s) (λ z. not z.0))
      (λ h r s i. e.second r i (towards_end r s)
      (λ z. not_both_right k n (level k n u (inr (e.starts z.0))) (le_of_lt (turn k n w) (pos 0) h) b))

  inner : IsOutside p k n u w U W → pos 0 <ℤ turn_at p k q → pos 0 <ℤ turn_at k n q → pos 0 ≤ℤ turn_at n p q
      → ¬ (U × IsPlaceOf q n)
      → ¬ (W × IsPlaceOf q p) → ⊥
  inner o a b c not_start not_end = cases e.starts_or e.ends_or
    where
      cases : U ⊎ (¬ U) → W ⊎ (¬ W) → ⊥
      cases (inl x) (inl y) = e.not_both x y
      cases (inr x) (inr y) =
          mean_neg segment.k segment.m segment.n (turn n p u) (turn n p w) (turn_at n p q) segment.k_positive segment.m_not_negative
          segment.n_not_negative (some_part q (corner_point u) (corner_point w) segment) (mean n p)
          (start_beyond (o.start x) a b c x) (end_beyond (o.end y) a b c y) c
      cases (inl x) (inr y) =
          not_start (
            x,
            subst (IsPlaceOf q) (e.starts x) (at_first u w q segment
                (no_second segment.k segment.m segment.n (turn n p w) (turn_at n p q) segment.k_positive segment.n_not_negative
                (mean n p
                ∙ ap (λ z. segment.m *ℤ z +ℤ segment.n *ℤ turn n p w) (ap (λ (z : Corner). turn n p z) (e.starts x)
                ∙ starts_on n p))
                (end_beyond (o.end y) a b c y) c)),
          )
      cases (inr x) (inl y) =
          let back = segment_back q (corner_point u) (corner_point w) segment in
          not_end (
            y,
            subst (IsPlaceOf q) (e.ends y) (at_first w u q back
                (no_second segment.k segment.n segment.m (turn n p u) (turn_at n p q) segment.k_positive segment.m_not_negative
                (mean n p ∙ ap (λ z. segment.m *ℤ turn n p u +ℤ segment.n *ℤ z)
                (ap (λ (z : Corner). turn n p z) (e.ends y) ∙ ends_on n p)
                ∙ exchanged (segment.m *ℤ turn n p u) (segment.n *ℤ pos 0))
                (start_beyond (o.start x) a b c x) c)),
          )
        where
          exchanged : (x y : ℤ) → x +ℤ y ≡ y +ℤ x
          exchanged x y = omega (arith, ints)

  -- a point of the edge in the closed triangle
  pub ear_meets : IsOutside p k n u w U W → pos 0 ≤ℤ turn_at p k q → pos 0 ≤ℤ turn_at k n q → pos 0 ≤ℤ turn_at n p q
      → ¬
      (U × IsPlaceOf q n) → ¬ (W × IsPlaceOf q p) → ⊥
  ear_meets o a b c not_start not_end =
      by_lt_z (pos 0) (turn_at p k q)
      (λ h. by_lt_z (pos 0) (turn_at k n q)
      (λ i. inner o h i c not_start not_end)
      (λ i. e.second q (on_triangle_edge k n p q (subst (λ z. pos 0 <ℤ z) (sym (turn_cycle p k n)) left)
      (le_both (turn_at k n q) (pos 0) i b) c a)
      on not_start))
      (λ h. e.first q (on_triangle_edge p k n q left (le_both (turn_at p k q) (pos 0) h a) b c) on not_end)

-- ---- the gap's own edge, from p to n
-- on it a point is not right of the sides at k
module _ (p k n : Corner) (left : pos 0 <ℤ turn p k n) (q : Point) (on : IsOnEdge q p n) where
  across : IsOnSegment q (corner_point p) (corner_point n)
  across = segment_of_edge p n q on

  not_right : (a b : Corner) → pos 0 ≤ℤ turn a b p → pos 0 ≤ℤ turn a b n → pos 0 ≤ℤ turn_at a b q
  not_right a b h i =
      not_neg_of_mul across.k (turn_at a b q) across.k_positive
      (subst (λ z. pos 0 ≤ℤ z) (sym (turn_mean a b q (corner_point p) (corner_point n) across
      ∙ ap (λ z. across.m *ℤ z +ℤ across.n *ℤ turn_at a b (corner_point n)) (turn_at_corner a b p)
      ∙ ap (λ z. across.m *ℤ turn a b p +ℤ across.n *ℤ z) (turn_at_corner a b n)))
      (both (across.m *ℤ turn a b p) (across.n *ℤ turn a b n)
      (mul_not_neg across.m (turn a b p) across.m_not_negative h)
      (mul_not_neg across.n (turn a b n) across.n_not_negative i)))

  level_too : (t : ℤ) → t ≡ pos 0 → pos 0 ≤ℤ t
  level_too t h = omega (arith, ints)

  not_right_first : pos 0 ≤ℤ turn_at p k q
  not_right_first = not_right p k (level_too (turn p k p) (starts_on p k)) (le_of_lt (pos 0) (turn p k n) left)

  not_right_second : pos 0 ≤ℤ turn_at k n q
  not_right_second =
      not_right k n (le_of_lt (pos 0) (turn k n p) (subst (λ z. pos 0 <ℤ z) (sym (turn_cycle p k n)) left))
      (level_too (turn k n n) (ends_on k n))

  not_right_third : pos 0 ≤ℤ turn_at n p q
  not_right_third = not_right n p (level_too (turn n p p) (ends_on n p)) (level_too (turn n p n) (starts_on n p))

-- ---- what meets the edge from p to n
-- with the corner k an ear, counterclockwise
pub ear_gap : (p k n u w : Corner) (U W : Type 0) → pos 0 <ℤ turn p k n → IsBeside p k n u w U W → IsOutside p k n u w U W
    → (q : Point) → IsOnEdge q u w → IsOnEdge q p n → ¬ (U × IsPlaceOf q n) → ¬ (W × IsPlaceOf q p) → ⊥
ear_gap p k n u w U W left e o q on gap =
    ear_meets p k n u w U W left e q on o (not_right_first p k n left q gap) (not_right_second p k n left q gap)
    (not_right_third p k n left q gap)

-- the same, seen from the other side
beside_back : (p k n u w : Corner) (U W : Type 0) → IsBeside p k n u w U W → IsBeside n k p w u W U
beside_back p k n u w U W e = record {
  first = λ q i j. e.second q (on_edge_back n k q i) (on_edge_back w u q j);
  second = λ q i j. e.first q (on_edge_back k p q i) (on_edge_back w u q j);
  starts = e.ends;
  ends = e.starts;
  starts_or = e.ends_or;
  ends_or = e.starts_or;
  not_both = λ x y. e.not_both y x;
}

-- and clockwise
pub ear_gap_back : (p k n u w : Corner) (U W : Type 0) → pos 0 <ℤ turn n k p → IsBeside p k n u w U W → IsOutside n k p w u W U
    → (q : Point) → IsOnEdge q u w → IsOnEdge q p n → ¬ (U × IsPlaceOf q n) → ¬ (W × IsPlaceOf q p) → ⊥
ear_gap_back p k n u w U W right e o q on gap not_start not_end =
    ear_gap n k p w u W U right (beside_back p k n u w U W e) o q (on_edge_back u w q on) (on_edge_back p n q gap) not_end not_start

-- with the corner k flat
pub flat_gap : (p k n u w : Corner) (U W : Type 0) → IsOnEdge (corner_point k) p n → IsBeside p k n u w U W
    → (q : Point) → IsOnEdge q u w → IsOnEdge q p n → ¬ (U × IsPlaceOf q n) → ¬ (W × IsPlaceOf q p) → ⊥
flat_gap p k n u w U W flat e q on gap not_start not_end =
    ⊎_elim
    (λ s. e.first q (edge_of_segment p k q s) on not_end)
    (λ s. e.second q (edge_of_segment k n q s) on not_start)
    (segment_cut q (corner_point k) (corner_point p) (corner_point n)
    (segment_of_edge p n (corner_point k) flat) (segment_of_edge p n q gap))
