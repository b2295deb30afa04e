-- The way from a point on an edge of a triangle to the triangle's centre: all of it but its beginning is inside.
use Rattle.std.proofs.Common.{◌≡◌, inl, inr, sym, ap, subst, arith, ℤ, pos, negsuc, ◌+ℤ◌, ◌*ℤ◌, List, [], ◌∷◌}
use Rattle.std.proofs.lemmas.Int.{ints, by_lt_z}
use lib.IntN.{*ℤ_comm}
use lib.Signed.{◌<ℤ◌, ◌≤ℤ◌}
use Rattle.geo_exact.specs.declared.corner.Corner.{Corner}
use Rattle.geo_exact.specs.Point.{Point, corner_point}
use Rattle.geo_exact.specs.Rings.{Edge}
use Rattle.geo_exact.specs.Segments.{IsOnSegment}
use Rattle.geo_exact.specs.Turn.{turn, turn_at, IsOnEdge, IsOnSome, IsOnRing}
use Rattle.geo_exact.specs.Winding.{IsInterior}
use Rattle.geo_exact.proofs.corners_and_turns.Means.{turn_mean, edge_of_segment, segment_of_edge, segment_part, some_part}
use Rattle.geo_exact.proofs.corners_and_turns.Moved.{moved, moved_interior}
use Rattle.geo_exact.proofs.numbers.Orders.{le_of_lt}
use Rattle.geo_exact.proofs.numbers.Signs.{mul_le, mul_pos, mul_not_neg, pos_of_mul}
use Rattle.geo_exact.proofs.rings.Triangles.{triangle_interior}
use Rattle.ring_core.specs.declared.triangle.Tri.{Tri}
use Rattle.ring_core.specs.Sums.{triangle_ring}
use Rattle.fabric_core.proofs.tilings.InnerPoints.{centre, first_turn, second_turn, third_turn}
use Rattle.fabric_core.proofs.tilings.NearPlaces.{near, near_inside, towards_centre}

-- ---- near points are on the way
abbrev near_on_way : (m : ℤ) (h : pos 1 ≤ℤ m) (p c : Point) → IsOnSegment (near m h p c) p c
near_on_way m h p c = record {
  k = pos 1;
  m = m;
  n = pos 1;
  k_positive = record { lt = tt };
  m_not_negative = omega (arith, ints, h);
  n_not_negative = record { le = tt };
  in_x = parts p.x c.x;
  in_y = parts p.y c.y;
  in_d = parts p.d c.d;
}
  where
    parts : (x y : ℤ) → pos 1 *ℤ (x *ℤ m +ℤ y) ≡ m *ℤ x +ℤ pos 1 *ℤ y
    parts x y = omega (arith, ints, *ℤ_comm x m)

-- a number of which all multiples are above one is not negative
not_negative : (t s : ℤ) → pos 0 <ℤ s → ((m : ℤ) → pos 1 ≤ℤ m → pos 0 <ℤ (m *ℤ t +ℤ s)) → pos 0 ≤ℤ t
not_negative t s some all = by_lt_z t (pos 0)
    (λ below. let far : pos 0 <ℤ (s *ℤ t +ℤ s) = all s (omega (arith, ints, some)) in
    let low : (t *ℤ s) ≤ℤ (negsuc 0 *ℤ s) = mul_le t (negsuc 0) s (omega (arith, ints, some)) (omega (arith, ints, below)) in
    absurd (omega (arith, ints, far, low, *ℤ_comm t s)))
    (λ h. h)

one_part : (k m n z t s : ℤ) → pos 0 <ℤ k → pos 0 ≤ℤ m → pos 0 <ℤ n → k *ℤ z ≡ m *ℤ t +ℤ n *ℤ s → pos 0 ≤ℤ t
    → pos 0 <ℤ s → pos 0 <ℤ z
one_part k m n z t s hk hm hn e ht hs =
    pos_of_mul k z hk
    (subst (λ w. pos 0 <ℤ w) (sym e) (sum (m *ℤ t) (n *ℤ s) (mul_not_neg m t hm ht) (mul_pos n s hn hs)))
  where
    sum : (x y : ℤ) → pos 0 ≤ℤ x → pos 0 <ℤ y → pos 0 <ℤ (x +ℤ y)
    sum x y i j = omega (arith, ints, i, j)

module _ (t : Tri) (p : Point) (on : IsOnRing p (triangle_ring t)) where
  abbrev mid : Point
  mid = centre t.a t.b t.c

  -- the three turns at a point near p
  near_turns : (m : ℤ) (h : pos 1 ≤ℤ m) → (pos 0 <ℤ turn_at t.a t.b (near m h p mid))
      × (pos 0 <ℤ turn_at t.b t.c (near m h p mid)) × (pos 0 <ℤ turn_at t.c t.a (near m h p mid))
  near_turns m h = (triangle_interior t.a t.b t.c (near m h p mid) t.turns_left).0 (towards_centre t.a t.b t.c p t.turns_left on m h)

  mean_there : (u w : Corner) (m : ℤ) (h : pos 1 ≤ℤ m) → pos 0 <ℤ turn_at u w (near m h p mid)
      → pos 0 <ℤ (m *ℤ turn_at u w p +ℤ turn_at u w mid)
  mean_there u w m h some =
      whole (turn_at u w (near m h p mid)) (m *ℤ turn_at u w p) (turn_at u w mid)
      (turn_mean u w (near m h p mid) p mid (near_on_way m h p mid)) some
    where
      whole : (z x y : ℤ) → pos 1 *ℤ z ≡ x +ℤ pos 1 *ℤ y → pos 0 <ℤ z → pos 0 <ℤ (x +ℤ y)
      whole z x y e i = omega (arith, ints, e, i)

  left_at_centre : (u w : Corner) → turn_at u w mid ≡ turn t.a t.b t.c → pos 0 <ℤ turn_at u w mid
  left_at_centre u w e = subst (λ z. pos 0 <ℤ z) (sym e) t.turns_left

  -- p is right of none of the edges
  first_side : pos 0 ≤ℤ turn_at t.a t.b p
  first_side = not_negative (turn_at t.a t.b p) (turn_at t.a t.b mid) (left_at_centre t.a t.b (first_turn t.a t.b t.c))
      (λ m h. mean_there t.a t.b m h (near_turns m h).0)

  second_side : pos 0 ≤ℤ turn_at t.b t.c p
  second_side = not_negative (turn_at t.b t.c p) (turn_at t.b t.c mid) (left_at_centre t.b t.c (second_turn t.a t.b t.c))
      (λ m h. mean_there t.b t.c m h (near_turns m h).1)

  third_side : pos 0 ≤ℤ turn_at t.c t.a p
  third_side = not_negative (turn_at t.c t.a p) (turn_at t.c t.a mid) (left_at_centre t.c t.a (third_turn t.a t.b t.c))
      (λ m h. mean_there t.c t.a m h (near_turns m h).2)

  -- a point of the way with some part of the centre is inside
  pub on_way_inside : (q : Point) (s : IsOnSegment q p mid) → pos 0 <ℤ s.n → IsInterior q (triangle_ring t)
  on_way_inside q s some = (triangle_interior t.a t.b t.c q t.turns_left).1 (
    one_part s.k s.m s.n (turn_at t.a t.b q) (turn_at t.a t.b p) (turn_at t.a t.b mid) s.k_positive s.m_not_negative some
        (turn_mean t.a t.b q p mid s) first_side (left_at_centre t.a t.b (first_turn t.a t.b t.c)),
    one_part s.k s.m s.n (turn_at t.b t.c q) (turn_at t.b t.c p) (turn_at t.b t.c mid) s.k_positive s.m_not_negative some
        (turn_mean t.b t.c q p mid s) second_side (left_at_centre t.b t.c (second_turn t.a t.b t.c)),
    one_part s.k s.m s.n (turn_at t.c t.a q) (turn_at t.c t.a p) (turn_at t.c t.a mid) s.k_positive s.m_not_negative some
        (turn_mean t.c t.a q p mid s) third_side (left_at_centre t.c t.a (third_turn t.a t.b t.c)),
  )

  -- near p, which is inside a ring, is a point inside both the ring and the triangle
  pub inside_both : (ring : List Corner) → IsInterior p ring
      → (q : Point) × IsInterior (moved q) ring × IsInterior (moved q) (triangle_ring t)
  inside_both ring i =
      let n = near_inside p mid ring i in
      let q = near n.0 n.1 p mid in (
        q,
        moved_interior ring q (n.2 n.0 n.1 (omega (arith, ints))),
        moved_interior (triangle_ring t) q (towards_centre t.a t.b t.c p t.turns_left on n.0 n.1),
      )

-- ---- the beginning of a way
-- a point of the way with no part of the end is at its beginning, and on the same edges
same_edge : (q p c : Point) (s : IsOnSegment q p c) → s.n ≡ pos 0 → (u w : Corner) → IsOnEdge q u w → IsOnEdge p u w
same_edge q p c s none u w on =
    edge_of_segment u w p (segment_part p q (corner_point u) (corner_point w) back (segment_of_edge u w q on))
  where
    turned : (k m n x y z v : ℤ) → k *ℤ x ≡ m *ℤ y +ℤ n *ℤ z → n ≡ pos 0 → m *ℤ y ≡ k *ℤ x +ℤ pos 0 *ℤ v
    turned k m n x y z v e h = omega (arith, ints, e, ap (λ i. i *ℤ z) h)

    some : (m n : ℤ) → pos 0 <ℤ (m +ℤ n) → n ≡ pos 0 → pos 0 <ℤ m
    some m n h e = omega (arith, ints, h, e)

    back : IsOnSegment p q (corner_point u)
    back = record {
      k = s.m;
      m = s.k;
      n = pos 0;
      k_positive = some s.m s.n (some_part q p c s) none;
      m_not_negative = le_of_lt (pos 0) s.k s.k_positive;
      n_not_negative = record { le = tt };
      in_x = turned s.k s.m s.n q.x p.x c.x u.x s.in_x none;
      in_y = turned s.k s.m s.n q.y p.y c.y u.y s.in_y none;
      in_d = turned s.k s.m s.n q.d p.d c.d (pos 1) s.in_d none;
    }

pub same_edges : (q p c : Point) (s : IsOnSegment q p c) → s.n ≡ pos 0 → (es : List Edge) → IsOnSome q es → IsOnSome p es
same_edges q p c s none [] on = on
same_edges q p c s none (e ∷ es) (inl on) = inl (same_edge q p c s none e.from e.to on)
same_edges q p c s none (e ∷ es) (inr on) = inr (same_edges q p c s none es on)
