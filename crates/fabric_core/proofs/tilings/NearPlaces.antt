-- Places near one another: what is inside a ring stays inside a little way towards any other place, and what is on an
-- edge of a triangle is inside it
-- a little way towards its centre.
use Rattle.std.proofs.Common.{◌≡◌, inl, inr, ⊎_elim, refl, sym, ◌∙◌, ap, subst, arith, ℤ, pos, neg_ℤ, ◌+ℤ◌}
use Rattle.std.proofs.Common.{◌-ℤ◌, ◌*ℤ◌, List, [], ◌∷◌}
use Rattle.std.specs.Int.{int_min, int_max}
use Rattle.std.proofs.lemmas.Int.{ints, clamps, by_lt_z}
use lib.Signed.{◌<ℤ◌, ◌≤ℤ◌}
use Rattle.geo_exact.specs.declared.corner.Corner.{Corner}
use Rattle.geo_exact.specs.Point.{Point, corner_point}
use Rattle.geo_exact.specs.Rings.{Edge, edges}
use Rattle.geo_exact.specs.Segments.{IsOnSegment}
use Rattle.geo_exact.specs.Turn.{turn, turn_at, IsOnEdge, IsOnSome, IsOnRing}
use Rattle.geo_exact.specs.Winding.{IsInterior}
use Rattle.geo_exact.proofs.corners_and_turns.Means.{turn_mean, segment_of_edge}
use Rattle.geo_exact.proofs.corners_and_turns.OnEdge.{starts_on, ends_on}
use Rattle.geo_exact.proofs.numbers.Polynomials.{var, add, mul, sub, same_by}
use Rattle.geo_exact.proofs.numbers.Signs.{mul_le, mul_not_neg, not_neg_of_mul, mul_zero}
use Rattle.geo_exact.proofs.rings.Triangles.{triangle_interior}
use Rattle.geo_exact.proofs.corners_and_turns.TurnLaws.{turn_at_expr, turn_at_corner, turn_cycle}
use Rattle.geo_exact.proofs.rings.Ways.{segment_back, winding_along}
use Rattle.edge_chains.proofs.edges.Segments.{start_on_segment, left_has_none, right_has_none, above_has_none}
use Rattle.edge_chains.proofs.edges.Segments.{below_has_none, farther_has_none, nearer_has_none}
use Rattle.fabric_core.proofs.tilings.InnerPoints.{centre, first_turn, second_turn, third_turn}

-- ---- so many parts of one number that another does not change its sign
abbrev pub enough : ℤ → ℤ
enough b = int_max (pos 1) (pos 1 -ℤ b)

stays_positive : (a b m : ℤ) → pos 0 <ℤ a → enough b ≤ℤ m → pos 0 <ℤ (a *ℤ m +ℤ b)
stays_positive a b m h k =
    let i : (pos 1 *ℤ m) ≤ℤ (a *ℤ m) = mul_le (pos 1) a m (omega (arith, ints, clamps, k)) (omega (arith, ints)) in
    omega (arith, ints, clamps, k, i)

stays_negative : (a b m : ℤ) → a <ℤ pos 0 → enough (neg_ℤ b) ≤ℤ m → (a *ℤ m +ℤ b) <ℤ pos 0
stays_negative a b m h k =
    let i : (a *ℤ m) ≤ℤ (neg_ℤ (pos 1) *ℤ m) = mul_le a (neg_ℤ (pos 1)) m (omega (arith, ints, clamps, k))
    (omega (arith, ints)) in omega (arith, ints, clamps, k, i)

enough_some : (b : ℤ) → pos 1 ≤ℤ enough b
enough_some b = omega (arith, ints, clamps)

-- ---- m parts of p to one of c
abbrev pub near : (m : ℤ) → pos 1 ≤ℤ m → (p c : Point) → Point
near m h p c = record {
  x = p.x *ℤ m +ℤ c.x;
  y = p.y *ℤ m +ℤ c.y;
  d = p.d *ℤ m +ℤ c.d;
  d_positive = stays_d p.d m c.d p.d_positive c.d_positive h;
}
  where
    stays_d : (d m e : ℤ) → pos 0 <ℤ d → pos 0 <ℤ e → pos 1 ≤ℤ m → pos 0 <ℤ (d *ℤ m +ℤ e)
    stays_d d m e hd he hm = omega (arith, ints, he, mul_not_neg d m (omega (arith, ints, hd)) (omega (arith, ints, hm)))

turn_near : (u w : Corner) (m : ℤ) (h : pos 1 ≤ℤ m) (p c : Point) → turn_at u w (near m h p c) ≡ turn_at u w p *ℤ m
    +ℤ turn_at u w c
turn_near u w m h p c =
    same_by (u.x ∷ u.y ∷ w.x ∷ w.y ∷ p.x ∷ p.y ∷ p.d ∷ c.x ∷ c.y ∷ c.d ∷ m ∷ [])
    (turn_at_expr (var 0) (var 1) (var 2) (var 3)
    (add (mul (var 4) (var 10)) (var 7)) (add (mul (var 5) (var 10)) (var 8)) (add (mul (var 6) (var 10)) (var 9)))
    (add (mul (turn_at_expr (var 0) (var 1) (var 2) (var 3) (var 4) (var 5) (var 6)) (var 10))
    (turn_at_expr (var 0) (var 1) (var 2) (var 3) (var 7) (var 8) (var 9)))
    refl

from_difference : (s t : ℤ) → pos 0 <ℤ (t -ℤ s) → s <ℤ t
from_difference s t h = omega (arith, ints, h)

to_difference : (s t : ℤ) → s <ℤ t → pos 0 <ℤ (t -ℤ s)
to_difference s t h = omega (arith, ints, h)

less_near : (u x d m cx cd : ℤ) → x <ℤ (u *ℤ d) → enough (u *ℤ cd -ℤ cx) ≤ℤ m
    → (x *ℤ m +ℤ cx) <ℤ (u *ℤ (d *ℤ m +ℤ cd))
less_near u x d m cx cd h k =
    from_difference (x *ℤ m +ℤ cx) (u *ℤ (d *ℤ m +ℤ cd))
    (subst (λ z. pos 0 <ℤ z)
    (same_by (u ∷ x ∷ d ∷ m ∷ cx ∷ cd ∷ [])
    (add (mul (sub (mul (var 0) (var 2)) (var 1)) (var 3)) (sub (mul (var 0) (var 5)) (var 4)))
    (sub (mul (var 0) (add (mul (var 2) (var 3)) (var 5))) (add (mul (var 1) (var 3)) (var 4)))
    refl)
    (stays_positive (u *ℤ d -ℤ x) (u *ℤ cd -ℤ cx) m (to_difference x (u *ℤ d) h) k))

more_near : (u x d m cx cd : ℤ) → (u *ℤ d) <ℤ x → enough (cx -ℤ u *ℤ cd) ≤ℤ m
    → (u *ℤ (d *ℤ m +ℤ cd)) <ℤ (x *ℤ m +ℤ cx)
more_near u x d m cx cd h k =
    from_difference (u *ℤ (d *ℤ m +ℤ cd)) (x *ℤ m +ℤ cx)
    (subst (λ z. pos 0 <ℤ z)
    (same_by (u ∷ x ∷ d ∷ m ∷ cx ∷ cd ∷ [])
    (add (mul (sub (var 1) (mul (var 0) (var 2))) (var 3)) (sub (var 4) (mul (var 0) (var 5))))
    (sub (add (mul (var 1) (var 3)) (var 4)) (mul (var 0) (add (mul (var 2) (var 3)) (var 5))))
    refl)
    (stays_positive (x -ℤ u *ℤ d) (cx -ℤ u *ℤ cd) m (to_difference (u *ℤ d) x h) k))

-- ---- a place off an edge
below_both : (u v d z : ℤ) → pos 0 <ℤ d → z <ℤ (int_min u v *ℤ d) → (z <ℤ (u *ℤ d)) × (z <ℤ (v *ℤ d))
below_both u v d z hd h =
    let i : (int_min u v *ℤ d) ≤ℤ (u *ℤ d) = mul_le (int_min u v) u d (omega (arith, ints)) (omega (arith, ints, clamps)) in
    let j : (int_min u v *ℤ d) ≤ℤ (v *ℤ d) = mul_le (int_min u v) v d (omega (arith, ints)) (omega (arith, ints, clamps)) in
    (below (int_min u v *ℤ d) (u *ℤ d) i h, below (int_min u v *ℤ d) (v *ℤ d) j h)
  where
    below : (s t : ℤ) → s ≤ℤ t → z <ℤ s → z <ℤ t
    below s t i k = omega (arith, ints, i, k)

above_both : (u v d z : ℤ) → pos 0 <ℤ d → (int_max u v *ℤ d) <ℤ z → ((u *ℤ d) <ℤ z) × ((v *ℤ d) <ℤ z)
above_both u v d z hd h =
    let i : (u *ℤ d) ≤ℤ (int_max u v *ℤ d) = mul_le u (int_max u v) d (omega (arith, ints)) (omega (arith, ints, clamps)) in
    let j : (v *ℤ d) ≤ℤ (int_max u v *ℤ d) = mul_le v (int_max u v) d (omega (arith, ints)) (omega (arith, ints, clamps)) in
    (above (u *ℤ d) (int_max u v *ℤ d) i h, above (v *ℤ d) (int_max u v *ℤ d) j h)
  where
    above : (s t : ℤ) → s ≤ℤ t → t <ℤ z → s <ℤ z
    above s t i k = omega (arith, ints, i, k)

first_of_sum : (a b m : ℤ) → pos 1 ≤ℤ b → (a +ℤ b) ≤ℤ m → a ≤ℤ m
first_of_sum a b m h k = omega (arith, ints, h, k)

second_of_sum : (a b m : ℤ) → pos 1 ≤ℤ a → (a +ℤ b) ≤ℤ m → b ≤ℤ m
second_of_sum a b m h k = omega (arith, ints, h, k)

some_sum : (a b : ℤ) → pos 1 ≤ℤ a → pos 1 ≤ℤ b → pos 1 ≤ℤ (a +ℤ b)
some_sum a b h k = omega (arith, ints, h, k)

module _ (p c : Point) where
  -- from n parts on, no place of the way from p meets the edge
  abbrev HasNoneNear : Corner → Corner → ℤ → Type 0
  HasNoneNear u w n = (m : ℤ) (h : pos 1 ≤ℤ m) → n ≤ℤ m → (q : Point) → IsOnSegment q p (near m h p c) → ¬ IsOnEdge q u w

  abbrev NoneNear : Corner → Corner → Type 0
  NoneNear u w = (n : ℤ) × (pos 1 ≤ℤ n) × HasNoneNear u w n

  left_near : (u w : Corner) → pos 0 <ℤ turn_at u w p → NoneNear u w
  left_near u w left = (
    enough (turn_at u w c),
    enough_some (turn_at u w c),
    λ m h k q s. left_has_none u w q p (near m h p c) s left
        (subst (λ z. pos 0 <ℤ z) (sym (turn_near u w m h p c)) (stays_positive (turn_at u w p) (turn_at u w c) m left k)),
  )

  right_near : (u w : Corner) → turn_at u w p <ℤ pos 0 → NoneNear u w
  right_near u w right = (
    enough (neg_ℤ (turn_at u w c)),
    enough_some (neg_ℤ (turn_at u w c)),
    λ m h k q s. right_has_none u w q p (near m h p c) s right
        (subst (λ z. z <ℤ pos 0) (sym (turn_near u w m h p c)) (stays_negative (turn_at u w p) (turn_at u w c) m right k)),
  )

  west_near : (u w : Corner) → p.x <ℤ (int_min u.x w.x *ℤ p.d) → NoneNear u w
  west_near u w west =
      let both = below_both u.x w.x p.d p.x p.d_positive west in
      let a = enough (u.x *ℤ c.d -ℤ c.x) in
      let b = enough (w.x *ℤ c.d -ℤ c.x) in
      let ha = enough_some (u.x *ℤ c.d -ℤ c.x) in
      let hb = enough_some (w.x *ℤ c.d -ℤ c.x) in (
        a +ℤ b,
        some_sum a b ha hb,
        λ m h k q s. nearer_has_none u w q p (near m h p c) s
            both.0 (less_near u.x p.x p.d m c.x c.d both.0 (first_of_sum a b m hb k))
            both.1 (less_near w.x p.x p.d m c.x c.d both.1 (second_of_sum a b m ha k)),
      )

  east_near : (u w : Corner) → (int_max u.x w.x *ℤ p.d) <ℤ p.x → NoneNear u w
  east_near u w east =
      let both = above_both u.x w.x p.d p.x p.d_positive east in
      let a = enough (c.x -ℤ u.x *ℤ c.d) in
      let b = enough (c.x -ℤ w.x *ℤ c.d) in
      let ha = enough_some (c.x -ℤ u.x *ℤ c.d) in
      let hb = enough_some (c.x -ℤ w.x *ℤ c.d) in (
        a +ℤ b,
        some_sum a b ha hb,
        λ m h k q s. farther_has_none u w q p (near m h p c) s
            both.0 (more_near u.x p.x p.d m c.x c.d both.0 (first_of_sum a b m hb k))
            both.1 (more_near w.x p.x p.d m c.x c.d both.1 (second_of_sum a b m ha k)),
      )

  south_near : (u w : Corner) → p.y <ℤ (int_min u.y w.y *ℤ p.d) → NoneNear u w
  south_near u w south =
      let both = below_both u.y w.y p.d p.y p.d_positive south in
      let a = enough (u.y *ℤ c.d -ℤ c.y) in
      let b = enough (w.y *ℤ c.d -ℤ c.y) in
      let ha = enough_some (u.y *ℤ c.d -ℤ c.y) in
      let hb = enough_some (w.y *ℤ c.d -ℤ c.y) in (
        a +ℤ b,
        some_sum a b ha hb,
        λ m h k q s. below_has_none u w q p (near m h p c) s
            both.0 (less_near u.y p.y p.d m c.y c.d both.0 (first_of_sum a b m hb k))
            both.1 (less_near w.y p.y p.d m c.y c.d both.1 (second_of_sum a b m ha k)),
      )

  north_near : (u w : Corner) → (int_max u.y w.y *ℤ p.d) <ℤ p.y → NoneNear u w
  north_near u w north =
      let both = above_both u.y w.y p.d p.y p.d_positive north in
      let a = enough (c.y -ℤ u.y *ℤ c.d) in
      let b = enough (c.y -ℤ w.y *ℤ c.d) in
      let ha = enough_some (c.y -ℤ u.y *ℤ c.d) in
      let hb = enough_some (c.y -ℤ w.y *ℤ c.d) in (
        a +ℤ b,
        some_sum a b ha hb,
        λ m h k q s. above_has_none u w q p (near m h p c) s
            both.0 (more_near u.y p.y p.d m c.y c.d both.0 (first_of_sum a b m hb k))
            both.1 (more_near w.y p.y p.d m c.y c.d both.1 (second_of_sum a b m ha k)),
      )

  -- a place off an edge has none of it near
  none_near : (u w : Corner) → ¬ IsOnEdge p u w → NoneNear u w
  none_near u w off =
      by_lt_z (pos 0) (turn_at u w p) (left_near u w)
      (λ not_left. by_lt_z (turn_at u w p) (pos 0) (right_near u w)
      (λ not_right. by_lt_z p.x (int_min u.x w.x *ℤ p.d) (west_near u w)
      (λ from_x. by_lt_z (int_max u.x w.x *ℤ p.d) p.x (east_near u w)
      (λ to_x. by_lt_z p.y (int_min u.y w.y *ℤ p.d) (south_near u w)
      (λ from_y. by_lt_z (int_max u.y w.y *ℤ p.d) p.y (north_near u w)
      (λ to_y. absurd (off (record {
        on_line = neither (turn_at u w p) not_left not_right;
        from_x = from_x;
        to_x = to_x;
        from_y = from_y;
        to_y = to_y;
      }))))))))
    where
      neither : (t : ℤ) → t ≤ℤ pos 0 → pos 0 ≤ℤ t → t ≡ pos 0
      neither t h k = omega (arith, ints, h, k)

  abbrev NoneOf : List Edge → Type 0
  NoneOf es = (n : ℤ) × (pos 1 ≤ℤ n)
      × ((m : ℤ) (h : pos 1 ≤ℤ m) → n ≤ℤ m → (q : Point) → IsOnSegment q p (near m h p c) → ¬ IsOnSome q es)

  none_of : (es : List Edge) → ¬ IsOnSome p es → NoneOf es
  none_of [] off = (pos 1, omega (arith, ints), λ m h k q s on. on)
  none_of (edge ∷ es) off =
      let one = none_near edge.from edge.to (λ on. off (inl on)) in
      let rest = none_of es (λ on. off (inr on)) in (
        one.0 +ℤ rest.0,
        some_sum one.0 rest.0 one.1 rest.1,
        λ m h k q s on. ⊎_elim
            (λ first. one.2 m h (first_of_sum one.0 rest.0 m rest.1 k) q s first)
            (λ later. rest.2 m h (second_of_sum one.0 rest.0 m one.1 k) q s later)
            on,
      )

  -- what is inside a ring stays inside, a little way towards any place
  pub near_inside : (ring : List Corner) → IsInterior p ring
      → (n : ℤ) × (pos 1 ≤ℤ n) × ((m : ℤ) (h : pos 1 ≤ℤ m) → n ≤ℤ m → IsInterior (near m h p c) ring)
  near_inside ring i =
      let w = none_of (edges ring) i.off_edges in (
        w.0,
        w.1,
        λ m h k. record {
          off_edges = w.2 m h k (near m h p c) (segment_back (near m h p c) (near m h p c) p (start_on_segment (near m h p c) p));
          is_wound = subst (λ z. pos 1 ≤ℤ z) (winding_along p (near m h p c) ring (λ q s on. w.2 m h k q s on)) i.is_wound;
        },
      )

-- ---- a place on an edge of a triangle
-- a mean of numbers of which one is 0, and the other is positive
first_side : (k t m n x y : ℤ) → pos 0 <ℤ k → pos 0 ≤ℤ m → k *ℤ t ≡ m *ℤ x +ℤ n *ℤ y → pos 0 <ℤ x
    → y ≡ pos 0 → pos 0 ≤ℤ t
first_side k t m n x y hk hm e hx hy =
    not_neg_of_mul k t hk
    (subst (λ z. pos 0 ≤ℤ z) (sym e)
    (omega (arith, ints, mul_not_neg m x hm (omega (arith, ints, hx)), ap (λ z. n *ℤ z) hy, mul_zero n)))

second_side : (k t m n x y : ℤ) → pos 0 <ℤ k → pos 0 ≤ℤ n → k *ℤ t ≡ m *ℤ x +ℤ n *ℤ y → x ≡ pos 0
    → pos 0 <ℤ y → pos 0 ≤ℤ t
second_side k t m n x y hk hn e hx hy =
    not_neg_of_mul k t hk
    (subst (λ z. pos 0 ≤ℤ z) (sym e)
    (omega (arith, ints, mul_not_neg n y hn (omega (arith, ints, hy)), ap (λ z. m *ℤ z) hx, mul_zero m)))

-- no edge of the triangle has the place on its right
abbrev AreNotRight : (a b c : Corner) → Point → Type 0
AreNotRight a b c p = (pos 0 ≤ℤ turn_at a b p) × (pos 0 ≤ℤ turn_at b c p) × (pos 0 ≤ℤ turn_at c a p)

on_first_edge : (a b c : Corner) (p : Point) → pos 0 <ℤ turn a b c → IsOnEdge p a b → AreNotRight a b c p
on_first_edge a b c p left on =
    let s = segment_of_edge a b p on in (
      level (turn_at a b p) on.on_line,
      first_side s.k (turn_at b c p) s.m s.n (turn_at b c (corner_point a)) (turn_at b c (corner_point b)) s.k_positive s.m_not_negative
          (turn_mean b c p (corner_point a) (corner_point b) s)
          (subst (λ z. pos 0 <ℤ z) (sym (turn_cycle a b c) ∙ sym (turn_at_corner b c a)) left) (turn_at_corner b c b
          ∙ starts_on b c),
      second_side s.k (turn_at c a p) s.m s.n (turn_at c a (corner_point a)) (turn_at c a (corner_point b)) s.k_positive s.n_not_negative
          (turn_mean c a p (corner_point a) (corner_point b) s)
          (turn_at_corner c a a ∙ ends_on c a) (subst (λ z. pos 0 <ℤ z) (turn_cycle c a b ∙ sym (turn_at_corner c a b)) left),
    )
  where
    level : (t : ℤ) → t ≡ pos 0 → pos 0 ≤ℤ t
    level t e = omega (arith, ints, e)

on_its_edge : (a b c : Corner) (p : Point) → pos 0 <ℤ turn a b c → IsOnRing p (a ∷ b ∷ c ∷ []) → AreNotRight a b c p
on_its_edge a b c p left (inl on) = on_first_edge a b c p left on
on_its_edge a b c p left (inr (inl on)) =
    let h = on_first_edge b c a p (subst (λ z. pos 0 <ℤ z) (sym (turn_cycle a b c)) left) on in (h.2, h.0, h.1)
on_its_edge a b c p left (inr (inr (inl on))) =
    let h = on_first_edge c a b p (subst (λ z. pos 0 <ℤ z) (turn_cycle c a b) left) on in (h.1, h.2, h.0)
on_its_edge a b c p left (inr (inr (inr on))) = absurd on

more_than : (t m u : ℤ) → pos 0 ≤ℤ t → pos 1 ≤ℤ m → pos 0 <ℤ u → pos 0 <ℤ (t *ℤ m +ℤ u)
more_than t m u ht hm hu = omega (arith, ints, hu, mul_not_neg t m ht (omega (arith, ints, hm)))

-- from an edge of a triangle the way to its centre lies inside
pub towards_centre : (a b c : Corner) (p : Point) → pos 0 <ℤ turn a b c → IsOnRing p (a ∷ b ∷ c ∷ [])
    → (m : ℤ) (h : pos 1 ≤ℤ m)
    → IsInterior (near m h p (centre a b c)) (a ∷ b ∷ c ∷ [])
towards_centre a b c p left on m h =
    let sides = on_its_edge a b c p left on in
    let mid = centre a b c in
    (triangle_interior a b c (near m h p mid) left).1 (
      subst (λ z. pos 0 <ℤ z) (sym (turn_near a b m h p mid))
          (more_than (turn_at a b p) m (turn_at a b mid) sides.0 h (subst (λ z. pos 0 <ℤ z) (sym (first_turn a b c)) left)),
      subst (λ z. pos 0 <ℤ z) (sym (turn_near b c m h p mid))
          (more_than (turn_at b c p) m (turn_at b c mid) sides.1 h (subst (λ z. pos 0 <ℤ z) (sym (second_turn a b c)) left)),
      subst (λ z. pos 0 <ℤ z) (sym (turn_near c a m h p mid))
          (more_than (turn_at c a p) m (turn_at c a mid) sides.2 h (subst (λ z. pos 0 <ℤ z) (sym (third_turn a b c)) left)),
    )
