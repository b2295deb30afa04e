-- Two counterclockwise triangles have a common interior point exactly where no edge of one has the other on its right or on its line.
use Rattle.std.proofs.Common.{◌≡◌, refl, ◌∙◌, arith, inl, inr, ◌⊎◌, [], ◌∷◌}
use Rattle.std.proofs.lemmas.Int.{ints, by_lt_z}
use lib.IntN.{ℤ, pos, ◌+ℤ◌, ◌-ℤ◌, ◌*ℤ◌}
use lib.Signed.{◌<ℤ◌, ◌≤ℤ◌}
use Rattle.geo_exact.specs.declared.corner.Corner.{Corner}
use Rattle.geo_exact.specs.Point.{Point}
use Rattle.geo_exact.specs.Turn.{turn, turn_at}
use Rattle.geo_exact.specs.Interiors.{InteriorsMeet}
use Rattle.geo_exact.proofs.rings.Triangles.{triangle_interior}
use Rattle.ring_core.specs.declared.triangle.Tri.{Tri}
use Rattle.ring_core.specs.Sums.{triangle_ring}
use Rattle.geo_exact.proofs.numbers.Signs.{mul_pos, mul_not_neg, mul_not_pos}
use Rattle.geo_exact.proofs.numbers.Differences.{expand}
use Rattle.geo_exact.proofs.numbers.Polynomials.{Expr, var, add, mul, same_by}
use Rattle.geo_exact.proofs.corners_and_turns.TurnLaws.{turn_expr, turn_at_expr, corner_point, turn_at_corner, turn_cycle}
use Rattle.geo_exact.proofs.corners_and_turns.OnEdge.{starts_on, ends_on}
use Rattle.tri_overlap.specs.own.Pairs.{SeesSome, NoEdgeSeparates}
use Rattle.tri_overlap.proofs.Convex.{IsBlend, IsLeft, left_convex, turn_at_blend}
use Rattle.tri_overlap.proofs.Helly.{InFour, helly_six}

-- how far a blend has to lie towards its first corner
enough_at : (n m s : ℤ) → pos 0 ≤ℤ n → pos 0 <ℤ m → pos 0 <ℤ (n +ℤ s) → pos 0 <ℤ (n *ℤ m +ℤ s)
enough_at n m s hn hm hs =
    let e : pos 0 ≤ℤ (n *ℤ (m -ℤ pos 1)) = mul_not_neg n (m -ℤ pos 1) hn (omega (arith, ints)) in
    let f : n *ℤ (m -ℤ pos 1) ≡ n *ℤ m -ℤ n = less_one n m in
    omega (arith, ints)
  where
    less_one : (n m : ℤ) → n *ℤ (m -ℤ pos 1) ≡ n *ℤ m -ℤ n
    less_one n m = simp expand (omega (arith, ints))

enough : (m s : ℤ) → pos 0 <ℤ m → (n : ℤ) × (pos 0 ≤ℤ n) × (pos 0 <ℤ (n *ℤ m +ℤ s))
enough m s h = by_lt_z (pos 0) s
    (λ k. (pos 0, omega (arith, ints), omega (arith, ints)))
    (λ k. (pos 1 -ℤ s, omega (arith, ints), enough_at (pos 1 -ℤ s) m s (omega (arith, ints)) h (omega (arith, ints))))

-- the place with n + 1 parts of a and one each of b and c
abbrev toward : (a b c : Corner) (n : ℤ) → pos 0 ≤ℤ n → Point
toward a b c n h = record {
  x = (n +ℤ pos 1) *ℤ a.x +ℤ pos 1 *ℤ b.x +ℤ pos 1 *ℤ c.x;
  y = (n +ℤ pos 1) *ℤ a.y +ℤ pos 1 *ℤ b.y +ℤ pos 1 *ℤ c.y;
  d = (n +ℤ pos 1) *ℤ pos 1 +ℤ pos 1 *ℤ pos 1 +ℤ pos 1 *ℤ pos 1;
  d_positive = omega (arith, ints);
}

toward_blend : (a b c : Corner) (n : ℤ) (h : pos 0 ≤ℤ n)
    → IsBlend (toward a b c n h) (corner_point a) (corner_point b) (corner_point c) (n +ℤ pos 1) (pos 1) (pos 1)
toward_blend a b c n h = record {
  first = omega (arith, ints);
  second = omega (arith, ints);
  third =
      omega (arith, ints);
  x = refl;
  y = refl;
  d = refl;
}

-- what a way sees of that place
turn_at_toward : (g k a b c : Corner) (n : ℤ) (h : pos 0 ≤ℤ n)
    → turn_at g k (toward a b c n h) ≡ n *ℤ turn g k a +ℤ (turn g k a +ℤ turn g k b +ℤ turn g k c)
turn_at_toward g k a b c n h =
    turn_at_blend g k (toward a b c n h) (corner_point a) (corner_point b) (corner_point c) (n +ℤ pos 1) (pos 1)
    (pos 1) (toward_blend a b c n h)
    ∙ rw (turn_at_corner g k a, turn_at_corner g k b, turn_at_corner g k c) (regroup n (turn g k a) (turn g k b) (turn g k c))
  where
    regroup : (n u v w : ℤ) → (n +ℤ pos 1) *ℤ u +ℤ pos 1 *ℤ v +ℤ pos 1 *ℤ w ≡ n *ℤ u +ℤ (u +ℤ v +ℤ w)
    regroup n u v w = simp expand (omega (arith, ints))

-- a place inside a triangle, near its first corner, that a way sees where it sees that corner
near_first : (g k a b c : Corner) → pos 0 <ℤ turn a b c → pos 0 <ℤ turn g k a
    → InFour (IsLeft a b) (IsLeft b c) (IsLeft c a) (IsLeft g k)
near_first g k a b c h s =
    let n = enough (turn g k a) (turn g k a +ℤ turn g k b +ℤ turn g k c) s in (
      toward a b c n.0 n.1,
      rw (turn_at_toward a b a b c n.0 n.1, starts_on a b, ends_on a b) (omega (arith, ints, h)),
      rw (turn_at_toward b c a b c n.0 n.1, turn_cycle a b c, starts_on b c, ends_on b c)
          (omega (arith, ints, h, mul_not_neg n.0 (turn a b c) n.1 (omega (arith, ints, h)))),
      rw (turn_at_toward c a a b c n.0 n.1, ends_on c a, turn_cycle b c a, turn_cycle a b c, starts_on c a) (omega (arith, ints, h)),
      rw (turn_at_toward g k a b c n.0 n.1) n.2,
    )

-- the same near whichever corner is seen
near_seen : (g k a b c : Corner) → pos 0 <ℤ turn a b c → SeesSome g k a b c
    → InFour (IsLeft a b) (IsLeft b c) (IsLeft c a) (IsLeft g k)
near_seen g k a b c h s = elim s [
  | inl u ↦ near_first g k a b c h u
  | inr v ↦ elim v [
    | inl u ↦ let w = near_first g k b c a (rw (turn_cycle a b c) h) u in (w.0, w.3, w.1, w.2, w.4)
    | inr u ↦ let w = near_first g k c a b (rw (turn_cycle b c a, turn_cycle a b c) h) u in (w.0, w.2, w.3, w.1, w.4)
  ]
]

-- no edge of either of two triangles has the other on its right or on its line
pub record IsUnseparated (a b c d e f : Corner) : Type 0 where
  pub by_ab : SeesSome a b d e f
  pub by_bc : SeesSome b c d e f
  pub by_ca : SeesSome c a d e f
  pub by_de : SeesSome d e a b c
  pub by_ef : SeesSome e f a b c
  pub by_fd : SeesSome f d a b c

-- left of all edges of a triangle
abbrev pub IsLeftOfAll : (a b c : Corner) → Point → Type 0
IsLeftOfAll a b c p = IsLeft a b p × IsLeft b c p × IsLeft c a p

pub common_place : (a b c d e f : Corner) → pos 0 <ℤ turn a b c → pos 0 <ℤ turn d e f → IsUnseparated a b c d e f
    → (p : Point) × IsLeftOfAll a b c p × IsLeft d e p × IsLeft e f p × IsLeft f d p
common_place a b c d e f h k u =
    helly_six (IsLeft a b) (IsLeft b c) (IsLeft c a) (IsLeft d e) (IsLeft e f) (IsLeft f d)
    (left_convex a b) (left_convex b c) (left_convex c a) (left_convex d e) (left_convex e f) (left_convex f d)
    (near_seen d e a b c h u.by_de) (near_seen e f a b c h u.by_ef) (near_seen f d a b c h u.by_fd)
    (near_seen a b d e f k u.by_ab) (near_seen b c d e f k u.by_bc) (near_seen c a d e f k u.by_ca)

abbrev weighed_expr : Expr
weighed_expr =
    add (add (mul (turn_at_expr (var 6) (var 7) (var 8) (var 9) (var 10) (var 11) (var 12))
    (turn_expr (var 0) (var 1) (var 2) (var 3) (var 4) (var 5)))
    (mul (turn_at_expr (var 8) (var 9) (var 4) (var 5) (var 10) (var 11) (var 12)) (turn_expr (var 0) (var 1) (var 2)
    (var 3) (var 6) (var 7))))
    (mul (turn_at_expr (var 4) (var 5) (var 6) (var 7) (var 10) (var 11) (var 12)) (turn_expr (var 0) (var 1) (var 2)
    (var 3) (var 8) (var 9)))

-- what a way sees of a point is what it sees of a triangle's corners, weighed by the point's turns at the opposite edges
weighed : (g k d e f : Corner) (p : Point)
    → turn d e f *ℤ turn_at g k p ≡ turn_at e f p *ℤ turn g k d +ℤ turn_at f d p *ℤ turn g k e
    +ℤ turn_at d e p *ℤ turn g k f
weighed g k d e f p =
    same_by (g.x ∷ g.y ∷ k.x ∷ k.y ∷ d.x ∷ d.y ∷ e.x ∷ e.y ∷ f.x ∷ f.y ∷ p.x ∷ p.y ∷ p.d ∷ [])
    (mul (turn_expr (var 4) (var 5) (var 6) (var 7) (var 8) (var 9)) (turn_at_expr (var 0) (var 1) (var 2) (var 3)
    (var 10) (var 11) (var 12)))
    weighed_expr
    refl

-- a way that sees no corner of a triangle sees nothing of its inside
none_seen : (t u v w x y z s : ℤ) → pos 0 <ℤ t → t *ℤ s ≡ u *ℤ x +ℤ v *ℤ y +ℤ w *ℤ z → pos 0 <ℤ u → pos 0 <ℤ v
    → pos 0 <ℤ w
    → pos 0 <ℤ s → (pos 0 <ℤ x) ⊎ (pos 0 <ℤ y) ⊎ (pos 0 <ℤ z)
none_seen t u v w x y z s ht e hu hv hw hs =
    by_lt_z (pos 0) x (λ a. inl a) (λ a. by_lt_z (pos 0) y (λ b. inr (inl b)) (λ b. by_lt_z (pos 0) z (λ c. inr (inr c))
    (λ c. absurd (omega (
      arith,
      ints,
      mul_pos t s ht hs,
      e,
      mul_not_pos u x (omega (arith, ints)) a,
      mul_not_pos v y (omega (arith, ints)) b,
      mul_not_pos w z (omega (arith, ints)) c,
    )))))

-- a way that sees an inner point of a triangle sees a corner of it
pub sees_corner : (g k d e f : Corner) (p : Point) → pos 0 <ℤ turn d e f → IsLeftOfAll d e f p → IsLeft g k p → SeesSome g k d e f
sees_corner g k d e f p h i s =
    none_seen (turn d e f) (turn_at e f p) (turn_at f d p) (turn_at d e p) (turn g k d) (turn g k e) (turn g k f) (turn_at g k p)
    h (weighed g k d e f p) i.1 i.2 i.0 s

pub unseparated : (a b c d e f : Corner) (p : Point) → pos 0 <ℤ turn a b c → pos 0 <ℤ turn d e f → IsLeftOfAll a b c p
    → IsLeftOfAll d e f p
    → IsUnseparated a b c d e f
unseparated a b c d e f p h k i j = record {
  by_ab = sees_corner a b d e f p k j i.0;
  by_bc = sees_corner b c d e f p k j i.1;
  by_ca = sees_corner c a d e f p k j i.2;
  by_de = sees_corner d e a b c p h i j.0;
  by_ef = sees_corner e f a b c p h i j.1;
  by_fd = sees_corner f d a b c p h i j.2;
}

-- ---- triangles of ring_core
pub meet_unseparated : (s t : Tri) → NoEdgeSeparates s t → NoEdgeSeparates t s → InteriorsMeet (triangle_ring s) (triangle_ring t)
meet_unseparated s t h k =
    let w = common_place s.a s.b s.c t.a t.b t.c s.turns_left t.turns_left
    (record { by_ab = h.0; by_bc = h.1; by_ca = h.2; by_de = k.0; by_ef = k.1; by_fd = k.2 }) in
    (w.0, (triangle_interior s.a s.b s.c w.0 s.turns_left).1 w.1, (triangle_interior t.a t.b t.c w.0 t.turns_left).1 (w.2, w.3, w.4))

pub unseparated_meet : (s t : Tri) → InteriorsMeet (triangle_ring s) (triangle_ring t) → NoEdgeSeparates s t × NoEdgeSeparates t s
unseparated_meet s t m =
    let u = unseparated s.a s.b s.c t.a t.b t.c m.0 s.turns_left t.turns_left
    ((triangle_interior s.a s.b s.c m.0 s.turns_left).0 m.1) ((triangle_interior t.a t.b t.c m.0 t.turns_left).0 m.2) in
    ((u.by_ab, u.by_bc, u.by_ca), (u.by_de, u.by_ef, u.by_fd))
