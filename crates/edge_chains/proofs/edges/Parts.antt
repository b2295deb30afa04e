-- The parts of an edge that is cut at a corner strictly inside it.
use Rattle.std.proofs.Common.{◌≡◌, ◌⊎◌, inl, inr, ⊎_elim, refl, sym, ◌∙◌, ap, subst, arith, ℤ, pos, ◌+ℤ◌}
use Rattle.std.proofs.Common.{◌-ℤ◌, ◌*ℤ◌, neg_ℤ, [], ◌∷◌}
use Rattle.std.specs.Int.{int_min, int_max}
use Rattle.std.proofs.lemmas.Int.{ints, clamps, by_lt_z}
use lib.Signed.{◌<ℤ◌, ◌≤ℤ◌}
use Rattle.geo_exact.specs.declared.corner.Corner.{Corner}
use Rattle.geo_exact.specs.Point.{Point, corner_point}
use Rattle.geo_exact.specs.Turn.{turn, turn_at, IsOnEdge}
use Rattle.geo_exact.proofs.numbers.Signs.{mul_not_neg, not_neg_of_mul, not_pos_of_mul, zero_of_mul, mul_zero, mul_le}
use Rattle.geo_exact.proofs.numbers.Differences.{expand}
use Rattle.geo_exact.proofs.numbers.Polynomials.{var, add, mul, neg, sub, same_by}
use Rattle.geo_exact.proofs.corners_and_turns.SameCorner.{corner_same}
use Rattle.geo_exact.proofs.corners_and_turns.TurnLaws.{turn_expr, turn_at_expr}
use Rattle.geo_exact.proofs.corners_and_turns.OnEdge.{on_edge_back}
use Rattle.geo_exact.specs.Segments.{IsStrictlyInside}
use Rattle.leaning_boxes.proofs.Rows.{IsBetween}
use Rattle.edge_chains.proofs.edges.Inside.{inside_from_strictly}
use Rattle.edge_chains.proofs.edges.Along.{zero_cases, both_zero, along_u, along_v, drop_zero, drop_zero', squares}

-- ---- three directions, two of them on one line with the third, which is not 0
third_x : (u v w z q r : ℤ) → u *ℤ (w *ℤ r -ℤ z *ℤ q) ≡ w *ℤ (u *ℤ r -ℤ v *ℤ q)
    +ℤ q *ℤ neg_ℤ (u *ℤ z -ℤ v *ℤ w)
third_x u v w z q r =
    same_by (u ∷ v ∷ w ∷ z ∷ q ∷ r ∷ [])
    (mul (var 0) (sub (mul (var 2) (var 5)) (mul (var 3) (var 4))))
    (add (mul (var 2) (sub (mul (var 0) (var 5)) (mul (var 1) (var 4))))
    (mul (var 4) (neg (sub (mul (var 0) (var 3)) (mul (var 1) (var 2))))))
    refl

third_y : (u v w z q r : ℤ) → v *ℤ (w *ℤ r -ℤ z *ℤ q) ≡ z *ℤ (u *ℤ r -ℤ v *ℤ q)
    +ℤ r *ℤ neg_ℤ (u *ℤ z -ℤ v *ℤ w)
third_y u v w z q r =
    same_by (u ∷ v ∷ w ∷ z ∷ q ∷ r ∷ [])
    (mul (var 1) (sub (mul (var 2) (var 5)) (mul (var 3) (var 4))))
    (add (mul (var 3) (sub (mul (var 0) (var 5)) (mul (var 1) (var 4))))
    (mul (var 5) (neg (sub (mul (var 0) (var 3)) (mul (var 1) (var 2))))))
    refl

pub third_line : (u v w z q r : ℤ) → (u ≡ pos 0 → v ≡ pos 0 → ⊥) → u *ℤ z -ℤ v *ℤ w ≡ pos 0
    → u *ℤ r -ℤ v *ℤ q ≡ pos 0 → w *ℤ r -ℤ z *ℤ q ≡ pos 0
third_line u v w z q r apart h k =
    ⊎_elim
    (λ level. zero_of_mul v (w *ℤ r -ℤ z *ℤ q) (apart level)
    (both_zero z (u *ℤ r -ℤ v *ℤ q) r (neg_ℤ (u *ℤ z -ℤ v *ℤ w)) (v *ℤ (w *ℤ r -ℤ z *ℤ q)) k (ap neg_ℤ h)
    (third_y u v w z q r)))
    (λ slope. zero_of_mul u (w *ℤ r -ℤ z *ℤ q) slope (both_zero w (u *ℤ r -ℤ v *ℤ q) q (neg_ℤ (u *ℤ z -ℤ v *ℤ w))
    (u *ℤ (w *ℤ r -ℤ z *ℤ q)) k
    (ap neg_ℤ h) (third_x u v w z q r)))
    (zero_cases u)

-- corners that are apart differ in x or in y
pub ends_apart : (a b : Corner) → (a ≡ b → ⊥) → b.x -ℤ a.x ≡ pos 0 → b.y -ℤ a.y ≡ pos 0 → ⊥
ends_apart a b h x y = h (corner_same a b (omega (arith, ints, x)) (omega (arith, ints, y)))

-- an edge with a corner inside has two ends
pub edge_has_length : (a b c : Corner) → IsStrictlyInside c a b → a ≡ b → ⊥
edge_has_length a b c h e =
    let i = inside_from_strictly c a b h in
    let x : a.x ≡ b.x = ap (λ (s : Corner). s.x) e in
    let y : a.y ≡ b.y = ap (λ (s : Corner). s.y) e in
    h.not_start (corner_same c a (pinned a.x b.x c.x x i.0.0.0 i.0.0.1) (pinned a.y b.y c.y y i.0.1.0 i.0.1.1))
  where
    pinned : (u v z : ℤ) → u ≡ v → int_min u v ≤ℤ z → z ≤ℤ int_max u v → z ≡ u
    pinned u v z h k l = omega (arith, ints, clamps)

-- ---- from a part to the whole
part_low : (a b c d x : ℤ) → pos 0 ≤ℤ d → IsBetween a b c → (int_min a c *ℤ d) ≤ℤ x → (int_min a b *ℤ d) ≤ℤ x
part_low a b c d x h i k = omega (arith, ints, mul_le (int_min a b) (int_min a c) d h (omega (arith, ints, clamps, i.0, i.1)), k)

part_high : (a b c d x : ℤ) → pos 0 ≤ℤ d → IsBetween a b c → x ≤ℤ (int_max a c *ℤ d) → x ≤ℤ (int_max a b *ℤ d)
part_high a b c d x h i k = omega (arith, ints, mul_le (int_max a c) (int_max a b) d h (omega (arith, ints, clamps, i.0, i.1)), k)

pub on_whole_first : (p : Point) (a b c : Corner) → IsStrictlyInside c a b → IsOnEdge p a c → IsOnEdge p a b
on_whole_first p a b c h k =
    let i = inside_from_strictly c a b h in
    let d : pos 0 ≤ℤ p.d = omega (arith, ints, p.d_positive) in
    record {
      on_line = third_line (c.x -ℤ a.x) (c.y -ℤ a.y) (b.x -ℤ a.x) (b.y -ℤ a.y) (p.x -ℤ a.x *ℤ p.d) (p.y -ℤ a.y *ℤ p.d)
          (ends_apart a c (λ e. h.not_start (sym e))) (swapped (b.x -ℤ a.x) (b.y -ℤ a.y) (c.x -ℤ a.x)
          (c.y -ℤ a.y) i.1.0) k.on_line;
      from_x = part_low a.x b.x c.x p.d p.x d i.0.0 k.from_x;
      to_x = part_high a.x b.x c.x p.d p.x d i.0.0 k.to_x;
      from_y = part_low a.y b.y c.y p.d p.y d i.0.1 k.from_y;
      to_y = part_high a.y b.y c.y p.d p.y d i.0.1 k.to_y;
    }
  where
    swapped : (u v w z : ℤ) → u *ℤ z -ℤ v *ℤ w ≡ pos 0 → w *ℤ v -ℤ z *ℤ u ≡ pos 0
    swapped u v w z h =
        same_by (u ∷ v ∷ w ∷ z ∷ []) (sub (mul (var 2) (var 1)) (mul (var 3) (var 0)))
        (neg (sub (mul (var 0) (var 3)) (mul (var 1) (var 2)))) refl
        ∙ ap neg_ℤ h

-- the same corner inside the edge the other way
pub strictly_back : (c a b : Corner) → IsStrictlyInside c a b → IsStrictlyInside c b a
strictly_back c a b h = record { on_edge = on_edge_back a b (corner_point c) h.on_edge; not_start = h.not_end; not_end = h.not_start }

pub on_whole_second : (p : Point) (a b c : Corner) → IsStrictlyInside c a b → IsOnEdge p c b → IsOnEdge p a b
on_whole_second p a b c h k = on_edge_back b a p (on_whole_first p b a c (strictly_back c a b h) (on_edge_back c b p k))

-- ---- from the whole to one of the parts
-- in one coordinate: x is on this side of c
first_part : (a b c d x s : ℤ) → pos 0 <ℤ d → IsBetween a b c → (int_min a b *ℤ d) ≤ℤ x → x ≤ℤ (int_max a b *ℤ d)
    → (pos 0 <ℤ (b -ℤ a) → x ≤ℤ (c *ℤ d)) → ((b -ℤ a) <ℤ pos 0 → (c *ℤ d) ≤ℤ x)
    → ((int_min a c *ℤ d) ≤ℤ x) × (x ≤ℤ (int_max a c *ℤ d))
first_part a b c d x s h i low high up down = by_lt_z a b
    (λ p. let u : int_min a b ≡ a = omega (arith, ints, clamps) in let v : int_min a c ≡ a =
    omega (arith, ints, clamps, i.0, i.1) in let w : int_max a c ≡ c = omega (arith, ints, clamps, i.0, i.1) in
    let m = up (omega (arith, ints)) in
    (subst (λ z. (z *ℤ d) ≤ℤ x) (sym v) (subst (λ z. (z *ℤ d) ≤ℤ x) u low), subst (λ z. x ≤ℤ (z *ℤ d)) (sym w) m))
    (λ p. by_lt_z b a
    (λ q. let u : int_max a b ≡ a = omega (arith, ints, clamps) in let v : int_max a c ≡ a =
    omega (arith, ints, clamps, i.0, i.1) in let w : int_min a c ≡ c = omega (arith, ints, clamps, i.0, i.1) in
    let m = down (omega (arith, ints)) in
    (subst (λ z. (z *ℤ d) ≤ℤ x) (sym w) m, subst (λ z. x ≤ℤ (z *ℤ d)) (sym v) (subst (λ z. x ≤ℤ (z *ℤ d)) u high)))
    (λ q. let u : int_min a b ≡ int_min a c = omega (arith, ints, clamps, i.0, i.1) in let v : int_max a b ≡ int_max a c =
    omega (arith, ints, clamps, i.0, i.1) in
    (subst (λ z. (z *ℤ d) ≤ℤ x) u low, subst (λ z. x ≤ℤ (z *ℤ d)) v high)))

-- a way that doesn't lead on goes back in each coordinate
back_sign : (n s k z : ℤ) → pos 0 <ℤ n → s ≤ℤ pos 0 → k *ℤ s ≡ n *ℤ z → (pos 0 <ℤ k → z ≤ℤ pos 0)
    × (k <ℤ pos 0 → pos 0 ≤ℤ z)
back_sign n s k z h l e = (
  (λ p. not_pos_of_mul n z h (let m : pos 0 ≤ℤ (k *ℤ neg_ℤ s) =
      mul_not_neg k (neg_ℤ s) (omega (arith, ints)) (omega (arith, ints)) in omega (arith, ints, e, simp expand at m))),
  (λ p. not_neg_of_mul n z h (let m : pos 0 ≤ℤ (neg_ℤ k *ℤ neg_ℤ s) =
      mul_not_neg (neg_ℤ k) (neg_ℤ s) (omega (arith, ints)) (omega (arith, ints)) in omega (arith, ints, e, simp expand at m))),
)

-- the turn at p, from the one at c
cross_at : (a b c : Corner) (p : Point) → (b.x -ℤ a.x) *ℤ (p.y -ℤ c.y *ℤ p.d) -ℤ (b.y -ℤ a.y) *ℤ (p.x -ℤ c.x *ℤ p.d)
    ≡ turn_at a b p -ℤ p.d *ℤ turn a b c
cross_at a b c p =
    same_by (a.x ∷ a.y ∷ b.x ∷ b.y ∷ c.x ∷ c.y ∷ p.x ∷ p.y ∷ p.d ∷ [])
    (sub (mul (sub (var 2) (var 0)) (sub (var 7) (mul (var 5) (var 8)))) (mul (sub (var 3) (var 1)) (sub (var 6) (mul (var 4) (var 8)))))
    (sub (turn_at_expr (var 0) (var 1) (var 2) (var 3) (var 6) (var 7) (var 8))
    (mul (var 8) (turn_expr (var 0) (var 1) (var 2) (var 3) (var 4) (var 5))))
    refl

no_cross : (t d u z : ℤ) → z ≡ t -ℤ d *ℤ u → t ≡ pos 0 → u ≡ pos 0 → z ≡ pos 0
no_cross t d u z e h k = omega (arith, ints, rw k at e, mul_zero d, h)

-- how far p lies beyond c along the edge
abbrev beyond : Corner → Corner → Corner → Point → ℤ
beyond a b c p = (b.x -ℤ a.x) *ℤ (p.x -ℤ c.x *ℤ p.d) +ℤ (b.y -ℤ a.y) *ℤ (p.y -ℤ c.y *ℤ p.d)

at_most : (x c : ℤ) → (x -ℤ c) ≤ℤ pos 0 → x ≤ℤ c
at_most x c h = omega (arith, ints)

at_least : (x c : ℤ) → pos 0 ≤ℤ (x -ℤ c) → c ≤ℤ x
at_least x c h = omega (arith, ints)

on_first : (p : Point) (a b c : Corner) → IsStrictlyInside c a b → beyond a b c p ≤ℤ pos 0 → IsOnEdge p a b → IsOnEdge p a c
on_first p a b c h l k =
    let i = inside_from_strictly c a b h in
    let u = b.x -ℤ a.x in let v = b.y -ℤ a.y in
    let e = p.x -ℤ c.x *ℤ p.d in let f = p.y -ℤ c.y *ℤ p.d in
    let apart = ends_apart a b (edge_has_length a b c h) in
    let z : u *ℤ f -ℤ v *ℤ e ≡ pos 0 = no_cross (turn_at a b p) p.d (turn a b c) (u *ℤ f -ℤ v *ℤ e)
    (cross_at a b c p) k.on_line i.1.0 in
    let n : pos 0 <ℤ (u *ℤ u +ℤ v *ℤ v) = squares u v apart in
    let sx = back_sign (u *ℤ u +ℤ v *ℤ v) (beyond a b c p) u e n l
    (drop_zero v (u *ℤ f -ℤ v *ℤ e) (u *ℤ beyond a b c p) ((u *ℤ u +ℤ v *ℤ v) *ℤ e) z (along_u u v e f)) in
    let sy = back_sign (u *ℤ u +ℤ v *ℤ v) (beyond a b c p) v f n l
    (drop_zero' u (u *ℤ f -ℤ v *ℤ e) (v *ℤ beyond a b c p) ((u *ℤ u +ℤ v *ℤ v) *ℤ f) z (along_v u v e f)) in
    let bx = first_part a.x b.x c.x p.d p.x (pos 0) p.d_positive i.0.0 k.from_x k.to_x (λ m. at_most p.x (c.x *ℤ p.d) (sx.0 m))
    (λ m. at_least p.x (c.x *ℤ p.d) (sx.1 m)) in
    let by = first_part a.y b.y c.y p.d p.y (pos 0) p.d_positive i.0.1 k.from_y k.to_y (λ m. at_most p.y (c.y *ℤ p.d) (sy.0 m))
    (λ m. at_least p.y (c.y *ℤ p.d) (sy.1 m)) in
    record {
      on_line = third_line u v (c.x -ℤ a.x) (c.y -ℤ a.y) (p.x -ℤ a.x *ℤ p.d) (p.y -ℤ a.y *ℤ p.d) apart i.1.0 k.on_line;
      from_x = bx.0;
      to_x = bx.1;
      from_y = by.0;
      to_y = by.1;
    }

beyond_back : (a b c : Corner) (p : Point) → beyond b a c p ≡ neg_ℤ (beyond a b c p)
beyond_back a b c p =
    same_by (a.x ∷ a.y ∷ b.x ∷ b.y ∷ c.x ∷ c.y ∷ p.x ∷ p.y ∷ p.d ∷ [])
    (add (mul (sub (var 0) (var 2)) (sub (var 6) (mul (var 4) (var 8)))) (mul (sub (var 1) (var 3)) (sub (var 7) (mul (var 5) (var 8)))))
    (neg (add (mul (sub (var 2) (var 0)) (sub (var 6) (mul (var 4) (var 8))))
    (mul (sub (var 3) (var 1)) (sub (var 7) (mul (var 5) (var 8))))))
    refl

pub on_parts : (p : Point) (a b c : Corner) → IsStrictlyInside c a b → IsOnEdge p a b → IsOnEdge p a c ⊎ IsOnEdge p c b
on_parts p a b c h k = by_lt_z (pos 0) (beyond a b c p)
    (λ l. inr (on_edge_back b c p (on_first p b a c (strictly_back c a b h) (let e = beyond_back a b c p in
    omega (arith, ints)) (on_edge_back a b p k))))
    (λ l. inl (on_first p a b c h l k))

-- ---- corners strictly inside the parts
-- an edge's end is not inside a part of it
not_outside : (a b c d : Corner) → IsStrictlyInside c a b → IsStrictlyInside d a c → d ≡ b → ⊥
not_outside a b c d h k e =
    let i = inside_from_strictly c a b h in
    let j = inside_from_strictly d a c k in
    h.not_end (corner_same c b
    (beyond_end a.x b.x c.x d.x i.0.0 j.0.0 (ap (λ (s : Corner). s.x) e))
    (beyond_end a.y b.y c.y d.y i.0.1 j.0.1 (ap (λ (s : Corner). s.y) e)))
  where
    beyond_end : (a b c d : ℤ) → IsBetween a b c → IsBetween a c d → d ≡ b → c ≡ b
    beyond_end a b c d h k e = omega (arith, ints, clamps, h.0, h.1, k.0, k.1)

pub inside_whole_first : (a b c d : Corner) → IsStrictlyInside c a b → IsStrictlyInside d a c → IsStrictlyInside d a b
inside_whole_first a b c d h k = record {
  on_edge = on_whole_first (corner_point d) a b c h k.on_edge;
  not_start = k.not_start;
  not_end = not_outside a b c d h k;
}

pub inside_whole_second : (a b c d : Corner) → IsStrictlyInside c a b → IsStrictlyInside d c b → IsStrictlyInside d a b
inside_whole_second a b c d h k = strictly_back d b a (inside_whole_first b a c d (strictly_back c a b h) (strictly_back d c b k))

-- nothing is inside both parts
pub inside_one_part : (a b c d : Corner) → IsStrictlyInside c a b → IsStrictlyInside d a c → IsStrictlyInside d c b → ⊥
inside_one_part a b c d h k l =
    let i = inside_from_strictly c a b h in
    let j = inside_from_strictly d a c k in
    let m = inside_from_strictly d c b l in
    k.not_end (corner_same d c (met a.x b.x c.x d.x i.0.0 j.0.0 m.0.0) (met a.y b.y c.y d.y i.0.1 j.0.1 m.0.1))
  where
    met : (a b c d : ℤ) → IsBetween a b c → IsBetween a c d → IsBetween c b d → d ≡ c
    met a b c d h k l = omega (arith, ints, clamps, h.0, h.1, k.0, k.1, l.0, l.1)
