-- What is inside a triangle is inside each box that holds it; triangles in boxes that are apart have no common inner point.
use Rattle.std.proofs.Common.{◌≡◌, arith, inl, inr}
use Rattle.std.proofs.lemmas.Int.{ints, by_lt_z}
use lib.IntN.{ℤ, pos, ◌+ℤ◌, ◌-ℤ◌, ◌*ℤ◌, neg_ℤ}
use lib.Signed.{◌<ℤ◌, ◌≤ℤ◌}
use Rattle.geo_exact.specs.declared.corner.Corner.{Corner}
use Rattle.geo_exact.specs.Point.{Point}
use Rattle.geo_exact.specs.Turn.{turn, turn_at}
use Rattle.geo_exact.specs.Winding.{IsInterior}
use Rattle.geo_exact.specs.Interiors.{InteriorsMeet}
use Rattle.geo_exact.proofs.numbers.Differences.{expand}
use Rattle.geo_exact.proofs.numbers.Signs.{mul_neg, mul_not_pos, mul_lt, mul_le}
use Rattle.geo_exact.proofs.rings.Triangles.{triangle_interior}
use Rattle.geo_exact.proofs.corners_and_turns.TurnLaws.{weighed_x, weighed_y}
use Rattle.ring_core.specs.declared.triangle.Tri.{Tri}
use Rattle.ring_core.specs.Sums.{triangle_ring}
use Rattle.geo_exact.specs.declared.bounds.Bounds.{Bounds}
use Rattle.geo_exact.specs.Bounds.{BoxesAreApart, IsInsideBox}
use Rattle.geo_exact.proofs.boxes.InBoxes.{not_in_both}
use Rattle.ring_core.specs.Boxes.{HoldsTriangle}
use Rattle.tri_overlap.specs.own.Bounding.{HoldsMeeting, IsRightOfSome}

-- a weighed sum without a positive term, one of which is negative, is negative
some_negative : (u v w a b c : ℤ) → pos 0 <ℤ u → pos 0 <ℤ v → pos 0 <ℤ w → a <ℤ pos 0 → b ≤ℤ pos 0
    → c ≤ℤ pos 0
    → (u *ℤ a +ℤ v *ℤ b +ℤ w *ℤ c) <ℤ pos 0
some_negative u v w a b c hu hv hw ha hb hc =
    omega (arith, ints, mul_neg u a hu ha, mul_not_pos v b (omega (arith, ints)) hb, mul_not_pos w c (omega (arith, ints)) hc)

-- numbers that are at most 0 and weigh to 0 are all 0
all_zero : (u v w a b c : ℤ) → pos 0 <ℤ u → pos 0 <ℤ v → pos 0 <ℤ w → a ≤ℤ pos 0 → b ≤ℤ pos 0 → c ≤ℤ pos 0
    → u *ℤ a +ℤ v *ℤ b +ℤ w *ℤ c ≡ pos 0 → (a ≡ pos 0) × (b ≡ pos 0) × (c ≡ pos 0)
all_zero u v w a b c hu hv hw ha hb hc e =
    by_lt_z a (pos 0) (λ p. absurd (omega (arith, ints, e, some_negative u v w a b c hu hv hw p hb hc)))
    (λ p. by_lt_z b (pos 0) (λ q. absurd (omega (arith, ints, e, some_negative v u w b a c hv hu hw q ha hc)))
    (λ q. by_lt_z c (pos 0) (λ r. absurd (omega (arith, ints, e, some_negative w u v c a b hw hu hv r ha hb)))
    (λ r. (omega (arith, ints), omega (arith, ints), omega (arith, ints)))))

-- a mean of three numbers at most m, not all of them equal to it, is below m
mean_below : (u v w a b c x d m : ℤ) → pos 0 <ℤ u → pos 0 <ℤ v → pos 0 <ℤ w → pos 0 <ℤ d
    → u *ℤ (a *ℤ d -ℤ x) +ℤ v *ℤ (b *ℤ d -ℤ x) +ℤ w *ℤ (c *ℤ d -ℤ x) ≡ pos 0
    → a ≤ℤ m → b ≤ℤ m → c ≤ℤ m → ¬ ((a ≡ m) × (b ≡ m) × (c ≡ m)) → x <ℤ (m *ℤ d)
mean_below u v w a b c x d m hu hv hw hd e ha hb hc differ =
    by_lt_z x (m *ℤ d) (λ p. p)
    (λ p. let not_above : (z : ℤ) → z ≤ℤ m → (z *ℤ d -ℤ x) ≤ℤ pos 0 =
    λ z h. omega (arith, ints, mul_le z m d (omega (arith, ints)) h, p) in
    let z = all_zero u v w (a *ℤ d -ℤ x) (b *ℤ d -ℤ x) (c *ℤ d -ℤ x) hu hv hw (not_above a ha) (not_above b hb)
    (not_above c hc) e in
    let at_top : (z : ℤ) → z ≤ℤ m → z *ℤ d -ℤ x ≡ pos 0 → z ≡ m =
    λ z h k. by_lt_z z m (λ q. absurd (omega (arith, ints, mul_lt z m d hd q, p, k))) (λ q. omega (arith, ints)) in
    absurd (differ (at_top a ha z.0, at_top b hb z.1, at_top c hc z.2)))

-- a mean of three numbers at least m, not all of them equal to it, is above m
mean_above : (u v w a b c x d m : ℤ) → pos 0 <ℤ u → pos 0 <ℤ v → pos 0 <ℤ w → pos 0 <ℤ d
    → u *ℤ (a *ℤ d -ℤ x) +ℤ v *ℤ (b *ℤ d -ℤ x) +ℤ w *ℤ (c *ℤ d -ℤ x) ≡ pos 0
    → m ≤ℤ a → m ≤ℤ b → m ≤ℤ c → ¬ ((a ≡ m) × (b ≡ m) × (c ≡ m)) → (m *ℤ d) <ℤ x
mean_above u v w a b c x d m hu hv hw hd e ha hb hc differ =
    let below = mean_below u v w (neg_ℤ a) (neg_ℤ b) (neg_ℤ c) (neg_ℤ x) d (neg_ℤ m) hu hv hw hd (negated u v w a b c x d e)
    (omega (arith, ints)) (omega (arith, ints)) (omega (arith, ints))
    (λ h. differ (omega (arith, ints, h.0), omega (arith, ints, h.1), omega (arith, ints, h.2))) in
    omega (arith, ints, simp expand at below)
  where
    negated : (u v w a b c x d : ℤ) → u *ℤ (a *ℤ d -ℤ x) +ℤ v *ℤ (b *ℤ d -ℤ x) +ℤ w *ℤ (c *ℤ d -ℤ x) ≡ pos 0
        → u *ℤ (neg_ℤ a *ℤ d -ℤ neg_ℤ x) +ℤ v *ℤ (neg_ℤ b *ℤ d -ℤ neg_ℤ x)
        +ℤ w *ℤ (neg_ℤ c *ℤ d -ℤ neg_ℤ x) ≡ pos 0
    negated u v w a b c x d e = simp expand (omega (arith, ints, simp expand at e))

-- corners on a line along an axis don't turn
flat_in_x : (a b c : Corner) (m : ℤ) → pos 0 <ℤ turn a b c → ¬ ((a.x ≡ m) × (b.x ≡ m) × (c.x ≡ m))
flat_in_x a b c m h e = let t : turn a b c ≡ pos 0 = rw (e.0, e.1, e.2) (level m a.y b.y c.y) in omega (arith, ints, h, t)
  where
    level : (m u v w : ℤ) → (m -ℤ m) *ℤ (w -ℤ u) -ℤ (v -ℤ u) *ℤ (m -ℤ m) ≡ pos 0
    level m u v w = simp expand (omega (arith, ints))

flat_in_y : (a b c : Corner) (m : ℤ) → pos 0 <ℤ turn a b c → ¬ ((a.y ≡ m) × (b.y ≡ m) × (c.y ≡ m))
flat_in_y a b c m h e = let t : turn a b c ≡ pos 0 = rw (e.0, e.1, e.2) (level m a.x b.x c.x) in omega (arith, ints, h, t)
  where
    level : (m u v w : ℤ) → (v -ℤ u) *ℤ (m -ℤ m) -ℤ (m -ℤ m) *ℤ (w -ℤ u) ≡ pos 0
    level m u v w = simp expand (omega (arith, ints))

-- what is inside a triangle is inside each box that holds it
pub inside_box : (t : Tri) (p : Point) (box : Bounds) → HoldsTriangle box t → IsInterior p (triangle_ring t) → IsInsideBox p box
inside_box t p box h i =
    let left = (triangle_interior t.a t.b t.c p t.turns_left).0 i in
    let u = turn_at t.b t.c p in
    let v = turn_at t.c t.a p in
    let w = turn_at t.a t.b p in
    let x = weighed_x t.a t.b t.c p in
    let y = weighed_y t.a t.b t.c p in record {
      west = mean_above u v w t.a.x t.b.x t.c.x p.x p.d box.low.x left.1 left.2 left.0 p.d_positive x h.a.west
          h.b.west h.c.west (flat_in_x t.a t.b t.c box.low.x t.turns_left);
      east = mean_below u v w t.a.x t.b.x t.c.x p.x p.d box.high.x left.1 left.2 left.0 p.d_positive x h.a.east
          h.b.east h.c.east (flat_in_x t.a t.b t.c box.high.x t.turns_left);
      south = mean_above u v w t.a.y t.b.y t.c.y p.y p.d box.low.y left.1 left.2 left.0 p.d_positive y h.a.south
          h.b.south h.c.south (flat_in_y t.a t.b t.c box.low.y t.turns_left);
      north = mean_below u v w t.a.y t.b.y t.c.y p.y p.d box.high.y left.1 left.2 left.0 p.d_positive y h.a.north
          h.b.north h.c.north (flat_in_y t.a t.b t.c box.high.y t.turns_left);
    }

-- triangles have no common inner point where one is in a box that is apart from another that has all of them
pub apart_triangles : (s t : Tri) (box other : Bounds) → HoldsMeeting box s t → HoldsTriangle other t
    → BoxesAreApart box other → ¬ InteriorsMeet (triangle_ring s) (triangle_ring t)
apart_triangles s t box other h k a m = not_in_both m.0 box other a (h m.0 m.1 m.2) (inside_box t m.0 other k m.2)

-- what is inside a triangle is left of each of its edges
pub not_right : (box : Bounds) (t : Tri) → IsRightOfSome box t → (p : Point) → IsInsideBox p box → ¬ IsInterior p (triangle_ring t)
not_right box t r p i k =
    let left = (triangle_interior t.a t.b t.c p t.turns_left).0 k in
    elim r [
      | inl h ↦ omega (arith, ints, h p i, left.0)
      | inr h ↦ elim h [
        | inl h ↦ omega (arith, ints, h p i, left.1)
        | inr h ↦ omega (arith, ints, h p i, left.2)
      ]
    ]
