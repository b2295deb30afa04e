-- What the test of lying strictly inside an edge tells, and where a box shows that it fails.
use Rattle.std.proofs.Common.{◌≡◌, ◌≢◌, sym, ◌∙◌, subst, arith, Bool, true, false, not, ◌&&◌}
use Rattle.std.proofs.Common.{ℤ, pos, ◌-ℤ◌, ◌*ℤ◌}
use Rattle.std.specs.Bool.{Decides}
use Rattle.std.specs.Ordering.{int_eq}
use Rattle.std.specs.Int.{int_min, int_max}
use Rattle.std.proofs.lemmas.Int.{ints, clamps}
use Rattle.std.proofs.lemmas.Bool.{false≢true}
use Rattle.std.proofs.lemmas.Bool.Decides.{Decides-int_eq, Decides-and, Decides-not, Decides-like}
use lib.Signed.{le_z}
use Rattle.geo_exact.specs.declared.corner.Corner.{Corner}
use Rattle.geo_exact.specs.Point.{corner_point}
use Rattle.geo_exact.specs.Turn.{turn, IsOnEdge}
use Rattle.geo_exact.proofs.corners_and_turns.TurnLaws.{turn_at_corner}
use Rattle.geo_exact.proofs.numbers.Orders.{Decides-int_le}
use Rattle.geo_exact.specs.declared.bounds.Bounds.{Bounds}
use Rattle.geo_exact.specs.Order.{is_same}
use Rattle.geo_exact.specs.Segments.{IsStrictlyInside}
use Rattle.leaning_boxes.proofs.Rows.{IsBetween, RangesAreApart, not_same, product_between}
use Rattle.edge_chains.specs.own.Inside.{is_between, is_strictly_inside}
use Rattle.geo_exact.proofs.boxes.InBoxes.{Decides-holds_corner}
use Rattle.geo_exact.specs.Bounds.{EdgeBoxesMeet, holds_corner, HoldsCorner}
use Rattle.geo_exact.proofs.corners_and_turns.CornerOrder.{false_where, Decides-is_same}

-- ---- the test
Decides-is_between : (u v z : ℤ) → Decides (is_between u v z) (IsBetween u v z)
Decides-is_between u v z = Decides-and (le_z (int_min u v) z) (le_z z (int_max u v)) (Decides-int_le (int_min u v) z)
    (Decides-int_le z (int_max u v))

-- the test's parts
abbrev pub Inside : Corner → Corner → Corner → Type 0
Inside c a b = (IsBetween a.x b.x c.x × IsBetween a.y b.y c.y) × ((turn a b c ≡ pos 0) × ((c ≢ a) × (c ≢ b)))

Decides-no_end : (c a b : Corner) → Decides (not (is_same c a) && not (is_same c b)) ((c ≢ a) × (c ≢ b))
Decides-no_end c a b =
    Decides-and (not (is_same c a)) (not (is_same c b)) (Decides-not (is_same c a) (Decides-is_same c a))
    (Decides-not (is_same c b) (Decides-is_same c b))

Decides-parts : (c a b : Corner) → Decides (is_strictly_inside c a b) (Inside c a b)
Decides-parts c a b =
    Decides-and (is_between a.x b.x c.x && is_between a.y b.y c.y) (int_eq (turn a b c) (pos 0) && (not (is_same c a) && not (is_same c b)))
    (Decides-and (is_between a.x b.x c.x) (is_between a.y b.y c.y) (Decides-is_between a.x b.x c.x) (Decides-is_between a.y b.y c.y))
    (Decides-and (int_eq (turn a b c) (pos 0)) (not (is_same c a) && not (is_same c b)) (Decides-int_eq (turn a b c) (pos 0))
    (Decides-no_end c a b))

pub inside_from_strictly : (c a b : Corner) → IsStrictlyInside c a b → Inside c a b
inside_from_strictly c a b h = (
  (
    (omega (arith, ints, h.on_edge.from_x), omega (arith, ints, h.on_edge.to_x)),
    (omega (arith, ints, h.on_edge.from_y), omega (arith, ints, h.on_edge.to_y)),
  ),
  (sym (turn_at_corner a b c) ∙ h.on_edge.on_line, (h.not_start, h.not_end)),
)

pub strictly_from_inside : (c a b : Corner) → Inside c a b → IsStrictlyInside c a b
strictly_from_inside c a b h = record {
  on_edge = record {
    on_line = turn_at_corner a b c ∙ h.1.0;
    from_x = omega (arith, ints, h.0.0.0);
    to_x = omega (arith, ints, h.0.0.1);
    from_y = omega (arith, ints, h.0.1.0);
    to_y = omega (arith, ints, h.0.1.1);
  };
  not_start = h.1.1.0;
  not_end = h.1.1.1;
}

pub Decides-is_strictly_inside : (c a b : Corner) → Decides (is_strictly_inside c a b) (IsStrictlyInside c a b)
Decides-is_strictly_inside c a b = Decides-like (is_strictly_inside c a b) (strictly_from_inside c a b)
    (inside_from_strictly c a b) (Decides-parts c a b)

-- ---- boxes
same_products : (p q : ℤ) → p -ℤ q ≡ pos 0 → p ≡ q
same_products p q e = omega (arith, ints, e)

-- a corner of the box is not inside the edge, where the products of one kind are all below those of the other
pub none_beside : (bounds : Bounds) (a b c : Corner)
    → RangesAreApart ((b.x -ℤ a.x) *ℤ (bounds.low.y -ℤ a.y)) ((b.x -ℤ a.x) *ℤ (bounds.high.y -ℤ a.y))
    ((b.y -ℤ a.y) *ℤ (bounds.low.x -ℤ a.x)) ((b.y -ℤ a.y) *ℤ (bounds.high.x -ℤ a.x))
    → HoldsCorner bounds c → is_strictly_inside c a b ≡ false
none_beside bounds a b c h k =
    false_where (is_strictly_inside c a b) (Decides-parts c a b)
    (λ i. not_same ((b.x -ℤ a.x) *ℤ (c.y -ℤ a.y)) ((b.y -ℤ a.y) *ℤ (c.x -ℤ a.x))
    ((b.x -ℤ a.x) *ℤ (bounds.low.y -ℤ a.y)) ((b.x -ℤ a.x) *ℤ (bounds.high.y -ℤ a.y))
    ((b.y -ℤ a.y) *ℤ (bounds.low.x -ℤ a.x))
    ((b.y -ℤ a.y) *ℤ (bounds.high.x -ℤ a.x))
    (product_between (b.x -ℤ a.x) (bounds.low.y -ℤ a.y) (bounds.high.y -ℤ a.y) (c.y -ℤ a.y)
    (omega (arith, ints, k.south)) (omega (arith, ints, k.north)))
    (product_between (b.y -ℤ a.y) (bounds.low.x -ℤ a.x) (bounds.high.x -ℤ a.x) (c.x -ℤ a.x)
    (omega (arith, ints, k.west)) (omega (arith, ints, k.east)))
    h (same_products ((b.x -ℤ a.x) *ℤ (c.y -ℤ a.y)) ((b.y -ℤ a.y) *ℤ (c.x -ℤ a.x)) i.1.0))

not_both : (r : Bool) → r ≡ true → not r ≡ true → ⊥
not_both true e t = false≢true t
not_both false e t = false≢true e

-- a corner in a box and inside an edge is in the boxes of both
boxes_meet : (bounds : Bounds) (a b c : Corner) → HoldsCorner bounds c → Inside c a b → EdgeBoxesMeet bounds.low bounds.high a b
boxes_meet bounds a b c k i = (
  (omega (arith, ints, clamps, k.west, i.0.0.1), omega (arith, ints, clamps, k.east, i.0.0.0)),
  (omega (arith, ints, clamps, k.south, i.0.1.1), omega (arith, ints, clamps, k.north, i.0.1.0)),
)

pub none_past : (r : Bool) (bounds : Bounds) (a b : Corner) → (EdgeBoxesMeet bounds.low bounds.high a b → r ≡ true)
    → not r ≡ true → (c : Corner)
    → HoldsCorner bounds c → is_strictly_inside c a b ≡ false
none_past r bounds a b h t c k = false_where (is_strictly_inside c a b) (Decides-parts c a b)
    (λ i. not_both r (h (boxes_meet bounds a b c k i)) t)

pub none_beside_of : (bounds : Bounds) (a b c : Corner) (bottom top left right : ℤ)
    → bottom ≡ (b.x -ℤ a.x) *ℤ (bounds.low.y -ℤ a.y) → top ≡ (b.x -ℤ a.x) *ℤ (bounds.high.y -ℤ a.y)
    → left ≡ (b.y -ℤ a.y) *ℤ (bounds.low.x -ℤ a.x) → right ≡ (b.y -ℤ a.y) *ℤ (bounds.high.x -ℤ a.x)
    → RangesAreApart bottom top left right → HoldsCorner bounds c → is_strictly_inside c a b ≡ false
none_beside_of bounds a b c bottom top left right e f g h k l =
    let bottom' = (b.x -ℤ a.x) *ℤ (bounds.low.y -ℤ a.y) in
    let top' = (b.x -ℤ a.x) *ℤ (bounds.high.y -ℤ a.y) in
    let left' = (b.y -ℤ a.y) *ℤ (bounds.low.x -ℤ a.x) in
    let right' = (b.y -ℤ a.y) *ℤ (bounds.high.x -ℤ a.x) in
    none_beside bounds a b c
    (subst (λ z. RangesAreApart bottom' top' left' z) h (subst (λ z. RangesAreApart bottom' top' z right) g
    (subst (λ z. RangesAreApart bottom' z left right) f (subst (λ z. RangesAreApart z top left right) e k)))) l

-- ---- two boxes
-- boxes that hold one corner meet
pub none_off : (r : Bool) (one other : Bounds) → ((c : Corner) → HoldsCorner one c → HoldsCorner other c → r ≡ true)
    → not r ≡ true → (c : Corner)
    → HoldsCorner one c → holds_corner other c ≡ false
none_off r one other h t c k = false_where (holds_corner other c) (Decides-holds_corner other c) (λ i. not_both r (h c k i) t)

-- a box with both ends of an edge has what lies inside the edge
pub covered : (bounds : Bounds) (a b : Corner) → holds_corner bounds a ≡ true → holds_corner bounds b ≡ true
    → (c : Corner) → is_strictly_inside c a b ≡ true
    → holds_corner bounds c ≡ true
covered bounds a b h k c t =
    let p = (Decides-holds_corner bounds a).0 h in
    let q = (Decides-holds_corner bounds b).0 k in
    let i = (Decides-parts c a b).0 t in
    (Decides-holds_corner bounds c).1 (record {
      west = omega (arith, ints, clamps, p.west, q.west, i.0.0.0);
      east = omega (arith, ints, clamps, p.east, q.east, i.0.0.1);
      south = omega (arith, ints, clamps, p.south, q.south, i.0.1.0);
      north = omega (arith, ints, clamps, p.north, q.north, i.0.1.1);
    })

-- a corner that does not lie on the edge does not lie inside it
pub none_on : (c a b : Corner) → ¬ IsOnEdge (corner_point c) a b → is_strictly_inside c a b ≡ false
none_on c a b h = false_where (is_strictly_inside c a b) (Decides-is_strictly_inside c a b) (λ i. h i.on_edge)
