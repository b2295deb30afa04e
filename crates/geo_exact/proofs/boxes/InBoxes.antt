-- Boxes: what a wider, an empty and another box say of the places in them, and the test of holding a corner.
use Rattle.std.proofs.Common.{◌≡◌, inl, inr, sym, ◌∙◌, ap, arith, Bool, true, ◌&&◌}
use Rattle.std.specs.Bool.{Decides}
use Rattle.std.proofs.lemmas.Int.{ints}
use Rattle.std.proofs.lemmas.Bool.Decides.{Decides-and, Decides-like}
use lib.IntN.{ℤ, pos}
use lib.Signed.{◌≤ℤ◌, le_z}
use Rattle.geo_exact.specs.declared.bounds.Bounds.{Bounds}
use Rattle.geo_exact.specs.declared.corner.Corner.{Corner}
use Rattle.geo_exact.specs.Point.{Point}
use Rattle.geo_exact.specs.Bounds.{HoldsCorner, IsInsideBox, IsEmptyBox, BoxesAreApart, IsWider, is_from_to, holds_corner}
use Rattle.geo_exact.proofs.numbers.Orders.{Decides-int_le}
use Rattle.geo_exact.proofs.numbers.Signs.{mul_le}

-- no place lies inside two boxes that are apart
pub not_in_both : (p : Point) (s t : Bounds) → BoxesAreApart s t → IsInsideBox p s → IsInsideBox p t → ⊥
not_in_both p s t (inl (inl h)) i j = omega (arith, ints, mul_le s.high.x t.low.x p.d (omega (arith, ints, p.d_positive)) h, i.east, j.west)
not_in_both p s t (inl (inr h)) i j = omega (arith, ints, mul_le t.high.x s.low.x p.d (omega (arith, ints, p.d_positive)) h, i.west, j.east)
not_in_both p s t (inr (inl h)) i j =
    omega (arith, ints, mul_le s.high.y t.low.y p.d (omega (arith, ints, p.d_positive)) h, i.north, j.south)
not_in_both p s t (inr (inr h)) i j =
    omega (arith, ints, mul_le t.high.y s.low.y p.d (omega (arith, ints, p.d_positive)) h, i.south, j.north)

pub holds_wider : (box wider : Bounds) → IsWider box wider → (corner : Corner) → HoldsCorner box corner → HoldsCorner wider corner
holds_wider box wider w corner h = record {
  west = omega (arith, ints, w.0.0, h.west);
  east = omega (arith, ints, w.0.1, h.east);
  south = omega (arith, ints, w.1.0, h.south);
  north = omega (arith, ints, w.1.1, h.north);
}

pub inside_wider : (box wider : Bounds) → IsWider box wider → (p : Point) → IsInsideBox p box → IsInsideBox p wider
inside_wider box wider w p i =
    let d : pos 0 ≤ℤ p.d = omega (arith, ints, p.d_positive) in record {
      west = omega (arith, ints, mul_le wider.low.x box.low.x p.d d w.0.0, i.west);
      east = omega (arith, ints, mul_le box.high.x wider.high.x p.d d w.0.1, i.east);
      south = omega (arith, ints, mul_le wider.low.y box.low.y p.d d w.1.0, i.south);
      north = omega (arith, ints, mul_le box.high.y wider.high.y p.d d w.1.1, i.north);
    }

pub nothing_in_empty : (box : Bounds) → IsEmptyBox box → (p : Point) → ¬ IsInsideBox p box
nothing_in_empty box (inl h) p i =
    omega (arith, ints, mul_le box.high.x box.low.x p.d (omega (arith, ints, p.d_positive)) h, i.west, i.east)
nothing_in_empty box (inr h) p i =
    omega (arith, ints, mul_le box.high.y box.low.y p.d (omega (arith, ints, p.d_positive)) h, i.south, i.north)

-- a second test, where the first is true
pub both_tests : (r s p q : Bool) → r ≡ p → s ≡ q → r ≡ true → s ≡ (p && q)
both_tests r s p q h k t = k ∙ ap (λ x. x && q) (sym t ∙ h)

Decides-is_from_to : (u v z : ℤ) → Decides (is_from_to u v z) ((u ≤ℤ z) × (z ≤ℤ v))
Decides-is_from_to u v z = Decides-and (le_z u z) (le_z z v) (Decides-int_le u z) (Decides-int_le z v)

pub Decides-holds_corner : (bounds : Bounds) (c : Corner) → Decides (holds_corner bounds c) (HoldsCorner bounds c)
Decides-holds_corner bounds c =
    Decides-like (holds_corner bounds c)
    (λ h. record { west = h.0.0; east = h.0.1; south = h.1.0; north = h.1.1 })
    (λ h. ((h.west, h.east), (h.south, h.north)))
    (Decides-and (is_from_to bounds.low.x bounds.high.x c.x) (is_from_to bounds.low.y bounds.high.y c.y)
    (Decides-is_from_to bounds.low.x bounds.high.x c.x) (Decides-is_from_to bounds.low.y bounds.high.y c.y))

pub holds_own : (box : Bounds) (corner : Corner) → box.low ≡ corner → box.high ≡ corner → HoldsCorner box corner
holds_own box corner e f =
    let u : box.low.x ≡ corner.x = ap (λ (c : Corner). c.x) e in
    let v : box.low.y ≡ corner.y = ap (λ (c : Corner). c.y) e in
    let w : box.high.x ≡ corner.x = ap (λ (c : Corner). c.x) f in
    let z : box.high.y ≡ corner.y = ap (λ (c : Corner). c.y) f in
    record { west = omega (arith, ints, u); east = omega (arith, ints, w); south = omega (arith, ints, v); north = omega (arith, ints, z) }
