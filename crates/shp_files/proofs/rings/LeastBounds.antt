-- The bounds of corners, one corner at a time.
use Rattle.std.proofs.Common.{◌≡◌, ℕ, ◌<◌, ℤ, pos, List, [], ◌∷◌, ◌++◌, length, map}
use Rattle.std.proofs.Common.{Option, Some, None, unwrap_or, ap, arith, append_assoc}
use Rattle.std.proofs.Common.{length-append}
use Rattle.std.specs.Int.{int_min, int_max}
use Rattle.std.proofs.lemmas.List.{map-append, length-map}
use Rattle.std.proofs.lemmas.List.Sums.{fold_push}
use Rattle.geo_exact.specs.declared.corner.Corner.{Corner}
use Rattle.geo_exact.specs.declared.bounds.Bounds.{Bounds}
use Rattle.shp_files.specs.Written.{double, point, box, least, greatest, x_of, y_of}
use Rattle.shp_files.specs.own.Writing.{AreBounds, MayBeBounds}

least_push : (zs : List ℤ) (z : ℤ) → 0 < length zs → least (zs ++ z ∷ []) ≡ int_min (least zs) z
unfolding least
least_push [] z some = absurd (omega arith)
least_push (first ∷ rest) z some = fold_push int_min first rest z

greatest_push : (zs : List ℤ) (z : ℤ) → 0 < length zs → greatest (zs ++ z ∷ []) ≡ int_max (greatest zs) z
unfolding greatest
greatest_push [] z some = absurd (omega arith)
greatest_push (first ∷ rest) z some = fold_push int_max first rest z

least_of : (f : Corner → ℤ) (before : List Corner) (corner : Corner) (so_far new : ℤ) → 0 < length before
    → so_far ≡ least (map f before)
    → new ≡ int_min so_far (f corner) → new ≡ least (map f (before ++ corner ∷ []))
least_of f before corner so_far new some is e =
    rw (map-append f before (corner ∷ []), least_push (map f before) (f corner) (rw length-map some), ← is) e

greatest_of : (f : Corner → ℤ) (before : List Corner) (corner : Corner) (so_far new : ℤ) → 0 < length before
    → so_far ≡ greatest (map f before)
    → new ≡ int_max so_far (f corner) → new ≡ greatest (map f (before ++ corner ∷ []))
greatest_of f before corner so_far new some is e =
    rw (map-append f before (corner ∷ []), greatest_push (map f before) (f corner) (rw length-map some), ← is) e

-- one more corner
pub bounds_push : (bounds new : Bounds) (before : List Corner) (corner : Corner) → AreBounds bounds before
    → new.low.x ≡ int_min bounds.low.x corner.x → new.low.y ≡ int_min bounds.low.y corner.y
    → new.high.x ≡ int_max bounds.high.x corner.x → new.high.y ≡ int_max bounds.high.y corner.y
    → AreBounds new (before ++ corner ∷ [])
bounds_push bounds new before corner are a b c d = record {
  some = simp length-append (omega (arith, are.some));
  left = least_of x_of before corner bounds.low.x new.low.x are.some are.left a;
  bottom = least_of y_of before corner bounds.low.y new.low.y are.some are.bottom b;
  right = greatest_of x_of before corner bounds.high.x new.high.x are.some are.right c;
  top = greatest_of y_of before corner bounds.high.y new.high.y are.some are.top d;
}

-- the first corner
pub bounds_one : (bounds : Bounds) (before : List Corner) (corner : Corner) → before ≡ [] → bounds.low ≡ corner
    → bounds.high ≡ corner
    → AreBounds bounds (before ++ corner ∷ [])
unfolding least greatest
bounds_one bounds before corner none e f = rw none (record {
  some = omega arith;
  left = ap (λ (c : Corner). c.x) e;
  bottom = ap (λ (c : Corner). c.y) e;
  right = ap (λ (c : Corner). c.x) f;
  top = ap (λ (c : Corner). c.y) f;
})

point_pair : (a b c d : List ℕ) → (a ++ b) ++ (c ++ d) ≡ a ++ b ++ c ++ d
point_pair a b c d = simp append_assoc

four_doubles : (a b : Corner) (p q r s : ℤ) → a.x ≡ p → a.y ≡ q → b.x ≡ r → b.y ≡ s → point a ++ point b
    ≡ double p ++ double q ++ double r ++ double s
unfolding point
four_doubles a b p q r s e f g h = rw (← e, ← f, ← g, ← h) (point_pair (double a.x) (double a.y) (double b.x) (double b.y))

-- the box of corners, from their bounds
pub box_of : (bounds : Option Bounds) (default b : Bounds) (corners : List Corner) → MayBeBounds bounds corners
    → b ≡ unwrap_or bounds default
    → default.low.x ≡ pos 0 → default.low.y ≡ pos 0 → default.high.x ≡ pos 0 → default.high.y ≡ pos 0
    → point b.low ++ point b.high ≡ box corners
unfolding box least greatest
box_of None default b corners none is e f g h =
    rw (is, none) (four_doubles default.low default.high (pos 0) (pos 0) (pos 0) (pos 0) e f g h)
box_of (Some bounds) default b corners are is e f g h =
    rw is (four_doubles bounds.low bounds.high _ _ _ _ are.left are.bottom are.right are.top)
