-- The area common to two rings, named in either order.
use Rattle.std.proofs.Common.{◌≡◌, refl, ◌∙◌, sym, ap, arith, List, [], ◌∷◌, Bool, if◌then◌else◌}
use Rattle.std.proofs.lemmas.Int.{ints, int_max_is, int_min_is}
use Rattle.std.specs.Int.{int_min, int_max}
use Rattle.std.specs.Prelude.{int_le, int_lt}
use lib.IntN.{ℤ, pos, ◌+ℤ◌, ◌-ℤ◌, ◌*ℤ◌, neg_ℤ}
use Rattle.geo_exact.specs.declared.corner.Corner.{Corner}
use Rattle.geo_exact.specs.Rings.{Edge, edges}
use Rattle.geo_exact.proofs.numbers.Polynomials.{var, add, mul, neg, same_by}
use Rattle.common_areas.specs.Fractions.{Fraction, whole, plus, times}
use Rattle.common_areas.specs.Between.{size, way, rise, lowest, highest, place, gap, area_of_gaps, area_between, between}
use Rattle.common_areas.proofs.Numbers.{size_of_neg}
use Rattle.common_areas.specs.Common.{sum_shares, common_area2}

-- fractions with one numerator and one denominator
pub same_fraction : (a b : Fraction) → a.n ≡ b.n → a.d ≡ b.d → a ≡ b
same_fraction a b h k =
    ap (λ (n : ℤ). let f : Fraction = record { n = n; d = a.d } in f) h
    ∙ ap (λ (d : ℤ). let f : Fraction = record { n = b.n; d = d } in f) k

pub plus_turned : (a b : Fraction) → plus a b ≡ plus b a
plus_turned a b = same_fraction (plus a b) (plus b a) (omega (arith, ints)) (omega (arith, ints))

-- the middle two of four change places
pub plus_middle : (a b c d : Fraction) → plus (plus a b) (plus c d) ≡ plus (plus a c) (plus b d)
plus_middle a b c d = same_fraction (plus (plus a b) (plus c d)) (plus (plus a c) (plus b d))
    (same_by (a.n ∷ a.d ∷ b.n ∷ b.d ∷ c.n ∷ c.d ∷ d.n ∷ d.d ∷ [])
    (add (mul (add (mul (var 0) (var 3)) (mul (var 2) (var 1))) (mul (var 5) (var 7)))
    (mul (add (mul (var 4) (var 7)) (mul (var 6) (var 5))) (mul (var 1) (var 3))))
    (add (mul (add (mul (var 0) (var 5)) (mul (var 4) (var 1))) (mul (var 3) (var 7)))
    (mul (add (mul (var 2) (var 7)) (mul (var 6) (var 3))) (mul (var 1) (var 5))))
    refl)
    (same_by (a.d ∷ b.d ∷ c.d ∷ d.d ∷ [])
    (mul (mul (var 0) (var 1)) (mul (var 2) (var 3)))
    (mul (mul (var 0) (var 2)) (mul (var 1) (var 3)))
    refl)

-- nothing, as often as there are edges
pub sum_of_none : (es : List Edge) → sum_shares (λ e. whole (pos 0)) es ≡ whole (pos 0)
sum_of_none [] = refl
sum_of_none (e ∷ es) = ap (plus (whole (pos 0))) (sum_of_none es)

pub sum_of_sums : (f g : Edge → Fraction) (es : List Edge)
    → sum_shares (λ e. plus (f e) (g e)) es ≡ plus (sum_shares f es) (sum_shares g es)
sum_of_sums f g [] = refl
sum_of_sums f g (e ∷ es) = ap (plus (plus (f e) (g e))) (sum_of_sums f g es)
    ∙ plus_middle (f e) (g e) (sum_shares f es) (sum_shares g es)

pub sum_of_same : (f g : Edge → Fraction) (es : List Edge) → ((e : Edge) → f e ≡ g e) → sum_shares f es ≡ sum_shares g es
sum_of_same f g [] h = refl
sum_of_same f g (e ∷ es) h = ap (λ x. plus x (sum_shares f es)) (h e) ∙ ap (plus (g e)) (sum_of_same f g es h)

-- a sum over pairs, by the first or by the second
pub exchanged : (f : Edge → Edge → Fraction) (es fs : List Edge)
    → sum_shares (λ e. sum_shares (f e) fs) es ≡ sum_shares (λ g. sum_shares (λ e. f e g) es) fs
exchanged f [] fs = sym (sum_of_none fs)
exchanged f (e ∷ es) fs = ap (plus (sum_shares (f e) fs)) (exchanged f es fs)
    ∙ sym (sum_of_sums (f e) (λ g. sum_shares (λ e'. f e' g) es) fs)

max_turned : (u v : ℤ) → int_max u v ≡ int_max v u
max_turned u v = let a = int_max_is u v in let b = int_max_is v u in omega (arith, ints)

min_turned : (u v : ℤ) → int_min u v ≡ int_min v u
min_turned u v = let a = int_min_is u v in let b = int_min_is v u in omega (arith, ints)

product_of_negs : (u v : ℤ) → neg_ℤ u *ℤ neg_ℤ v ≡ u *ℤ v
product_of_negs u v = same_by (u ∷ v ∷ []) (mul (neg (var 0)) (neg (var 1))) (mul (var 0) (var 1)) refl

area_by : Bool → (h c m p : ℤ) → Fraction
area_by b h c m p = if b then record { n = h *ℤ m; d = pos 2 *ℤ c } else record { n = h *ℤ p; d = pos 2 *ℤ c *ℤ m }

area_of_negs : (h c u v : ℤ) → area_of_gaps h c (neg_ℤ u) (neg_ℤ v) ≡ area_of_gaps h c u v
unfolding area_by
area_of_negs h c u v =
    ap (λ z. area_by (int_le (pos 0) z) h c (size (neg_ℤ u) +ℤ size (neg_ℤ v)) (neg_ℤ u *ℤ neg_ℤ u +ℤ neg_ℤ v *ℤ neg_ℤ v))
    (product_of_negs u v)
    ∙ ap (λ z. area_by (int_le (pos 0) (u *ℤ v)) h c (z +ℤ size (neg_ℤ v)) (neg_ℤ u *ℤ neg_ℤ u +ℤ neg_ℤ v *ℤ neg_ℤ v))
    (size_of_neg u)
    ∙ ap (λ z. area_by (int_le (pos 0) (u *ℤ v)) h c (size u +ℤ z) (neg_ℤ u *ℤ neg_ℤ u +ℤ neg_ℤ v *ℤ neg_ℤ v))
    (size_of_neg v)
    ∙ ap (λ z. area_by (int_le (pos 0) (u *ℤ v)) h c (size u +ℤ size v) (z +ℤ neg_ℤ v *ℤ neg_ℤ v))
    (product_of_negs u u)
    ∙ ap (λ z. area_by (int_le (pos 0) (u *ℤ v)) h c (size u +ℤ size v) (u *ℤ u +ℤ z)) (product_of_negs v v)

gap_turned : (e f : Edge) (y : ℤ) → gap f e y ≡ neg_ℤ (gap e f y)
gap_turned e f y = difference_turned (place f y *ℤ rise e) (place e y *ℤ rise f)
  where
    difference_turned : (u v : ℤ) → u -ℤ v ≡ neg_ℤ (v -ℤ u)
    difference_turned u v = omega (arith, ints)

product_turned : (u v : ℤ) → u *ℤ v ≡ v *ℤ u
product_turned u v = omega (arith, ints)

-- the area between two lines from one level to another, by the gaps at each level
area_at : (lo hi c : ℤ) → (ℤ → ℤ) → Fraction
area_at lo hi c g = if int_lt lo hi then area_of_gaps (hi -ℤ lo) c (g lo) (g hi) else whole (pos 0)

at_negs : (lo hi c : ℤ) (g k : ℤ → ℤ) → ((y : ℤ) → k y ≡ neg_ℤ (g y)) → area_at lo hi c k ≡ area_at lo hi c g
unfolding area_at
at_negs lo hi c g k h =
    ap (λ z. if int_lt lo hi then z else whole (pos 0))
    (ap (λ z. area_of_gaps (hi -ℤ lo) c z (k hi)) (h lo) ∙ ap (λ z. area_of_gaps (hi -ℤ lo) c (neg_ℤ (g lo)) z) (h hi)
    ∙ area_of_negs (hi -ℤ lo) c (g lo) (g hi))

area_turned : (e f : Edge) → area_between f e ≡ area_between e f
unfolding area_at
area_turned e f =
    ap (λ z. area_at z (highest f e) (rise f *ℤ rise e) (gap f e))
    (max_turned (int_min f.from.y f.to.y) (int_min e.from.y e.to.y))
    ∙ ap (λ z. area_at (lowest e f) z (rise f *ℤ rise e) (gap f e))
    (min_turned (int_max f.from.y f.to.y) (int_max e.from.y e.to.y))
    ∙ ap (λ z. area_at (lowest e f) (highest e f) z (gap f e)) (product_turned (rise f) (rise e))
    ∙ at_negs (lowest e f) (highest e f) (rise e *ℤ rise f) (gap e f) (gap f e) (gap_turned e f)

between_turned : (e f : Edge) → between e f ≡ between f e
between_turned e f =
    ap (λ z. times (neg_ℤ z) (area_between e f)) (product_turned (way e) (way f))
    ∙ ap (times (neg_ℤ (way f *ℤ way e))) (sym (area_turned e f))

pub symmetric : (r s : List Corner) → common_area2 r s ≡ common_area2 s r
symmetric r s = exchanged between (edges r) (edges s)
    ∙ sum_of_same (λ g. sum_shares (λ e. between e g) (edges r)) (λ g. sum_shares (between g) (edges r)) (edges s)
    (λ g. sum_of_same (λ e. between e g) (between g) (edges r) (λ e. between_turned e g))
