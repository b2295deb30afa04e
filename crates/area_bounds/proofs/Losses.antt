-- What rounding loses, and where nothing is lost.
use Rattle.std.proofs.Common.{◌≡◌, ℕ, zero, suc, ◌+◌, ◌*◌, ◌%◌, ◌<◌, ◌≤◌, ◌⊎◌, refl, subst, ◌∙◌, sym, ap, arith, Bool}
use Rattle.std.proofs.Common.{List, [], ◌∷◌, length, drop, get_or, true, false, nat_eq, if◌then◌else◌}
use Rattle.std.proofs.lemmas.Bool.Decides.{nat_tests}
use Rattle.std.proofs.lemmas.Int.{ints, by_lt_z}
use Rattle.std.proofs.lemmas.List.{drop_all}
use Rattle.std.proofs.lemmas.Nat.{mod-mul-add, mul-le}
use Rattle.std.specs.Int.{abs_diff}
use Rattle.std.specs.Int.RustNames.{unsigned_abs}
use lib.IntN.{ℤ, pos, negsuc, ◌+ℤ◌, ◌-ℤ◌, ◌*ℤ◌, neg_ℤ}
use lib.Signed.{◌<ℤ◌, ◌≤ℤ◌}
use Rattle.geo_exact.specs.declared.corner.Corner.{Corner}
use Rattle.geo_exact.specs.Rings.{Edge, path, edges}
use Rattle.geo_exact.proofs.numbers.Dropped.{drop_item}
use Rattle.geo_exact.proofs.numbers.Orders.{le_of_lt}
use Rattle.geo_exact.proofs.numbers.Polynomials.{var, lit, add, mul, neg, sub, same_by}
use Rattle.geo_exact.proofs.numbers.Signs.{mul_le, mul_lt}
use Rattle.common_areas.specs.Between.{size, way, rise, lowest, highest, gap, area_of_gaps, area_between, between}
use Rattle.common_areas.specs.Fractions.{Fraction, whole, times, AreEqual}
use Rattle.area_bounds.specs.declared.parts.TheConstants.{PARTS}
use Rattle.area_bounds.specs.Parts.{IsCounted, IsBetween}
use Rattle.area_bounds.specs.Rounded.{rest_of, loss_of, count_over, IsNear}
use Rattle.area_bounds.proofs.EdgeLines.{turned, sign, way_of}
use Rattle.area_bounds.proofs.Gaps.{size_is, square_is, uncrossed_sign, crossed_sign, gaps, test_yes, test_no, between_levels, lt_yes}

-- ---- quotients
-- where something is left, 1 may be lost; where nothing is, nothing is lost
pub loss_bound : (n d q rest lost : ℕ) → n ≡ q * d + rest → rest < d → (rest ≡ 0 → lost ≡ 0) → lost ≤ 1 → lost ≤ rest_of n d
loss_bound n d q zero lost e h k one = omega (arith, k refl)
loss_bound n d q (suc r) lost e h k one =
    let m : n % d ≡ suc r = ap (λ x. x % d) e ∙ mod-mul-add q d (suc r) h in
    let no : nat_eq (suc r) 0 ≡ false = grind (arith, nat_tests) in
    let P : ℕ → Type 0 = λ x. lost ≤ (if nat_eq x 0 then 0 else 1) in
    let Q : Bool → Type 0 = λ b. lost ≤ (if b then 0 else 1) in
    subst P (sym m) (subst Q (sym no) one)

pub trapezoid_loss : (P h s r q rest lost : ℕ) → h * P * s ≡ q * (2 * r) + rest → rest < 2 * r → (rest ≡ 0 → lost ≡ 0) → lost ≤ 1
    → lost ≤ rest_of (P * (h * s)) (2 * r)
trapezoid_loss P h s r q rest lost e l k one = loss_bound (P * (h * s)) (2 * r) q rest lost (omega (arith, e)) l k one

pub triangles_loss : (P h f s r p q o once twice lost : ℕ) → (f * f + s * s) * P ≡ o * (2 * r) + once → o ≡ q * p + twice
    → f + s ≡ p * h → once < 2 * r → twice < p → (once ≡ 0 → twice ≡ 0 → lost ≡ 0) → lost ≤ 1
    → lost ≤ rest_of (P * (h * (f * f + s * s))) (2 * r * (f + s))
triangles_loss P zero f s r p q o once twice lost e d k ho ht hl one = omega (arith, flat f s r (omega (arith, k)) ho e)
  where
    flat : (f s r : ℕ) → f + s ≡ 0 → once < 2 * r → (f * f + s * s) * P ≡ o * (2 * r) + once → lost ≡ 0
    flat zero zero (suc r) z l e =
        let nothing : (0 * 0 + 0 * 0) * P ≡ 0 = omega arith in
        let n : o * (2 * suc r) + once ≡ 0 = sym e ∙ nothing in
        let x : o ≡ 0 = omega (arith, n) in
        hl (omega (arith, n)) (omega (arith, d, x))
    flat f s zero z l e = absurd (omega (arith, l))
    flat (suc f) s (suc r) z l e = absurd (omega (arith, z))
    flat zero (suc s) (suc r) z l e = absurd (omega (arith, z))
triangles_loss P (suc h) f s r p q o once twice lost e d k ho ht hl one =
    loss_bound (P * (suc h * (f * f + s * s))) (2 * r * (f + s)) q ((twice * (2 * r) + once) * suc h) lost
    (let a : (f * f + s * s) * P ≡ (q * p + twice) * (2 * r) + once = rw (← d) e in
    let b : (f * f + s * s) * P * suc h ≡ ((q * p + twice) * (2 * r) + once) * suc h = ap (λ (x : ℕ). x * suc h) a in
    rw k (omega (arith, b)))
    (rw k (let u : twice * (2 * r) + once + 1 ≤ p * (2 * r) =
    omega (arith, mul-le (twice + 1) (2 * r) p (2 * r) (omega arith) (omega arith)) in
    omega (arith, mul-le (twice * (2 * r) + once + 1) (suc h) (p * (2 * r)) (suc h) u (omega arith))))
    (nothing r ho)
    one
  where
    nothing : (r : ℕ) → once < 2 * r → (twice * (2 * r) + once) * suc h ≡ 0 → lost ≡ 0
    nothing zero l z = absurd (omega (arith, l))
    nothing (suc r) l z =
        let y : twice * (2 * suc r) + once ≡ 0 = omega (arith, z) in
        hl (omega (arith, y)) (omega (arith, y))

-- ---- fractions
pub trapezoid_losses : (a b c d H C lost : ℕ) (u v : ℤ) → pos a -ℤ pos b ≡ u → pos c -ℤ pos d ≡ v
    → (((a < b) × (d < c)) ⊎ ((b < a) × (c < d)) → ⊥)
    → lost ≤ rest_of (PARTS * (H * (abs_diff a b + abs_diff c d))) (2 * C)
    → lost ≤ loss_of (area_of_gaps (pos H) (pos C) u v)
trapezoid_losses a b c d H C lost u v e f never h =
    let n : pos H *ℤ (size u +ℤ size v) ≡ pos (H * (abs_diff a b + abs_diff c d)) =
    ap (λ x. pos H *ℤ (x +ℤ size v)) (size_is a b u e) ∙ ap (λ x. pos H *ℤ (pos (abs_diff a b) +ℤ x)) (size_is c d v f) in
    let P : Bool → Type 0 = λ t. lost ≤ loss_of (gaps t (pos H) (pos C) u v) in
    let Q : ℤ → Type 0 = λ x. lost ≤ rest_of (PARTS * unsigned_abs x) (2 * C) in
    subst P (test_yes (u *ℤ v) (uncrossed_sign a b c d u v e f never)) (subst Q (sym n) h)

pub triangles_losses : (a b c d H C lost : ℕ) (u v : ℤ) → pos a -ℤ pos b ≡ u → pos c -ℤ pos d ≡ v
    → ((a < b) × (d < c)) ⊎ ((b < a) × (c < d))
    → lost ≤ rest_of (PARTS * (H * (abs_diff a b * abs_diff a b + abs_diff c d * abs_diff c d))) (2 * C * (abs_diff a b + abs_diff c d))
    → lost ≤ loss_of (area_of_gaps (pos H) (pos C) u v)
triangles_losses a b c d H C lost u v e f crossed h =
    let x : size u ≡ pos (abs_diff a b) = size_is a b u e in
    let y : size v ≡ pos (abs_diff c d) = size_is c d v f in
    let n : pos H *ℤ (u *ℤ u +ℤ v *ℤ v) ≡ pos (H * (abs_diff a b * abs_diff a b + abs_diff c d * abs_diff c d)) =
    ap (λ z. pos H *ℤ (z +ℤ v *ℤ v)) (square_is u (abs_diff a b) x)
    ∙ ap (λ z. pos H *ℤ (pos (abs_diff a b * abs_diff a b) +ℤ z)) (square_is v (abs_diff c d) y) in
    let m : pos 2 *ℤ pos C *ℤ (size u +ℤ size v) ≡ pos (2 * C * (abs_diff a b + abs_diff c d)) =
    ap (λ z. pos 2 *ℤ pos C *ℤ (z +ℤ size v)) x ∙ ap (λ z. pos 2 *ℤ pos C *ℤ (pos (abs_diff a b) +ℤ z)) y in
    let P : Bool → Type 0 = λ t. lost ≤ loss_of (gaps t (pos H) (pos C) u v) in
    let Q : ℤ → Type 0 = λ z. lost ≤ rest_of (PARTS * unsigned_abs z) (2 * C * (abs_diff a b + abs_diff c d)) in
    let R : ℤ → Type 0 = λ z. lost ≤ rest_of (PARTS * unsigned_abs (pos H *ℤ (u *ℤ u +ℤ v *ℤ v))) (unsigned_abs z) in
    subst P (test_no (u *ℤ v) (crossed_sign a b c d u v e f crossed)) (subst R (sym m) (subst Q (sym n) h))

-- what holds of the area over the common levels holds of the area between two edges
pub of_area : (P : Fraction → Type 0) (e f : Edge) (H C : ℕ) (low high : ℤ) → low ≡ lowest e f → high ≡ highest e f
    → low <ℤ high → pos H ≡ high -ℤ low → pos C ≡ rise e *ℤ rise f
    → P (area_of_gaps (pos H) (pos C) (gap e f low) (gap e f high)) → P (area_between e f)
of_area P e f H C low high l m h hh hc is =
    let O : Bool → Type 0 = λ t. P (between_levels t e f) in
    let Q : ℤ → Type 0 = λ y. P (area_of_gaps (high -ℤ y) (rise e *ℤ rise f) (gap e f y) (gap e f high)) in
    let R : ℤ → Type 0 = λ y. P (area_of_gaps (y -ℤ lowest e f) (rise e *ℤ rise f) (gap e f (lowest e f)) (gap e f y)) in
    let S : ℤ → Type 0 = λ y. P (area_of_gaps y (pos C) (gap e f low) (gap e f high)) in
    let T : ℤ → Type 0 = λ y. P (area_of_gaps (high -ℤ low) y (gap e f low) (gap e f high)) in
    subst O (lt_yes (lowest e f) (highest e f) (ordered low high (lowest e f) (highest e f) l m h))
    (subst R m (subst Q l (subst T hc (subst S hh is))))
  where
    ordered : (a b c d : ℤ) → a ≡ c → b ≡ d → a <ℤ b → c <ℤ d
    ordered a b c d e f h = omega (arith, ints)

-- taken off or counted, an area loses as much
size_once : (z : ℤ) → unsigned_abs (pos 1 *ℤ z) ≡ unsigned_abs z
size_once z = ap unsigned_abs (same_by (z ∷ []) (mul (lit (pos 1)) (var 0)) (var 0) refl)

size_off : (z : ℤ) → unsigned_abs (negsuc 0 *ℤ z) ≡ unsigned_abs z
size_off z = ap unsigned_abs (same_by (z ∷ []) (mul (lit (negsuc 0)) (var 0)) (neg (var 0)) refl) ∙ turned_size z
  where
    turned_size : (z : ℤ) → unsigned_abs (neg_ℤ z) ≡ unsigned_abs z
    turned_size (pos zero) = refl
    turned_size (pos (suc n)) = refl
    turned_size (negsuc n) = refl

pub loss_once : (f : Fraction) → loss_of (times (pos 1) f) ≡ loss_of f
loss_once f = ap (λ x. rest_of (PARTS * x) (unsigned_abs f.d)) (size_once f.n)

pub loss_off : (f : Fraction) → loss_of (times (negsuc 0) f) ≡ loss_of f
loss_off f = ap (λ x. rest_of (PARTS * x) (unsigned_abs f.d)) (size_off f.n)

pub signed_loss : (a b : Bool) (p q r s : Corner) (l : ℕ) → p.y <ℤ q.y → r.y <ℤ s.y
    → l ≤ loss_of (area_between (turned a p q) (turned b r s)) → l ≤ loss_of (between (turned a p q) (turned b r s))
signed_loss a b p q r s l h k c =
    let P : ℤ → Type 0 = λ z. l ≤ loss_of (times (neg_ℤ z) (area_between (turned a p q) (turned b r s))) in
    subst P (sym (ap (λ w. w *ℤ way (turned b r s)) (way_of a p q h) ∙ ap (λ w. sign a *ℤ w) (way_of b r s k)))
    (either a b)
  where
    area : Fraction
    area = area_between (turned a p q) (turned b r s)

    either : (a b : Bool) → l ≤ loss_of (times (neg_ℤ (sign a *ℤ sign b)) area)
    either true true = rw (loss_off area) c
    either true false = rw (loss_once area) c
    either false true = rw (loss_once area) c
    either false false = rw (loss_off area) c

-- ---- along a ring
pub losses-drop : (count : Edge → ℕ) (from item to : Corner) (rest : List Corner) (i : ℕ) → i < length rest → item ≡ get_or rest i item
    → count_over count (path from (drop i rest) to) ≡ count (record { from = from; to = item }) + count_over count
    (path item (drop (i + 1) rest) to)
losses-drop count from item to rest i h e = ap (λ corners. count_over count (path from corners to)) (drop_item rest i item h e)

pub losses-end : (count : Edge → ℕ) (from to : Corner) (rest : List Corner) (i : ℕ) → length rest ≤ i
    → count_over count (path from (drop i rest) to) ≡ count (record { from = from; to = to }) + 0
losses-end count from to rest i h = ap (λ corners. count_over count (path from corners to)) (drop_all i rest h)

pub losses-start : (count : Edge → ℕ) (first : Corner) (ring rest : List Corner) → ring ≡ first ∷ rest
    → count_over count (path first (drop 0 rest) first) ≡ count_over count (edges ring)
losses-start count first ring rest e =
    ap (λ corners. count_over count (path first corners first)) (drop_none rest) ∙ ap (λ r. count_over count (edges r)) (sym e)
  where
    drop_none : (xs : List Corner) → drop 0 xs ≡ xs
    drop_none [] = refl
    drop_none (x ∷ xs) = refl

-- ---- the nearest whole numbers
pub near_parts : (low high t : ℤ) (l n : ℕ) (f : Fraction) → IsCounted t l f → t <ℤ ((low +ℤ pos 1) *ℤ pos PARTS)
    → ((high -ℤ pos 1) *ℤ pos PARTS) <ℤ (t +ℤ pos l) → l ≤ n → IsNear low high n f
near_parts low high t l n f h lo hi le = record {
  low = before (pos PARTS *ℤ f.n) ((t +ℤ pos l) *ℤ f.d) (((low +ℤ pos 1) *ℤ pos PARTS +ℤ pos n) *ℤ f.d) h.below
      (mul_lt (t +ℤ pos l) ((low +ℤ pos 1) *ℤ pos PARTS +ℤ pos n) f.d h.positive (added t ((low +ℤ pos 1) *ℤ pos PARTS) l n lo le));
  high = behind ((high -ℤ pos 1) *ℤ pos PARTS *ℤ f.d) ((t +ℤ pos l) *ℤ f.d) (t *ℤ f.d) (pos l *ℤ f.d) (pos n *ℤ f.d) (pos PARTS *ℤ f.n)
      (mul_lt ((high -ℤ pos 1) *ℤ pos PARTS) (t +ℤ pos l) f.d h.positive hi)
      (same_by (t ∷ pos l ∷ f.d ∷ []) (mul (add (var 0) (var 1)) (var 2)) (add (mul (var 0) (var 2)) (mul (var 1) (var 2))) refl)
      (mul_le (pos l) (pos n) f.d (le_of_lt (pos 0) f.d h.positive) (naturals l n le)) h.above;
}
  where
    naturals : (x y : ℕ) → x ≤ y → pos x ≤ℤ pos y
    naturals x y h = omega (arith, ints, h)

    before : (x y z : ℤ) → x ≤ℤ y → y <ℤ z → x <ℤ z
    before x y z h k = omega (arith, ints)

    added : (t x : ℤ) (l n : ℕ) → t <ℤ x → l ≤ n → (t +ℤ pos l) <ℤ (x +ℤ pos n)
    added t x l n h k = omega (arith, ints, k)

    behind : (x y a b c p : ℤ) → x <ℤ y → y ≡ a +ℤ b → b ≤ℤ c → a ≤ℤ p → x <ℤ (p +ℤ c)
    behind x y a b c p h e k m = omega (arith, ints)

-- a whole number of which nothing is lost
pub both_whole : (low high n : ℤ) (rounded : ℕ) (f : Fraction) → IsBetween low high f → IsNear low high rounded f
    → AreEqual f (whole n) → rounded ≡ 0 → (low ≡ n) × (high ≡ n)
both_whole low high n rounded f h near is none =
    let e : f.n ≡ n *ℤ f.d = same_by (f.n ∷ []) (var 0) (mul (var 0) (lit (pos 1))) refl ∙ is in
    let P : ℕ → Type 0 = λ r. (pos PARTS *ℤ f.n) <ℤ (((low +ℤ pos 1) *ℤ pos PARTS +ℤ pos r) *ℤ f.d) in
    let Q : ℕ → Type 0 = λ r. ((high -ℤ pos 1) *ℤ pos PARTS *ℤ f.d) <ℤ (pos PARTS *ℤ f.n +ℤ pos r *ℤ f.d) in
    let a : low ≤ℤ n = less_eq low n f.d h.positive (le_is (low *ℤ f.d) f.n (n *ℤ f.d) e h.low) in
    let b : n ≤ℤ high = less_eq n high f.d h.positive (is_le f.n (n *ℤ f.d) (high *ℤ f.d) e h.high) in
    let c : n <ℤ (low +ℤ pos 1) =
    less n (low +ℤ pos 1) (pos PARTS *ℤ f.d) (parts_some f.d h.positive)
    (lt_by (pos PARTS *ℤ f.n) (((low +ℤ pos 1) *ℤ pos PARTS +ℤ pos 0) *ℤ f.d) (n *ℤ (pos PARTS *ℤ f.d))
    ((low +ℤ pos 1) *ℤ (pos PARTS *ℤ f.d))
    (ap (λ x. pos PARTS *ℤ x) e
    ∙ same_by (pos PARTS ∷ n ∷ f.d ∷ []) (mul (var 0) (mul (var 1) (var 2))) (mul (var 1) (mul (var 0) (var 2))) refl)
    (same_by (low ∷ pos PARTS ∷ f.d ∷ []) (mul (add (mul (add (var 0) (lit (pos 1))) (var 1)) (lit (pos 0))) (var 2))
    (mul (add (var 0) (lit (pos 1))) (mul (var 1) (var 2))) refl)
    (subst P none near.low)) in
    let d : (high -ℤ pos 1) <ℤ n =
    less (high -ℤ pos 1) n (pos PARTS *ℤ f.d) (parts_some f.d h.positive)
    (lt_by ((high -ℤ pos 1) *ℤ pos PARTS *ℤ f.d) (pos PARTS *ℤ f.n +ℤ pos 0 *ℤ f.d) ((high -ℤ pos 1) *ℤ (pos PARTS *ℤ f.d))
    (n *ℤ (pos PARTS *ℤ f.d))
    (same_by (high ∷ pos PARTS ∷ f.d ∷ []) (mul (mul (sub (var 0) (lit (pos 1))) (var 1)) (var 2))
    (mul (sub (var 0) (lit (pos 1))) (mul (var 1) (var 2))) refl)
    (ap (λ x. pos PARTS *ℤ x +ℤ pos 0 *ℤ f.d) e
    ∙ same_by (pos PARTS ∷ n ∷ f.d ∷ []) (add (mul (var 0) (mul (var 1) (var 2))) (mul (lit (pos 0)) (var 2)))
    (mul (var 1) (mul (var 0) (var 2))) refl)
    (subst Q none near.high)) in
    (omega (arith, ints, a, c), omega (arith, ints, b, d))
  where
    le_is : (x y z : ℤ) → y ≡ z → x ≤ℤ y → x ≤ℤ z
    le_is x y z e h = omega (arith, ints)

    is_le : (x y z : ℤ) → x ≡ y → x ≤ℤ z → y ≤ℤ z
    is_le x y z e h = omega (arith, ints)

    lt_by : (x y u v : ℤ) → x ≡ u → y ≡ v → x <ℤ y → u <ℤ v
    lt_by x y u v e f h = omega (arith, ints)

    parts_some : (d : ℤ) → pos 0 <ℤ d → pos 0 <ℤ (pos PARTS *ℤ d)
    parts_some d h = omega (arith, ints)

    not_both : (x y : ℤ) → x <ℤ y → y ≤ℤ x → ⊥
    not_both x y h k = omega (arith, ints)

    less_eq : (x y d : ℤ) → pos 0 <ℤ d → (x *ℤ d) ≤ℤ (y *ℤ d) → x ≤ℤ y
    less_eq x y d h k = by_lt_z y x (λ l. absurd (not_both (y *ℤ d) (x *ℤ d) (mul_lt y x d h l) k)) (λ l. l)

    less : (x y d : ℤ) → pos 0 <ℤ d → (x *ℤ d) <ℤ (y *ℤ d) → x <ℤ y
    less x y d h k = by_lt_z x y (λ l. l)
        (λ l. absurd (not_both (x *ℤ d) (y *ℤ d) k (mul_le y x d (le_of_lt (pos 0) d h) l)))
