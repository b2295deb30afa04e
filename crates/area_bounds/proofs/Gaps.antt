-- The area between two lines, by where they are at its bottom and its top.
use Rattle.std.proofs.Common.{◌≡◌, ◌≢◌, ℕ, zero, suc, ◌+◌, ◌-◌, ◌*◌, ◌<◌, ◌≤◌, ◌⊎◌, inl, inr, refl, subst, ◌∙◌, sym, ap, arith, Bool}
use Rattle.std.proofs.Common.{true, false, if◌then◌else◌}
use Rattle.std.proofs.lemmas.Int.{ints, int_max_is, int_min_is}
use Rattle.std.proofs.lemmas.Bool.{cases_lt}
use Rattle.std.proofs.lemmas.Nat.{mul-le}
use Rattle.std.specs.Int.{abs_diff, int_min, int_max}
use lib.IntN.{ℤ, pos, negsuc, ◌+ℤ◌, ◌-ℤ◌, ◌*ℤ◌, neg_ℤ}
use lib.Signed.{◌<ℤ◌, ◌≤ℤ◌, lt_z, le_z}
use Rattle.std.proofs.Common.{List, [], ◌∷◌}
use Rattle.geo_exact.specs.declared.corner.Corner.{Corner}
use Rattle.geo_exact.specs.Rings.{Edge}
use Rattle.geo_exact.proofs.numbers.Extremes.{min_of, max_of}
use Rattle.geo_exact.proofs.numbers.Signs.{mul_not_neg, mul_falling, mul_neg, mul_neg_pos}
use Rattle.common_areas.specs.Fractions.{Fraction, whole, times}
use Rattle.common_areas.specs.Between.{size, way, rise, lowest, highest, gap, area_of_gaps, area_between, between}
use Rattle.common_areas.specs.Common.{sum_shares}
use Rattle.common_areas.proofs.Numbers.{size_not_neg, size_not_pos, size_times}
use Rattle.area_bounds.specs.Parts.{IsShare, IsCounted}
use Rattle.area_bounds.proofs.Counts.{counted_from, counted_nothing, counted_zero, counted_plus, counted_once, counted_off}
use Rattle.area_bounds.proofs.EdgeLines.{turned, sign, way_of}

-- ---- sizes of differences
pub size_of_difference : (a b : ℕ) → size (pos a -ℤ pos b) ≡ pos (abs_diff a b)
size_of_difference a b = elim (cases_lt a b) [
  | inl q ↦ size_not_pos (pos a -ℤ pos b) (omega (arith, ints)) ∙ below a b q
  | inr q ↦ size_not_neg (pos a -ℤ pos b) (omega (arith, ints)) ∙ above a b q
]
  where
    below : (a b : ℕ) → a < b → neg_ℤ (pos a -ℤ pos b) ≡ pos (abs_diff a b)
    below a b q = let e : abs_diff a b ≡ b - a = omega arith in rw e (omega (arith, ints))

    above : (a b : ℕ) → b ≤ a → pos a -ℤ pos b ≡ pos (abs_diff a b)
    above a b q = let e : abs_diff a b ≡ a - b = omega arith in rw e (omega (arith, ints))

pub size_is : (a b : ℕ) (u : ℤ) → pos a -ℤ pos b ≡ u → size u ≡ pos (abs_diff a b)
size_is a b u e = ap size (sym e) ∙ size_of_difference a b

square_of : (z : ℤ) → z *ℤ z ≡ size z *ℤ size z
square_of (pos n) = refl
square_of (negsuc n) = refl

pub square_is : (u : ℤ) (n : ℕ) → size u ≡ pos n → u *ℤ u ≡ pos (n * n)
square_is u n e = square_of u ∙ ap (λ z. z *ℤ z) e

-- ---- lines that cross between two levels, and lines that do not
apart : (a b : ℕ) (u : ℤ) → pos a -ℤ pos b ≡ u → a < b → u <ℤ pos 0
apart a b u e h = omega (arith, ints)

beyond : (a b : ℕ) (u : ℤ) → pos a -ℤ pos b ≡ u → b < a → pos 0 <ℤ u
beyond a b u e h = omega (arith, ints)

not_beyond : (a b : ℕ) (u : ℤ) → pos a -ℤ pos b ≡ u → a ≤ b → u ≤ℤ pos 0
not_beyond a b u e h = omega (arith, ints)

not_apart : (a b : ℕ) (u : ℤ) → pos a -ℤ pos b ≡ u → b ≤ a → pos 0 ≤ℤ u
not_apart a b u e h = omega (arith, ints)

pub uncrossed_sign : (a b c d : ℕ) (u v : ℤ) → pos a -ℤ pos b ≡ u → pos c -ℤ pos d ≡ v
    → (((a < b) × (d < c)) ⊎ ((b < a) × (c < d)) → ⊥) → pos 0 ≤ℤ (u *ℤ v)
uncrossed_sign a b c d u v e f never = elim (cases_lt a b) [
  | inl p ↦ elim (cases_lt d c) [
    | inl q ↦ absurd (never (inl (p, q)))
    | inr q ↦ mul_falling u v (not_beyond a b u e (omega arith)) (not_beyond c d v f q)
  ]
  | inr p ↦ elim (cases_lt c d) [
    | inl q ↦ elim (cases_lt b a) [
      | inl r ↦ absurd (never (inr (r, q)))
      | inr r ↦ mul_falling u v (not_beyond a b u e r) (not_beyond c d v f (omega arith))
    ]
    | inr q ↦ mul_not_neg u v (not_apart a b u e p) (not_apart c d v f q)
  ]
]

pub crossed_sign : (a b c d : ℕ) (u v : ℤ) → pos a -ℤ pos b ≡ u → pos c -ℤ pos d ≡ v
    → ((a < b) × (d < c)) ⊎ ((b < a) × (c < d)) → (u *ℤ v) <ℤ pos 0
crossed_sign a b c d u v e f h = elim h [
  | inl p ↦ mul_neg_pos u v (apart a b u e p.0) (beyond c d v f p.1)
  | inr p ↦ mul_neg u v (beyond a b u e p.0) (apart c d v f p.1)
]

-- the sides of both triangles together
pub crossed_sides : (a b c d : ℕ) (u v : ℤ) → pos a -ℤ pos b ≡ u → pos c -ℤ pos d ≡ v
    → ((a < b) × (d < c)) ⊎ ((b < a) × (c < d)) → pos (abs_diff a b + abs_diff c d) ≡ size (v -ℤ u)
crossed_sides a b c d u v e f h = elim h [
  | inl p ↦
      let x : abs_diff a b ≡ b - a = omega (arith, p.0) in
      let y : abs_diff c d ≡ c - d = omega (arith, p.1) in
      sym (size_not_neg (v -ℤ u) (omega (arith, ints, p.0, p.1)) ∙ up a b c d u v (abs_diff a b) (abs_diff c d) e f p.0 p.1 x y)
  | inr p ↦
      let x : abs_diff a b ≡ a - b = omega (arith, p.0) in
      let y : abs_diff c d ≡ d - c = omega (arith, p.1) in
      sym (size_not_pos (v -ℤ u) (omega (arith, ints, p.0, p.1)) ∙ down a b c d u v (abs_diff a b) (abs_diff c d) e f p.0 p.1 x y)
]
  where
    up : (a b c d : ℕ) (u v : ℤ) (x y : ℕ) → pos a -ℤ pos b ≡ u → pos c -ℤ pos d ≡ v → a < b → d < c → x ≡ b - a → y ≡ c - d
        → v -ℤ u ≡ pos (x + y)
    up a b c d u v x y e f p q h k = omega (arith, ints)

    down : (a b c d : ℕ) (u v : ℤ) (x y : ℕ) → pos a -ℤ pos b ≡ u → pos c -ℤ pos d ≡ v → b < a → c < d → x ≡ a - b → y ≡ d - c
        → neg_ℤ (v -ℤ u) ≡ pos (x + y)
    down a b c d u v x y e f p q h k = omega (arith, ints)

-- with the height between the levels, and how fast the lines part
pub sides_by_parting : (height : ℕ) (w z s : ℤ) (parting sides : ℕ) → w ≡ z *ℤ s → z ≡ pos height → size s ≡ pos parting
    → pos sides ≡ size w → sides ≡ parting * height
sides_by_parting height w z s parting sides e f g h =
    let a : pos sides ≡ pos (height * parting) =
    h ∙ ap size e ∙ ap (λ x. size (x *ℤ s)) f ∙ size_times (pos height) s (omega (arith, ints)) ∙ ap (λ x. pos height *ℤ x) g in
    naturals sides height parting a
  where
    naturals : (x y z : ℕ) → pos x ≡ pos (y * z) → x ≡ z * y
    naturals x y z e = omega (arith, ints, e)

abbrev pub gaps : Bool → (height c u v : ℤ) → Fraction
gaps b height c u v =
    if b
    then record { n = height *ℤ (size u +ℤ size v); d = pos 2 *ℤ c }
    else record { n = height *ℤ (u *ℤ u +ℤ v *ℤ v); d = pos 2 *ℤ c *ℤ (size u +ℤ size v) }

pub test_yes : (z : ℤ) → pos 0 ≤ℤ z → true ≡ le_z (pos 0) z
test_yes z h = omega (arith, ints)

pub test_no : (z : ℤ) → z <ℤ pos 0 → false ≡ le_z (pos 0) z
test_no z h = omega (arith, ints)

-- a trapezoid
pub trapezoid_counted : (a b c d H C q lost : ℕ) (u v : ℤ) → pos a -ℤ pos b ≡ u → pos c -ℤ pos d ≡ v
    → (((a < b) × (d < c)) ⊎ ((b < a) × (c < d)) → ⊥) → 0 < C
    → IsShare q lost (H * (abs_diff a b + abs_diff c d)) (2 * C)
    → IsCounted (pos q) lost (area_of_gaps (pos H) (pos C) u v)
trapezoid_counted a b c d H C q lost u v e f never p h =
    let n : pos H *ℤ (size u +ℤ size v) ≡ pos (H * (abs_diff a b + abs_diff c d)) =
    ap (λ x. pos H *ℤ (x +ℤ size v)) (size_is a b u e) ∙ ap (λ x. pos H *ℤ (pos (abs_diff a b) +ℤ x)) (size_is c d v f) in
    let P : Bool → Type 0 = λ t. IsCounted (pos q) lost (gaps t (pos H) (pos C) u v) in
    subst P (test_yes (u *ℤ v) (uncrossed_sign a b c d u v e f never))
    (counted_from q lost (H * (abs_diff a b + abs_diff c d)) (2 * C) (pos H *ℤ (size u +ℤ size v)) (pos 2 *ℤ pos C) n refl (omega arith) h)

-- two triangles
pub triangles_counted : (a b c d H C q lost : ℕ) (u v : ℤ) → pos a -ℤ pos b ≡ u → pos c -ℤ pos d ≡ v
    → ((a < b) × (d < c)) ⊎ ((b < a) × (c < d)) → 0 < 2 * C * (abs_diff a b + abs_diff c d)
    → IsShare q lost (H * (abs_diff a b * abs_diff a b + abs_diff c d * abs_diff c d)) (2 * C * (abs_diff a b + abs_diff c d))
    → IsCounted (pos q) lost (area_of_gaps (pos H) (pos C) u v)
triangles_counted a b c d H C q lost u v e f crossed p h =
    let x : size u ≡ pos (abs_diff a b) = size_is a b u e in
    let y : size v ≡ pos (abs_diff c d) = size_is c d v f in
    let n : pos H *ℤ (u *ℤ u +ℤ v *ℤ v) ≡ pos (H * (abs_diff a b * abs_diff a b + abs_diff c d * abs_diff c d)) =
    ap (λ z. pos H *ℤ (z +ℤ v *ℤ v)) (square_is u (abs_diff a b) x)
    ∙ ap (λ z. pos H *ℤ (pos (abs_diff a b * abs_diff a b) +ℤ z)) (square_is v (abs_diff c d) y) in
    let m : pos 2 *ℤ pos C *ℤ (size u +ℤ size v) ≡ pos (2 * C * (abs_diff a b + abs_diff c d)) =
    ap (λ z. pos 2 *ℤ pos C *ℤ (z +ℤ size v)) x ∙ ap (λ z. pos 2 *ℤ pos C *ℤ (pos (abs_diff a b) +ℤ z)) y in
    let P : Bool → Type 0 = λ t. IsCounted (pos q) lost (gaps t (pos H) (pos C) u v) in
    subst P (test_no (u *ℤ v) (crossed_sign a b c d u v e f crossed))
    (counted_from q lost (H * (abs_diff a b * abs_diff a b + abs_diff c d * abs_diff c d)) (2 * C * (abs_diff a b + abs_diff c d))
    (pos H *ℤ (u *ℤ u +ℤ v *ℤ v)) (pos 2 *ℤ pos C *ℤ (size u +ℤ size v)) n m p h)

-- ---- two edges
abbrev pub between_levels : Bool → Edge → Edge → Fraction
between_levels b e f =
    if b
    then area_of_gaps (highest e f -ℤ lowest e f) (rise e *ℤ rise f) (gap e f (lowest e f)) (gap e f (highest e f))
    else whole (pos 0)

pub lt_yes : (y z : ℤ) → y <ℤ z → true ≡ lt_z y z
lt_yes y z h = omega (arith, ints)

lt_no : (y z : ℤ) → z ≤ℤ y → false ≡ lt_z y z
lt_no y z h = omega (arith, ints)

pub area_counted : (e f : Edge) (q H C : ℕ) (lost : ℕ) (low high : ℤ) → low ≡ lowest e f → high ≡ highest e f
    → low <ℤ high → pos H ≡ high -ℤ low → pos C ≡ rise e *ℤ rise f
    → IsCounted (pos q) lost (area_of_gaps (pos H) (pos C) (gap e f low) (gap e f high))
    → IsCounted (pos q) lost (area_between e f)
area_counted e f q H C lost low high l m h hh hc counted =
    let P : Bool → Type 0 = λ t. IsCounted (pos q) lost (between_levels t e f) in
    let Q : ℤ → Type 0 = λ y. IsCounted (pos q) lost (area_of_gaps (high -ℤ y) (rise e *ℤ rise f) (gap e f y) (gap e f high)) in
    let R : ℤ → Type 0 =
    λ y. IsCounted (pos q) lost (area_of_gaps (y -ℤ lowest e f) (rise e *ℤ rise f) (gap e f (lowest e f)) (gap e f y)) in
    let S : ℤ → Type 0 = λ y. IsCounted (pos q) lost (area_of_gaps y (pos C) (gap e f low) (gap e f high)) in
    let T : ℤ → Type 0 = λ y. IsCounted (pos q) lost (area_of_gaps (high -ℤ low) y (gap e f low) (gap e f high)) in
    subst P (lt_yes (lowest e f) (highest e f) (ordered low high (lowest e f) (highest e f) l m h))
    (subst R m (subst Q l (subst T hc (subst S hh counted))))
  where
    ordered : (a b c d : ℤ) → a ≡ c → b ≡ d → a <ℤ b → c <ℤ d
    ordered a b c d e f h = omega (arith, ints)

pub no_levels : (e f : Edge) → highest e f ≤ℤ lowest e f → IsCounted (pos 0) 0 (area_between e f)
no_levels e f h =
    let P : Bool → Type 0 = λ t. IsCounted (pos 0) 0 (between_levels t e f) in
    subst P (lt_no (lowest e f) (highest e f) h) counted_zero

level_ends : (e f : Edge) → e.from.y ≡ e.to.y → highest e f ≤ℤ lowest e f
level_ends e f h =
    let a : lowest e f ≡ int_max (int_min e.from.y e.to.y) (int_min f.from.y f.to.y) = refl in
    let b : highest e f ≡ int_min (int_max e.from.y e.to.y) (int_max f.from.y f.to.y) = refl in
    ends e.from.y e.to.y (lowest e f) (highest e f) h (max_of a).0 (min_of b).0
  where
    ends : (y z l m : ℤ) → y ≡ z → int_min y z ≤ℤ l → m ≤ℤ int_max y z → m ≤ℤ l
    ends y z l m e p q = let i = int_min_is y z in let j = int_max_is y z in omega (arith, ints)

level_ends_second : (e f : Edge) → f.from.y ≡ f.to.y → highest e f ≤ℤ lowest e f
level_ends_second e f h =
    let a : lowest e f ≡ int_max (int_min e.from.y e.to.y) (int_min f.from.y f.to.y) = refl in
    let b : highest e f ≡ int_min (int_max e.from.y e.to.y) (int_max f.from.y f.to.y) = refl in
    ends f.from.y f.to.y (lowest e f) (highest e f) h (max_of a).1 (min_of b).1
  where
    ends : (y z l m : ℤ) → y ≡ z → int_min y z ≤ℤ l → m ≤ℤ int_max y z → m ≤ℤ l
    ends y z l m e p q = let i = int_min_is y z in let j = int_max_is y z in omega (arith, ints)

pub nothing_between : (e f : Edge) → highest e f ≤ℤ lowest e f → IsCounted (pos 0) 0 (between e f)
nothing_between e f h =
    let P : Bool → Type 0 = λ t. IsCounted (pos 0) 0 (times (neg_ℤ (way e *ℤ way f)) (between_levels t e f)) in
    subst P (lt_no (lowest e f) (highest e f) h) (counted_nothing (neg_ℤ (way e *ℤ way f)))

-- a level edge has no area with any
pub level_counted : (e f : Edge) → f.from.y ≡ f.to.y → IsCounted (pos 0) 0 (between e f)
level_counted e f h = nothing_between e f (level_ends_second e f h)

pub level_sum : (e : Edge) → e.from.y ≡ e.to.y → (fs : List Edge) → IsCounted (pos 0) 0 (sum_shares (between e) fs)
level_sum e h [] = counted_zero
level_sum e h (f ∷ fs) =
    counted_plus (pos 0) (pos 0) 0 0 (between e f) (sum_shares (between e) fs) (nothing_between e f (level_ends e f h)) (level_sum e h fs)

-- ---- counted, or taken off
pub alike_counted : (a b : Bool) (p q r s : Corner) (t : ℤ) (l : ℕ) → p.y <ℤ q.y → r.y <ℤ s.y → a ≡ b
    → IsCounted t l (area_between (turned a p q) (turned b r s))
    → IsCounted (neg_ℤ t -ℤ pos l) l (between (turned a p q) (turned b r s))
alike_counted a b p q r s t l h k e c =
    let P : ℤ → Type 0 = λ z. IsCounted (neg_ℤ t -ℤ pos l) l (times (neg_ℤ z) (area_between (turned a p q) (turned b r s))) in
    subst P (sym (ap (λ w. w *ℤ way (turned b r s)) (way_of a p q h) ∙ ap (λ w. sign a *ℤ w) (way_of b r s k)
    ∙ ap (λ x. sign a *ℤ sign x) (sym e) ∙ same a))
    (counted_off t l (area_between (turned a p q) (turned b r s)) c)
  where
    same : (b : Bool) → sign b *ℤ sign b ≡ pos 1
    same true = refl
    same false = refl

pub unlike_counted : (a b : Bool) (p q r s : Corner) (t : ℤ) (l : ℕ) → p.y <ℤ q.y → r.y <ℤ s.y → a ≢ b
    → IsCounted t l (area_between (turned a p q) (turned b r s))
    → IsCounted t l (between (turned a p q) (turned b r s))
unlike_counted a b p q r s t l h k ne c =
    let P : ℤ → Type 0 = λ z. IsCounted t l (times (neg_ℤ z) (area_between (turned a p q) (turned b r s))) in
    subst P (sym (ap (λ w. w *ℤ way (turned b r s)) (way_of a p q h) ∙ ap (λ w. sign a *ℤ w) (way_of b r s k) ∙ other a b ne))
    (counted_once t l (area_between (turned a p q) (turned b r s)) c)
  where
    other : (a b : Bool) → a ≢ b → sign a *ℤ sign b ≡ negsuc 0
    other true true ne = absurd (ne refl)
    other true false ne = refl
    other false true ne = refl
    other false false ne = absurd (ne refl)

-- ---- what the parts of two triangles need
pub sides_some : (a b c d : ℕ) → ((a < b) × (d < c)) ⊎ ((b < a) × (c < d)) → 0 < abs_diff a b + abs_diff c d
sides_some a b c d h = elim h [
  | inl p ↦ let x : abs_diff a b ≡ b - a = omega (arith, p.0) in omega (arith, p.0, x)
  | inr p ↦ let x : abs_diff a b ≡ a - b = omega (arith, p.0) in omega (arith, p.0, x)
]

pub factor_some : (s p h : ℕ) → s ≡ p * h → 0 < s → 0 < p
factor_some s zero h e k = absurd (omega (arith, e, k))
factor_some s (suc n) h e k = omega arith

pub divisor_some : (c s : ℕ) → 0 < c → 0 < s → 0 < 2 * c * s
divisor_some c s h k = omega (arith, mul-le 1 1 c s (omega arith) (omega arith))

pub sides_bound : (l r a b c d : ℕ) → a ≤ 2 * l * r → b ≤ 2 * l * r → c ≤ 2 * l * r → d ≤ 2 * l * r
    → abs_diff a b + abs_diff c d ≤ 4 * l * r
sides_bound l r a b c d h i j k =
    omega (arith, both (l * r) a b c d (omega (arith, h)) (omega (arith, i)) (omega (arith, j)) (omega (arith, k)))
  where
    both : (m a b c d : ℕ) → a ≤ 2 * m → b ≤ 2 * m → c ≤ 2 * m → d ≤ 2 * m → abs_diff a b + abs_diff c d ≤ 4 * m
    both m a b c d h i j k = omega arith
