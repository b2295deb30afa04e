-- What `coordinate` answers is what the relations of the grid say, both ways.
use Rattle.std.proofs.Common.{◌/◌, ◌≡◌, ◌↔◌, ℕ, ◌+◌, ◌*◌, ◌-◌, ◌^◌, ◌<◌, ◌≤◌, Bool, true, false}
use Rattle.std.proofs.Common.{nat_lt, nat_eq, cond, refl, sym, ◌∙◌, ap, subst, arith, Err, Ok, Result, IfOk, IfErr, lit<}
use Rattle.std.proofs.lemmas.Bool.{ltb-true, ltb-false, ne_eqb, eqb-false, eqb-true}
use Rattle.std.proofs.lemmas.Int.{ints}
use Rattle.std.proofs.lemmas.Nat.{pow_pos, pow-add, mod_below}
use lib.IntN.{ℤ, pos, ◌*ℤ◌, neg_ℤ}
use Rattle.std.proofs.Math.IntN.{neg_ℤ-neg_ℤ}
use Rattle.geo_exact.specs.declared.coord.Unit.{Unit}
use Rattle.geo_exact.specs.declared.coord.Unit.TheVariants.{Mm, Cm, M}
use Rattle.geo_exact.specs.declared.coord.CoordFault.{CoordFault}
use Rattle.geo_exact.specs.declared.coord.CoordFault.TheVariants.{NotNumber, OffGrid, TooFar}
use Rattle.geo_exact.specs.Grid.{millimetres, sign_bit, exponent_field, fraction_field, magnitude, IsOnGrid, IsCoordFault}
use Rattle.geo_exact.specs.Grid.{nearest, is_near, size_of, with_sign, coordinate}
use Rattle.geo_exact.specs.Limit.{IsWithin, limit}
use Rattle.geo_exact.proofs.numbers.Differences.{mul-neg}
use Rattle.geo_exact.proofs.numbers.Nearest.{size_scaled, size_whole, IsNear, near_from, near_to, near_turned}

-- ---- a size under a sign
abbrev signed : Bool → ℕ → ℤ
signed b n = cond b (pos n) (neg_ℤ (pos n))

-- what the test says is near, under either sign
signed_near : (b : Bool) (m d j : ℕ) → is_near m d j ≡ true → IsNear (signed b m) d (signed b j)
signed_near true m d j h = near_to m d j h
signed_near false m d j h = near_turned (pos m) d (pos j) (near_to m d j h)

-- what is near is the nearest, under either sign
near_signed : (b : Bool) (m d : ℕ) (k : ℤ) → 0 < d → IsNear (signed b m) d k → (k ≡ signed b (nearest m d))
    × (is_near m d (nearest m d) ≡ true)
near_signed true m d k h near = near_from m d k h near
near_signed false m d k h near =
    let P : ℤ → Type 0 = λ s. IsNear s d (neg_ℤ k) in
    let found = near_from m d (neg_ℤ k) h (subst P (neg_ℤ-neg_ℤ (pos m)) (near_turned (neg_ℤ (pos m)) d k near)) in
    (sym (neg_ℤ-neg_ℤ k) ∙ ap neg_ℤ found.0, found.1)

-- a size within the limit, under either sign
signed_within : (b : Bool) (n : ℕ) → n ≤ limit → IsWithin limit (signed b n)
signed_within true n h = record { low = omega (arith, ints); high = omega (arith, ints) }
signed_within false n h = record { low = omega (arith, ints); high = omega (arith, ints) }

-- and back
within_signed : (b : Bool) (n : ℕ) → IsWithin limit (signed b n) → n ≤ limit
within_signed true n h = omega (arith, ints, h.low, h.high)
within_signed false n h = omega (arith, ints, h.low, h.high)

-- a product under either sign
times_signed : (b : Bool) (s n : ℕ) → pos s *ℤ signed b n ≡ signed b (s * n)
times_signed true s n = refl
times_signed false s n = mul-neg (pos s) (pos n)

-- ---- the answer for a size m / d under a sign
data Answered (b : Bool) (m d : ℕ) (r : Result ℤ CoordFault) : Type 0 where
  off : is_near m d (nearest m d) ≡ false → r ≡ Err OffGrid → Answered b m d r
  far : is_near m d (nearest m d) ≡ true → limit < nearest m d → r ≡ Err TooFar → Answered b m d r
  read : is_near m d (nearest m d) ≡ true → nearest m d ≤ limit → r ≡ Ok (signed b (nearest m d)) → Answered b m d r

answered : (sign m d : ℕ) → Answered (nat_eq sign 0) m d (with_sign sign (size_of m d))
unfolding size_of
answered sign m d = go (is_near m d (nearest m d)) (nat_lt limit (nearest m d)) refl refl
  where
    go : (near beyond : Bool) → is_near m d (nearest m d) ≡ near → nat_lt limit (nearest m d) ≡ beyond
        → Answered (nat_eq sign 0) m d (with_sign sign (size_of m d))
    go false beyond h k = off h (rw h refl)
    go true true h k = far h (ltb-true limit (nearest m d) k) (rw (h, k) refl)
    go true false h k = read h (ltb-false limit (nearest m d) k) (rw (h, k) refl)

-- ---- the answer for a double
-- no sign bit
abbrev plus : ℕ → Bool
plus bits = nat_eq (sign_bit bits) 0

-- the absolute value in millimetres, times 2 ^ 1075
abbrev size : ℕ → Unit → ℕ
size bits unit = millimetres unit * magnitude bits

-- how a double is answered
data Outcome (bits : ℕ) (unit : Unit) : Type 0 where
  no_number : exponent_field bits ≡ 2047 → coordinate bits unit ≡ Err NotNumber → Outcome bits unit
  number : exponent_field bits < 2047 → Answered (plus bits) (size bits unit) (2 ^ 1075) (coordinate bits unit) → Outcome bits unit

-- one of the four answers
outcome : (bits : ℕ) (unit : Unit) → Outcome bits unit
unfolding coordinate
outcome bits unit = go (nat_eq (exponent_field bits) 2047) refl
  where
    go : (special : Bool) → nat_eq (exponent_field bits) 2047 ≡ special → Outcome bits unit
    go true h = no_number (eqb-true (exponent_field bits) 2047 h) (rw h refl)
    go false h =
        let below : exponent_field bits < 2048 = mod_below (bits / 2 ^ 52) 2048 (lit< tt) in
        let other = eqb-false (exponent_field bits) 2047 h in
        number (omega arith)
        (let P : Result ℤ CoordFault → Type 0 = Answered (plus bits) (size bits unit) (2 ^ 1075) in
        subst P (rw h refl) (answered (sign_bit bits) (size bits unit) (2 ^ 1075)))

-- the grid in plain numbers
near_of : (bits : ℕ) (unit : Unit) (k : ℤ) → IsOnGrid bits unit k → IsNear (signed (plus bits) (size bits unit)) (2 ^ 1075) k
near_of bits unit k h =
    let P : ℤ → Type 0 = λ s. IsNear s (2 ^ 1075) k in
    subst P (times_signed (plus bits) (millimetres unit) (magnitude bits)) h.is_near

-- and back
grid_of : (bits : ℕ) (unit : Unit) (k : ℤ) → exponent_field bits < 2047
    → IsNear (signed (plus bits) (size bits unit)) (2 ^ 1075) k → IsOnGrid bits unit k
grid_of bits unit k h near =
    let P : ℤ → Type 0 = λ s. IsNear s (2 ^ 1075) k in
    record { is_number = h; is_near = subst P (sym (times_signed (plus bits) (millimetres unit) (magnitude bits))) near }

-- ---- both ways
pub accepted_is : (bits : ℕ) (unit : Unit) (k : ℤ) → coordinate bits unit ≡ Ok k → IsOnGrid bits unit k × IsWithin limit k
accepted_is bits unit k e = go (outcome bits unit)
  where
    go : Outcome bits unit → IsOnGrid bits unit k × IsWithin limit k
    go (no_number h f) = absurd cc
    go (number h (off near f)) = absurd cc
    go (number h (far near beyond f)) = absurd cc
    go (number h (read near below f)) =
        let same : k ≡ signed (plus bits) (nearest (size bits unit) (2 ^ 1075)) = cc in
        rw same (
          grid_of bits unit _ h (signed_near (plus bits) (size bits unit) (2 ^ 1075) (nearest (size bits unit) (2 ^ 1075)) near),
          signed_within (plus bits) _ below,
        )

pub accepted_when : (bits : ℕ) (unit : Unit) (k : ℤ) → IsOnGrid bits unit k → IsWithin limit k → coordinate bits unit ≡ Ok k
accepted_when bits unit k grid within = go (outcome bits unit)
  where
    found : (k ≡ signed (plus bits) (nearest (size bits unit) (2 ^ 1075)))
        × (is_near (size bits unit) (2 ^ 1075) (nearest (size bits unit) (2 ^ 1075)) ≡ true)
    found = near_signed (plus bits) (size bits unit) (2 ^ 1075) k (pow_pos 1075) (near_of bits unit k grid)

    go : Outcome bits unit → coordinate bits unit ≡ Ok k
    go (no_number h f) = absurd (omega (arith, h, grid.is_number))
    go (number h (off near f)) = absurd (cc (found.1, near))
    go (number h (far near beyond f)) =
        let below = within_signed (plus bits) (nearest (size bits unit) (2 ^ 1075)) (let P : ℤ → Type 0 =
        IsWithin limit in subst P found.0 within) in
        absurd (omega (arith, below, beyond))
    go (number h (read near below f)) = f ∙ ap Ok (sym found.0)

pub refused_is : (bits : ℕ) (unit : Unit) (f : CoordFault) → coordinate bits unit ≡ Err f → IsCoordFault bits unit f
refused_is bits unit f e = go (outcome bits unit)
  where
    go : Outcome bits unit → IsCoordFault bits unit f
    go (no_number h g) = let same : NotNumber ≡ f = cc in let P : CoordFault → Type 0 = IsCoordFault bits unit in subst P same h
    go (number h (off near g)) =
        let same : OffGrid ≡ f = cc in
        let P : CoordFault → Type 0 = IsCoordFault bits unit in
        subst P same (
          h,
          λ k. λ grid. let found = near_signed (plus bits) (size bits unit) (2 ^ 1075) k (pow_pos 1075) (near_of bits unit k grid) in
              cc (found.1, near),
        )
    go (number h (far near beyond g)) =
        let same : TooFar ≡ f = cc in
        let P : CoordFault → Type 0 = IsCoordFault bits unit in
        let k : ℤ = signed (plus bits) (nearest (size bits unit) (2 ^ 1075)) in
        subst P same (
          k,
          grid_of bits unit k h (signed_near (plus bits) (size bits unit) (2 ^ 1075) (nearest (size bits unit) (2 ^ 1075)) near),
          λ within. let below = within_signed (plus bits) (nearest (size bits unit) (2 ^ 1075)) within in omega (arith, below, beyond),
        )
    go (number h (read near below g)) = absurd cc

pub refused_when : (bits : ℕ) (unit : Unit) (f : CoordFault) → IsCoordFault bits unit f → coordinate bits unit ≡ Err f
refused_when bits unit NotNumber h = go (outcome bits unit)
  where
    go : Outcome bits unit → coordinate bits unit ≡ Err NotNumber
    go (no_number g e) = e
    go (number g a) = absurd (omega (arith, g, h))
refused_when bits unit OffGrid h = go (outcome bits unit)
  where
    none : is_near (size bits unit) (2 ^ 1075) (nearest (size bits unit) (2 ^ 1075)) ≡ true → ⊥
    none near =
        let k : ℤ = signed (plus bits) (nearest (size bits unit) (2 ^ 1075)) in
        h.1 k (grid_of bits unit k h.0 (signed_near (plus bits) (size bits unit) (2 ^ 1075) (nearest (size bits unit) (2 ^ 1075)) near))

    go : Outcome bits unit → coordinate bits unit ≡ Err OffGrid
    go (no_number g e) = absurd (omega (arith, g, h.0))
    go (number g (off near e)) = e
    go (number g (far near beyond e)) = absurd (none near)
    go (number g (read near below e)) = absurd (none near)
refused_when bits unit TooFar h = go (outcome bits unit)
  where
    found : (h.0 ≡ signed (plus bits) (nearest (size bits unit) (2 ^ 1075)))
        × (is_near (size bits unit) (2 ^ 1075) (nearest (size bits unit) (2 ^ 1075)) ≡ true)
    found = near_signed (plus bits) (size bits unit) (2 ^ 1075) h.0 (pow_pos 1075) (near_of bits unit h.0 h.1)

    go : Outcome bits unit → coordinate bits unit ≡ Err TooFar
    go (no_number g e) = absurd (omega (arith, g, h.1.is_number))
    go (number g (off near e)) = absurd (cc (found.1, near))
    go (number g (far near beyond e)) = e
    go (number g (read near below e)) =
        absurd (h.2 (let P : ℤ → Type 0 = IsWithin limit in subst P (sym found.0) (signed_within (plus bits) _ below)))

-- ---- what the answer comes to with the powers cancelled
coordinate_is : (bits : ℕ) (unit : Unit) → exponent_field bits < 2047 → coordinate bits unit
    ≡ with_sign (sign_bit bits) (size_of (size bits unit) (2 ^ 1075))
unfolding coordinate
coordinate_is bits unit h =
    let e : nat_eq (exponent_field bits) 2047 ≡ false = ne_eqb (exponent_field bits) 2047 (λ same. omega (arith, same, h)) in
    rw e refl

cancelled : (m n d e t : ℕ) → m ≡ n * 2 ^ e → d + e ≡ t → size_of m (2 ^ t) ≡ size_of n (2 ^ d)
cancelled m n d e t h k = rw (h, sym k, pow-add 2 d e) (size_scaled n (2 ^ d) (2 ^ e) (pow_pos e))

-- the answer by a smaller fraction
pub coordinate_cancelled : (bits : ℕ) (unit : Unit) (n d e : ℕ) → exponent_field bits < 2047
    → size bits unit ≡ n * 2 ^ e → d + e ≡ 1075
    → coordinate bits unit ≡ with_sign (sign_bit bits) (size_of n (2 ^ d))
coordinate_cancelled bits unit n d e h k l = coordinate_is bits unit h
    ∙ ap (with_sign (sign_bit bits)) (cancelled (size bits unit) n d e 1075 k l)

-- 2 ^ 52 and more is beyond the limit
far_size : (n e t : ℕ) → 2 ^ 52 ≤ n → t ≤ e → size_of (n * 2 ^ e) (2 ^ t) ≡ Err TooFar
far_size n e t h k =
    let split : n * 2 ^ e ≡ n * 2 ^ (e - t) * 2 ^ t =
    ap (λ x. n * 2 ^ x) (let same : e ≡ e - t + t = omega arith in same) ∙ ap (λ x. n * x) (pow-add 2 (e - t) t) ∙ omega arith in
    let more : n * 1 ≤ n * 2 ^ (e - t) = times_more n (2 ^ (e - t)) (pow_pos (e - t)) in
    cancelled (n * 2 ^ e) (n * 2 ^ (e - t)) 0 t t split (omega arith) ∙ size_whole (n * 2 ^ (e - t)) (omega (arith, more, h))
  where
    times_more : (a b : ℕ) → 0 < b → a * 1 ≤ a * b
    times_more a b p = grind arith

pub coordinate_far : (bits : ℕ) (unit : Unit) → 1075 ≤ exponent_field bits → exponent_field bits < 2047
    → coordinate bits unit ≡ Err TooFar
coordinate_far bits unit h k =
    let large : nat_eq (exponent_field bits) 0 ≡ false = ne_eqb (exponent_field bits) 0 (λ same. omega (arith, same, h)) in
    let worth : magnitude bits ≡ (2 ^ 52 + fraction_field bits) * 2 ^ exponent_field bits = rw large refl in
    let parts : size bits unit ≡ millimetres unit * (2 ^ 52 + fraction_field bits) * 2 ^ exponent_field bits =
    ap (λ m. millimetres unit * m) worth ∙ omega arith in
    coordinate_is bits unit k ∙ ap (with_sign (sign_bit bits))
    (ap (λ m. size_of m (2 ^ 1075)) parts
    ∙ far_size (millimetres unit * (2 ^ 52 + fraction_field bits)) (exponent_field bits) 1075 (enough unit (fraction_field bits)) h)
  where
    enough : (u : Unit) (f : ℕ) → 2 ^ 52 ≤ millimetres u * (2 ^ 52 + f)
    enough Mm f = omega arith
    enough Cm f = omega arith
    enough M f = omega arith

-- ---- what an answer that is `coordinate` satisfies
pub within_of : (bits : ℕ) (unit : Unit) (r : Result ℤ CoordFault) → r ≡ coordinate bits unit → IfOk r (λ k. IsWithin limit k)
within_of bits unit (Ok k) e = (accepted_is bits unit k (sym e)).1
within_of bits unit (Err f) e = tt

pub on_grid_of : (bits : ℕ) (unit : Unit) (r : Result ℤ CoordFault) → r ≡ coordinate bits unit
    → IfOk r (λ k. IsOnGrid bits unit k)
on_grid_of bits unit (Ok k) e = (accepted_is bits unit k (sym e)).0
on_grid_of bits unit (Err f) e = tt

pub refused_of : (bits : ℕ) (unit : Unit) (r : Result ℤ CoordFault) → r ≡ coordinate bits unit → IfErr r (IsCoordFault bits unit)
refused_of bits unit (Ok k) e = tt
refused_of bits unit (Err f) e = refused_is bits unit f (sym e)

pub accepted_iff : (bits : ℕ) (unit : Unit) (k : ℤ) → (coordinate bits unit ≡ Ok k) ↔ (IsOnGrid bits unit k × IsWithin limit k)
accepted_iff bits unit k = (accepted_is bits unit k, λ h. accepted_when bits unit k h.0 h.1)

pub refused_iff : (bits : ℕ) (unit : Unit) (f : CoordFault) → (coordinate bits unit ≡ Err f) ↔ IsCoordFault bits unit f
refused_iff bits unit f = (refused_is bits unit f, refused_when bits unit f)

-- two whole millimetres that fit are one
pub one_fits : (bits : ℕ) (unit : Unit) (k l : ℤ) → IsOnGrid bits unit k → IsOnGrid bits unit l → k ≡ l
one_fits bits unit k l h i =
    (near_signed (plus bits) (size bits unit) (2 ^ 1075) k (pow_pos 1075) (near_of bits unit k h)).0
    ∙ sym (near_signed (plus bits) (size bits unit) (2 ^ 1075) l (pow_pos 1075) (near_of bits unit l i)).0
