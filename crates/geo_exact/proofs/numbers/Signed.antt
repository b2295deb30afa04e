-- A coordinate as the code computes it: the size, and the sign.
use Rattle.std.proofs.Common.{◌≡◌, ℕ, ◌*◌, ◌-◌, ◌^◌, ◌<◌, ◌≤◌, max, Result, Ok, arith, sym, ◌∙◌, ap}
use Rattle.std.proofs.Common.{pos, ◌-ℤ◌, to_z, of_z}
use Rattle.std.specs.Int.{w64}
use Rattle.std.proofs.lemmas.Bool.{ne_eqb}
use Rattle.std.proofs.lemmas.Int.{ints}
use Rattle.std.proofs.lemmas.Nat.{pow_pos}
use Rattle.geo_exact.specs.Limit.{limit}
use Rattle.geo_exact.specs.declared.coord.Unit.{Unit}
use Rattle.geo_exact.specs.declared.coord.CoordFault.{CoordFault}
use Rattle.geo_exact.specs.Grid.{coordinate, size_of, with_sign, sign_bit, exponent_field, magnitude, millimetres}
use Rattle.geo_exact.proofs.doubles.Coordinates.{coordinate_cancelled}
use Rattle.geo_exact.proofs.numbers.Nearest.{size_scaled, size_same}

-- what the code computes, step by step
pub computed : (bits : ℕ) (unit : Unit) (e s m p : ℕ) (r : Result ℕ CoordFault) → e ≡ exponent_field bits → e < 1075
    → s ≡ millimetres unit → m * 2 ^ max 1 (exponent_field bits) ≡ magnitude bits → p ≡ max e 1
    → r ≡ size_of (s * m) (2 ^ (1075 - p)) → coordinate bits unit ≡ with_sign (sign_bit bits) r
computed bits unit e s m p r he small hs hm hp hr =
    let parts : millimetres unit * magnitude bits ≡ s * m * 2 ^ max 1 (exponent_field bits) =
    rw (← hm, ← hs) (grouped s m (2 ^ max 1 (exponent_field bits))) in
    coordinate_cancelled bits unit (s * m) (1075 - p) (max 1 (exponent_field bits)) (omega (arith, he, small)) parts
    (omega (arith, he, hp, small)) ∙ ap (with_sign (sign_bit bits)) (sym hr)
  where
    grouped : (a b n : ℕ) → a * (b * n) ≡ a * b * n
    grouped a b n = omega arith

-- the answer without the sign bit
pub positive : (sign k : ℕ) → sign ≡ 0 → k ≤ limit → with_sign sign (Ok k) ≡ Ok (to_z w64 k)
positive sign k h bound = rw h (ap Ok (omega (arith, ints)))

-- the answer with it
pub negative : (sign k : ℕ) → (sign ≡ 0 → ⊥) → k ≤ limit → with_sign sign (Ok k)
    ≡ Ok (to_z w64 (of_z w64 (pos 0 -ℤ to_z w64 k)))
negative sign k h bound = rw (ne_eqb sign 0 h) (ap Ok (omega (arith, ints)))

-- the size of a whole quotient within the limit
pub size_of_whole : (m k s : ℕ) → k * 2 ^ s ≡ m → k ≤ limit → Ok k ≡ size_of m (2 ^ s)
size_of_whole m k s e within =
    let one : 2 ^ s ≡ 1 * 2 ^ s = omega arith in
    sym (ap (λ n. size_of n (2 ^ s)) (sym e) ∙ ap (λ d. size_of (k * 2 ^ s) d) one
    ∙ size_scaled k 1 (2 ^ s) (pow_pos s) ∙ size_same k within)
