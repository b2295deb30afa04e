-- Numbers and corners as they are written, read back.
use Rattle.std.proofs.Common.{inl, inr, ℕ, suc, ◌<◌, ◌≤◌, ◌^◌, List, length, refl, sym, arith, decimal}
use Rattle.std.specs.Prelude.{ℤ, pos, negsuc}
use Rattle.std.specs.Fmt.{signed_decimal}
use Rattle.std.specs.Str.Parse.{digits_value}
use Rattle.std.proofs.lemmas.Fmt.{decimal_is_IsNumeral, length-decimal-le}
use Rattle.std.proofs.lemmas.Int.{ints}
use Rattle.std.proofs.lemmas.Int.Digits.{digits_value-lt}
use Rattle.std.proofs.lemmas.List.Elements.{All-cons}
use Rattle.std.proofs.Math.Nat.{pow-le-pow_right}
use Rattle.geo_exact.specs.Limit.{IsWithin, limit}
use Rattle.geo_exact.specs.declared.corner.Corner.{Corner}
use Rattle.line_files.specs.TextNumbers.{IsNumber, IsSigned, IsCoordinate, IsCornerText}
use Rattle.line_files.specs.declared.grids.Grid.TheVariants.{Millimetres}
use Rattle.line_files.proofs.Bytes.{AreFrom, digits_from}

-- ---- what is written is read
pub number_back : (n : ℕ) → n < 10 ^ 19 → IsNumber (decimal n) n
number_back n h =
    let small : n < 2 ^ 64 = omega (arith, h) in
    let k = decimal_is_IsNumeral n small in
    record { are_digits = k.0; are_few = length-decimal-le 19 n (omega arith) h small; is_theirs = sym k.1 }

near : (n : ℕ) → IsWithin limit (pos n) → n < 10 ^ 19
near n h = omega (arith, ints, h.high)

near_below : (n : ℕ) → IsWithin limit (negsuc n) → suc n < 10 ^ 19
near_below n h = omega (arith, ints, h.low)

signed_back : (z : ℤ) → IsWithin limit z → IsSigned (signed_decimal z) z
signed_back (pos n) h = inl (n, refl, number_back n (near n h))
signed_back (negsuc n) h = inr (decimal (suc n), suc n, refl, refl, number_back (suc n) (near_below n h))

coordinate_back : (z : ℤ) → IsWithin limit z → IsCoordinate Millimetres (signed_decimal z) z
coordinate_back z h = record { number = z; is_number = signed_back z h; is_theirs = omega (arith, ints) }

pub corner_back : (corner : Corner) → IsCornerText Millimetres (signed_decimal corner.x) (signed_decimal corner.y) corner
corner_back corner = record {
  is_x = coordinate_back corner.x corner.x_in_range;
  is_y = coordinate_back corner.y corner.y_in_range;
}

-- ---- none of its bytes is a space or less
pub number_from : (n : ℕ) → n < 10 ^ 19 → AreFrom 33 (decimal n)
number_from n h = digits_from (decimal n) (number_back n h).are_digits.1

pub signed_from : (z : ℤ) → IsWithin limit z → AreFrom 33 (signed_decimal z)
signed_from (pos n) h = number_from n (near n h)
signed_from (negsuc n) h = All-cons (λ b. 33 ≤ b) 45 (decimal (suc n)) (omega arith) (number_from (suc n) (near_below n h))

-- ---- a number that is read has so few digits
pub number_small : (text : List ℕ) (n : ℕ) → IsNumber text n → n < 10 ^ 19
number_small text n h =
    let power : 10 ^ length text ≤ 10 ^ 19 = pow-le-pow_right (omega arith) h.are_few in
    let below : digits_value 10 text < 10 ^ length text = digits_value-lt 10 text h.are_digits.1 in
    omega (arith, power, below, h.is_theirs)
