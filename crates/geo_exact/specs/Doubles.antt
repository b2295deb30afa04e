-- The double that is exactly a whole number (IEEE 754, binary64: its sign, exponent and fraction fields).
use Rattle.std.specs.Prelude.{ℕ, ◌+◌, ◌-◌, ◌*◌, ◌^◌, ◌==◌, ℤ, pos, int_lt, if◌then◌else◌}
use Rattle.std.specs.Int.{w64, leading_zeros}
use Rattle.std.specs.Int.RustNames.{unsigned_abs}

-- the place of the highest 1 of a number from 1 to 2 ^ 64 - 1; the lowest place is 0
abbrev pub highest_bit : ℕ → ℕ
highest_bit n = 63 - leading_zeros w64 n

-- A whole number n from 1 to 2 ^ 53 - 1 whose highest 1 stands at place t is 2 ^ t * (1 + fraction / 2 ^ 52). The
-- exponent t is stored with 1023 added.
abbrev pub whole_exponent : ℕ → ℕ
whole_exponent n = 1023 + highest_bit n

abbrev pub whole_fraction : ℕ → ℕ
whole_fraction n = n * 2 ^ (52 - highest_bit n) - 2 ^ 52

-- the double that is exactly n, from 0 to 2 ^ 53 - 1: its exponent before its 52
-- fraction bits, all of them 0 for the number 0
unfoldable pub whole_bits : ℕ → ℕ
whole_bits n = if n == 0 then 0 else whole_exponent n * 2 ^ 52 + whole_fraction n

-- the double that is exactly k, where k is less than 2 ^ 53 away from 0: the sign bit is 1 for a negative number, and 0
-- for the number 0
unfoldable pub bits_of : ℤ → ℕ
bits_of k = if int_lt k (pos 0) then 2 ^ 63 + whole_bits (unsigned_abs k) else whole_bits (unsigned_abs k)
