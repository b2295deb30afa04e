-- The millimetre grid of a double (Technical Description, July 1998, "Numeric Types"; IEEE 754, binary64: its fields
-- and its value).
use Rattle.std.specs.Prelude.{◌≡◌, ℕ, ◌+◌, ◌*◌, ◌/◌, ◌%◌, ◌^◌, ◌<◌, ℤ, pos, neg_ℤ, ◌-ℤ◌}
use Rattle.std.specs.Prelude.{◌*ℤ◌, ◌==◌, Bool, nat_lt, nat_le, if◌then◌else◌, Result, Ok, Err}
use Rattle.std.specs.Int.{abs_diff}
use Rattle.geo_exact.specs.declared.coord.Unit.{Unit}
use Rattle.geo_exact.specs.declared.coord.Unit.TheVariants.{Mm, Cm, M}
use Rattle.geo_exact.specs.declared.coord.CoordFault.{CoordFault}
use Rattle.geo_exact.specs.declared.coord.CoordFault.TheVariants.{NotNumber, OffGrid, TooFar}
use Rattle.geo_exact.specs.Limit.{IsWithin, limit}

-- how many millimetres the unit has
abbrev pub millimetres : Unit → ℕ
millimetres Mm = 1
millimetres Cm = 10
millimetres M = 1000

-- the 1 sign bit, the 11 exponent bits and the 52 fraction bits
abbrev pub sign_bit : ℕ → ℕ
sign_bit bits = bits / 2 ^ 63

abbrev pub exponent_field : ℕ → ℕ
exponent_field bits = bits / 2 ^ 52 % 2 ^ 11

abbrev pub fraction_field : ℕ → ℕ
fraction_field bits = bits % 2 ^ 52

-- The absolute value of the double, times 2 ^ 1075, which makes it a whole number: an exponent field e from 1 on
-- means (2 ^ 52 + fraction) * 2 ^ (e - 1075), and 0 means fraction * 2 ^ (1 - 1075).
abbrev pub magnitude : ℕ → ℕ
magnitude bits =
    if exponent_field bits == 0
    then fraction_field bits * 2
    else (2 ^ 52 + fraction_field bits) * 2 ^ exponent_field bits

-- the value of the double, times 2 ^ 1075
abbrev pub scaled_value : ℕ → ℤ
scaled_value bits = if sign_bit bits == 0 then pos (magnitude bits) else neg_ℤ (pos (magnitude bits))

-- The double is a number, and within 1/1024 of k millimetres: with v its value and s the unit's millimetres, |s v - k|
-- * 1024 <= 1. Both sides stand here times 2 ^ 1075.
pub record IsOnGrid (bits : ℕ) (unit : Unit) (k : ℤ) : Type 0 where
  pub is_number : exponent_field bits < 2047
  pub is_near : IsWithin (2 ^ 1075) ((pos (millimetres unit) *ℤ scaled_value bits -ℤ k *ℤ pos (2 ^ 1075)) *ℤ pos 1024)

-- why the double is no coordinate
abbrev pub IsCoordFault : ℕ → Unit → CoordFault → Type 0
IsCoordFault bits unit NotNumber = exponent_field bits ≡ 2047
IsCoordFault bits unit OffGrid = (exponent_field bits < 2047) × ((k : ℤ) → ¬ IsOnGrid bits unit k)
IsCoordFault bits unit TooFar = (k : ℤ) × IsOnGrid bits unit k × (¬ IsWithin limit k)

-- m / d, rounded to the nearest whole number
abbrev pub nearest : ℕ → ℕ → ℕ
nearest m d = (2 * m + d) / (2 * d)

-- m / d is within 1/1024 of k
abbrev pub is_near : ℕ → ℕ → ℕ → Bool
is_near m d k = nat_le (abs_diff m (k * d) * 1024) d

-- the whole number near m / d, or why there is no coordinate of that size
unfoldable pub size_of : ℕ → ℕ → Result ℕ CoordFault
size_of m d =
    if is_near m d (nearest m d)
    then (if nat_lt limit (nearest m d) then Err TooFar else Ok (nearest m d))
    else Err OffGrid

-- a size under a sign bit
abbrev pub under_sign : ℕ → ℕ → ℤ
under_sign sign k = if sign == 0 then pos k else neg_ℤ (pos k)

-- the same of an answer
abbrev pub with_sign : ℕ → Result ℕ CoordFault → Result ℤ CoordFault
with_sign sign (Ok k) = Ok (under_sign sign k)
with_sign sign (Err fault) = Err fault

-- the coordinate that a double is read as
unfoldable pub coordinate : ℕ → Unit → Result ℤ CoordFault
coordinate bits unit =
    if exponent_field bits == 2047
    then Err NotNumber
    else with_sign (sign_bit bits) (size_of (millimetres unit * magnitude bits) (2 ^ 1075))
