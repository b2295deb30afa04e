-- What may stand behind the last whole record of a journal (this product's own). A line ends with a line feed (10).
use Rattle.std.specs.Prelude.{◌≡◌, ◌≢◌, ◌⊎◌, ⊤, ℕ, ◌+◌, ◌*◌, ◌≤◌, ◌==◌, ◌||◌, ◌&&◌, not}
use Rattle.std.specs.Prelude.{IsTrue, Bool, true, if◌then◌else◌, List, [], ◌∷◌, ◌++◌, length, codes, decimal, nat_le}
use Rattle.std.specs.List.{All}
use mathlib.Core.List.{IsPrefix}

-- a byte of a line
abbrev pub IsInLine : ℕ → Type 0
IsInLine byte = (byte ≢ 10) × (byte ≢ 0)

-- two lines, each with its end
pub record IsTwoLines (text : List ℕ) : Type 0 where
  pub first : List ℕ
  pub second : List ℕ
  pub is_text : text ≡ first ++ 10 ∷ second ++ 10 ∷ []
  pub in_first : All IsInLine first
  pub in_second : All IsInLine second

-- a digit of a digest: `0` to `9`, or `a` to `f`
abbrev pub is_digit : ℕ → Bool
is_digit byte = (nat_le 48 byte && nat_le byte 57) || (nat_le 97 byte && nat_le byte 102)

-- a byte of an edit: `0` to `9`, `a` to `z`, a space, or a minus sign
abbrev pub is_of_edit : ℕ → Bool
is_of_edit byte =
    (nat_le 48 byte && nat_le byte 57) || (nat_le 97 byte && nat_le byte 122) || (byte == 32) || (byte == 45)

-- how the record of this number begins
abbrev pub record_start : ℕ → List ℕ
record_start number = codes "# " ++ decimal number ++ codes " "

-- a beginning of the first line of the record of this number. No such line has more than 320 bytes
pub record IsFirstLineBegun (number : ℕ) (tail : List ℕ) : Type 0 where
  pub is_short : length tail ≤ 320
  pub in_line : All IsInLine tail
  pub begins : IsPrefix tail (record_start number) ⊎ IsPrefix (record_start number) tail

-- a text that ends in a digest
pub record EndsInDigest (text : List ℕ) : Type 0 where
  pub said : List ℕ
  pub digest : List ℕ
  pub is_text : text ≡ said ++ digest
  pub is_long : length digest ≡ 64
  pub has_digits : All (λ byte. IsTrue (is_digit byte)) digest

-- its first line, which ends in a digest, and a beginning of an edit
pub record IsSecondLineBegun (number : ℕ) (tail : List ℕ) : Type 0 where
  pub first : List ℕ
  pub second : List ℕ
  pub is_text : tail ≡ first ++ 10 ∷ second
  pub is_short : length first ≤ 320
  pub in_line : All IsInLine first
  pub begins : IsPrefix (record_start number) first
  pub is_sealed : EndsInDigest first
  pub is_edit : All (λ byte. IsTrue (is_of_edit byte)) second

-- a record that was not written to its end
abbrev pub IsBegun : ℕ → List ℕ → Type 0
IsBegun number tail = IsFirstLineBegun number tail ⊎ IsSecondLineBegun number tail

-- a text with fewer than two line feeds
pub record HasOneLineFeed (text : List ℕ) : Type 0 where
  pub first : List ℕ
  pub second : List ℕ
  pub is_text : text ≡ first ++ 10 ∷ second
  pub in_first : All (λ byte. byte ≢ 10) first
  pub in_second : All (λ byte. byte ≢ 10) second

abbrev pub IsUnderTwoLines : List ℕ → Type 0
IsUnderTwoLines text = All (λ byte. byte ≢ 10) text ⊎ HasOneLineFeed text

-- the place behind a place in a block of 512 bytes
abbrev pub next_place : ℕ → ℕ
next_place place = if nat_le 511 place then 0 else place + 1

-- behind this byte may be that one, at this place in a block: behind a zero byte are zeros, up to the end of its block
abbrev pub may_stand : ℕ → ℕ → ℕ → Bool
may_stand was place byte = (place == 0) || (not (was == 0) || (byte == 0))

-- each block of the bytes has what was written, and behind that zeros. The first byte has this place in its block, and
-- behind it was this one
unfoldable pub are_torn_blocks : ℕ → ℕ → List ℕ → Bool
are_torn_blocks was place [] = true
are_torn_blocks was place (byte ∷ rest) = may_stand was place byte && are_torn_blocks byte (next_place place) rest

-- how long a group of records is at most, where the longest one so far had so many bytes; 128 stand for it where there
-- was none. Each of eight desks may have one, an eighth longer than that
abbrev pub group_bytes : ℕ → ℕ
group_bytes longest = 9 * (if longest == 0 then 128 else longest)

-- a group of records of which blocks were not written: a zero byte stands in its first record
pub record IsLost (place longest : ℕ) (tail : List ℕ) : Type 0 where
  pub before : List ℕ
  pub behind : List ℕ
  pub is_text : tail ≡ before ++ 0 ∷ behind
  pub in_first : IsUnderTwoLines before
  pub are_torn : IsTrue (are_torn_blocks 1 place tail)
  pub is_group : length tail ≤ group_bytes longest

-- what a cut may leave behind whole records, the longest of which had so many bytes: where the next would have this
-- number, and its first byte this place in a block
abbrev pub IsTail : ℕ → ℕ → ℕ → List ℕ → Type 0
IsTail number place longest tail = (tail ≡ []) ⊎ IsBegun number tail ⊎ IsLost place longest tail
