-- What a line has that no edit, question or point has (this product's own).
use Rattle.std.specs.Prelude.{ℕ, Bool, false, ◌&&◌, ◌||◌, ◌==◌, nat_eq, nat_lt, List, [], ◌∷◌, Option, None, Some}
use Rattle.std.specs.Prelude.{if◌then◌else◌}
use Rattle.std.specs.List.{list_any, starts_with, ends_with}
use Rattle.parcel_tool.specs.declared.flaws.Flaw.{Flaw}
use Rattle.parcel_tool.specs.declared.flaws.Flaw.TheVariants.{Mark, Tab, Return, Comma, Point, Capital, Spaces, Edge}

-- whether a text has this byte
abbrev pub has : ℕ → List ℕ → Bool
has byte line = list_any (λ b. b == byte) line

-- whether it begins with this byte
abbrev pub begins_with : ℕ → List ℕ → Bool
begins_with byte [] = false
begins_with byte (b ∷ bs) = b == byte

-- whether it has a capital, from A (65) to Z (90)
abbrev pub capitals : List ℕ → Bool
capitals [] = false
capitals (b ∷ bs) = (nat_lt 64 b && nat_lt b 91) || capitals bs

-- whether two spaces (32) stand side by side
abbrev pub two_spaces : List ℕ → Bool
two_spaces [] = false
two_spaces (b ∷ bs) = ((b == 32) && begins_with 32 bs) || two_spaces bs

-- a capital, two spaces side by side, or a space at its beginning or its end
abbrev pub later_flaw : List ℕ → Option Flaw
later_flaw line =
    if capitals line then Some Capital
    else (if two_spaces line then Some Spaces
    else (if starts_with nat_eq line (32 ∷ []) || ends_with nat_eq line (32 ∷ []) then Some Edge else None))

-- the first flaw of a line: a byte order mark at its beginning, a tab (9), a carriage return (13), a comma (44), a
-- decimal point (46), or one of those above
abbrev pub flaw : List ℕ → Option Flaw
flaw line =
    if starts_with nat_eq line (239 ∷ 187 ∷ 191 ∷ []) then Some Mark
    else (if has 9 line then Some Tab
    else (if has 13 line then Some Return
    else (if has 44 line then Some Comma
    else (if has 46 line then Some Point else later_flaw line))))
