-- The characters of a file.
use Rattle.std.specs.Prelude.{ℕ, Bool, true, false, ◌&&◌, ◌==◌, nat_eq, nat_lt, List, [], ◌∷◌, drop, if◌then◌else◌}
use Rattle.std.specs.List.{starts_with}

-- a character of UTF-16 as one byte, by its two: `?` (63) for what is not ASCII
abbrev pub ascii : ℕ → ℕ → ℕ
ascii low high = if (high == 0) && nat_lt low 128 then low else 63

-- the same by its bytes in their order, the least significant first, or last
abbrev pub one_byte : Bool → ℕ → ℕ → ℕ
one_byte true first second = ascii second first
one_byte false first second = ascii first second

-- the characters of UTF-16, each of two bytes; half of one is none
abbrev pub narrow : Bool → List ℕ → List ℕ
narrow big [] = []
narrow big (first ∷ []) = []
narrow big (first ∷ second ∷ rest) = one_byte big first second ∷ narrow big rest

-- the characters of a file: UTF-16 and UTF-8 are known by what begins them, and other bytes are themselves
abbrev pub plain : List ℕ → List ℕ
plain file =
    if starts_with nat_eq file (255 ∷ 254 ∷ []) then narrow false (drop 2 file)
    else (if starts_with nat_eq file (254 ∷ 255 ∷ []) then narrow true (drop 2 file)
    else (if starts_with nat_eq file (239 ∷ 187 ∷ 191 ∷ []) then drop 3 file else file))
