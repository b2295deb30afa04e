-- The tokens of well-known text (OGC 18-010, 7; ESRI's has the same).
use Rattle.std.specs.Prelude.{ℕ, Bool, true, false, ◌||◌, ◌&&◌, ◌==◌, nat_lt, List, [], ◌∷◌, ◌++◌, length}
use Rattle.std.specs.Prelude.{if◌then◌else◌}

pub data Token : Type 0 where
  -- a keyword, and the bracket after it
  Opening : List ℕ → Token
  -- a name, and the quotes about it
  Quoted : List ℕ → Token
  -- a word or nothing, and the comma after it
  Parted : List ℕ → Token
  -- a word or nothing, and the closing bracket after it
  Closing : List ℕ → Token

-- `"`
abbrev pub is_quote : ℕ → Bool
is_quote byte = byte == 34

-- `[` and `(`, which ESRI's text has as well
abbrev pub is_opening : ℕ → Bool
is_opening byte = (byte == 91) || (byte == 40)

-- `]` and `)`
abbrev pub is_closing : ℕ → Bool
is_closing byte = (byte == 93) || (byte == 41)

-- a space or a line's end before a word, which is no part of it
abbrev pub is_blank : List ℕ → ℕ → Bool
is_blank word byte = nat_lt byte 33 && (length word == 0)

-- the tokens of what comes after the beginning of a word, or, where it is quoted, of a name
abbrev pub tokens_after : Bool → List ℕ → List ℕ → List Token
tokens_after quoted word [] = []
tokens_after true word (byte ∷ rest) =
    if is_quote byte then Quoted word ∷ tokens_after false [] rest else tokens_after true (word ++ byte ∷ []) rest
tokens_after false word (byte ∷ rest) =
    if is_quote byte then tokens_after true [] rest
    else (if is_opening byte then Opening word ∷ tokens_after false [] rest
    else (if byte == 44 then Parted word ∷ tokens_after false [] rest
    else (if is_closing byte then Closing word ∷ tokens_after false [] rest
    else (if is_blank word byte then tokens_after false [] rest else tokens_after false (word ++ byte ∷ []) rest))))

abbrev pub tokens : List ℕ → List Token
tokens text = tokens_after false [] text
