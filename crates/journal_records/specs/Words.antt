-- The client's own word for who edits and why, which may stand before an edit: `by WHO: EDIT` (this product's own).
use Rattle.std.specs.Prelude.{◌≡◌, ◌≢◌, ℕ, ◌<◌, ◌≤◌, List, ◌++◌, codes, length, false}
use Rattle.std.specs.List.{All, list_any}
use Rattle.std.specs.Char.{is_control}
use Rattle.std.specs.Str.{IsUtf8, chars}

-- the text has no colon (58)
abbrev pub HasNoColon : List ℕ → Type 0
HasNoColon text = All (λ byte. byte ≢ 58) text

-- the text is UTF-8, and none of its characters is a control character
pub record IsPlain (text : List ℕ) : Type 0 where
  pub is_utf8 : IsUtf8 text
  pub no_control : list_any is_control (chars text) ≡ false

-- a client's word: such a text of 1 to 200 bytes
pub record IsWord (who : List ℕ) : Type 0 where
  pub is_some : 0 < length who
  pub is_short : length who ≤ 200
  pub is_plain : IsPlain who

-- the line is `by WHO: ASKED`, and WHO is such a word; it ends at the line's last colon
pub record SaysWho (line who asked : List ℕ) : Type 0 where
  pub is_line : line ≡ codes "by " ++ who ++ codes ": " ++ asked
  pub is_last : HasNoColon asked
  pub is_word : IsWord who
