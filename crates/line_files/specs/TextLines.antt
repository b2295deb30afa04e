-- Texts that fall into lines, and what their lines say (this product's own).
use Rattle.std.specs.Prelude.{◌≡◌, ◌⊎◌, ⊤, ℕ, ◌+◌, Bool, false, ◌&&◌, ◌==◌, List, [], ◌∷◌}
use Rattle.std.specs.Prelude.{if◌then◌else◌}

-- whether a text begins with this byte
abbrev pub begins_with : ℕ → List ℕ → Bool
begins_with byte [] = false
begins_with byte (b ∷ bs) = b == byte

-- the lines with one more byte at their beginning
abbrev pub with_first : ℕ → List (List ℕ) → List (List ℕ)
with_first byte [] = (byte ∷ []) ∷ []
with_first byte (line ∷ lines) = (byte ∷ line) ∷ lines

-- the lines of a text: a line feed (10) ends each, which the last may lack, and one carriage
-- return (13) just before it is of the end
abbrev pub lines_of : List ℕ → List (List ℕ)
lines_of [] = []
lines_of (b ∷ bs) =
    if b == 10 then [] ∷ lines_of bs
    else (if (b == 13) && begins_with 10 bs then lines_of bs else with_first b (lines_of bs))

-- a line that is skipped: it is empty, or begins with `#` (35)
abbrev pub IsSkipped : List ℕ → Type 0
IsSkipped [] = ⊤
IsSkipped (b ∷ bs) = b ≡ 35

-- In what follows `Says` tells what a line with a number may say, and lines are numbered on from a first one's number.

-- each line is skipped or says something, and these things are said, in order
abbrev pub AreSaid : {X : Type 0} → (ℕ → List ℕ → X → Type 0) → ℕ → List (List ℕ) → List X → Type 0
AreSaid Says number [] said = said ≡ []
AreSaid {X} Says number (line ∷ lines) said = (IsSkipped line × AreSaid Says (number + 1) lines said)
    ⊎ ((x : X) × (rest : List X) × (said ≡ x ∷ rest) × (¬ IsSkipped line) × Says number line x
    × AreSaid Says (number + 1) lines rest)

-- a line that is neither skipped nor says anything
pub record IsBad {X : Type 0} (Says : ℕ → List ℕ → X → Type 0) (number : ℕ) (line : List ℕ) : Type 0 where
  pub is_not_skipped : ¬ IsSkipped line
  pub says_nothing : (x : X) → ¬ Says number line x

-- the first bad line has the number n
abbrev pub IsFirstBad : {X : Type 0} → (ℕ → List ℕ → X → Type 0) → ℕ → List (List ℕ) → ℕ → Type 0
IsFirstBad Says number [] n = ⊥
IsFirstBad Says number (line ∷ lines) n =
    (IsBad Says number line × (n ≡ number)) ⊎ ((¬ IsBad Says number line) × IsFirstBad Says (number + 1) lines n)

-- the first line that is not skipped says something
abbrev pub FirstSays : {X : Type 0} → (ℕ → List ℕ → X → Type 0) → ℕ → List (List ℕ) → Type 0
FirstSays Says number [] = ⊥
FirstSays {X} Says number (line ∷ lines) =
    (IsSkipped line × FirstSays Says (number + 1) lines) ⊎ ((¬ IsSkipped line) × ((x : X) × Says number line x))
