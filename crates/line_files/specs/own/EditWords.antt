-- What the code takes of a line's words, one after the other.
use Rattle.std.specs.Prelude.{◌≡◌, ℕ, List, ◌∷◌}
use Rattle.geo_exact.specs.declared.corner.Corner.{Corner}
use Rattle.line_files.specs.declared.grids.Grid.{Grid}
use Rattle.line_files.specs.TextNumbers.{IsNumber, IsCornerText}
use Rattle.line_files.specs.ClerkFile.{ArePath}

-- the first word is this number, and these are left
pub record TakesNumber (words : List (List ℕ)) (n : ℕ) (left : List (List ℕ)) : Type 0 where
  pub word : List ℕ
  pub are_words : words ≡ word ∷ left
  pub is_number : IsNumber word n

-- the first two words are this corner's coordinates, and these are left
pub record TakesCorner (grid : Grid) (words : List (List ℕ)) (corner : Corner) (left : List (List ℕ)) : Type 0 where
  pub x : List ℕ
  pub y : List ℕ
  pub are_words : words ≡ x ∷ y ∷ left
  pub is_corner : IsCornerText grid x y corner

-- all words are the coordinates of one or more corners
abbrev pub AreAPath : Grid → List (List ℕ) → Type 0
AreAPath grid words = (path : List Corner) × ArePath grid words path
