-- Numbers in texts (this product's own): 1 to 19 decimal digits, leading zeros allowed.
use Rattle.std.specs.Prelude.{◌≡◌, ◌⊎◌, ℕ, ℤ, pos, neg_ℤ, ◌*ℤ◌, ◌≤◌, List, [], ◌∷◌, ◌++◌, length, codes}
use Rattle.std.specs.Str.Parse.{IsNumeral, digits_value}
use Rattle.geo_exact.specs.declared.corner.Corner.{Corner}
use Rattle.line_files.specs.Grids.{step}
use Rattle.line_files.specs.declared.grids.Grid.{Grid}
use Rattle.line_files.specs.declared.text_numbers.TheConstants.{MOST_DIGITS}

-- the text is 1 to 19 digits, and the number is theirs
pub record IsNumber (text : List ℕ) (n : ℕ) : Type 0 where
  pub are_digits : IsNumeral 10 text
  pub are_few : length text ≤ MOST_DIGITS
  pub is_theirs : n ≡ digits_value 10 text

-- the text is a number, or a minus and a number
abbrev pub IsSigned : List ℕ → ℤ → Type 0
IsSigned text z = ((n : ℕ) × (z ≡ pos n) × IsNumber text n)
    ⊎ ((digits : List ℕ) × (n : ℕ) × (text ≡ codes "-" ++ digits) × (z ≡ neg_ℤ (pos n)) × IsNumber digits n)

-- the text is a number of steps of the grid, and the coordinate is as many millimetres
pub record IsCoordinate (grid : Grid) (text : List ℕ) (coordinate : ℤ) : Type 0 where
  pub number : ℤ
  pub is_number : IsSigned text number
  pub is_theirs : coordinate ≡ pos (step grid) *ℤ number

-- the two texts are a corner's coordinates; a corner is within the limits, in millimetres, by its type
pub record IsCornerText (grid : Grid) (x y : List ℕ) (corner : Corner) : Type 0 where
  pub is_x : IsCoordinate grid x corner.x
  pub is_y : IsCoordinate grid y corner.y

-- `X Y X Y ..`: the words are the coordinates of these corners, two each
abbrev pub AreCornerWords : Grid → List (List ℕ) → List Corner → Type 0
AreCornerWords grid words [] = words ≡ []
AreCornerWords grid words (corner ∷ corners) =
    (x : List ℕ) × (y : List ℕ) × (rest : List (List ℕ)) × (words ≡ x ∷ y ∷ rest)
    × IsCornerText grid x y corner × AreCornerWords grid rest corners
