-- The grid of the coordinates in a text (this product's own): whole millimetres, or whole centimetres where the text's
-- first line is `grid cm`.
use Rattle.std.specs.Prelude.{ℕ, Bool, false, List, [], ◌∷◌, codes, if◌then◌else◌}
use Rattle.std.specs.Str.{bytes_eq}
use Rattle.line_files.specs.declared.grids.Grid.{Grid}
use Rattle.line_files.specs.declared.grids.Grid.TheVariants.{Millimetres, Centimetres}

-- how many millimetres one is
abbrev pub step : Grid → ℕ
step Millimetres = 1
step Centimetres = 10

-- whether the first of a text's lines is `grid cm`, byte for byte
abbrev pub names_centimetres : List (List ℕ) → Bool
names_centimetres [] = false
names_centimetres (line ∷ lines) = bytes_eq line (codes "grid cm")

-- the grid of a text of these lines
abbrev pub grid_of : List (List ℕ) → Grid
grid_of lines = if names_centimetres lines then Centimetres else Millimetres

-- the lines, with an empty one, which is skipped and counted, in place of a first line `grid cm`; each other line stays
abbrev pub behind_grid : List (List ℕ) → List (List ℕ)
behind_grid [] = []
behind_grid (line ∷ lines) = (if bytes_eq line (codes "grid cm") then [] else line) ∷ lines
