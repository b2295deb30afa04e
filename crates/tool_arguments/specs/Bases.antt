-- Where a layer is written (this product's own).
use Rattle.std.specs.Prelude.{◌≡◌, ◌⊎◌, ℕ, ◌-◌, List, [], length, map, drop, codes}
use Rattle.std.specs.Char.{to_ascii_lowercase}

-- a path that ends in `.shp`, in capitals or not: that of a main file
abbrev pub IsMainPath : List ℕ → Type 0
IsMainPath path = map to_ascii_lowercase (drop (length path - 4) path) ≡ codes ".shp"

-- a path that names no layer that is to be written: it is empty, or a main file's
abbrev pub IsRefusedBase : List ℕ → Type 0
IsRefusedBase path = (path ≡ []) ⊎ IsMainPath path
