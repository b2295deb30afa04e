-- Where two lists of numbers differ first.
use Rattle.std.specs.Prelude.{◌≡◌, ◌≢◌, ◌⊎◌, ℕ, min, List, [], ◌∷◌}

-- the number is the lesser of the first two that differ, or the first of the longer list behind the shorter
abbrev pub IsFirstDifference : List ℕ → List ℕ → ℕ → Type 0
IsFirstDifference [] [] id = ⊥
IsFirstDifference [] (y ∷ ys) id = id ≡ y
IsFirstDifference (x ∷ xs) [] id = id ≡ x
IsFirstDifference (x ∷ xs) (y ∷ ys) id = ((x ≡ y) × IsFirstDifference xs ys id) ⊎ ((x ≢ y) × (id ≡ min y x))
