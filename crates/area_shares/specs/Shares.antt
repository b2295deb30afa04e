-- Whole numbers for fractions (this product's own).
use Rattle.std.specs.Prelude.{ℤ, pos, ◌+ℤ◌, ◌-ℤ◌, List, [], ◌∷◌}
use Rattle.common_areas.specs.Fractions.{Fraction}
use Rattle.area_bounds.specs.Parts.{IsBetween}

-- the whole number is at most 1 away from the fraction
abbrev pub IsWithinOne : Fraction → ℤ → Type 0
IsWithinOne f number = IsBetween (number -ℤ pos 1) (number +ℤ pos 1) f

-- the sum of whole numbers
abbrev pub sum_of : List ℤ → ℤ
sum_of [] = pos 0
sum_of (number ∷ numbers) = number +ℤ sum_of numbers
