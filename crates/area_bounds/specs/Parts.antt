-- Fractions counted in parts, of which a whole has PARTS (this product's own).
use Rattle.std.specs.Prelude.{ℕ, ◌+◌, ◌*◌, ◌≤◌, ℤ, pos, ◌+ℤ◌, ◌*ℤ◌, ◌<ℤ◌, ◌≤ℤ◌}
use Rattle.common_areas.specs.Fractions.{Fraction}
use Rattle.area_bounds.specs.declared.parts.TheConstants.{PARTS}

-- the fraction n / d has at least so many parts, and at most as many more as were lost
pub record IsShare (parts lost n d : ℕ) : Type 0 where
  pub above : parts * d ≤ PARTS * n
  pub below : PARTS * n ≤ (parts + lost) * d

-- the same of a fraction with a sign
pub record IsCounted (parts : ℤ) (lost : ℕ) (f : Fraction) : Type 0 where
  pub positive : pos 0 <ℤ f.d
  pub above : (parts *ℤ f.d) ≤ℤ (pos PARTS *ℤ f.n)
  pub below : (pos PARTS *ℤ f.n) ≤ℤ ((parts +ℤ pos lost) *ℤ f.d)

-- the fraction is at least the one whole number, and at most the other
pub record IsBetween (least greatest : ℤ) (f : Fraction) : Type 0 where
  pub positive : pos 0 <ℤ f.d
  pub low : (least *ℤ f.d) ≤ℤ f.n
  pub high : f.n ≤ℤ (greatest *ℤ f.d)
