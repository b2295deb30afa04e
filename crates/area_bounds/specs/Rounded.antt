-- What rounding to whole parts may lose, and the nearest whole numbers (this product's own).
use Rattle.std.specs.Prelude.{ℕ, ◌+◌, ◌*◌, ◌%◌, nat_eq, if◌then◌else◌, ℤ, pos, ◌+ℤ◌, ◌-ℤ◌, ◌*ℤ◌, ◌<ℤ◌, List, [], ◌∷◌}
use Rattle.std.specs.Int.RustNames.{unsigned_abs}
use Rattle.geo_exact.specs.declared.corner.Corner.{Corner}
use Rattle.geo_exact.specs.Rings.{Edge, edges}
use Rattle.common_areas.specs.Between.{between}
use Rattle.common_areas.specs.Fractions.{Fraction}
use Rattle.area_bounds.specs.declared.parts.TheConstants.{PARTS}

-- 0 where the second number divides the first, else 1
abbrev pub rest_of : ℕ → ℕ → ℕ
rest_of n d = if nat_eq (n % d) 0 then 0 else 1

-- 0 for a whole number of parts, else 1
abbrev pub loss_of : Fraction → ℕ
loss_of f = rest_of (PARTS * unsigned_abs f.n) (unsigned_abs f.d)

-- the sum of a count over edges
abbrev pub count_over : (Edge → ℕ) → List Edge → ℕ
count_over count [] = 0
count_over count (edge ∷ rest) = count edge + count_over count rest

-- for how many pairs of an edge of the one ring and an edge of the other the area between them is no whole number of
-- parts
abbrev pub pairs_rounded : List Corner → List Corner → ℕ
pairs_rounded r s = count_over (λ e. count_over (λ f. loss_of (between e f)) (edges s)) (edges r)

-- The fraction is less than one more than the one whole number, and more than one less than the other, but for so many
-- parts as were rounded.
pub record IsNear (least greatest : ℤ) (rounded : ℕ) (f : Fraction) : Type 0 where
  pub low : (pos PARTS *ℤ f.n) <ℤ (((least +ℤ pos 1) *ℤ pos PARTS +ℤ pos rounded) *ℤ f.d)
  pub high : ((greatest -ℤ pos 1) *ℤ pos PARTS *ℤ f.d) <ℤ (pos PARTS *ℤ f.n +ℤ pos rounded *ℤ f.d)
