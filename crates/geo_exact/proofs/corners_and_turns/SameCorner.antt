-- Corners are equal where their coordinates are.
use Rattle.std.proofs.Common.{◌≡◌, ℤ}
use mathlib.Core.HLevel.{is_prop→PathP}
use lib.Dec.{T_prop}
use Rattle.geo_exact.specs.declared.corner.Corner.{Corner}
use Rattle.geo_exact.specs.Limit.{IsWithin, limit}

within_prop : (n : _) (z : ℤ) → IsProp (IsWithin n z)
within_prop n z = hlevel T_prop

pub corner_same : (a b : Corner) → a.x ≡ b.x → a.y ≡ b.y → a ≡ b
corner_same a b h k = λ i. record {
  x = h i;
  y = k i;
  x_in_range = is_prop→PathP (λ j. IsWithin limit (h j)) (λ j. within_prop limit (h j)) a.x_in_range b.x_in_range i;
  y_in_range = is_prop→PathP (λ j. IsWithin limit (k j)) (λ j. within_prop limit (k j)) a.y_in_range b.y_in_range i;
}
