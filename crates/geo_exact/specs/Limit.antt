-- The range of a coordinate: this product's own limit (the Technical Description, July 1998, "Numeric Types", rules
-- out infinities and not-a-number alone).
use Rattle.std.specs.Prelude.{ℕ, ℤ, pos, neg_ℤ, ◌≤ℤ◌}
use Rattle.std.specs.Int.RustNames.{unsigned_abs}
use Rattle.geo_exact.specs.declared.limits.TheConstants.{LIMIT}

-- z is at most n away from 0
pub record IsWithin (n : ℕ) (z : ℤ) : Type 0 where
  pub low : neg_ℤ (pos n) ≤ℤ z
  pub high : z ≤ℤ pos n

-- 100,000 kilometres, in whole millimetres
abbrev pub limit : ℕ
limit = unsigned_abs LIMIT
