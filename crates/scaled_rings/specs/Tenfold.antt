-- Corners and rings, each coordinate times ten (this product's own: a register of a
-- coarser grid, moved to the finer one).
use Rattle.std.specs.Prelude.{◌≡◌, ℕ, pos, ◌*ℤ◌, List, IsTrue, Option, None, Some}
use Rattle.std.specs.List.{AllByRecursion, AllZip, Contains}
use Rattle.std.specs.Int.RustNames.{unsigned_abs}
use Rattle.geo_exact.specs.declared.corner.Corner.{Corner}
use Rattle.geo_exact.specs.Limit.{IsWithin}
use Rattle.geo_exact.specs.Order.{is_before}
use Rattle.scaled_rings.specs.declared.limits.TheConstants.{NEAR_LIMIT}

-- the other corner is this one, each coordinate times ten
pub record IsTenTimes (corner other : Corner) : Type 0 where
  pub in_x : other.x ≡ pos 10 *ℤ corner.x
  pub in_y : other.y ≡ pos 10 *ℤ corner.y

-- the other corners are these, each ten times
abbrev pub AreTenTimes : List Corner → List Corner → Type 0
AreTenTimes corners others = AllZip IsTenTimes corners others

-- 10,000 kilometres, in whole millimetres
abbrev pub near_limit : ℕ
near_limit = unsigned_abs NEAR_LIMIT

-- the corner is at most so far from 0 along each axis
pub record IsUpTo (most : ℕ) (corner : Corner) : Type 0 where
  pub in_x : IsWithin most corner.x
  pub in_y : IsWithin most corner.y

-- the corner is within the limit ten times over
abbrev pub IsNear : Corner → Type 0
IsNear corner = IsUpTo near_limit corner

-- the corner is the least, by x and then by y, of those of the corners that are further from 0
pub record IsLeastBeyond (most : ℕ) (corners : List Corner) (corner : Corner) : Type 0 where
  pub is_one : Contains corners corner
  pub is_far : ¬ IsUpTo most corner
  pub is_least : (other : Corner) → Contains corners other → ¬ IsUpTo most other → ¬ IsTrue (is_before other corner)

-- it is told, where there is one; else none is further
abbrev pub IsLeastBeyondOf : ℕ → List Corner → Option Corner → Type 0
IsLeastBeyondOf most corners None = AllByRecursion (IsUpTo most) corners
IsLeastBeyondOf most corners (Some corner) = IsLeastBeyond most corners corner

-- the corner is the least, by x and then by y, of those of the corners that are not near
abbrev pub IsLeastFar : List Corner → Corner → Type 0
IsLeastFar corners corner = IsLeastBeyond near_limit corners corner

-- it is told, where there is one; else all are near
abbrev pub IsLeastFarOf : List Corner → Option Corner → Type 0
IsLeastFarOf corners found = IsLeastBeyondOf near_limit corners found
