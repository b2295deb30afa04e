-- The limits of a layer whose rings are noded (this product's own).
use Rattle.std.specs.Prelude.{◌≡◌, ◌⊎◌, ℕ, ◌<◌, ◌≤◌, List, [], ◌∷◌, ◌++◌, length}
use Rattle.std.specs.List.{AllByRecursion}
use Rattle.geo_exact.specs.Layers.{NumberedRing, corner_count}
use Rattle.geo_exact.specs.declared.limits.TheConstants.{LAYER_CORNERS, RING_CORNERS}

-- each row has at most 4,096 corners, and all have at most 1,000,000 together
pub record AreWithinLimits (rows : List NumberedRing) : Type 0 where
  pub each : AllByRecursion (λ row. length row.corners ≤ RING_CORNERS) rows
  pub together : corner_count rows ≤ LAYER_CORNERS

-- the first row that passes a limit, by itself or together with those before it, has this number
pub record IsFirstTooMany (rows : List NumberedRing) (number : ℕ) : Type 0 where
  pub before : List NumberedRing
  pub row : NumberedRing
  pub behind : List NumberedRing
  pub are_all : rows ≡ before ++ row ∷ behind
  pub has_number : row.number ≡ number
  pub passes : (RING_CORNERS < length row.corners) ⊎ (LAYER_CORNERS < corner_count (before ++ row ∷ []))
  pub within_before : AreWithinLimits before
