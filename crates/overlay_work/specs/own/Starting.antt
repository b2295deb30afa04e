-- When a round has no fault.
use Rattle.std.specs.Prelude.{◌≡◌, ℕ, List}
use Rattle.std.specs.List.Sorted.{IsStrictlyIncreasing}
use Rattle.geo_exact.specs.declared.corner.Corner.{Corner}
use Rattle.overlay_work.specs.Sharing.{IsSharing}

-- the lists share the ids, which rise, and the cities are one
pub record CanBegin (ids : List ℕ) (city zones_city : List Corner) (lists : List (List ℕ)) : Type 0 where
  pub ascending : IsStrictlyIncreasing ids
  pub sharing : IsSharing ids lists
  pub same_city : zones_city ≡ city
