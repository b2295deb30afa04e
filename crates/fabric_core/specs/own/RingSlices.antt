-- The rings of a layer in slices, and what was found of each. Public contracts do not speak of it.
use Rattle.std.specs.Prelude.{◌≡◌, ◌⊎◌, ◌≤◌, ℕ, List, length, Vec, Result}
use Rattle.std.specs.List.{AllByRecursion}
use Rattle.std.specs.Result.{IfOk, IfErr}
use Rattle.geo_exact.specs.declared.corner.Corner.{Corner}
use Rattle.geo_exact.specs.Layers.{NumberedRing}
use Rattle.geo_exact.specs.declared.limits.TheConstants.{RING_CORNERS}
use Rattle.ring_core.specs.declared.ring.Ring.{Ring}
use Rattle.fabric_core.specs.declared.all_faults.Asked.{Asked}
use Rattle.fabric_core.specs.declared.all_faults.LoadRefusal.{LoadRefusal}
use Rattle.fabric_core.specs.Faults.{IsOutOfMemory}
use Rattle.fabric_core.specs.Tiling.{corner_lists}
use Rattle.fabric_core.specs.own.Checks.{IsToldOfRings}
use Rattle.fabric_core.specs.own.Lists.{numbered_rows, corners_of_rings}

-- the numbers and the rings are those of these rows, as many of each, and no ring is too long to be checked
pub record IsSliceOf (rows : List NumberedRing) (ids : List ℕ) (rings : List (List Corner)) : Type 0 where
  pub are_rows : numbered_rows ids rings ≡ rows
  pub numbered : length ids ≡ length rings
  pub short : AllByRecursion (λ ring. length ring ≤ RING_CORNERS) rings

-- the rows' rings, each a simple one, or the fault of the first that is not
pub record IsCheckedSlice {A : Type 0} (rows : List NumberedRing) (result : Result (Vec (Ring A) A) (LoadRefusal A)) :
    Type 0 where
  pub ok : IfOk result (λ checked. corners_of_rings checked.items ≡ corner_lists rows)
  pub err : IfErr result (λ refusal. IsToldOfRings Asked.First rows refusal ⊎ IsOutOfMemory refusal)
