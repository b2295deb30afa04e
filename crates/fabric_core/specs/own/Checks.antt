-- What the single steps of loading answer. Public contracts do not speak of it.
use Rattle.std.specs.Prelude.{◌≡◌, ◌≤◌, ℕ, List, [], ◌∷◌, length, None}
use Rattle.std.specs.List.Sorted.{IsStrictlyIncreasing}
use Rattle.geo_exact.specs.declared.corner.Corner.{Corner}
use Rattle.geo_exact.specs.Point.{Point}
use Rattle.geo_exact.specs.Layers.{NumberedRing}
use Rattle.geo_exact.specs.declared.limits.TheConstants.{LAYER_RECORDS, RING_CORNERS}
use Rattle.ring_core.specs.declared.ring.RingFault.{RingFault}
use Rattle.ring_core.specs.Simple.{IsSimpleRing}
use Rattle.edge_chains.specs.Net.{net_count}
use Rattle.edge_chains.specs.Noding.{IsNoded}
use Rattle.fabric_core.specs.declared.all_faults.Asked.{Asked}
use Rattle.fabric_core.specs.declared.all_faults.LoadRefusal.{LoadRefusal}
use Rattle.fabric_core.specs.declared.layer.LoadFault.TheVariants.{Ring}
use Rattle.fabric_core.specs.Faults.{AreSimple, IsFirstFault, IsFirstFaulty, AreAllFaults, AreAsked}
use Rattle.fabric_core.specs.Rows.{numbers}
use Rattle.fabric_core.specs.Limits.{AreWithinLimits}
use Rattle.fabric_core.specs.own.Lists.{most_refined, numbered_rows}
use Rattle.fabric_core.specs.Tiling.{corner_lists, IsWoundAtMostOnce}

-- the refusal of rows in a refined city: their first fault, and what is asked for beside it
pub record IsTold {A : Type 0} (asked : Asked) (rows : List NumberedRing) (refined : List Corner)
    (refusal : LoadRefusal A) : Type 0 where
  pub is_first : IsFirstFault rows refined refusal.first
  pub are_asked : AreAsked asked rows refined refusal.first refusal.all

-- the refusal of rows whose rings are not all simple, whatever the city: the first that is not, and beside it all of
-- them, if they are asked for
pub record IsToldOfRings {A : Type 0} (asked : Asked) (rows : List NumberedRing)
    (refusal : LoadRefusal A) : Type 0 where
  pub number : ℕ
  pub fault : RingFault
  pub is_first : refusal.first ≡ Ring number fault
  pub is_faulty : IsFirstFaulty rows number fault
  pub is_alone : asked ≡ Asked.First → refusal.all ≡ None
  pub has_all : asked ≡ Asked.All → IsStrictlyIncreasing (numbers rows) → (refined : List Corner)
      → AreAllFaults rows refined refusal.first refusal.all

-- the refusal of simple rings that do not have the edges of the refined city, if they are within the limits, under
-- whatever numbers
abbrev pub IsToldOfNets : {A : Type 0} → Asked → List (List Corner) → List Corner → LoadRefusal A → Type 0
IsToldOfNets asked rings refined refusal =
    (rows : List NumberedRing) → corner_lists rows ≡ rings → AreWithinLimits rows → AreSimple rows
    → IsTold asked rows refined refusal

-- the rings have the net edges of the refined city
abbrev pub HaveEqualNets : List (List Corner) → List Corner → Type 0
HaveEqualNets rings refined = (a b : Corner) → net_count rings a b ≡ net_count (refined ∷ []) a b

-- rings and a refined city that have no fault
pub record HaveNoFault (rows : List NumberedRing) (refined : List Corner) : Type 0 where
  pub within : AreWithinLimits rows
  pub simple : AreSimple rows
  pub nets : HaveEqualNets (corner_lists rows) refined

-- the city's ring is simple, has no more corners than a ring may, goes round no point twice, and is refined: noded,
-- and not too long to be counted
pub record IsRefinedCity (city refined : List Corner) : Type 0 where
  pub simple : IsSimpleRing city
  pub few : length city ≤ RING_CORNERS
  pub wound_once : (p : Point) → IsWoundAtMostOnce p city
  pub corners : List Corner
  pub is_noded : IsNoded city corners refined
  pub is_short : length refined ≤ most_refined

-- numbers and rings that were checked, in a city that is refined: they are no more than a layer may have, rise,
-- and have no fault
pub record IsChecked (numbers : List ℕ) (rings : List (List Corner)) (city refined : List Corner) : Type 0 where
  pub same_length : length numbers ≡ length rings
  pub few : length numbers ≤ LAYER_RECORDS
  pub rise : IsStrictlyIncreasing numbers
  pub is_city : IsRefinedCity city refined
  pub within : AreWithinLimits (numbered_rows numbers rings)
  pub simple : AreSimple (numbered_rows numbers rings)
  pub nets : HaveEqualNets rings refined
