-- Why a ring is no city, and why the rows of a layer are not loaded: the first reason
-- that applies (this product's own order).
use Rattle.std.specs.Prelude.{◌≡◌, ◌≢◌, ◌↔◌, ℕ, ℤ, pos, IsTrue, List, [], ◌∷◌, ◌++◌, map, Option, None, Some, Vec}
use Rattle.std.specs.List.{AllByRecursion, Contains}
use Rattle.std.specs.List.Sorted.{IsStrictlyIncreasing}
use Rattle.geo_exact.specs.declared.corner.Corner.{Corner}
use Rattle.geo_exact.specs.Order.{is_before}
use Rattle.geo_exact.specs.Layers.{NumberedRing}
use Rattle.ring_core.specs.declared.triangle.Tri.{Tri}
use Rattle.ring_core.specs.declared.ring.RingFault.{RingFault}
use Rattle.ring_core.specs.Simple.{IsSimpleRing}
use Rattle.ring_core.specs.Faults.{IsRingFault}
use Rattle.ring_core.specs.Clipping.{IsClippedTo}
use Rattle.tri_overlap.specs.Folding.{IsFirstOverlap}
use Rattle.edge_chains.specs.Counts.{is_edge_before}
use Rattle.edge_chains.specs.Unbalanced.{AreInEdgeOrder}
use Rattle.edge_chains.specs.Jump.{net_difference}
use Rattle.fabric_core.specs.declared.city.CityFault.{CityFault}
use Rattle.fabric_core.specs.declared.city.CityFault.TheVariants.{Ring as CityRing, Folded, NoMemory as CityMemory}
use Rattle.fabric_core.specs.declared.layer.LoadFault.{LoadFault}
use Rattle.fabric_core.specs.declared.layer.LoadFault.TheVariants.{TooMany, Ring, Gap, NoMemory}
use Rattle.fabric_core.specs.declared.all_faults.AllFaults.{AllFaults}
use Rattle.fabric_core.specs.declared.all_faults.AllFaults.TheVariants.{Rings, Gaps}
use Rattle.fabric_core.specs.declared.all_faults.Asked.{Asked}
use Rattle.fabric_core.specs.declared.all_faults.LoadRefusal.{LoadRefusal}
use Rattle.fabric_core.specs.Tiling.{corner_lists}
use Rattle.fabric_core.specs.Rows.{AreRefined}
use Rattle.fabric_core.specs.Limits.{AreWithinLimits, IsFirstTooMany}

-- the ring is folded over itself: of the triangles that it is clipped to, i and j are the first two that overlap
abbrev pub IsFolded : List Corner → ℕ → ℕ → Type 0
IsFolded ring i j = (ts : List Tri) × IsClippedTo ring ts × IsFirstOverlap ts i j

-- the fault is the one of a city's ring: it is not simple, or it is and is folded
abbrev pub IsCityFault : List Corner → CityFault → Type 0
IsCityFault ring (CityRing fault) = IsRingFault ring fault
IsCityFault ring (Folded i j) = IsSimpleRing ring × IsFolded ring i j
IsCityFault ring CityMemory = ⊥

-- every row is a simple ring
abbrev pub AreSimple : List NumberedRing → Type 0
AreSimple rows = AllByRecursion (λ row. IsSimpleRing row.corners) rows

-- the first row that is no simple ring has this number and this fault
pub record IsFirstFaulty (rows : List NumberedRing) (number : ℕ) (fault : RingFault) : Type 0 where
  pub before : List NumberedRing
  pub row : NumberedRing
  pub behind : List NumberedRing
  pub are_all : rows ≡ before ++ row ∷ behind
  pub has_number : row.number ≡ number
  pub is_fault : IsRingFault row.corners fault
  pub simple_before : AreSimple before

-- the edge from a to b, a before b, is not as often in the rings as in the refined city: `net` is how much oftener,
-- each counted less the edge back
pub record IsGap (rows : List NumberedRing) (refined : List Corner) (a b : Corner) (net : ℤ) : Type 0 where
  pub in_order : IsTrue (is_before a b)
  pub is_net : net_difference (corner_lists rows) (refined ∷ []) a b ≡ net
  pub is_unbalanced : net ≢ pos 0

-- it is the least such edge, by a and then by b
pub record IsFirstGap (rows : List NumberedRing) (refined : List Corner) (a b : Corner) (net : ℤ) : Type 0 where
  pub is_gap : IsGap rows refined a b net
  pub is_least : (c d : Corner) (n : ℤ) → IsGap rows refined c d n → ¬ IsTrue (is_edge_before (c, d) (a, b))

-- a row with this number is no simple ring, and has this fault
pub record IsFaulty (rows : List NumberedRing) (number : ℕ) (fault : RingFault) : Type 0 where
  pub row : NumberedRing
  pub is_row : Contains rows row
  pub has_number : row.number ≡ number
  pub is_fault : IsRingFault row.corners fault

-- all rows that are no simple rings, with their faults, by ascending number, each once
pub record AreRingFaults (rows : List NumberedRing) (faults : List (ℕ × RingFault)) : Type 0 where
  pub ascend : IsStrictlyIncreasing (map (λ told. told.0) faults)
  pub exactly : (number : ℕ) (fault : RingFault) → Contains faults (number, fault) ↔ IsFaulty rows number fault

-- all gaps, by a and then by b, each once
pub record AreGaps (rows : List NumberedRing) (refined : List Corner) (gaps : List (Corner × Corner × ℤ)) : Type 0 where
  pub ascend : AreInEdgeOrder gaps
  pub exactly : (a b : Corner) (net : ℤ) → Contains gaps (a, b, net) ↔ IsGap rows refined a b net

-- the fault is the first of the rows and the refined ring: limits before rings, and rings before gaps
abbrev pub IsFirstFault : List NumberedRing → List Corner → LoadFault → Type 0
IsFirstFault rows refined (TooMany number) = IsFirstTooMany rows number
IsFirstFault rows refined (Ring number fault) = AreWithinLimits rows × IsFirstFaulty rows number fault
IsFirstFault rows refined (Gap a b net) = AreWithinLimits rows × AreSimple rows × IsFirstGap rows refined a b net
IsFirstFault rows refined NoMemory = ⊥

-- the fault is the first of the layer of these records in this city
pub record IsLoadFault (records : List NumberedRing) (city : List Corner) (fault : LoadFault) : Type 0 where
  pub rows : List NumberedRing
  pub refined : List Corner
  pub are_refined : AreRefined records city rows refined
  pub is_first : IsFirstFault rows refined fault

-- these are all faults of the first fault's kind, and begin with the first; of limits there is no list
abbrev pub AreAllFaults : {A : Type 0} → List NumberedRing → List Corner → LoadFault → Option (AllFaults A) → Type 0
AreAllFaults rows refined (TooMany number) all = all ≡ None
AreAllFaults {A} rows refined (Ring number fault) all = (faults : Vec (ℕ × RingFault) A) × (rest : List (ℕ × RingFault))
    × (all ≡ Some (Rings faults)) × (faults.items ≡ (number, fault) ∷ rest) × AreRingFaults rows faults.items
AreAllFaults {A} rows refined (Gap a b net) all =
    (gaps : Vec (Corner × Corner × ℤ) A) × (rest : List (Corner × Corner × ℤ))
    × (all ≡ Some (Gaps gaps)) × (gaps.items ≡ (a, b, net) ∷ rest) × AreGaps rows refined gaps.items
AreAllFaults rows refined NoMemory all = all ≡ None

-- what is asked for beside the first fault: nothing, or all faults of its kind
abbrev pub AreAsked : {A : Type 0} → Asked → List NumberedRing → List Corner → LoadFault → Option (AllFaults A) → Type 0
AreAsked Asked.First rows refined first all = all ≡ None
AreAsked Asked.All rows refined first all = AreAllFaults rows refined first all

-- the refusal of the layer of these records in this city: its first fault, and what is asked for beside it
pub record IsLoadRefusal {A : Type 0} (asked : Asked) (records : List NumberedRing) (city : List Corner)
    (refusal : LoadRefusal A) : Type 0 where
  pub rows : List NumberedRing
  pub refined : List Corner
  pub are_refined : AreRefined records city rows refined
  pub is_first : IsFirstFault rows refined refusal.first
  pub are_asked : AreAsked asked rows refined refusal.first refusal.all

-- want of memory, which tells nothing of the layer
abbrev pub IsOutOfMemory : {A : Type 0} → LoadRefusal A → Type 0
IsOutOfMemory refusal = (refusal.first ≡ NoMemory) × (refusal.all ≡ None)
