-- Why an edit is refused: the first reason that applies, in this order (this product's own): the journal is full; an
-- id that it names is no parcel's; what the edit itself asks of paths, borders, edges and corners; the limits of a
-- layer; a new ring that is not simple.
use Rattle.std.specs.Prelude.{◌≡◌, ◌≢◌, ◌⊎◌, ⊤, ℕ, ◌+◌, ◌<◌, ◌≤◌, List, [], ◌∷◌, ◌++◌, length}
use Rattle.std.specs.List.{AllByRecursion, Contains}
use Rattle.geo_exact.specs.declared.corner.Corner.{Corner}
use Rattle.geo_exact.specs.Layers.{NumberedRing, numbered}
use Rattle.geo_exact.specs.Segments.{IsStrictlyInside}
use Rattle.ring_core.specs.declared.ring.RingFault.{RingFault}
use Rattle.ring_core.specs.Faults.{IsRingFault}
use Rattle.ring_edits.specs.declared.edit.Edit.{Edit}
use Rattle.ring_edits.specs.declared.edit.Edit.TheVariants.{Split, Merge, Move, Insert, Straighten}
use Rattle.ring_edits.specs.declared.fault.EditFault.{EditFault}
use Rattle.ring_edits.specs.declared.fault.EditFault.TheVariants.{NotNeighbours as NoBorder, SharedTwice as TwoBorders}
use Rattle.ring_edits.specs.Edits.{IsPathAcross, IsBorderFault, IsBadBorder, BendsAt}
use Rattle.fabric_core.specs.declared.journal.TheConstants.{JOURNAL_ENTRIES}
use Rattle.fabric_core.specs.declared.refusal.Refusal.{Refusal}
use Rattle.fabric_core.specs.declared.refusal.Refusal.TheVariants.{Unknown, Retired, BadPath, NotNeighbours}
use Rattle.fabric_core.specs.declared.refusal.Refusal.TheVariants.{SharedTwice, Ring, NoSuchEdge, NotOnEdge}
use Rattle.fabric_core.specs.declared.refusal.Refusal.TheVariants.{JournalFull, TooMany, NoSuchCorner, NotFlat}
use Rattle.fabric_core.specs.Rows.{numbers}
use Rattle.fabric_core.specs.Faults.{AreSimple}
use Rattle.fabric_core.specs.Journal.{State, JournalEntry, with_rows, without_ids}
use Rattle.fabric_core.specs.EditResults.{IsChange, AreWithinLayerLimits, rows_with_edge, rows_at_corner}

-- the entry takes the id out for good
pub record Retires {A : Type 0} (entry : JournalEntry A) (id : ℕ) : Type 0 where
  pub is_out : Contains entry.out id
  pub is_not_back : ¬ Contains (numbers entry.rows) id

-- the id was retired by the entry with this number
pub record IsRetiredBy {A : Type 0} (journal : List (JournalEntry A)) (id by : ℕ) : Type 0 where
  pub entry : JournalEntry A
  pub is_entry : Contains journal entry
  pub has_number : entry.number ≡ by
  pub retires : Retires entry id

-- the ids that an edit names, in its order
abbrev pub named_ids : {A : Type 0} → Edit A → List ℕ
named_ids (Split id path) = id ∷ []
named_ids (Merge a b) = a ∷ b ∷ []
named_ids (Move a b path) = a ∷ b ∷ []
named_ids (Insert from to at) = []
named_ids (Straighten at) = []

-- all ids are those of parcels
abbrev pub AreParcels : List NumberedRing → List ℕ → Type 0
AreParcels rows [] = ⊤
AreParcels rows (id ∷ rest) = Contains (numbers rows) id × AreParcels rows rest

-- the first of the ids that is no parcel's is this one
pub record IsFirstAbsent (rows : List NumberedRing) (ids : List ℕ) (id : ℕ) : Type 0 where
  pub before : List ℕ
  pub behind : List ℕ
  pub are_all : ids ≡ before ++ id ∷ behind
  pub are_here : AreParcels rows before
  pub is_gone : ¬ Contains (numbers rows) id

-- a path that does not go from one corner of the parcel to another
abbrev pub IsBadCutPath : State → ℕ → List Corner → Type 0
IsBadCutPath state id path = (ring : List Corner) × Contains state.rows (numbered id ring) × (¬ IsPathAcross ring path)

-- two parcels have no border that an edit can take, for this reason
abbrev pub HaveBorderFault : State → ℕ → ℕ → EditFault → Type 0
HaveBorderFault state a b fault =
    (ring_a : List Corner) × (ring_b : List Corner) × Contains state.rows (numbered a ring_a)
    × Contains state.rows (numbered b ring_b)
    × IsBorderFault ring_a ring_b fault

-- a path that does not go from where the border of two parcels begins to where it ends
abbrev pub IsBadMovePath : State → ℕ → ℕ → List Corner → Type 0
IsBadMovePath state a b path =
    (ring_a : List Corner) × (ring_b : List Corner) × Contains state.rows (numbered a ring_a)
    × Contains state.rows (numbered b ring_b)
    × IsBadBorder ring_a ring_b path

-- no parcel has the edge between two corners
abbrev pub HasNoEdge : State → Corner → Corner → Type 0
HasNoEdge state from to = (from ≡ to) ⊎ (rows_with_edge from to state.rows ≡ [])

-- the first of the rows that bends at the corner, and so the one with the least id, has this id
pub record IsFirstBent (rows : List NumberedRing) (at : Corner) (id : ℕ) : Type 0 where
  pub before : List NumberedRing
  pub row : NumberedRing
  pub behind : List NumberedRing
  pub are_all : rows ≡ before ++ row ∷ behind
  pub has_id : row.number ≡ id
  pub bends : BendsAt at row.corners
  pub straight_before : AllByRecursion (λ other. ¬ BendsAt at other.corners) before

-- no parcel's ring bends at the corner, but the city's refined ring does
abbrev pub IsCityBent : State → Corner → Type 0
IsCityBent state at = AllByRecursion (λ row. ¬ BendsAt at row.corners) state.rows × BendsAt at state.refined

-- a ring bends at the corner: the least parcel's, by its id, or the city's alone, which is told by 0
abbrev pub IsBent : State → Corner → Refusal → Type 0
IsBent state at refusal =
    ((id : ℕ) × (refusal ≡ NotFlat id) × IsFirstBent state.rows at id)
    ⊎ ((refusal ≡ NotFlat 0) × IsCityBent state at)

-- what the edit asks for itself, of paths, borders, edges and corners, is not so; it is looked at only where all ids
-- that the edit names are parcels'
abbrev pub IsOwnRefusal : {A : Type 0} → State → Edit A → Refusal → Type 0
IsOwnRefusal state (Split id path) refusal = (refusal ≡ BadPath) × IsBadCutPath state id path
IsOwnRefusal state (Merge a b) refusal =
    ((refusal ≡ NotNeighbours) × HaveBorderFault state a b NoBorder)
    ⊎ ((refusal ≡ SharedTwice) × HaveBorderFault state a b TwoBorders)
IsOwnRefusal state (Move a b path) refusal =
    ((refusal ≡ NotNeighbours) × HaveBorderFault state a b NoBorder)
    ⊎ ((refusal ≡ SharedTwice) × HaveBorderFault state a b TwoBorders)
    ⊎ ((refusal ≡ BadPath) × IsBadMovePath state a b path)
IsOwnRefusal state (Insert from to at) refusal =
    ((refusal ≡ NoSuchEdge) × HasNoEdge state from to)
    ⊎ ((refusal ≡ NotOnEdge) × (¬ HasNoEdge state from to) × (¬ IsStrictlyInside at from to))
IsOwnRefusal state (Straighten at) refusal =
    ((refusal ≡ NoSuchCorner) × (rows_at_corner at state.rows ≡ []))
    ⊎ ((rows_at_corner at state.rows ≢ []) × IsBent state at refusal)

-- the first of the new rings that is not simple is this one, counted from 1, and has this fault
pub record IsFirstBadRing (rows : List NumberedRing) (which : ℕ) (fault : RingFault) : Type 0 where
  pub before : List NumberedRing
  pub row : NumberedRing
  pub behind : List NumberedRing
  pub are_all : rows ≡ before ++ row ∷ behind
  pub is_number : which ≡ length before + 1
  pub is_fault : IsRingFault row.corners fault
  pub simple_before : AreSimple before

-- the rows of a change pass a limit of the layer, or keep to all of them and one is not simple
abbrev pub IsChangeRefusal : State → List ℕ → List NumberedRing → Refusal → Type 0
IsChangeRefusal state out rows TooMany = ¬ AreWithinLayerLimits (with_rows rows (without_ids out state.rows))
IsChangeRefusal state out rows (Ring which fault) =
    AreWithinLayerLimits (with_rows rows (without_ids out state.rows)) × IsFirstBadRing rows which fault
IsChangeRefusal state out rows other = ⊥

-- a refusal for the ids that are named: the first that is no parcel's was never one's, or was retired by this entry
abbrev pub IsIdRefusal : {A : Type 0} → State → List (JournalEntry A) → Edit A → Refusal → Type 0
IsIdRefusal state journal edit (Unknown id) =
    IsFirstAbsent state.rows (named_ids edit) id × ((by : ℕ) → ¬ IsRetiredBy journal id by)
IsIdRefusal state journal edit (Retired id by) =
    IsFirstAbsent state.rows (named_ids edit) id × IsRetiredBy journal id by
IsIdRefusal state journal edit other = ⊥

-- the edit is refused for this reason, in the state that the journal has led to (the two go together: a state with
-- another's journal is none that a fabric has); want of memory is none of these
abbrev pub IsRefusal : {A : Type 0} → State → List (JournalEntry A) → Edit A → Refusal → Type 0
IsRefusal {A} state journal edit refusal =
    ((refusal ≡ JournalFull) × (JOURNAL_ENTRIES ≤ length journal))
    ⊎ ((length journal < JOURNAL_ENTRIES) × (IsIdRefusal state journal edit refusal
    ⊎ (AreParcels state.rows (named_ids edit) × (IsOwnRefusal state edit refusal
    ⊎ ((out : List ℕ) × (rows : List NumberedRing) × IsChange state edit out rows
    × IsChangeRefusal state out rows refusal)))))

-- a refusal that is told whatever memory there is: where one of these is due, memory cannot run out instead
abbrev pub NeedsNoMemory : Refusal → Type 0
NeedsNoMemory JournalFull = ⊤
NeedsNoMemory (Unknown id) = ⊤
NeedsNoMemory (Retired id by) = ⊤
NeedsNoMemory BadPath = ⊤
NeedsNoMemory NotNeighbours = ⊤
NeedsNoMemory SharedTwice = ⊤
NeedsNoMemory NoSuchEdge = ⊤
NeedsNoMemory NoSuchCorner = ⊤
NeedsNoMemory other = ⊥
