-- What the single steps of an edit answer. Public contracts do not speak of it.
use Rattle.std.specs.Prelude.{◌≡◌, ◌≢◌, ◌⊎◌, ◌↔◌, ⊤, ℕ, ◌+◌, ◌≤◌, List, [], map, length, Some, MatchOption}
use Rattle.std.specs.List.{AllByRecursion, Contains}
use Rattle.geo_exact.specs.declared.corner.Corner.{Corner}
use Rattle.geo_exact.specs.declared.limits.TheConstants.{LAYER_CORNERS, LAYER_RECORDS, RING_CORNERS}
use Rattle.geo_exact.specs.Layers.{NumberedRing, corner_count, numbered}
use Rattle.geo_exact.specs.Segments.{IsStrictlyInside}
use Rattle.ring_core.specs.declared.shape.Shape.{Shape}
use Rattle.ring_core.specs.declared.ring.RingFault.{RingFault}
use Rattle.ring_edits.specs.declared.fault.EditFault.{EditFault}
use Rattle.ring_edits.specs.declared.fault.EditFault.TheVariants.{BadPath as NoPath, NotNeighbours as NoBorder}
use Rattle.ring_edits.specs.declared.fault.EditFault.TheVariants.{SharedTwice as TwoBorders, NoMemory as NoRoom}
use Rattle.fabric_core.specs.declared.refusal.Refusal.{Refusal}
use Rattle.fabric_core.specs.declared.refusal.Refusal.TheVariants.{Unknown, Retired, BadPath, NotNeighbours}
use Rattle.fabric_core.specs.declared.refusal.Refusal.TheVariants.{SharedTwice, NoSuchEdge, NotOnEdge, NoSuchCorner}
use Rattle.fabric_core.specs.declared.refusal.Refusal.TheVariants.{Ring, NoMemory}
use Rattle.fabric_core.specs.Rows.{numbers}
use Rattle.ring_edits.specs.declared.edit.Edit.{Edit}
use Rattle.ring_edits.specs.declared.edit.Edit.TheVariants.{Split, Merge, Move, Insert, Straighten}
use Rattle.ring_edits.specs.Edits.{IsPathAcross, IsBorderPath, ShareOneRun}
use Rattle.fabric_core.specs.EditResults.{IsChange, rows_at_corner, rows_with_edge}
use Rattle.fabric_core.specs.Journal.{State, JournalEntry, after_entry}
use Rattle.fabric_core.specs.Refusals.{AreParcels, IsFirstAbsent, IsFirstBadRing, IsOwnRefusal, IsChangeRefusal}
use Rattle.fabric_core.specs.Refusals.{Retires, named_ids, HaveBorderFault, HasNoEdge, IsBadMovePath, IsBent}
use Rattle.fabric_core.specs.own.Kept.{Kept, gone_by}

-- the state of what is kept
abbrev pub state_of : Kept → State
state_of kept = record { rows = kept.rows; refined = kept.refined; next = kept.next }

-- the refusal tells what has become of an id that is no parcel's
abbrev pub IsTold : Kept → ℕ → Refusal → Type 0
IsTold kept id refusal = MatchOption (gone_by kept id) (refusal ≡ Unknown id) (λ by. refusal ≡ Retired id by)

-- the id is no parcel's, and the refusal tells what has become of it
abbrev pub IsGone : Kept → ℕ → Refusal → Type 0
IsGone kept id refusal = (¬ Contains (numbers kept.rows) id) × IsTold kept id refusal

-- the refusal tells of the first of these ids that is no parcel's
abbrev pub IsFirstTold : Kept → List ℕ → Refusal → Type 0
IsFirstTold kept ids refusal = (id : ℕ) × IsFirstAbsent kept.rows ids id × IsGone kept id refusal

-- why an edit that names these ids makes no change: no memory, an id that is no parcel's, or what it asks for itself
abbrev pub IsStopped : Kept → List ℕ → Type 0 → Refusal → Type 0
IsStopped kept ids own refusal = (refusal ≡ NoMemory) ⊎ IsFirstTold kept ids refusal ⊎ (AreParcels kept.rows ids × own)

-- the refusal for two parcels that have no border
abbrev pub IsBorderRefusal : State → ℕ → ℕ → Refusal → Type 0
IsBorderRefusal state a b refusal =
    ((refusal ≡ NotNeighbours) × HaveBorderFault state a b NoBorder)
    ⊎ ((refusal ≡ SharedTwice) × HaveBorderFault state a b TwoBorders)

-- or whose border the path does not replace
abbrev pub IsMoveRefusal : State → ℕ → ℕ → List Corner → Refusal → Type 0
IsMoveRefusal state a b path refusal =
    ((refusal ≡ NotNeighbours) × HaveBorderFault state a b NoBorder)
    ⊎ ((refusal ≡ SharedTwice) × HaveBorderFault state a b TwoBorders)
    ⊎ ((refusal ≡ BadPath) × IsBadMovePath state a b path)

-- the refusal for a corner that is put into no edge
abbrev pub IsInsertRefusal : State → Corner → Corner → Corner → Refusal → Type 0
IsInsertRefusal state from to at refusal =
    ((refusal ≡ NoSuchEdge) × HasNoEdge state from to)
    ⊎ ((refusal ≡ NotOnEdge) × (¬ HasNoEdge state from to) × (¬ IsStrictlyInside at from to))

-- the refusal for a corner that is taken out of no ring
abbrev pub IsStraightenRefusal : State → Corner → Refusal → Type 0
IsStraightenRefusal state at refusal =
    ((refusal ≡ NoSuchCorner) × (rows_at_corner at state.rows ≡ []))
    ⊎ ((rows_at_corner at state.rows ≢ []) × IsBent state at refusal)

-- the refusal of an edit that makes no rings
abbrev pub refusal_of : EditFault → Refusal
refusal_of NoPath = BadPath
refusal_of NoBorder = NotNeighbours
refusal_of TwoBorders = SharedTwice
refusal_of NoRoom = NoMemory

-- the refusal is that of the first of the rows that is no simple ring
abbrev pub IsRingRefusal : List NumberedRing → Refusal → Type 0
IsRingRefusal rows refusal =
    (which : ℕ) × (fault : RingFault) × IsFirstBadRing rows which fault × (refusal ≡ Ring which fault)

-- the rings of shapes
abbrev pub rings_of_shapes : {A : Type 0} → List (Shape A) → List (List Corner)
rings_of_shapes shapes = map (λ shape. shape.ring.corners) shapes

-- the rows keep to the limits of a layer, together with so many corners and rows of others
pub record AddWithin (corners rows : ℕ) (news : List NumberedRing) : Type 0 where
  pub each : AllByRecursion (λ row. length row.corners ≤ RING_CORNERS) news
  pub together : corners + corner_count news ≤ LAYER_CORNERS
  pub number : rows + length news ≤ LAYER_RECORDS

-- why an edit makes no draft: an id that is no parcel's, what the edit asks for
-- itself, or limits and rings of what it makes
abbrev pub IsDraftRefusal : {A : Type 0} → Kept → Edit A → Refusal → Type 0
IsDraftRefusal kept edit refusal =
    IsFirstTold kept (named_ids edit) refusal
    ⊎ (AreParcels kept.rows (named_ids edit) × (IsOwnRefusal (state_of kept) edit refusal
    ⊎ ((out : List ℕ) × (rows : List NumberedRing) × IsChange (state_of kept) edit out rows
    × IsChangeRefusal (state_of kept) out rows refusal)))

-- the edit cuts this parcel
pub record IsSplitEdit {A : Type 0} (edit : Edit A) (id : ℕ) : Type 0 where
  pub path : List Corner
  pub is : edit ≡ Split id path

-- the edit moves the border of these two
pub record IsMoveEdit {A : Type 0} (edit : Edit A) (a b : ℕ) : Type 0 where
  pub path : List Corner
  pub is : edit ≡ Move a b path

-- the entry was made of the old parcels: the new ones are those after it, and it is known which ids went by it
pub record IsMade {A : Type 0} (old new : Kept) (entry : JournalEntry A) : Type 0 where
  pub state : state_of new ≡ after_entry (state_of old) entry
  pub city : new.city ≡ old.city
  pub gone : (id by : ℕ) → (gone_by new id ≡ Some by)
      ↔ ((gone_by old id ≡ Some by) ⊎ (Retires entry id × (entry.number ≡ by)))

-- what is so of an edit that is refused where memory runs out: the ids that it names are parcels', its path and
-- border are such that nothing refuses them, and some parcel has its edge or its corner
abbrev pub AsksMemory : {A : Type 0} → State → Edit A → Type 0
AsksMemory state (Split id path) =
    (ring : List Corner) × Contains state.rows (numbered id ring) × IsPathAcross ring path
AsksMemory state (Merge a b) =
    (ring_a : List Corner) × (ring_b : List Corner) × Contains state.rows (numbered a ring_a)
    × Contains state.rows (numbered b ring_b)
    × ShareOneRun ring_a ring_b
AsksMemory state (Move a b path) =
    (ring_a : List Corner) × (ring_b : List Corner) × Contains state.rows (numbered a ring_a)
    × Contains state.rows (numbered b ring_b)
    × IsBorderPath ring_a ring_b path
AsksMemory state (Insert from to at) = (from ≢ to) × (rows_with_edge from to state.rows ≢ [])
AsksMemory state (Straighten at) = rows_at_corner at state.rows ≢ []
