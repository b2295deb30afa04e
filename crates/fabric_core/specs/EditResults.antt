-- What an accepted edit makes of a fabric, and which journals are lawful (this product's own;
-- what it makes of rings is ring_edits').
use Rattle.std.specs.Prelude.{◌≡◌, ◌≢◌, ⊤, ℕ, ◌+◌, ◌≤◌, List, [], ◌∷◌, map, length}
use Rattle.std.specs.List.{AllByRecursion, Contains, filter}
use Rattle.geo_exact.specs.declared.corner.Corner.{Corner}
use Rattle.geo_exact.specs.declared.limits.TheConstants.{LAYER_RECORDS}
use Rattle.geo_exact.specs.Layers.{NumberedRing, numbered}
use Rattle.geo_exact.specs.Segments.{IsStrictlyInside}
use Rattle.ring_edits.specs.declared.edit.Edit.{Edit}
use Rattle.ring_edits.specs.declared.edit.Edit.TheVariants.{Split, Merge, Move, Insert, Straighten}
use Rattle.ring_edits.specs.Edits.{IsSplit, IsMerge, IsMove, has_edge_between, with_corner}
use Rattle.ring_edits.specs.Edits.{has_corner, straightened, BendsAt}
use Rattle.fabric_core.specs.declared.journal.TheConstants.{JOURNAL_ENTRIES}
use Rattle.fabric_core.specs.Rows.{numbers}
use Rattle.fabric_core.specs.Limits.{AreWithinLimits}
use Rattle.fabric_core.specs.Faults.{AreSimple}
use Rattle.fabric_core.specs.Journal.{State, JournalEntry, Book, after_entry}

-- a parcel is cut in two along a path: left of it is the next id's, right of it that after the next
pub record IsSplitOf (state : State) (id : ℕ) (path : List Corner) (out : List ℕ)
    (rows : List NumberedRing) : Type 0 where
  pub ring : List Corner
  pub has : Contains state.rows (numbered id ring)
  pub left : List Corner
  pub right : List Corner
  pub is_split : IsSplit ring path left right
  pub out_is : out ≡ id ∷ []
  pub rows_are : rows ≡ numbered state.next left ∷ numbered (state.next + 1) right ∷ []

-- two neighbours become one parcel
pub record IsMergeOf (state : State) (a b : ℕ) (out : List ℕ) (rows : List NumberedRing) : Type 0 where
  pub ring_a : List Corner
  pub has_a : Contains state.rows (numbered a ring_a)
  pub ring_b : List Corner
  pub has_b : Contains state.rows (numbered b ring_b)
  pub ring : List Corner
  pub is_merge : IsMerge ring_a ring_b ring
  pub out_are : out ≡ a ∷ b ∷ []
  pub rows_are : rows ≡ numbered state.next ring ∷ []

-- the border of two neighbours is moved to a path
pub record IsMoveOf (state : State) (a b : ℕ) (path : List Corner) (out : List ℕ)
    (rows : List NumberedRing) : Type 0 where
  pub ring_a : List Corner
  pub has_a : Contains state.rows (numbered a ring_a)
  pub ring_b : List Corner
  pub has_b : Contains state.rows (numbered b ring_b)
  pub new_a : List Corner
  pub new_b : List Corner
  pub is_move : IsMove ring_a ring_b path new_a new_b
  pub out_are : out ≡ a ∷ b ∷ []
  pub rows_are : rows ≡ numbered state.next new_a ∷ numbered (state.next + 1) new_b ∷ []

-- the rows that have the edge between two corners, in either direction
abbrev pub rows_with_edge : Corner → Corner → List NumberedRing → List NumberedRing
rows_with_edge from to rows = filter (λ row. has_edge_between from to row.corners) rows

-- a corner is put into each parcel's edge between two others; each parcel keeps its id
pub record IsInsertOf (state : State) (from to at : Corner) (out : List ℕ) (rows : List NumberedRing) : Type 0 where
  pub two_ends : from ≢ to
  pub some : rows_with_edge from to state.rows ≢ []
  pub is_between : IsStrictlyInside at from to
  pub rows_are : rows
      ≡ map (λ row. numbered row.number (with_corner from to at row.corners)) (rows_with_edge from to state.rows)
  pub out_are : out ≡ numbers rows

-- the rows whose rings have the corner
abbrev pub rows_at_corner : Corner → List NumberedRing → List NumberedRing
rows_at_corner at rows = filter (λ row. has_corner at row.corners) rows

-- a corner goes out of each ring that has it; no ring bends there, nor the city's refined one; parcels keep their ids
pub record IsStraightenOf (state : State) (at : Corner) (out : List ℕ) (rows : List NumberedRing) : Type 0 where
  pub some : rows_at_corner at state.rows ≢ []
  pub straight : AllByRecursion (λ row. ¬ BendsAt at row.corners) state.rows
  pub city_straight : ¬ BendsAt at state.refined
  pub rows_are : rows ≡ map (λ row. numbered row.number (straightened at row.corners)) (rows_at_corner at state.rows)
  pub out_are : out ≡ numbers rows

-- what an edit takes out and brings, by its five cases
abbrev pub IsChange : {A : Type 0} → State → Edit A → List ℕ → List NumberedRing → Type 0
IsChange state (Split id path) out rows = IsSplitOf state id path out rows
IsChange state (Merge a b) out rows = IsMergeOf state a b out rows
IsChange state (Move a b path) out rows = IsMoveOf state a b path out rows
IsChange state (Insert from to at) out rows = IsInsertOf state from to at out rows
IsChange state (Straighten at) out rows = IsStraightenOf state at out rows

-- rows within the limits of a layer, also in their number
pub record AreWithinLayerLimits (rows : List NumberedRing) : Type 0 where
  pub corners : AreWithinLimits rows
  pub number : length rows ≤ LAYER_RECORDS

-- the entry is its edit's on the state: it has room in a journal, and the edit's change; rings are simple, limits kept
pub record IsEntryOf {A : Type 0} (state : State) (entry : JournalEntry A) : Type 0 where
  pub has_place : entry.number ≤ JOURNAL_ENTRIES
  pub is_change : IsChange state entry.edit entry.out entry.rows
  pub are_simple : AreSimple entry.rows
  pub within : AreWithinLayerLimits (after_entry state entry).rows

-- entries from this number on at this state, in turn, each its edit's on the state that those before it lead to
abbrev pub AreLawfulFrom : {A : Type 0} → State → ℕ → List (JournalEntry A) → Type 0
AreLawfulFrom state number [] = ⊤
AreLawfulFrom state number (entry ∷ rest) =
    (entry.number ≡ number) × IsEntryOf state entry × AreLawfulFrom (after_entry state entry) (number + 1) rest

-- a lawful journal on an opening
abbrev pub IsLawful : {A : Type 0} → State → List (JournalEntry A) → Type 0
IsLawful opening entries = AreLawfulFrom opening 1 entries

-- the entry is the next of a fabric's journal: it has the next number, and is that of its edit on what is now
pub record IsDue {A : Type 0} (book : Book A) (entry : JournalEntry A) : Type 0 where
  pub has_number : entry.number ≡ length book.journal + 1
  pub is_entry : IsEntryOf book.now entry
