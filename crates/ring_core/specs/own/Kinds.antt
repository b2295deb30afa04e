-- What the code of the clipping remembers of each corner that is left: flat, bent (neither flat nor a left turn), or a
-- left turn, and then the number of another corner in its closed triangle, once one was found there. Public contracts
-- do not speak of it.
use Rattle.std.specs.Prelude.{◌≡◌, ◌≢◌, ◌⊎◌, ℕ, ◌+◌, ◌<◌, ◌≤◌, pos, ◌<ℤ◌}
use Rattle.std.specs.Prelude.{if◌then◌else◌, nat_lt, List, length}
use Rattle.std.specs.Prelude.{slice_index_or}
use Rattle.std.specs.List.{remove}
use Rattle.std.specs.List.Sorted.{IsNonDecreasing}
use Rattle.geo_exact.specs.declared.corner.Corner.{Corner}
use Rattle.geo_exact.specs.Turn.{turn}
use Rattle.ring_core.specs.declared.kind.Kind.{Kind}
use Rattle.ring_core.specs.declared.marks.Reach.{Reach}
use Rattle.ring_core.specs.declared.seen.Seen.{Seen}
use Rattle.ring_core.specs.declared.kind.Kind.TheVariants.{Flat, Bent, Candidate, Blocked}
use Rattle.geo_exact.specs.Places.{corner_at}
use Rattle.ring_core.specs.Clipping.{previous, next, IsFlat, Blocks}

-- corner k turns to the left
abbrev pub TurnsLeft : List Corner → ℕ → Type 0
TurnsLeft rest k = pos 0 <ℤ turn (previous rest k) (corner_at rest k) (next rest k)

-- a corner of the rest has the number, and lies in the closed triangle of corner k, as another than its three
abbrev pub IsWitness : List Corner → List ℕ → ℕ → ℕ → Type 0
IsWitness rest numbers k number = (j : ℕ) × (j < length rest) × (slice_index_or numbers j 0 ≡ number) × Blocks rest k j

-- the kind is that of corner k
abbrev pub IsKind : List Corner → List ℕ → ℕ → Kind → Type 0
IsKind rest numbers k Flat = IsFlat rest k
IsKind rest numbers k Bent = (¬ IsFlat rest k) × (¬ TurnsLeft rest k)
IsKind rest numbers k Candidate = TurnsLeft rest k
IsKind rest numbers k (Blocked number) = TurnsLeft rest k × IsWitness rest numbers k number

-- the kinds are those of the corners, in order
pub record AreKinds (rest : List Corner) (numbers : List ℕ) (kinds : List Kind) : Type 0 where
  pub same_length : length kinds ≡ length rest
  pub each : (k : ℕ) → k < length rest → IsKind rest numbers k (slice_index_or kinds k Flat)

-- the number is in the reach
pub record IsInReach (number : ℕ) (reach : Reach) : Type 0 where
  pub from : reach.first ≤ number
  pub to : number ≤ reach.last

-- the reach of all numbers
abbrev pub everywhere : Reach
everywhere = record { first = 0; last = 65535 }

-- the witness's mark tells of the corner with the number; where it has no mark, that may be any corner
abbrev pub IsMarked : List Reach → ℕ → ℕ → Type 0
IsMarked marks witness number = IsInReach number (slice_index_or marks witness everywhere)

-- the mark of each witness tells of the corners whose witness it is
abbrev pub AreMarked : List Kind → List ℕ → List Reach → Type 0
AreMarked kinds numbers marks = (j witness : ℕ) → j < length kinds → slice_index_or kinds j Flat ≡ Blocked witness
    → IsMarked marks witness (slice_index_or numbers j 0)

-- no corner has a witness, so any marks are right
abbrev pub NeedNoMark : List Kind → Type 0
NeedNoMark kinds = (numbers : List ℕ) (marks : List Reach) → AreMarked kinds numbers marks

-- marks that were right are right still
abbrev pub KeepsMarks : List Kind → List Kind → Type 0
KeepsMarks old new = (numbers : List ℕ) (marks : List Reach) → AreMarked old numbers marks → AreMarked new numbers marks

-- the kinds were looked through so far
pub record AreSeen (kinds : List Kind) (seen : Seen) : Type 0 where
  pub flats : (j : ℕ) → j < seen.flats → j < length kinds → slice_index_or kinds j Flat ≢ Flat
  pub candidates : (j : ℕ) → j < seen.candidates → j < length kinds → slice_index_or kinds j Flat ≢ Candidate

-- the first places of each of the lists are free
pub record HaveFree (start : ℕ) (corners : List Corner) (numbers : List ℕ) (kinds : List Kind) : Type 0 where
  pub in_corners : start ≤ length corners
  pub in_numbers : start ≤ length numbers
  pub in_kinds : start ≤ length kinds

-- what is kept beside the corners is right
pub record AreKept (rest : List Corner) (numbers : List ℕ) (kinds : List Kind) (marks : List Reach)
    (seen : Seen) : Type 0 where
  pub as_many : length numbers ≡ length rest
  pub ascend : IsNonDecreasing numbers
  pub are : AreKinds rest numbers kinds
  pub marked : AreMarked kinds numbers marks
  pub seen_so_far : AreSeen kinds seen

-- the second kind is what is left of the first once the corner with the number is nobody's witness
abbrev pub IsReleased : ℕ → Kind → Kind → Type 0
IsReleased gone was is = ((is ≡ was) × (was ≢ Blocked gone)) ⊎ ((is ≡ Candidate) × (was ≡ Blocked gone))

-- the number that corner j had before corner k was taken out
abbrev pub number_before : ℕ → ℕ → ℕ
number_before k j = if nat_lt j k then j else j + 1

-- corner j of the m that are left was a neighbour of the corner that was taken out at k
abbrev pub WasBeside : ℕ → ℕ → ℕ → Type 0
WasBeside m k j = (j + 1 ≡ k) ⊎ (j ≡ k) ⊎ ((k ≡ 0) × (j + 1 ≡ m)) ⊎ ((k ≡ m) × (j ≡ 0))

-- the rest is the whole without corner k, whose number was `gone`, and the numbers are left without it
pub record IsTakenOut (whole : List Corner) (numbers : List ℕ) (k gone : ℕ) (rest : List Corner)
    (left : List ℕ) : Type 0 where
  pub below : k < length whole
  pub as_many : length numbers ≡ length whole
  pub is_rest : rest ≡ remove whole k
  pub is_left : left ≡ remove numbers k
  pub is_gone : gone ≡ slice_index_or numbers k 0

-- where corner k was taken out of any ring, and the kinds of the others were right in
-- it, the new kinds are right in the rest
abbrev pub AreKindsOnceOut : ℕ → ℕ → List Corner → List ℕ → List Kind → List Kind → Type 0
AreKindsOnceOut k gone rest left old new =
    (whole : List Corner) (numbers : List ℕ) → IsTakenOut whole numbers k gone rest left
    → ((j : ℕ) → j < length rest → IsKind whole numbers (number_before k j) (slice_index_or old j Flat))
    → AreKinds rest left new
