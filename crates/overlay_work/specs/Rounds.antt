-- A round of an overlay: the parcels of a sheet are dealt to hands in lists, and each hand finds the zones that its
-- parcels overlap (this product's own; which overlap is zone_tables').
use Rattle.std.specs.Prelude.{◌≡◌, ◌⊎◌, ◌↔◌, ℕ, zero, suc, ◌+◌, ◌<◌, List, [], ◌∷◌, ◌++◌, length, map}
use Rattle.std.specs.Prelude.{slice_index, slice_index_or}
use Rattle.std.specs.Prelude.{Option, Some, None, IsSome, IsPermutation}
use Rattle.std.specs.List.{AllByRecursion, Contains}
use Rattle.std.specs.List.Sorted.{IsStrictlyIncreasing}
use Rattle.geo_exact.specs.declared.corner.Corner.{Corner}
use Rattle.geo_exact.specs.declared.bounds.Bounds.{Bounds}
use Rattle.geo_exact.specs.Bounds.{IsLeastBox}
use Rattle.geo_exact.specs.Layers.{NumberedRing}
use Rattle.fabric_core.specs.GridIndex.{IsCandidate}
use Rattle.fabric_core.specs.Rows.{numbers}
use Rattle.overlay_claims.specs.declared.view.View.{View}
use Rattle.overlay_claims.specs.Claims.{times, places_of, IsClaimed}
use Rattle.overlay_claims.specs.Claimants.{Lists, Standing, ClaimsNext}
use Rattle.zone_tables.specs.Overlap.{Overlaps, AreInPairOrder}

-- What is to be done in a round: the lists whose places hands claim, which no other round has, and the ids that stand
-- at these places; the parcels' rows and the zones', the city that both tile, and how many entries the parcels'
-- journal has.
pub record Task : Type 0 where
  pub claims : Lists
  pub lists : List (List ℕ)
  pub rows : List NumberedRing
  pub zones : List NumberedRing
  pub city : List Corner
  pub entries : ℕ

-- What a hand shows: its round's task, its number, the places of the lists that it claimed, in order, the parcels that
-- it did, in order, the pairs that it kept, the parcel that it has claimed and not yet done, the lists that it found at
-- their end, and how many tests of a parcel and a zone it made.
pub record Progress : Type 0 where
  pub task : Task
  pub number : ℕ
  pub claimed : List (ℕ × ℕ)
  pub did : List ℕ
  pub kept : List (ℕ × ℕ)
  pub holds : Option ℕ
  pub ended : List ℕ
  pub tests : ℕ

-- a hand that has done nothing; and the first hands
abbrev pub fresh : Task → ℕ → Progress
fresh task number =
    record { task = task; number = number; claimed = []; did = []; kept = []; holds = None; ended = []; tests = 0 }

abbrev pub fresh_hands : Task → ℕ → List Progress
fresh_hands task zero = []
fresh_hands task (suc n) = fresh_hands task n ++ fresh task n ∷ []

-- the pairs are all those of this parcel and a zone that it overlaps, each once, ascending
pub record ArePairsOf (rows zones : List NumberedRing) (id : ℕ) (pairs : List (ℕ × ℕ)) : Type 0 where
  pub of_parcel : AllByRecursion (λ pair. pair.0 ≡ id) pairs
  pub ascend : AreInPairOrder pairs
  pub exactly : (zone : ℕ) → Contains pairs (id, zone) ↔ Overlaps rows zones id zone

-- the ids are the zones that are candidates for the parcel's box
pub record AreCandidatesFor (rows zones : List NumberedRing) (city : List Corner) (id : ℕ)
    (candidates : List ℕ) : Type 0 where
  pub parcel : NumberedRing
  pub is_row : Contains rows parcel
  pub has_id : parcel.number ≡ id
  pub box : Bounds
  pub is_its_box : IsLeastBox box parcel.corners
  pub ascend : IsStrictlyIncreasing candidates
  pub exactly : (zone : ℕ) → Contains candidates zone ↔ IsCandidate zones city box.low box.high zone

-- one list goes on from another
abbrev pub GoesOn : {X : Type 0} → List X → List X → Type 0
GoesOn {X = X} old new = (more : List X) × (new ≡ old ++ more)

-- each list was found at its end
abbrev pub HasAllEnds : Progress → Type 0
HasAllEnds hand = (list : ℕ) → list < length hand.task.lists → 0 < times list hand.ended

-- the id that stands at a place of the lists
abbrev pub id_at : List (List ℕ) → ℕ × ℕ → ℕ
id_at lists place = slice_index (slice_index_or lists place.0 []) place.1

-- what the hand shows of its claims
abbrev pub standing_of : Progress → Standing
standing_of hand = record { lists = hand.task.claims; number = hand.number; places = hand.claimed; ended = hand.ended }

-- the hand held this parcel, and claimed nothing more
pub record HeldParcel (old new : Progress) (id : ℕ) : Type 0 where
  pub held : old.holds ≡ Some id
  pub same_claims : new.claimed ≡ old.claimed
  pub same_ends : new.ended ≡ old.ended

-- the hand held nothing and has claimed this parcel, which stands at the next place in its order
pub record ClaimsParcel (old new : Progress) (id : ℕ) : Type 0 where
  pub held_nothing : old.holds ≡ None
  pub place : ℕ × ℕ
  pub claims : ClaimsNext (standing_of old) (standing_of new) place
  pub stands_there : id ≡ id_at old.task.lists place

-- the parcel is that which the hand held, or else one that it has claimed now
abbrev pub HasParcel : (old new : Progress) (id : ℕ) → Type 0
HasParcel old new id = HeldParcel old new id ⊎ ClaimsParcel old new id

-- The hand did this parcel, which it held or has claimed now: it kept all pairs of it, made a test for each candidate,
-- and holds nothing. It has not found all ends.
pub record DoesParcel (old new : Progress) (id : ℕ) : Type 0 where
  pub has_parcel : HasParcel old new id
  pub did : new.did ≡ old.did ++ id ∷ []
  pub pairs : List (ℕ × ℕ)
  pub are_pairs : ArePairsOf old.task.rows old.task.zones id pairs
  pub kept : new.kept ≡ old.kept ++ pairs
  pub candidates : List ℕ
  pub are_candidates : AreCandidatesFor old.task.rows old.task.zones old.task.city id candidates
  pub tests : new.tests ≡ old.tests + length candidates
  pub holds_nothing : new.holds ≡ None
  pub is_not_done : HasAllEnds new → ⊥

-- what the hand knows of the lists, as the rule of their words has it
abbrev pub known_by : Progress → View
known_by hand = record { lengths = hand.task.claims.lengths; parts = 1; places = hand.claimed; notes = hand.ended }

-- Whatever the words and what all hands know may be, where the rule of the words holds and this hand
-- is one of them: the ids at the places that they claimed are the parcels, each once. So each parcel
-- was claimed, by this hand or another.
abbrev pub AreAllClaimed : Progress → Type 0
AreAllClaimed hand = (words : List ℕ) (views : List View) → IsClaimed hand.task.claims.lengths words views
    → Contains views (known_by hand)
    → IsPermutation (map (id_at hand.task.lists) (places_of views)) (numbers hand.task.rows)

-- The hand holds nothing and has found each list at its end, so that all parcels are claimed; what it did before stays.
pub record IsDone (old new : Progress) : Type 0 where
  pub held_nothing : old.holds ≡ None
  pub holds_nothing : new.holds ≡ None
  pub all_ends : HasAllEnds new
  pub all_claimed : AreAllClaimed new
  pub same_claims : new.claimed ≡ old.claimed
  pub did : new.did ≡ old.did
  pub kept : new.kept ≡ old.kept
  pub tests : new.tests ≡ old.tests
  pub ends : GoesOn old.ended new.ended

-- The hand holds a parcel, which it held or has claimed now; what it did before stays. It has not found all ends.
pub record WaitsForMemory (old new : Progress) : Type 0 where
  pub parcel : ℕ
  pub has_parcel : HasParcel old new parcel
  pub holds : new.holds ≡ Some parcel
  pub did : new.did ≡ old.did
  pub kept : new.kept ≡ old.kept
  pub tests : new.tests ≡ old.tests
  pub is_not_done : HasAllEnds new → ⊥

-- the hand has come further, or stands where it stood: what it did and found before stays
pub record HasGoneOn (old new : Progress) : Type 0 where
  pub same_task : new.task ≡ old.task
  pub same_number : new.number ≡ old.number
  pub claimed : GoesOn old.claimed new.claimed
  pub did : GoesOn old.did new.did
  pub kept : GoesOn old.kept new.kept
  pub ends : GoesOn old.ended new.ended

-- the hand is at its end: it has found each list at its end and holds nothing
pub record IsAtEnd (hand : Progress) : Type 0 where
  pub holds_nothing : hand.holds ≡ None
  pub all_ends : HasAllEnds hand

-- the hand was stepped until it was at its end, or held a parcel for want of memory
pub record WorksOff (old new : Progress) : Type 0 where
  pub goes_on : HasGoneOn old new
  pub stops : IsAtEnd new ⊎ IsSome new.holds

-- the hands are of this round
abbrev pub AreHandsOf : Task → List Progress → Type 0
AreHandsOf task hands = AllByRecursion (λ hand. hand.task ≡ task) hands
