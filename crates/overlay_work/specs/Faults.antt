-- Why a round is not begun, and why it is not closed: the first reason that applies (this product's own order).
use Rattle.std.specs.Prelude.{◌≡◌, ◌≢◌, ◌⊎◌, ⊤, ℕ, ◌≤◌, Bool, List, [], length, None, IsSome}
use Rattle.std.specs.List.{AllByRecursion, Contains}
use Rattle.geo_exact.specs.declared.corner.Corner.{Corner}
use Rattle.job_threads.specs.Jobs.{HadThreads, IsLeastRank}
use Rattle.overlay_work.specs.declared.round.RoundFault.{RoundFault}
use Rattle.overlay_work.specs.declared.round.RoundFault.TheVariants.{HandCount, OtherCity, NotASharing, NoMemory}
use Rattle.overlay_work.specs.declared.close.CloseFault.{CloseFault}
use Rattle.overlay_work.specs.declared.close.CloseFault.TheVariants.{NoThread, HandsMissing, Holding, NotDone}
use Rattle.overlay_work.specs.declared.close.CloseFault.TheVariants.{NoMemory as CloseMemory}
use Rattle.overlay_work.specs.Sharing.{HasHands, IsLeastOutOfPlace}
use Rattle.overlay_work.specs.Rounds.{Task, Progress, HasAllEnds, IsAtEnd}

-- A round of a sheet with these ids and this city, and zones of that city, is refused: there is no list, or more than
-- 64 (O3); the zones' city is another (O2); an id is out of place (O1).
abbrev pub IsRoundFault : (ids : List ℕ) → (city zones_city : List Corner) → (lists : List (List ℕ))
    → RoundFault → Type 0
IsRoundFault ids city zones_city lists (HandCount count) = (HasHands lists → ⊥) × (count ≡ length lists)
IsRoundFault ids city zones_city lists OtherCity = HasHands lists × (zones_city ≢ city)
IsRoundFault ids city zones_city lists (NotASharing id) =
    HasHands lists × (zones_city ≡ city) × IsLeastOutOfPlace ids lists id
IsRoundFault ids city zones_city lists NoMemory = ⊥

-- a reason that is told before any memory is asked for: where one of these is due, memory cannot run out instead
abbrev pub NeedsNoMemory : RoundFault → Type 0
NeedsNoMemory (HandCount count) = ⊤
NeedsNoMemory OtherCity = ⊤
NeedsNoMemory other = ⊥

-- as many hands are handed in as were made
abbrev pub AreAllIn : Task → List Progress → Type 0
AreAllIn task hands = length hands ≡ length task.lists

-- the hand with this number holds a parcel, and of all that do it has the least number
pub record IsLeastHolding (hands : List Progress) (number : ℕ) : Type 0 where
  pub hand : Progress
  pub is_in : Contains hands hand
  pub has_number : hand.number ≡ number
  pub holds : IsSome hand.holds
  pub is_least : AllByRecursion (λ other. IsSome other.holds → number ≤ other.number) hands

-- no hand holds a parcel
abbrev pub HoldNothing : List Progress → Type 0
HoldNothing hands = AllByRecursion (λ hand. hand.holds ≡ None) hands

-- A round is not closed: hands are missing (O6); a hand holds a parcel (O5); no
-- hand has found each list at its end (O4).
abbrev pub IsCloseFault : Task → List Progress → CloseFault → Type 0
IsCloseFault task hands (NoThread number) = ⊥
IsCloseFault task hands (HandsMissing made here) =
    (AreAllIn task hands → ⊥) × (made ≡ length task.lists) × (here ≡ length hands)
IsCloseFault task hands (Holding number) = AreAllIn task hands × IsLeastHolding hands number
IsCloseFault task hands NotDone =
    AreAllIn task hands × HoldNothing hands × AllByRecursion (λ hand. HasAllEnds hand → ⊥) hands
IsCloseFault task hands CloseMemory = ⊥

-- a hand holds a parcel
abbrev pub SomeHolds : List Progress → Type 0
SomeHolds hands = (hand : Progress) × Contains hands hand × IsSome hand.holds

-- Memory was wanting: for the threads, and no hand was worked with; or, with a thread for each hand, for a parcel that
-- one of them holds, or to close the round once all hands of it were at their ends.
abbrev pub WantsMemory : Task → (old new : List Progress) → (threads : List Bool) → Type 0
WantsMemory task old new threads = ((new ≡ old) × (threads ≡ []))
    ⊎ (HadThreads new threads × (SomeHolds new ⊎ (AreAllIn task new × AllByRecursion IsAtEnd new)))

-- Hands worked a round off, each until it was at its end or held a parcel for want of memory, and the round is not
-- closed: a hand had no thread of its own, and of those that had none it has the least number (O7); each had one, and
-- they are not all hands of the round, and all are at their ends (O6); or memory was wanting. No hand is left holding a
-- parcel for another cause, and one that works comes to its end: there is no O5 and no O4.
abbrev pub IsRunFault : Task → (old new : List Progress) → (threads : List Bool) → CloseFault → Type 0
IsRunFault task old new threads (NoThread number) = IsLeastRank (λ hand. hand.number) new threads number
IsRunFault task old new threads (HandsMissing made here) =
    HadThreads new threads × IsCloseFault task new (HandsMissing made here) × AllByRecursion IsAtEnd new
IsRunFault task old new threads (Holding number) = ⊥
IsRunFault task old new threads NotDone = ⊥
IsRunFault task old new threads CloseMemory = WantsMemory task old new threads
