-- What hands that are handed in did together.
use Rattle.std.specs.Prelude.{◌≡◌, ◌⊎◌, ℕ, List, [], ◌∷◌, ◌++◌, Option, None, IsSome, MatchOption, flat_map}
use Rattle.std.specs.Prelude.{IsPermutation}
use Rattle.zone_tables.specs.Overlap.{IsPairBefore}
use Rattle.std.specs.List.{AllByRecursion, Contains}
use Rattle.overlay_work.specs.Rounds.{Task, Progress, HasAllEnds, IsAtEnd}
use Rattle.overlay_work.specs.Faults.{AreAllIn, HoldNothing, IsLeastHolding}
use Rattle.overlay_work.specs.own.Kept.{ArePairsOfAll}

-- one of the hands has found each list at its end
abbrev pub SomeHasAllEnds : List Progress → Type 0
SomeHasAllEnds hands = (hand : Progress) × Contains hands hand × HasAllEnds hand

-- each hand is at its end, or holds a parcel
abbrev pub HaveStopped : List Progress → Type 0
HaveStopped hands = AllByRecursion (λ hand. IsAtEnd hand ⊎ IsSome hand.holds) hands

-- the round can be closed with them
pub record AreDone (task : Task) (hands : List Progress) : Type 0 where
  pub all_in : AreAllIn task hands
  pub hold_nothing : HoldNothing hands
  pub some_done : SomeHasAllEnds hands

-- it is the least number of a hand that holds a parcel, where one does
abbrev pub LeastIs : Option ℕ → List Progress → Type 0
LeastIs least hands = MatchOption least (HoldNothing hands) (IsLeastHolding hands)

-- what each did has the pairs that it kept, and the pairs are those of all, one hand's behind the other's
abbrev pub ArePairsOfHands : List Progress → List (ℕ × ℕ) → Type 0
ArePairsOfHands [] pairs = pairs ≡ []
ArePairsOfHands (hand ∷ hands) pairs =
    (rest : List (ℕ × ℕ)) × (pairs ≡ hand.kept ++ rest)
    × ArePairsOfAll hand.task.rows hand.task.zones hand.did hand.kept × ArePairsOfHands hands rest

-- the places that the hands claimed, what they did, and the lists that they found at
-- their end, one hand's behind the other's
abbrev pub claimed_by : List Progress → List (ℕ × ℕ)
claimed_by hands = flat_map (λ hand. hand.claimed) hands

abbrev pub did_by : List Progress → List ℕ
did_by hands = flat_map (λ hand. hand.did) hands

abbrev pub ended_by : List Progress → List ℕ
ended_by hands = flat_map (λ hand. hand.ended) hands

-- the hands are of this round, and hold nothing
abbrev pub AreReady : Task → List Progress → Type 0
AreReady task [] = Unit {0}
AreReady task (hand ∷ hands) = (hand.task ≡ task) × (hand.holds ≡ None) × AreReady task hands

-- no pair comes before one in front of it
abbrev pub AreOrdered : List (ℕ × ℕ) → Type 0
AreOrdered [] = Unit {0}
AreOrdered (pair ∷ pairs) = AllByRecursion (λ other. IsPairBefore pair other ⊎ (pair ≡ other)) pairs × AreOrdered pairs

-- the pairs are those that the hands kept, in order
pub record AreSortedPairsOf (hands : List Progress) (pairs : List (ℕ × ℕ)) : Type 0 where
  pub kept : List (ℕ × ℕ)
  pub are_pairs : ArePairsOfHands hands kept
  pub moved : IsPermutation kept pairs
  pub ordered : AreOrdered pairs
