-- What a hand that claims places shows (this product's own).
use Rattle.std.specs.Prelude.{◌≡◌, ℕ, zero, suc, ◌+◌, ◌%◌, ◌<◌, ◌≤◌, List, [], ◌∷◌, ◌++◌, length}
use Rattle.std.specs.Prelude.{slice_index}
use Rattle.atomic_table.specs.Seated.{TableId}
use Rattle.overlay_claims.specs.Claims.{times}

-- what lists whose places are claimed show: their name, which no others have, and their lengths
pub record Lists : Type 0 where
  pub name : TableId
  pub lengths : List ℕ

-- which lists a hand claims places of, its number, the places that it claimed, each under its list's number, in
-- order, and the lists that it found at their end
pub record Standing : Type 0 where
  pub lists : Lists
  pub number : ℕ
  pub places : List (ℕ × ℕ)
  pub ended : List ℕ

-- what several hands together know: how many they are, the places that they claimed, and
-- the lists that they found at their end
pub record Gathered : Type 0 where
  pub lists : Lists
  pub hands : ℕ
  pub places : List (ℕ × ℕ)
  pub ended : List ℕ

-- a hand that has claimed nothing; and the first hands
abbrev pub fresh : Lists → ℕ → Standing
fresh lists number = record { lists = lists; number = number; places = []; ended = [] }

abbrev pub fresh_hands : Lists → ℕ → List Standing
fresh_hands lists zero = []
fresh_hands lists (suc n) = fresh_hands lists n ++ fresh lists n ∷ []

-- each of so many lists was found at its end
abbrev pub AreAllEnded : ℕ → List ℕ → Type 0
AreAllEnded count ended = (list : ℕ) → list < count → 0 < times list ended

abbrev pub HasAllEnds : Standing → Type 0
HasAllEnds hand = AreAllEnded (length hand.lists.lengths) hand.ended

-- the place is one of a list
abbrev pub IsPlace : Lists → ℕ × ℕ → Type 0
IsPlace lists place = (place.0 < length lists.lengths) × (place.1 < slice_index lists.lengths place.0)

-- The list to which a hand goes after so many: by rising number, beginning with its own and, past the last, at 0. And
-- the first so many of them.
abbrev pub list_after : (number count : ℕ) → ℕ → ℕ
list_after number count k = (number + k) % count

abbrev pub lists_from : (number count : ℕ) → ℕ → List ℕ
lists_from number count zero = []
lists_from number count (suc k) = lists_from number count k ++ list_after number count k ∷ []

-- A hand has claimed a place of the first list, in this order, that it has not found at its end. The lists before that
-- one it has found at their ends, some of them on the way, and no other.
pub record ClaimsNext (old new : Standing) (place : ℕ × ℕ) : Type 0 where
  pub is_place : IsPlace old.lists place
  pub claims : new.places ≡ old.places ++ place ∷ []
  pub before : ℕ
  pub is_a_list : before < length old.lists.lengths
  pub is_next : place.0 ≡ list_after old.number (length old.lists.lengths) before
  pub ended_before : new.ended ≡ lists_from old.number (length old.lists.lengths) before
  pub more : List ℕ
  pub ends : new.ended ≡ old.ended ++ more

-- a hand has found each list at its end
pub record EndsAll (old new : Standing) : Type 0 where
  pub all_ends : HasAllEnds new
  pub same_places : new.places ≡ old.places
  pub more : List ℕ
  pub ends : new.ended ≡ old.ended ++ more

-- what a hand found at its end are the first so many lists in its order
pub record IsInOrder (count number ended : ℕ) (notes : List ℕ) : Type 0 where
  pub own_list : number < count
  pub at_most : ended ≤ count
  pub in_order : notes ≡ lists_from number count ended
