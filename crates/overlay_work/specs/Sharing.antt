-- How the parcels of a sheet are dealt to hands (this product's own): a list for each hand, in which every parcel
-- stands exactly once, and nothing else.
use Rattle.std.specs.Prelude.{◌≢◌, ◌⊎◌, ℕ, ◌<◌, ◌≤◌, List, length, nat_eq, count_by, flat_map, IsPermutation}
use Rattle.std.specs.List.{Contains}

-- all lists, one behind the other
abbrev pub joined : {X : Type 0} → List (List X) → List X
joined lists = flat_map (λ list. list) lists

-- how often the id stands in the lists
abbrev pub times : ℕ → List (List ℕ) → ℕ
times id lists = count_by (nat_eq id) (joined lists)

-- as many lists as there may be hands: one at least, and 64 at most
abbrev pub HasHands : List (List ℕ) → Type 0
HasHands lists = (0 < length lists) × (length lists ≤ 64)

-- the lists together are the ids in some order: each stands exactly once, and nothing else does
pub record IsSharing (ids : List ℕ) (lists : List (List ℕ)) : Type 0 where
  pub has_hands : HasHands lists
  pub each_once : IsPermutation (joined lists) ids

-- the id is among the ids and does not stand exactly once in the lists, or it stands in them and is not among the ids
abbrev pub IsOutOfPlace : List ℕ → List (List ℕ) → ℕ → Type 0
IsOutOfPlace ids lists id = (Contains ids id × (times id lists ≢ 1)) ⊎ ((Contains ids id → ⊥) × (0 < times id lists))

-- it is the least that is out of place
pub record IsLeastOutOfPlace (ids : List ℕ) (lists : List (List ℕ)) (id : ℕ) : Type 0 where
  pub out_of_place : IsOutOfPlace ids lists id
  pub is_least : (other : ℕ) → IsOutOfPlace ids lists other → id ≤ other
