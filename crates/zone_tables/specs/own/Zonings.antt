-- The pairs of a table, parcel by parcel. Public contracts do not speak of it.
use Rattle.std.specs.Prelude.{◌≡◌, ℕ, ◌<◌, ◌≤◌, nat_eq, true, false, if◌then◌else◌, List, [], ◌∷◌, ◌++◌}
use Rattle.std.specs.Prelude.{map, not}
use Rattle.std.specs.List.{AllByRecursion, Contains, filter}
use Rattle.zone_tables.specs.declared.zoning.Zoning.{Zoning}

-- the pairs behind those of a parcel that stand first
abbrev pub behind : ℕ → List (ℕ × ℕ) → List (ℕ × ℕ)
behind id [] = []
behind id (pair ∷ pairs) = if nat_eq pair.0 id then behind id pairs else pair ∷ pairs

-- a pair before the parcels of the pairs behind it: one more of the first parcel, or the one of a parcel before it
abbrev pub with_pair : ℕ × ℕ → List Zoning → List Zoning
with_pair pair [] = record { id = pair.0; zone = pair.1; is_split = false } ∷ []
with_pair pair (first ∷ rest) =
    if nat_eq first.id pair.0
    then record { id = pair.0; zone = pair.1; is_split = true } ∷ rest
    else record { id = pair.0; zone = pair.1; is_split = false } ∷ first ∷ rest

-- each parcel that has a pair, with its first zone, and whether it has more
abbrev pub zonings : List (ℕ × ℕ) → List Zoning
zonings [] = []
zonings (pair ∷ pairs) = with_pair pair (zonings pairs)

-- the ids of those that have more
abbrev pub split_ids : List Zoning → List ℕ
split_ids parcels = map (λ parcel. parcel.id) (filter (λ parcel. parcel.is_split) parcels)

-- the others, each with its zone
abbrev pub single_zones : List Zoning → List (ℕ × ℕ)
single_zones parcels = map (λ parcel. (parcel.id, parcel.zone)) (filter (λ parcel. not parcel.is_split) parcels)

-- the pairs have this zone of the parcel, and no other
abbrev pub IsOnlyZone : List (ℕ × ℕ) → ℕ → ℕ → Type 0
IsOnlyZone pairs id zone = Contains pairs (id, zone) × ((other : ℕ) → Contains pairs (id, other) → other ≡ zone)

-- the pairs from the first on that is not one of a lower parcel
pub record IsFrom (id : ℕ) (pairs rest : List (ℕ × ℕ)) : Type 0 where
  pub before : List (ℕ × ℕ)
  pub are_all : pairs ≡ before ++ rest
  pub lower : AllByRecursion (λ pair. pair.0 < id) before
  pub not_lower : AllByRecursion (λ pair. id ≤ pair.0) rest
