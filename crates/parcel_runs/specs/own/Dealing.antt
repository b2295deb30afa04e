-- What is dealt to workers.
use Rattle.std.specs.Prelude.{◌≡◌, ℕ, zero, suc, ◌-◌, ◌<◌, List, [], ◌∷◌, map, slice_index_or, Vec}

-- the ids that each worker has
abbrev pub dealt : {A : Type 0} → List (Vec ℕ A) → List (List ℕ)
dealt lists = map (λ list. list.items) lists

-- each n-th of the ids, after so many that are passed over
abbrev pub each_nth : (n passed : ℕ) → List ℕ → List ℕ
each_nth n passed [] = []
each_nth n zero (id ∷ ids) = id ∷ each_nth n (n - 1) ids
each_nth n (suc passed) (id ∷ ids) = each_nth n passed ids

-- worker k of n has the ids at places k, k + n and so on, in their order
abbrev pub AreDealtInTurn : (n : ℕ) → List ℕ → List (List ℕ) → Type 0
AreDealtInTurn n ids lists = (worker : ℕ) → worker < n → slice_index_or lists worker [] ≡ each_nth n worker ids
