-- Pairs in slices, each with all pairs of its parcels. Public contracts do not speak of them.
use Rattle.std.specs.Prelude.{◌≡◌, ℕ, ◌<◌, List, [], ◌∷◌, ◌++◌}
use Rattle.std.specs.List.{Contains}

-- the pairs of some parcels, and behind them those of others, whose ids are greater
pub record AreApart (pairs here behind : List (ℕ × ℕ)) : Type 0 where
  pub are_all : pairs ≡ here ++ behind
  pub apart : (a b : ℕ × ℕ) → Contains here a → Contains behind b → a.0 < b.0

-- the slices of the pairs have these results, one after the other, and nothing is left
abbrev pub AreInSlices : {X : Type 0} → (List (ℕ × ℕ) → X → Type 0) → List (ℕ × ℕ) → List X → Type 0
AreInSlices R pairs [] = pairs ≡ []
AreInSlices R pairs (x ∷ xs) =
    (here : List (ℕ × ℕ)) × (behind : List (ℕ × ℕ)) × AreApart pairs here behind × R here x × AreInSlices R behind xs
