-- The first number with a property, and the first pair of numbers (this product's
-- own words for 'the first that applies').
use Rattle.std.specs.Prelude.{◌≡◌, ◌⊎◌, ℕ, ◌<◌}

-- no number below n has the property
abbrev pub HasNone : (ℕ → Type 0) → ℕ → Type 0
HasNone P n = (j : ℕ) → j < n → ¬ P j

-- k is the first number with the property, and below n
pub record IsFirst (P : ℕ → Type 0) (n k : ℕ) : Type 0 where
  pub below : k < n
  pub has : P k
  pub none_before : HasNone P k

-- no two numbers i < j below n have the property
abbrev pub HasNoPair : (ℕ → ℕ → Type 0) → ℕ → Type 0
HasNoPair P n = (i j : ℕ) → i < j → j < n → ¬ P i j

-- i < j are the first two numbers below n, by i and then by j, that have the property
pub record IsFirstPair (P : ℕ → ℕ → Type 0) (n i j : ℕ) : Type 0 where
  pub ordered : i < j
  pub below : j < n
  pub has : P i j
  pub is_first : (k l : ℕ) → k < l → l < n → (k < i) ⊎ ((k ≡ i) × (l < j)) → ¬ P k l
