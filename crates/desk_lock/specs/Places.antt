-- How many clerks and windows an office may have, and what it is refused for (this product's own).
use Rattle.std.specs.Prelude.{◌≡◌, ◌⊎◌, ℕ, ◌<◌, ◌≤◌}
use Rattle.desk_lock.specs.declared.opening.OpenFault.{OpenFault}
use Rattle.desk_lock.specs.declared.opening.OpenFault.TheVariants.{Places, NoWindow, NoMemory}

-- none, or more than eight
abbrev pub IsWrongCount : ℕ → Type 0
IsWrongCount n = (n ≡ 0) ⊎ (8 < n)

-- this number is refused: that of the clerks, or else that of the windows
abbrev pub IsWrong : ℕ → ℕ → ℕ → Type 0
IsWrong clerks windows n =
    (IsWrongCount clerks × (n ≡ clerks)) ⊎ ((¬ IsWrongCount clerks) × IsWrongCount windows × (n ≡ windows))

-- an office is not opened for this reason; the last two are looked at only where both numbers are right
abbrev pub IsOpenFault : ℕ → ℕ → OpenFault → Type 0
IsOpenFault clerks windows (Places n) = IsWrong clerks windows n
IsOpenFault clerks windows (NoWindow k) = (¬ IsWrongCount clerks) × (¬ IsWrongCount windows) × (1 ≤ k) × (k ≤ windows)
IsOpenFault clerks windows NoMemory = (¬ IsWrongCount clerks) × (¬ IsWrongCount windows)
