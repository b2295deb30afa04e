-- An edge as a row of equal steps between whole places: where the code looks for corners inside it. Public contracts do
-- not speak of it.
use Rattle.std.specs.Prelude.{◌≡◌, ◌↔◌, ℕ, ◌<◌, ◌≤◌, ℤ, pos, ◌+ℤ◌, ◌-ℤ◌, ◌*ℤ◌, List}
use Rattle.std.specs.List.{Contains}
use Rattle.geo_exact.specs.declared.corner.Corner.{Corner}
use Rattle.geo_exact.specs.Segments.{IsStrictlyInside}

-- the found corners are those of the corners that lie strictly inside the edge from a to b
abbrev pub AreInside : List Corner → Corner → Corner → List Corner → Type 0
AreInside corners a b found = (c : Corner) → Contains found c ↔ (Contains corners c × IsStrictlyInside c a b)

-- `count` steps, each `across` and `up`, lead from a to b, and no part of a step
-- leads to a whole place: p and q show it
pub record AreSteps (a b : Corner) (across up : ℤ) (count : ℕ) : Type 0 where
  pub some : 0 < count
  pub in_x : pos count *ℤ across ≡ b.x -ℤ a.x
  pub in_y : pos count *ℤ up ≡ b.y -ℤ a.y
  pub shortest : (p : ℤ) × (q : ℤ) × (across *ℤ p +ℤ up *ℤ q ≡ pos 1)

-- k steps lead from a to c
pub record IsStep (a : Corner) (across up : ℤ) (k : ℕ) (c : Corner) : Type 0 where
  pub in_x : c.x ≡ a.x +ℤ pos k *ℤ across
  pub in_y : c.y ≡ a.y +ℤ pos k *ℤ up

-- at least one step and at most n lead from a to c
abbrev pub IsWithinSteps : Corner → ℤ → ℤ → ℕ → Corner → Type 0
IsWithinSteps a across up n c = (k : ℕ) × (0 < k) × (k ≤ n) × IsStep a across up k c
