-- Which edges of a ring are shared, by their numbers: what the code looks at.
use Rattle.std.specs.Prelude.{◌≡◌, ◌≢◌, ◌↔◌, ℕ, ◌<◌, ◌≤◌, nat_lt, nat_le, Bool, not, ◌&&◌, ◌||◌}
use Rattle.std.specs.Prelude.{if◌then◌else◌, IsTrue, List, length}
use Rattle.geo_exact.specs.declared.corner.Corner.{Corner}
use Rattle.geo_exact.specs.Places.{corner_at}
use Rattle.ring_edits.specs.Edits.{IsSharedAt}

-- from a number on, those up to another have the property just where `holds`, and that
-- one, where it is below n, just where not
pub record IsAlikeUpTo (P : ℕ → Type 0) (n from : ℕ) (holds : Bool) (to : ℕ) : Type 0 where
  pub low : from ≤ to
  pub high : to ≤ n
  pub until : (k : ℕ) → from ≤ k → k < to → P k ↔ IsTrue holds
  pub there : to < n → P to ↔ IsTrue (not holds)

-- edge k is on the run from corner i on to corner j
abbrev pub is_on_run : ℕ → ℕ → ℕ → Bool
is_on_run i j k = if nat_lt i j then nat_le i k && nat_lt k j else nat_le i k || nat_lt k j

-- of n edges round a ring, those with the property are those on the run from corner i on to corner j
pub record IsFromTo (P : ℕ → Type 0) (n i j : ℕ) : Type 0 where
  pub i_in_ring : i < n
  pub j_in_ring : j < n
  pub apart : i ≢ j
  pub exactly : (k : ℕ) → k < n → P k ↔ IsTrue (is_on_run i j k)

-- the shared edges of ring a are those on its run from corner i on to corner j
abbrev pub IsSharedFromTo : List Corner → List Corner → ℕ → ℕ → Type 0
IsSharedFromTo a b i j = IsFromTo (IsSharedAt a b) (length a) i j

-- the shared edges of ring a are those on its run from corner i on to corner j, and these corners are k and l of ring b
pub record IsBorderAt (a b : List Corner) (i j k l : ℕ) : Type 0 where
  pub shared : IsSharedFromTo a b i j
  pub k_in_ring : k < length b
  pub l_in_ring : l < length b
  pub apart : k ≢ l
  pub same_u : corner_at b k ≡ corner_at a i
  pub same_v : corner_at b l ≡ corner_at a j
