-- Groups of four neighbouring corners and blocks of groups, each with a box that has them all: what the search of the
-- code keeps. Public contracts do not speak of it.
use Rattle.std.specs.Prelude.{◌≡◌, ℕ, ◌*◌, ◌/◌, ◌<◌, ◌≤◌, List, length, slice_index, slice_index_or}
use Rattle.geo_exact.specs.declared.corner.Corner.{Corner}
use Rattle.geo_exact.specs.declared.bounds.Bounds.{Bounds}
use Rattle.geo_exact.specs.Bounds.{HoldsCorner}
use Rattle.edge_chains.specs.declared.blocks.TheConstants.{GROUP}

-- each of n corners is in a group, whose block ends behind it, and none behind the n corners
pub record AreEnds (n : ℕ) (ends : List ℕ) : Type 0 where
  pub in_groups : (k : ℕ) → k < n → k / GROUP < length ends
  pub go_on : (k : ℕ) → k < n → (k < slice_index ends (k / GROUP)) × (slice_index ends (k / GROUP) ≤ n)

-- the box has each corner of its block
abbrev pub HasBlock : List Corner → List ℕ → List Bounds → ℕ → Type 0
HasBlock corners ends boxes i =
    (k : ℕ) (c : Corner) (b : Bounds) → i * GROUP ≤ k → k < slice_index ends i
    → HoldsCorner (slice_index_or boxes i b) (slice_index_or corners k c)

-- at each group a block that begins there, and its box
pub record AreBlocks (corners : List Corner) (ends : List ℕ) (boxes : List Bounds) : Type 0 where
  pub in_place : AreEnds (length corners) ends
  pub as_many : length boxes ≡ length ends
  pub have_blocks : (i : ℕ) → i * GROUP < length corners → HasBlock corners ends boxes i
