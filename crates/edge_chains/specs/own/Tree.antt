-- A tree of boxes that lean with what they hold: where the code looks for corners inside an edge that many boxes along
-- the axes meet. Public contracts do not speak of it.
use Rattle.std.specs.Prelude.{◌≡◌, ℕ, ◌*◌, ◌<◌, ◌≤◌, List, length, slice_index, slice_index_or}
use Rattle.geo_exact.specs.declared.corner.Corner.{Corner}
use Rattle.leaning_boxes.specs.declared.leaning.LeaningBox.{LeaningBox}
use Rattle.leaning_boxes.specs.Leaning.{IsHeld}
use Rattle.edge_chains.specs.declared.blocks.TheConstants.{GROUP}
use Rattle.edge_chains.specs.own.Blocks.{AreEnds}

-- the leaning box has each corner of its block
abbrev pub HasLeaning : List Corner → List ℕ → List LeaningBox → ℕ → Type 0
HasLeaning corners ends boxes i =
    (k : ℕ) (c : Corner) (b : LeaningBox) → i * GROUP ≤ k → k < slice_index ends i
    → IsHeld (slice_index_or boxes i b) (slice_index_or corners k c)

-- at each group a block that begins there, and its leaning box
pub record AreLeaning (corners : List Corner) (ends : List ℕ) (boxes : List LeaningBox) : Type 0 where
  pub in_place : AreEnds (length corners) ends
  pub as_many : length boxes ≡ length ends
  pub have_blocks : (i : ℕ) → i * GROUP < length corners → HasLeaning corners ends boxes i
