-- Blocks: numbers that follow one another, and a leaning box that holds the corners at them. Public contracts do not
-- speak of them.
use Rattle.std.specs.Prelude.{◌≡◌, ℕ, ◌-◌, ◌<◌, ◌≤◌, if◌then◌else◌, nat_lt, List, length, slice_index_or}
use Rattle.geo_exact.specs.declared.corner.Corner.{Corner}
use Rattle.geo_exact.specs.Places.{corner_at}
use Rattle.ring_core.specs.declared.blocks.Span.{Span}
use Rattle.leaning_boxes.specs.declared.leaning.LeaningBox.{LeaningBox}
use Rattle.leaning_boxes.specs.Leaning.{IsHeld}

-- the span has the number
pub record IsInSpan (j : ℕ) (span : Span) : Type 0 where
  pub from : span.start ≤ j
  pub to : j < span.end

-- the block has the number of the corner, and its box holds it
pub record HasCorner (corners : List Corner) (j : ℕ) (span : Span) (box : LeaningBox) : Type 0 where
  pub in_span : IsInSpan j span
  pub held : IsHeld box (corner_at corners j)

-- each corner is in one of the blocks
pub record AreBlocks (corners : List Corner) (spans : List Span) (boxes : List LeaningBox) : Type 0 where
  pub same_length : length boxes ≡ length spans
  pub each : (j : ℕ) → j < length corners → (b : ℕ) × (b < length spans)
      × ((span : Span) (box : LeaningBox)
      → HasCorner corners j (slice_index_or spans b span) (slice_index_or boxes b box))

-- the blocks are those of the corners, unless there is none
abbrev pub AreBlocksOrNone : List Corner → List Span → List LeaningBox → Type 0
AreBlocksOrNone corners spans boxes = 0 < length spans → AreBlocks corners spans boxes

-- what number n is once number k went
abbrev pub number_less : ℕ → ℕ → ℕ
number_less k n = if nat_lt k n then n - 1 else n
