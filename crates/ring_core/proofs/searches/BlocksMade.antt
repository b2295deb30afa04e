-- Blocks as they are made, one after another.
use Rattle.std.proofs.Common.{◌≡◌, ℕ, ◌<◌, ◌≤◌, inl, inr, arith, List, [], ◌∷◌, ◌++◌, length, get_or}
use Rattle.std.proofs.lemmas.Bool.{cases_lt}
use Rattle.std.proofs.lemmas.List.{get_or_append_left, get_or_push, length_push}
use Rattle.geo_exact.specs.declared.corner.Corner.{Corner}
use Rattle.ring_core.specs.declared.blocks.Span.{Span}
use Rattle.leaning_boxes.specs.declared.leaning.LeaningBox.{LeaningBox}
use Rattle.ring_core.specs.own.Blocks.{HasCorner}

-- each corner whose number is below n is in one of the blocks
abbrev pub AreBlocksBelow : List Corner → ℕ → List Span → List LeaningBox → Type 0
AreBlocksBelow corners n spans boxes = (j : ℕ) → j < n → j < length corners → (i : ℕ) × (i < length spans)
    × ((span : Span) (box : LeaningBox) → HasCorner corners j (get_or spans i span) (get_or boxes i box))

pub blocks_more : (corners : List Corner) (m n : ℕ) (spans : List Span) (boxes : List LeaningBox) (span : Span) (box : LeaningBox)
    → length boxes ≡ length spans → AreBlocksBelow corners m spans boxes
    → ((j : ℕ) → m ≤ j → j < n → j < length corners → HasCorner corners j span box)
    → AreBlocksBelow corners n (spans ++ span ∷ []) (boxes ++ box ∷ [])
blocks_more corners m n spans boxes span box long below has j b in_ring = elim (cases_lt j m) [
  | inl q ↦ let found = below j q in_ring in (
    found.0,
    omega (arith, found.1, length_push spans span),
    λ s x. rw (
      get_or_append_left spans (span ∷ []) s found.0 found.1,
      get_or_append_left boxes (box ∷ []) x found.0
          (omega (arith, found.1)),
    )
        (found.2 s x),
  )
  | inr q ↦ (
    length spans,
    omega (arith, length_push spans span),
    λ s x. rw (
      get_or_push spans span s (length spans) (let e : length spans ≡ length spans = omega arith in e),
      get_or_push boxes box x (length spans) long,
    )
        (has j q b in_ring),
  )
]
