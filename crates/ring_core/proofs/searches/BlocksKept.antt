-- Blocks after a corner was taken out.
use Rattle.std.proofs.Common.{◌≡◌, ◌∙◌, sym, ap, subst, ℕ, ◌<◌, ◌≤◌, arith, List, length, get_or}
use Rattle.std.specs.List.{remove}
use Rattle.std.proofs.lemmas.Bool.Decides.{nat_tests}
use Rattle.geo_exact.specs.declared.corner.Corner.{Corner}
use Rattle.geo_exact.specs.Places.{corner_at}
use Rattle.ring_core.specs.declared.blocks.Span.{Span}
use Rattle.leaning_boxes.specs.declared.leaning.LeaningBox.{LeaningBox}
use Rattle.ring_core.specs.own.Blocks.{AreBlocksOrNone, HasCorner, number_less}
use Rattle.ring_core.specs.own.Kinds.{number_before}
use Rattle.leaning_boxes.specs.Leaning.{IsHeld}
use Rattle.ring_core.proofs.clipping.ClipSteps.{one_less}
use Rattle.ring_core.proofs.clipping.TakenOut.{corner_kept, number_in}

-- the span after number k went
pub record IsLess (k : ℕ) (span less : Span) : Type 0 where
  pub start : less.start ≡ number_less k span.start
  pub end : less.end ≡ number_less k span.end

from_kept : (k j s : ℕ) → s ≤ number_before k j → number_less k s ≤ j
from_kept k j s h = grind (arith, nat_tests)

to_kept : (k j e : ℕ) → number_before k j < e → j < number_less k e
to_kept k j e h = grind (arith, nat_tests)

module _ (whole rest : List Corner) (k : ℕ) (below : k < length whole) (is_rest : rest ≡ remove whole k) where
  corner_kept_at : (j : ℕ) → corner_at rest j ≡ corner_at whole (number_before k j)
  corner_kept_at j = ap (λ r. corner_at r j) is_rest ∙ corner_kept whole k j below

  corner_in_block : (j : ℕ) (span less : Span) (box : LeaningBox) → IsLess k span less → HasCorner whole (number_before k j) span box
      → HasCorner rest j less box
  corner_in_block j span less box e h = record {
    in_span = record {
      from = rw e.start (from_kept k j span.start h.in_span.from);
      to = rw e.end (to_kept k j span.end h.in_span.to);
    };
    held = subst (IsHeld box) (sym (corner_kept_at j)) h.held;
  }

  pub blocks_kept : (spans lesses : List Span) (boxes : List LeaningBox) → length lesses ≡ length spans
      → ((b : ℕ) → b < length spans → (d : Span) → IsLess k (get_or spans b d) (get_or lesses b d))
      → AreBlocksOrNone whole spans boxes → AreBlocksOrNone rest lesses boxes
  blocks_kept spans lesses boxes long less are some =
      let blocks = are (omega arith) in record {
        same_length = omega (arith, blocks.same_length);
        each = λ j b.
            let found = blocks.each (number_before k j)
            (number_in (length whole) k j (omega (arith, one_less whole rest k below is_rest))) in (
              found.0,
              omega (arith, found.1),
              λ span box. corner_in_block j (get_or spans found.0 span) (get_or lesses found.0 span) (get_or boxes found.0 box)
                  (less found.0 found.1 span) (found.2 span box),
            );
      }
