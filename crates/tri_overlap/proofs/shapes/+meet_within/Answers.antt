use Rattle.std.proofs.Common.{rules, sym, ◌∙◌, ◌/◌, inl, inr, length}
use Rattle.std.proofs.lemmas.Bool.{false≢true}
use Rattle.geo_exact.proofs.boxes.InBoxes.{nothing_in_empty}
use Rattle.tri_overlap.proofs.Halves.{of_front, of_back, halves_meet}
use Rattle.tri_overlap.proofs.RingPairs.{point_of_pair}
use Rattle.tri_overlap.proofs.shapes.+meet_within.Goals as goal

pub returns-then-is_empty : goal.returns-then-is_empty
returns-then-is_empty t c = (
  λ b. absurd (false≢true b),
  λ m. let w = point_of_pair c.args.first.now c.args.second.now m in
      absurd (nothing_in_empty _ (c.is_empty.ensures.0 c.if-is_empty.true) w.0 (c.narrowed-part.ensures w.0 w.2 (c.requires w.0 w.2 w.3))),
)

pub meet_within-requires : goal.meet_within-requires
meet_within-requires t c = (
  search rules,
  λ p i j. c.narrowed-part.ensures p j (c.requires p j (of_front p _ _ (rw c.split_at.ensures.front at i))),
)

pub meet_within-requires-else-meet_within : goal.meet_within-requires-else-meet_within
meet_within-requires-else-meet_within t c = (
  search rules,
  λ p i j. c.narrowed-part.ensures p j (c.requires p j (of_back p _ _ (rw c.split_at.ensures.back at i))),
)

pub returns-then-meet_within : goal.returns-then-meet_within
returns-then-meet_within t c =
    let meets = halves_meet (length c.args.second.now / 2) c.args.first.now c.args.second.now in
    let front = rw c.split_at.ensures.front at c.meet_within.ensures in
    (λ b. meets.0 (inl (front.0 b)), λ _. c.if-meet_within.true)

pub returns-else-meet_within : goal.returns-else-meet_within
returns-else-meet_within t c =
    let meets = halves_meet (length c.args.second.now / 2) c.args.first.now c.args.second.now in
    let front = rw c.split_at.ensures.front at c.meet_within.ensures in
    let back = rw c.split_at.ensures.back at c.meet_within-else-meet_within.ensures in (
      λ b. meets.0 (inr (back.0 b)),
      λ m. elim (meets.1 m) [
        | inl h ↦ absurd (false≢true (sym c.if-meet_within.false ∙ front.1 h))
        | inr h ↦ back.1 h
      ],
    )
