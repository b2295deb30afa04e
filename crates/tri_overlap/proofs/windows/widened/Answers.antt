use Rattle.tri_overlap.proofs.Boxes.{inside_box, not_right}
use Rattle.geo_exact.proofs.boxes.InBoxes.{nothing_in_empty, inside_wider}
use Rattle.tri_overlap.proofs.windows.widened.Goals.{then-is_empty-via-then-is_empty, then-is_empty-via-else-is_empty+then-is_wider-2}
use Rattle.tri_overlap.proofs.windows.widened.Goals.{then-is_empty-via-else-is_empty+else-is_wider-2+then-misses}
use Rattle.tri_overlap.proofs.windows.widened.Goals as goal

pub returns-then-is_wider-clause-kept : goal.returns-then-is_wider-clause-kept
returns-then-is_wider-clause-kept c = inside_wider _ _ c.around.ensures.first

pub returns-then-is_wider-clause-added : goal.returns-then-is_wider-clause-added
returns-then-is_wider-clause-added c = λ p i w.
    inside_wider _ _ c.around.ensures.second p (inside_box c.args.triangle.now p _ c.bounds_of-own.ensures i)

pub returns-then-is_empty-clause-added : goal.returns-then-is_empty-clause-added
returns-then-is_empty-clause-added c = λ p i w.
    let h = (c.common-part.ensures p).1 (w, inside_box c.args.triangle.now p _ c.bounds_of-own.ensures i) in
    elim c.then-is_empty.branch [
      | then-is_empty-via-then-is_empty b ↦ absurd (nothing_in_empty _ (c.is_empty.ensures.0 b.if-is_empty.true) p h)
      | then-is_empty-via-else-is_empty+then-is_wider-2 b ↦ inside_wider _ _ (b.is_wider-else-is_empty.ensures.0 b.if-is_wider-2.true) p h
      | then-is_empty-via-else-is_empty+else-is_wider-2+then-misses b ↦
          absurd (not_right _ c.args.triangle.now (b.misses.ensures b.if-misses.true) p h i)
    ]

pub returns-clause-kept : goal.returns-clause-kept
returns-clause-kept c = inside_wider _ _ c.around-2.ensures.first

pub returns-clause-added : goal.returns-clause-added
returns-clause-added c = λ p i w.
    let inside = inside_box c.args.triangle.now p _ c.bounds_of-own.ensures i in
    inside_wider _ _ c.around-2.ensures.second p ((c.common-part.ensures p).1 (w, inside))
