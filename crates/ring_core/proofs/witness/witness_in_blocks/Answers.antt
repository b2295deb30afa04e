use Rattle.std.proofs.Common.{ℕ, ◌<◌, refl, sym, subst, arith, below_more, pos, length, get_or}
use Rattle.std.proofs.lemmas.Int.{ints}
use Rattle.geo_exact.specs.Places.{corner_at}
use Rattle.ring_core.specs.declared.blocks.Span.{Span}
use Rattle.leaning_boxes.specs.declared.leaning.LeaningBox.{LeaningBox}
use Rattle.ring_core.specs.Clipping.{Blocks, next, previous}
use Rattle.ring_core.specs.own.Blocks.{HasCorner}
use Rattle.leaning_boxes.specs.Leaning.{IsHeld}
use Rattle.ring_core.proofs.ears.Renumbered.{inside_like}
use Rattle.ring_core.proofs.witness.witness_in_blocks.Goals as goal
use Rattle.ring_core.proofs.witness.witness_in_blocks.Goals.{then-start-end-via-then-start-end}
use Rattle.ring_core.proofs.witness.witness_in_blocks.Goals.{then-start-end-via-else-start-end+then-misses_triangle}

abbrev no_span : Span
no_span = record { start = 0; end = 0 }

pub loop-b-preserved-then-start-end : goal.loop-b-preserved-then-start-end
loop-b-preserved-then-start-end c =
    let corners = c.args.corners.now in let spans = c.args.spans.now in let boxes = c.args.boxes.now in let k =
    c.args.k in let b = c.loop-b.b in
    let t = c.args.triangle in let at = c.requires.is_triangle in
    below_more (λ i. (j : ℕ) → j < length corners
    → ((span : Span) (box : LeaningBox) → HasCorner corners j (get_or spans i span) (get_or boxes i box))
    → ¬ Blocks corners k j) b c.loop-b.invariant
    (λ j in_ring h x. elim c.then-start-end.branch [
      | then-start-end-via-then-start-end w ↦
          let any : LeaningBox = record {
            bounds = c.args.bounds;
            from = t.a;
            to = t.a;
            low = pos 0;
            high = pos 0;
            low_in_range = record { low = omega (arith, ints); high = omega (arith, ints) };
            high_in_range = record { low = omega (arith, ints); high = omega (arith, ints) };
          } in
          let there = (h no_span any).in_span in
          omega (arith, there.from, there.to, c.min-end.ensures, w.if-start-end.true)
      | then-start-end-via-else-start-end+then-misses_triangle w ↦
          let box = w.index-boxes-b in
          w.misses_triangle.ensures w.if-misses_triangle.true (corner_at corners j)
          (subst (λ v. IsHeld v (corner_at corners j)) (sym box.is) (h no_span box.result).held)
          (inside_like (corner_at corners j) (previous corners k) (corner_at corners k) (next corners k)
          (corner_at corners j) t.a t.b t.c refl at.a at.b at.c x.is_inside)
    ])

pub loop-b-preserved : goal.loop-b-preserved
loop-b-preserved c =
    let corners = c.args.corners.now in let spans = c.args.spans.now in let boxes = c.args.boxes.now in let k = c.args.k in
    below_more (λ i. (j : ℕ) → j < length corners
    → ((span : Span) (box : LeaningBox) → HasCorner corners j (get_or spans i span) (get_or boxes i box)) → ¬ Blocks corners k j)
    c.loop-b.b c.loop-b.invariant
    (λ j in_ring h. let there = (h no_span c.index-boxes-b.result).in_span in
    c.in_default.ensures j there.from (omega (arith, there.to, c.min-end.ensures)))

pub returns : goal.returns
returns c = λ j b.
    let found = c.requires.blocks.each j b in
    c.loop-b.invariant found.0 (omega (arith, found.1)) j b found.2
