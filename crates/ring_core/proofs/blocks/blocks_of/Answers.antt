use Rattle.std.proofs.Common.{◌+◌, ◌*◌, arith}
use Rattle.std.proofs.lemmas.List.{length_push}
use Rattle.ring_core.specs.declared.blocks.Span.{Span}
use Rattle.ring_core.proofs.searches.BlocksMade.{blocks_more}
use Rattle.ring_core.proofs.blocks.blocks_of.Goals as goal
use Rattle.ring_core.proofs.blocks.blocks_of.Goals.{then-start-corners+in_ok-push+in_ok-push-2, else-start-corners}
use Rattle.ring_core.proofs.blocks.blocks_of.Goals.{then-corners-gt-FEW_CORNERS+else-loop-b-test, else-corners-gt-FEW_CORNERS}

pub loop-b-preserved : goal.loop-b-preserved
loop-b-preserved g c =
    let corners = c.args.corners.now in let b = c.loop-b.b in let inv = c.loop-b.invariant in
    elim c.if-start-corners.branch [
      | then-start-corners+in_ok-push+in_ok-push-2 w ↦
          let span : Span = record { start = 16 * b; end = w.min-end.result } in
          rw (w.spans-is, w.boxes-is, w.in_ok-push.ensures.items, w.in_ok-push-2.ensures.items) (record {
            same_length =
                omega (
                  arith,
                  length_push c.loop-b.spans.items span,
                  length_push c.loop-b.boxes.items w.box_of_edges.result,
                  inv.same_length,
                );
            below = blocks_more corners (16 * b) (16 * (b + 1)) c.loop-b.spans.items c.loop-b.boxes.items span
                w.box_of_edges.result inv.same_length inv.below
                (λ j q r in_ring. record {
                  in_span = record { from = q; to = omega (arith, w.min-end.ensures) };
                  held = (w.box_of_edges.ensures j q (omega (arith, w.min-end.ensures))).0;
                });
          })
      | else-start-corners w ↦ rw (w.spans-is, w.boxes-is) (record {
        same_length = inv.same_length;
        below = λ j q r. inv.below j (omega (arith, w.if-start-corners.false)) r;
      })
    ]

pub returns : goal.returns
returns g c = λ some. elim c.if-corners-gt-FEW_CORNERS.branch [
  | then-corners-gt-FEW_CORNERS+else-loop-b-test w ↦ rw (w.spans-is, w.boxes-is) (record {
    same_length = w.loop-b.invariant.same_length;
    each = λ j b. w.loop-b.invariant.below j (omega (arith, w.loop-b-test.false)) b;
  })
  | else-corners-gt-FEW_CORNERS w ↦ absurd (let h = rw (w.spans-is, c.new-spans.ensures.items) at some in omega arith)
]
