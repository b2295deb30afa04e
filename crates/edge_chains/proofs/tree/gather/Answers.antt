use Rattle.std.proofs.Common.{◌∙◌, sym, subst, arith, ◌/◌, slice_index, slice_index_or}
use Rattle.edge_chains.specs.declared.blocks.TheConstants.{GROUP}
use Rattle.edge_chains.specs.own.Inside.{is_strictly_inside}
use Rattle.leaning_boxes.specs.Leaning.{IsHeld}
use Rattle.edge_chains.proofs.edges.Boxes.{filter_skips}
use Rattle.edge_chains.proofs.edges.Inside.{none_on}
use Rattle.edge_chains.proofs.tree.gather.Goals as goal

pub loop-at-preserved-then-is_off : goal.loop-at-preserved-then-is_off
loop-at-preserved-then-is_off g c =
    let at = c.loop-at.at in
    let here = c.requires.in_place.go_on at c.loop-at-test.true in
    record {
      in_range = here.1;
      so_far = c.loop-at.invariant.so_far
          ∙ sym (filter_skips (λ x. is_strictly_inside x c.args.a c.args.b) c.args.corners.now c.args.a at
          (slice_index c.args.ends.now (at / GROUP)) (omega (arith, here)) here.1
          (λ k l m. none_on (slice_index_or c.args.corners.now k c.args.a) c.args.a c.args.b
          (c.is_off.ensures c.if-is_off.true (slice_index_or c.args.corners.now k c.args.a)
          (subst (λ box. IsHeld box (slice_index_or c.args.corners.now k c.args.a)) (sym c.index-boxes-group.is)
          (c.requires.have_blocks (at / GROUP) (omega (arith, c.loop-at-test.true)) k c.args.a c.index-boxes-group.result
          (omega (arith, l)) m)))));
    }
