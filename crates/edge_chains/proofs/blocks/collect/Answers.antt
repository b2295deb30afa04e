use Rattle.std.proofs.Common.{◌∙◌, sym, subst, arith, ◌/◌, slice_index, slice_index_or}
use Rattle.edge_chains.specs.own.Inside.{is_strictly_inside}
use Rattle.geo_exact.specs.Bounds.{HoldsCorner}
use Rattle.edge_chains.proofs.edges.Boxes.{filter_skips}
use Rattle.edge_chains.proofs.blocks.collect.Goals as goal

pub loop-at-preserved-then-misses : goal.loop-at-preserved-then-misses
loop-at-preserved-then-misses g c =
    let at = c.loop-at.at in
    let here = c.requires.in_place.go_on at c.loop-at-test.true in
    record {
      in_range = here.1;
      so_far = c.loop-at.invariant.so_far
          ∙ sym (filter_skips (λ x. is_strictly_inside x c.args.edge.0 c.args.edge.1) c.args.corners.now c.args.edge.0 at
          (slice_index c.args.ends.now (at / 4)) (omega (arith, here)) here.1
          (λ k l m. c.misses.ensures c.if-misses.true _
          (subst (λ box. HoldsCorner box (slice_index_or c.args.corners.now k c.args.edge.0)) (sym c.index-boxes-group.is)
          (c.requires.have_blocks (at / 4) (omega (arith, c.loop-at-test.true)) k c.args.edge.0 c.index-boxes-group.result
          (omega (arith, l)) m))));
    }
