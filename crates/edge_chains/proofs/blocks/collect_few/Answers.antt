use Rattle.std.proofs.Common.{◌∙◌, sym, subst, arith, ◌/◌, slice_index, slice_index_or}
use Rattle.geo_exact.specs.Bounds.{holds_corner, HoldsCorner}
use Rattle.edge_chains.proofs.edges.Boxes.{filter_skips}
use Rattle.edge_chains.proofs.blocks.collect_few.Goals as goal

pub loop-at-preserved-then-are_disjoint : goal.loop-at-preserved-then-are_disjoint
loop-at-preserved-then-are_disjoint g c =
    let at = c.loop-at.at in
    let d = c.args.bounds.now.low in
    let here = c.requires.in_place.go_on at c.loop-at-test.true in
    record {
      in_range = here.1;
      so_far = c.loop-at.invariant.so_far ∙ sym (filter_skips (λ x. holds_corner c.args.bounds.now x) c.args.corners.now d at
          (slice_index c.args.ends.now (at / 4)) (omega (arith, here)) here.1
          (λ k l m. c.are_disjoint.ensures c.if-are_disjoint.true _
          (subst (λ box. HoldsCorner box (slice_index_or c.args.corners.now k d)) (sym c.index-boxes-group.is)
          (c.requires.have_blocks (at / 4) (omega (arith, c.loop-at-test.true)) k d c.index-boxes-group.result (omega (arith, l)) m))));
    }
