use Rattle.std.proofs.Common.{arith, sym, subst}
use Rattle.std.proofs.lemmas.List.{take_all}
use Rattle.geo_exact.specs.Bounds.{HoldsCorner}
use Rattle.ring_core.proofs.clipping.LeastBoxes.{holds_more, least_of_one, least_of_two}
use Rattle.scaled_rings.proofs.boxes.least_box.Goals as goal

pub loop-corner-init : goal.loop-corner-init
loop-corner-init c = record {
  holds = λ k d h. absurd (omega (arith, h));
  is_least = λ other all. c.nowhere-bounds.ensures.wider other;
}

pub loop-corner-preserved : goal.loop-corner-preserved
loop-corner-preserved c =
    let i = c.loop-corner.corner-index in let corner = c.corner-item.result in let own = c.of_corner.result in
    let wider = c.around-bounds.ensures in
    record {
      holds = holds_more c.args.corners.now i corner c.loop-corner.bounds own c.around-bounds.result
          c.loop-corner-test.true c.corner-item.is
          wider.first wider.second c.of_corner.ensures.low c.of_corner.ensures.high c.loop-corner.invariant.holds;
      is_least = λ other all.
          least_of_two c.loop-corner.bounds own c.around-bounds.result other wider.left wider.bottom wider.right wider.top
          (c.loop-corner.invariant.is_least other all)
          (least_of_one own other corner c.of_corner.ensures.low c.of_corner.ensures.high
          (subst (HoldsCorner other) (sym c.corner-item.is) (all i corner c.loop-corner-test.true)));
    }

pub returns : goal.returns
returns c = record {
  holds = rw (take_all c.loop-corner.corner-index c.args.corners.now c.loop-corner-test.false) at c.loop-corner.invariant.holds;
  is_least = c.loop-corner.invariant.is_least;
}
