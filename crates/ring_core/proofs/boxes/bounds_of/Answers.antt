use Rattle.geo_exact.proofs.boxes.InBoxes.{holds_own, holds_wider}
use Rattle.ring_core.proofs.boxes.bounds_of.Goals as goal

pub returns : goal.returns
returns c =
    let edge = c.around-edge.ensures in
    let whole = c.around.ensures in
    record {
      a = holds_wider c.around-edge.result _ whole.first _
          (holds_wider c.of_corner.result c.around-edge.result edge.first _
          (holds_own c.of_corner.result _ c.of_corner.ensures.low c.of_corner.ensures.high));
      b = holds_wider c.around-edge.result _ whole.first _
          (holds_wider c.of_corner-2.result c.around-edge.result edge.second _
          (holds_own c.of_corner-2.result _ c.of_corner-2.ensures.low c.of_corner-2.ensures.high));
      c = holds_wider c.of_corner-3.result _ whole.second _
          (holds_own c.of_corner-3.result _ c.of_corner-3.ensures.low c.of_corner-3.ensures.high);
    }
