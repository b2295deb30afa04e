use Rattle.ring_core.proofs.searches.RightOfEdges.{right_by}
use Rattle.ring_core.proofs.searches.Sides.{below_zero}
use Rattle.ring_core.proofs.boxes.is_on_right.Goals as goal

pub returns : goal.returns
returns c = λ e q h. right_by _ _ c.turn.result (c.leftmost.ensures q h) c.turn.ensures.value
    (below_zero c.turn.result (record { sfits = c.turn.type_inv }) e)
