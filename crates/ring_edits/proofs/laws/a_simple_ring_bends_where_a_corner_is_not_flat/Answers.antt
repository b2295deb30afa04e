use Rattle.ring_edits.proofs.Straight.{bends_not_flat}
use Rattle.ring_edits.proofs.laws.a_simple_ring_bends_where_a_corner_is_not_flat.Goals as goal

pub returns : goal.returns
returns c = bends_not_flat
