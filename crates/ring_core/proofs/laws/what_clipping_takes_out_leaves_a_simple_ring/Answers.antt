use Rattle.ring_core.proofs.ears.LeftSimple.{clipped_simple}
use Rattle.ring_core.proofs.laws.what_clipping_takes_out_leaves_a_simple_ring.Goals as goal

pub returns : goal.returns
returns c = clipped_simple
