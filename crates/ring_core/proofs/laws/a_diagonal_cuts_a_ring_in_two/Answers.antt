use Rattle.ring_core.proofs.ears.PartsOfRings.{parts_simple}
use Rattle.ring_core.proofs.laws.a_diagonal_cuts_a_ring_in_two.Goals as goal

pub returns : goal.returns
returns c = parts_simple
