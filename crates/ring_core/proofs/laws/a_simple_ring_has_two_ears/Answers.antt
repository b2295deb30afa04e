use Rattle.ring_core.proofs.ears.TwoEars.{two_ears, two_flat_or_ears}
use Rattle.ring_core.proofs.laws.a_simple_ring_has_two_ears.Goals as goal

pub returns-clause-ears : goal.returns-clause-ears
returns-clause-ears c = two_ears

pub returns-clause-flat_or_ears : goal.returns-clause-flat_or_ears
returns-clause-flat_or_ears c = two_flat_or_ears
