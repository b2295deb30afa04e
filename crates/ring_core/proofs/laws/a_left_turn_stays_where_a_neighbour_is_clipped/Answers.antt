use Rattle.ring_core.proofs.ears.StillLeft.{still_left_at_previous, still_left_at_next}
use Rattle.ring_core.proofs.laws.a_left_turn_stays_where_a_neighbour_is_clipped.Goals as goal

pub returns-clause-after_it : goal.returns-clause-after_it
returns-clause-after_it c = still_left_at_previous

pub returns-clause-before_it : goal.returns-clause-before_it
returns-clause-before_it c = still_left_at_next
