use Rattle.ring_core.proofs.ears.Diagonals.{diagonal_of_blocked}
use Rattle.ring_core.proofs.laws.a_left_turn_that_is_no_ear_has_a_diagonal.Goals as goal

pub returns : goal.returns
returns c = diagonal_of_blocked
