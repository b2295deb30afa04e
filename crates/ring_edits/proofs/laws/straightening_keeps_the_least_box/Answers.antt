use Rattle.ring_edits.proofs.Straight.{without_box, straightened_box}
use Rattle.ring_edits.proofs.laws.straightening_keeps_the_least_box.Goals as goal

pub returns-clause-taken : goal.returns-clause-taken
returns-clause-taken c = without_box

pub returns-clause-begun : goal.returns-clause-begun
returns-clause-begun c = straightened_box
