use Rattle.ring_edits.proofs.Straight.{without_covers, straightened_covers}
use Rattle.ring_edits.proofs.laws.straightening_covers_alike.Goals as goal

pub returns-clause-taken : goal.returns-clause-taken
returns-clause-taken c = without_covers

pub returns-clause-begun : goal.returns-clause-begun
returns-clause-begun c = straightened_covers
