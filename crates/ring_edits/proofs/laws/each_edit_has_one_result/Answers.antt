use Rattle.ring_edits.proofs.OneResult.{one_split, one_merge, one_move}
use Rattle.ring_edits.proofs.laws.each_edit_has_one_result.Goals as goal

pub returns-clause-split : goal.returns-clause-split
returns-clause-split c = one_split

pub returns-clause-merged : goal.returns-clause-merged
returns-clause-merged c = one_merge

pub returns-clause-moved : goal.returns-clause-moved
returns-clause-moved c = one_move
