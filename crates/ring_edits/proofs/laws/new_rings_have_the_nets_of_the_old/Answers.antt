use Rattle.ring_edits.proofs.EditNets.{split_nets, merge_nets, move_nets}
use Rattle.ring_edits.proofs.laws.new_rings_have_the_nets_of_the_old.Goals as goal

pub returns-clause-split : goal.returns-clause-split
returns-clause-split c = split_nets

pub returns-clause-merged : goal.returns-clause-merged
returns-clause-merged c = merge_nets

pub returns-clause-moved : goal.returns-clause-moved
returns-clause-moved c = move_nets
