use Rattle.ring_edits.proofs.Lengths.{split_lengths, split_bound, least_length, merge_bound, move_bound, straightened_length}
use Rattle.ring_edits.proofs.OneEdge.{put_length, put_not_shorter}
use Rattle.ring_edits.specs.Edits.{put_between}
use Rattle.ring_edits.proofs.laws.new_rings_have_so_many_corners.Goals as goal

pub returns-clause-split_both : goal.returns-clause-split_both
returns-clause-split_both c = split_lengths

pub returns-clause-split_each : goal.returns-clause-split_each
returns-clause-split_each c = split_bound

pub returns-clause-inserted : goal.returns-clause-inserted
returns-clause-inserted c = put_length

pub returns-clause-not_fewer : goal.returns-clause-not_fewer
returns-clause-not_fewer c = put_not_shorter

pub returns-clause-begun : goal.returns-clause-begun
returns-clause-begun c = λ ring from to at. least_length (put_between from to at ring)

pub returns-clause-straightened : goal.returns-clause-straightened
returns-clause-straightened c = straightened_length

pub returns-clause-merged : goal.returns-clause-merged
returns-clause-merged c = merge_bound

pub returns-clause-moved : goal.returns-clause-moved
returns-clause-moved c = move_bound
