use Rattle.ring_edits.proofs.PutEdges.{put_none}
use Rattle.ring_edits.proofs.PutGround.{put_begun, begun_twice}
use Rattle.ring_edits.proofs.laws.inserting_keeps_where_a_ring_begins.Goals as goal

pub returns-clause-begun : goal.returns-clause-begun
returns-clause-begun c = put_begun

pub returns-clause-unchanged : goal.returns-clause-unchanged
returns-clause-unchanged c = put_none

pub returns-clause-begins : goal.returns-clause-begins
returns-clause-begins c = begun_twice
