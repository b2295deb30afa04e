use Rattle.ring_edits.proofs.PutGround.{put_box, with_corner_box}
use Rattle.ring_edits.proofs.laws.inserting_keeps_the_least_box.Goals as goal

pub returns-clause-put : goal.returns-clause-put
returns-clause-put c = put_box

pub returns-clause-begun : goal.returns-clause-begun
returns-clause-begun c = with_corner_box
