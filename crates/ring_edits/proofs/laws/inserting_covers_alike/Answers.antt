use Rattle.ring_edits.proofs.PutGround.{put_covers, with_corner_covers}
use Rattle.ring_edits.proofs.laws.inserting_covers_alike.Goals as goal

pub returns-clause-put : goal.returns-clause-put
returns-clause-put c = put_covers

pub returns-clause-begun : goal.returns-clause-begun
returns-clause-begun c = with_corner_covers
