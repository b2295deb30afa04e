use Rattle.ring_edits.proofs.StaySimple.{noded_simple, put_simple, without_simple}
use Rattle.ring_edits.proofs.laws.simple_rings_stay_simple.Goals as goal

pub returns-clause-noded : goal.returns-clause-noded
returns-clause-noded c = noded_simple

pub returns-clause-put : goal.returns-clause-put
returns-clause-put c = put_simple

pub returns-clause-taken : goal.returns-clause-taken
returns-clause-taken c = without_simple
