use Rattle.ring_edits.proofs.BentAlike.{bends_alike}
use Rattle.ring_edits.proofs.laws.a_simple_ring_bends_only_with_its_parts.Goals as goal

pub returns : goal.returns
returns c = bends_alike
