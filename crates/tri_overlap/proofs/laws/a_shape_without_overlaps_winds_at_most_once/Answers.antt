use Rattle.tri_overlap.proofs.Unfolded.{ring_at_most_once}
use Rattle.tri_overlap.proofs.laws.a_shape_without_overlaps_winds_at_most_once.Goals as goal

pub returns : goal.returns
returns c = ring_at_most_once
