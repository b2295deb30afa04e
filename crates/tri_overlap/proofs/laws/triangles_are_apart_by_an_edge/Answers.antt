use Rattle.tri_overlap.proofs.Separators.{apart_by_an_edge}
use Rattle.tri_overlap.proofs.laws.triangles_are_apart_by_an_edge.Goals as goal

pub returns : goal.returns
returns c = apart_by_an_edge
