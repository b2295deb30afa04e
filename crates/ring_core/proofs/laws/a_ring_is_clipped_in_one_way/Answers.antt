use Rattle.ring_core.proofs.clipping.ClipUnique.{one_way}
use Rattle.ring_core.proofs.clipping.WholeClipping.{to_triangles}
use Rattle.ring_core.proofs.laws.a_ring_is_clipped_in_one_way.Goals as goal

pub returns-clause-to_triangles : goal.returns-clause-to_triangles
returns-clause-to_triangles c = to_triangles

pub returns-clause-one_way : goal.returns-clause-one_way
returns-clause-one_way c = one_way
