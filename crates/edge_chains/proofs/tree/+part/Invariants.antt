use Rattle.std.proofs.Common.{length}
use Rattle.edge_chains.proofs.tree.+part.Given as goal

abbrev pub decreases-part : goal.decreases-part
decreases-part l = length l.corners.now
