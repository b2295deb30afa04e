use Rattle.std.proofs.Common.{arith, length}
use Rattle.edge_chains.proofs.edges.Boxes.{first_inside}
use Rattle.edge_chains.proofs.tree.box_at.Goals as goal

pub returns-then-start-end : goal.returns-then-start-end
returns-then-start-end c = λ inside k corner from to.
    let own = first_inside (length c.args.corners.now) c.args.ends.now c.requires.ends c.args.group inside in
    c.box_of.ensures k corner from (omega (arith, to, own, c.min-end.ensures))
