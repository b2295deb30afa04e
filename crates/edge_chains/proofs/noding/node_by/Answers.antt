use Rattle.std.proofs.lemmas.Result.{IfOk-weaker}
use Rattle.edge_chains.proofs.nodings.NodedLists.{noded_alike, windings_noded, boundaries_noded, areas_noded, cuts_noded}
use Rattle.edge_chains.proofs.noding.node_by.Goals as goal

pub returns-clause-noded : goal.returns-clause-noded
returns-clause-noded g c =
    IfOk-weaker c.node_shared.result _ _
    (λ noded h. noded_alike c.in_ok-blocks.blocks c.args.corners.now c.in_ok-blocks.ensures c.args.rings.now noded.items h)
    c.node_shared.ensures

pub returns-clause-windings : goal.returns-clause-windings
returns-clause-windings g c =
    IfOk-weaker c.node_shared.result _ _
    (λ noded h. windings_noded c.in_ok-blocks.blocks c.args.rings.now noded.items h) c.node_shared.ensures

pub returns-clause-boundaries : goal.returns-clause-boundaries
returns-clause-boundaries g c =
    IfOk-weaker c.node_shared.result _ _
    (λ noded h. boundaries_noded c.in_ok-blocks.blocks c.args.rings.now noded.items h) c.node_shared.ensures

pub returns-clause-areas : goal.returns-clause-areas
returns-clause-areas g c =
    IfOk-weaker c.node_shared.result _ _
    (λ noded h. areas_noded c.in_ok-blocks.blocks c.args.rings.now noded.items h) c.node_shared.ensures

pub returns-clause-cuts : goal.returns-clause-cuts
returns-clause-cuts g c =
    IfOk-weaker c.node_shared.result _ _
    (λ noded h. cuts_noded c.in_ok-blocks.blocks c.args.corners.now c.in_ok-blocks.ensures c.args.rings.now noded.items h)
    c.node_shared.ensures
