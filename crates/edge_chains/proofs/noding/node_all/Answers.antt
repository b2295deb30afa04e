use Rattle.std.proofs.Common.{subst, ◌∙◌}
use Rattle.std.specs.List.{AllZip}
use Rattle.std.proofs.lemmas.List.{take_all}
use Rattle.edge_chains.specs.Noding.{IsNoded}
use Rattle.edge_chains.proofs.nodings.NodedEdges.{AllZip-more}
use Rattle.edge_chains.proofs.noding.node_all.Goals as goal

pub loop-ring-preserved : goal.loop-ring-preserved
loop-ring-preserved g c =
    let before = c.args.blocks.now in
    let inv = c.loop-ring.invariant in
    let out = c.in_ok-node_ring.field-0 in
    record {
      same = c.in_ok-node_ring.ensures.same ∙ inv.same;
      so_far = rw c.in_ok-push.ensures.items
          (AllZip-more (λ ring out. IsNoded ring before out) c.args.rings.now c.loop-ring.noded.items
          c.loop-ring.ring-index c.ring-item.result out
          c.loop-ring-test.true c.ring-item.is inv.so_far
          (subst (λ search. IsNoded c.ring-item.result search out) inv.same
          (subst (λ ring. IsNoded ring c.loop-ring.search out) c.as_slice.ensures c.in_ok-node_ring.ensures.noded)));
    }

pub returns : goal.returns
returns g c =
    subst (λ rings. AllZip (λ ring out. IsNoded ring c.args.blocks.now out) rings c.loop-ring.noded.items)
    (take_all c.loop-ring.ring-index c.args.rings.now c.loop-ring-test.false) c.loop-ring.invariant.so_far
