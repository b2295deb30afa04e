use Rattle.std.proofs.Common.{◌≡◌, sym, ◌∙◌, ap, subst, arith, List, ◌∷◌, ◌++◌}
use Rattle.geo_exact.specs.declared.corner.Corner.{Corner}
use Rattle.geo_exact.specs.Rings.{path}
use Rattle.geo_exact.proofs.rings.EdgeSums.{edge_of}
use Rattle.edge_chains.specs.Noding.{IsNodedEdge, AreNodedEdges, IsNoded}
use Rattle.edge_chains.proofs.nodings.NodedEdges.{noded_more, noded_all, noded_ring, noded_nothing}
use Rattle.edge_chains.proofs.noding.node_ring.Goals.{in-Some+else-loop-at-test+in_ok-node_edge-2, in_default}
use Rattle.edge_chains.proofs.noding.node_ring.Goals as goal

pub loop-at-preserved : goal.loop-at-preserved
loop-at-preserved g c =
    let corners = c.args.search.now in
    let inv = c.loop-at.invariant in
    let first = c.in-Some.first.now in
    let rest = c.in-Some.rest.now in
    let edge = c.in_ok-node_edge.ensures in
    record {
      same = edge.same ∙ inv.same;
      so_far = noded_more corners (path first rest first) c.loop-at.noded.items c.node_edge.new.noded.items
          c.loop-at.from c.index-rest-at.result first rest c.loop-at.at c.loop-at-test.true c.index-rest-at.is
          (subst (λ search. (inner : List Corner) × IsNodedEdge search (edge_of c.loop-at.from c.index-rest-at.result) inner
          × (c.node_edge.new.noded.items ≡ c.loop-at.noded.items ++ c.loop-at.from ∷ inner)) inv.same edge.noded) inv.so_far;
    }

pub returns-clause-noded : goal.returns-clause-noded
returns-clause-noded g c = subst (IsNoded c.args.ring.now c.args.search.now) (sym c.from_vec.ensures) (elim c.match-split_first.branch [
  | in-Some+else-loop-at-test+in_ok-node_edge-2 w ↦
      let corners = c.args.search.now in
      let inv = w.loop-at.invariant in
      let first = w.in-Some.first.now in
      let rest = w.in-Some.rest.now in
      let whole = path first rest first in
      noded_ring corners c.args.ring.now c.match-split_first.noded.items first rest w.in-Some.ensures.cases.0
      (subst (AreNodedEdges corners whole) (sym (ap (λ v. v.items) w.noded-is))
      (noded_all corners whole w.loop-at.noded.items w.node_edge-in-Some.new.noded.items w.loop-at.from first rest w.loop-at.at
      (omega (arith, w.loop-at-test.false, w.loop-at.auto.at-end))
      (subst (λ search. (inner : List Corner) × IsNodedEdge search (edge_of w.loop-at.from first) inner
      × (w.node_edge-in-Some.new.noded.items ≡ w.loop-at.noded.items ++ w.loop-at.from ∷ inner)) inv.same
      w.in_ok-node_edge-2.ensures.noded) inv.so_far))
  | in_default w ↦ noded_nothing c.args.search.now c.args.ring.now c.match-split_first.noded.items w.in_default.ensures.cases
      (ap (λ v. v.items) w.noded-is ∙ c.in_ok-noded.ensures.items)
])
