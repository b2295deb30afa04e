use Rattle.std.proofs.Common.{sym, ◌∙◌, ap}
use Rattle.edge_chains.proofs.nodings.NodedEdges.{IsNodedEdge-down, IsNodedEdge-up}
use Rattle.edge_chains.proofs.noding.inserted.Goals.{then-comes_before, else-comes_before}
use Rattle.edge_chains.proofs.noding.inserted.Goals as goal

pub returns-clause-inserted : goal.returns-clause-inserted
returns-clause-inserted g c = elim c.if-comes_before.branch [
  | then-comes_before w ↦
      IsNodedEdge-down c.args.search.now c.in_ok-corners.corners.items c.sort_once.new.corners.items
      c.if-comes_before.corners.items c.args.from c.args.to
      c.in_ok-corners.ensures.found c.sort_once.ensures.rises c.sort_once.ensures.keeps c.sort_once.ensures.adds_none
      (sym c.comes_before.ensures ∙ w.if-comes_before.true) (ap (λ v. v.items) w.corners-is ∙ w.reverse.ensures.items)
  | else-comes_before w ↦ IsNodedEdge-up c.args.search.now c.in_ok-corners.corners.items c.sort_once.new.corners.items
      c.if-comes_before.corners.items c.args.from c.args.to
      c.in_ok-corners.ensures.found c.sort_once.ensures.rises c.sort_once.ensures.keeps c.sort_once.ensures.adds_none
      (sym c.comes_before.ensures ∙ w.if-comes_before.false) (ap (λ v. v.items) w.corners-is)
]
