use Rattle.std.proofs.Common.{◌↔◌, subst, ◌∙◌, IfSome}
use Rattle.std.specs.List.{Contains}
use Rattle.std.proofs.lemmas.Result.{IfOk-weaker}
use Rattle.geo_exact.specs.declared.corner.Corner.{Corner}
use Rattle.edge_chains.specs.own.Steps.{AreInside}
use Rattle.edge_chains.proofs.edges.OnSteps.{inside_alike, inside_from_filter}
use Rattle.edge_chains.proofs.far.Far.slowly.Goals as goal

pub returns-in-Some-clause-found : goal.returns-in-Some-clause-found
returns-in-Some-clause-found g c =
    let tree = c.in-Some.tree in
    let same = subst (λ kept. IfSome kept (λ tree. (x : Corner) → Contains tree x ↔ Contains c.self.inside.blocks.now x)) c.in-Some.is
    c.self.invariant.tree_has in
    IfOk-weaker c.inside.result _ _
    (λ found h. inside_alike tree c.args.self.now (λ x. subst (λ xs. Contains tree x ↔ Contains xs x) c.self.view_is (same x))
    c.args.a c.args.b found.items (inside_from_filter tree found.items c.args.a c.args.b h))
    c.inside.ensures

pub returns-then-few-2-clause-found : goal.returns-then-few-2-clause-found
returns-then-few-2-clause-found g c =
    IfOk-weaker c.on_steps.result _ _ (λ found h. subst (λ xs. AreInside xs c.args.a c.args.b found.items)
    c.self.view_is h) c.on_steps.ensures.found

pub returns-else-few-2-clause-found : goal.returns-else-few-2-clause-found
returns-else-few-2-clause-found g c =
    IfOk-weaker c.in_boxes.result _ _ (λ found h. subst (λ xs. AreInside xs c.args.a c.args.b found.items)
    c.self.view_is h) c.in_boxes.ensures

pub invariant_of-self-2 : goal.invariant_of-self-2
invariant_of-self-2 g c = record {
  points_have = c.self.invariant.points_have;
  tree_has = λ x. subst (λ xs. Contains c.in_ok-tree.tree x ↔ Contains xs x) c.corners.ensures (c.in_ok-tree.ensures x);
  directions_have = c.self.invariant.directions_have;
}

pub returns-clause-found : goal.returns-clause-found
returns-clause-found g c =
    let tree = c.in_ok-tree.tree in let found = c.in_ok-found.found.items in
    inside_alike tree c.args.self.now
    (λ x. subst (λ xs. Contains tree x ↔ Contains xs x) (c.corners.ensures ∙ c.self.view_is) (c.in_ok-tree.ensures x))
    c.args.a c.args.b found (inside_from_filter tree found c.args.a c.args.b c.in_ok-found.ensures)
