use Rattle.std.proofs.Common.{◌↔◌, subst, ◌∙◌, IfSome}
use Rattle.std.specs.List.{Contains}
use Rattle.std.proofs.lemmas.Result.{IfOk-weaker}
use Rattle.geo_exact.specs.declared.corner.Corner.{Corner}
use Rattle.edge_chains.proofs.edges.OnSteps.{inside_alike}
use Rattle.edge_chains.proofs.far.Far.on_steps.Goals as goal

pub returns-in-Some-clause-found : goal.returns-in-Some-clause-found
returns-in-Some-clause-found g c =
    let points = c.in-Some.points in
    let same = subst (λ kept. IfSome kept (λ points. (x : Corner) → Contains points x ↔ Contains c.self.inside.blocks.now x)) c.in-Some.is
    c.self.invariant.points_have in
    IfOk-weaker c.inside.result _ _
    (λ found h. inside_alike points c.args.self.now (λ x. subst (λ xs. Contains points x ↔ Contains xs x) c.self.view_is (same x))
    c.args.a c.args.b found.items h)
    c.inside.ensures

pub invariant_of-self : goal.invariant_of-self
invariant_of-self g c = record {
  points_have = λ x. subst (λ xs. Contains c.in_ok-points.points x ↔ Contains xs x) c.corners.ensures (c.in_ok-points.ensures x);
  directions_have = c.self.invariant.directions_have;
  tree_has = c.self.invariant.tree_has;
}

pub returns-clause-found : goal.returns-clause-found
returns-clause-found g c =
    let points = c.in_ok-points.points in
    inside_alike points c.args.self.now
    (λ x. subst (λ xs. Contains points x ↔ Contains xs x) (c.corners.ensures ∙ c.self.view_is) (c.in_ok-points.ensures x))
    c.args.a c.args.b c.in_ok-found.found.items c.in_ok-found.ensures
