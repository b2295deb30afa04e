use Rattle.std.proofs.Common.{◌≡◌, ◌∙◌, ap, subst, IfSome}
use Rattle.std.specs.List.{filter}
use Rattle.std.proofs.lemmas.Result.{IfOk-weaker}
use Rattle.edge_chains.specs.own.Inside.{is_strictly_inside}
use Rattle.edge_chains.specs.own.Steps.{AreInside}
use Rattle.edge_chains.proofs.edges.OnSteps.{inside_from_filter}
use Rattle.edge_chains.proofs.far.Far.in_boxes.Goals as goal

pub returns-in-Some : goal.returns-in-Some
returns-in-Some g c =
    let a = c.args.a in
    let b = c.args.b in
    let found = c.in-Some.found in
    let is = subst (λ seen. IfSome seen (λ found. found.items
    ≡ filter (λ x. is_strictly_inside x a b) c.self.inside.blocks.now)) c.in-Some.is c.in_ok-found.ensures in
    subst (λ xs. AreInside xs a b found.items) c.self.view_is (inside_from_filter c.self.inside.blocks.now found.items a b is)

pub returns-in-None : goal.returns-in-None
returns-in-None g c =
    IfOk-weaker c.inside_of.result _ _
    (λ found h. inside_from_filter c.args.self.now found.items c.args.a c.args.b
    (h ∙ ap (filter (λ x. is_strictly_inside x c.args.a c.args.b)) (c.corners-corners.ensures ∙ c.self.view_is)))
    c.inside_of.ensures
