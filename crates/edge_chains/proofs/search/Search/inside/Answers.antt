use Rattle.std.proofs.Common.{◌≡◌, sym, ◌∙◌, ap, subst, Bool}
use Rattle.std.specs.List.{filter}
use Rattle.std.proofs.lemmas.Result.{IfOk-weaker}
use Rattle.geo_exact.specs.declared.corner.Corner.{Corner}
use Rattle.edge_chains.specs.own.Inside.{is_strictly_inside}
use Rattle.edge_chains.specs.own.Steps.{AreInside}
use Rattle.geo_exact.specs.Bounds.{holds_corner}
use Rattle.edge_chains.proofs.edges.Boxes.{filter_within}
use Rattle.edge_chains.proofs.edges.OnSteps.{inside_from_filter}
use Rattle.edge_chains.proofs.search.Search.inside.Goals.{then-not-covers+in_ok-move_to, else-not-covers}
use Rattle.edge_chains.proofs.search.Search.inside.Goals as goal

pub invariant_of-self : goal.invariant_of-self
invariant_of-self g c = c.self-2.invariant ∙ ap (filter (λ x. holds_corner c.self-2.inside.bounds x)) (sym c.inside.ensures.same)

pub returns-then-covers-clause-found : goal.returns-then-covers-clause-found
returns-then-covers-clause-found g c =
    let a = c.args.from in
    let b = c.args.to in
    let tests : Corner → Bool = λ x. is_strictly_inside x a b in
    let far = c.self-2.inside.far in
    let same : far ≡ c.args.self.now = elim c.if-not-covers.branch [
      | then-not-covers+in_ok-move_to w ↦ let v = c.self-2.view_is in let s = w.self-is in let t = w.move_to.ensures in cc
      | else-not-covers w ↦ let v = c.self-2.view_is in let s = w.self-is in cc
    ] in
    IfOk-weaker c.inside_of.result _ _
    (λ found h. inside_from_filter c.args.self.now found.items a b (h ∙ ap (filter tests) (c.deref.ensures.value ∙ c.self-2.invariant)
    ∙ filter_within tests (λ x. holds_corner c.self-2.inside.bounds x) far (c.covers-2.ensures c.if-covers.true)
    ∙ ap (filter tests) same))
    c.inside_of.ensures

pub returns-else-covers-clause-found : goal.returns-else-covers-clause-found
returns-else-covers-clause-found g c =
    let far = c.self-2.inside.far in
    let same : far ≡ c.args.self.now = elim c.if-not-covers.branch [
      | then-not-covers+in_ok-move_to w ↦ let v = c.self-2.view_is in let s = w.self-is in let t = w.move_to.ensures in cc
      | else-not-covers w ↦ let v = c.self-2.view_is in let s = w.self-is in cc
    ] in
    IfOk-weaker c.inside.result _ _ (λ found h. subst (λ xs. AreInside xs c.args.from c.args.to found.items) same h)
    c.inside.ensures.found
