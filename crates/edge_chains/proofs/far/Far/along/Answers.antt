use Rattle.std.proofs.Common.{◌≡◌, ◌↔◌, sym, ◌∙◌, ap, subst, ◌∷◌, [], ◌++◌, IfSome}
use Rattle.std.specs.List.{All, Contains, filter}
use Rattle.std.proofs.lemmas.Result.{IfOk-weaker}
use Rattle.std.proofs.lemmas.List.Elements.{All-contains, All-push}
use Rattle.geo_exact.specs.declared.corner.Corner.{Corner}
use Rattle.edge_chains.specs.own.Inside.{is_strictly_inside}
use Rattle.edge_chains.specs.own.Lines.{Ranks}
use Rattle.edge_chains.specs.own.Steps.{AreInside}
use Rattle.edge_chains.proofs.edges.OnSteps.{inside_alike, inside_from_filter}
use Rattle.edge_chains.proofs.far.Far.along.Goals as goal

pub returns-in-Some-clause-found : goal.returns-in-Some-clause-found
returns-in-Some-clause-found g c =
    let lines = c.in-Some.lines.now in
    let same = All-contains (λ (ranks : Ranks). (x : Corner) → Contains ranks.corners x
    ↔ Contains c.self.inside.blocks.now x) c.self.inside.directions lines
    c.self.invariant.directions_have c.in-Some.ensures.0 in
    IfOk-weaker c.inside.result _ _
    (λ found h. inside_alike lines.corners c.args.self.now (λ x. subst (λ xs. Contains lines.corners x
    ↔ Contains xs x) c.self.view_is (same x))
    c.args.a c.args.b found.items h)
    c.inside.ensures

pub returns-in-Some-2-clause-found : goal.returns-in-Some-2-clause-found
returns-in-Some-2-clause-found g c =
    let a = c.args.a in
    let b = c.args.b in
    let found = c.in-Some-2.found in
    let is = subst (λ seen. IfSome seen (λ found. found.items
    ≡ filter (λ x. is_strictly_inside x a b) c.self.inside.blocks.now)) c.in-Some-2.is c.in_ok-found.ensures in
    subst (λ xs. AreInside xs a b found.items) c.self.view_is (inside_from_filter c.self.inside.blocks.now found.items a b is)

pub returns-then-not-branch-clause-found : goal.returns-then-not-branch-clause-found
returns-then-not-branch-clause-found g c =
    IfOk-weaker c.slowly.result _ _ (λ found h. subst (λ xs. AreInside xs c.args.a c.args.b found.items)
    c.self.view_is h) c.slowly.ensures.found

pub invariant_of-self-2 : goal.invariant_of-self-2
invariant_of-self-2 g c =
    let lines = c.in_ok-lines.lines in
    record {
      points_have = c.self.invariant.points_have;
      tree_has = c.self.invariant.tree_has;
      directions_have = subst (All (λ (ranks : Ranks). (x : Corner) → Contains ranks.corners x ↔ Contains c.self.inside.blocks.now x))
          (sym (c.in_ok-keep.ensures.kept ∙ ap (λ ds. ds ++ lines ∷ []) c.in_ok-count.ensures))
          (All-push (λ (ranks : Ranks). (x : Corner) → Contains ranks.corners x ↔ Contains c.self.inside.blocks.now x)
          c.self.inside.directions lines
          c.self.invariant.directions_have
          (λ x. subst (λ xs. Contains lines.corners x ↔ Contains xs x) c.corners.ensures (c.in_ok-lines.ensures.corners x)));
    }

pub returns-clause-found : goal.returns-clause-found
returns-clause-found g c =
    let lines = c.in_ok-lines.lines in
    inside_alike lines.corners c.args.self.now
    (λ x. subst (λ xs. Contains lines.corners x ↔ Contains xs x) (c.corners.ensures ∙ c.self.view_is)
    (c.in_ok-lines.ensures.corners x))
    c.args.a c.args.b c.in_ok-found-2.found.items c.in_ok-found-2.ensures
