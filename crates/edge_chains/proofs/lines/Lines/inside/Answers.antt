use Rattle.std.proofs.Common.{◌≡◌, refl, sym, ap, subst, FitsSigned, w64, rules, to_z, of_z}
use Rattle.std.specs.Int.{w128}
use Rattle.std.proofs.lemmas.Int.{to_z-of_z}
use Rattle.std.proofs.lemmas.Result.{IfOk-weaker}
use Rattle.edge_chains.specs.declared.lines.Ranked.{Ranked}
use Rattle.edge_chains.specs.own.Lines.{AreBetween, AreRanked, Ranks, rank_of}
use Rattle.edge_chains.specs.own.Steps.{AreInside, AreSteps}
use Rattle.edge_chains.proofs.edges.OnLines.{inside_all}
use Rattle.edge_chains.proofs.lines.Lines.inside.Goals as goal

pub returns : goal.returns
returns g c =
    let a = c.args.a in
    let b = c.args.b in
    let u = c.self.inside.across in
    let v = c.self.inside.up in
    let ranked = c.self.inside.ranked.items in
    let fu : FitsSigned w64 u = search rules in
    let fv : FitsSigned w64 v = search rules in
    let fr : FitsSigned w128 c.rank-rank.result = search rules in
    let rank = to_z w128 (of_z w128 c.rank-rank.result) in
    let low : Ranked = record { rank = rank; corner = a } in
    let high : Ranked = record { rank = rank; corner = b } in
    let e : rank ≡ rank_of u v a = simp to_z-of_z (simp to_z-of_z at c.rank-rank.ensures) in
    let steps : AreSteps a b u v c.requires.along.0 =
    subst (λ z. AreSteps a b z v c.requires.along.0) (sym (ap (λ (r : Ranks). r.across) c.self.view_is))
    (subst (λ z. AreSteps a b c.args.self.now.across z c.requires.along.0)
    (sym (ap (λ (r : Ranks). r.up) c.self.view_is)) c.requires.along.1) in
    let are : AreRanked u v ranked = c.self.invariant in
    IfOk-weaker c.between.result _ _
    (λ found h. subst (λ corners. AreInside corners a b found.items) (ap (λ (r : Ranks). r.corners) c.self.view_is)
    (inside_all ranked a b u v c.requires.along.0 low high found.items are steps c.requires.rises e refl e refl
    (subst (λ xs. AreBetween low high xs found.items) c.deref.ensures.value h)))
    c.between.ensures
