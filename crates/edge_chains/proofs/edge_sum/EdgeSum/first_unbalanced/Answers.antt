use Rattle.std.proofs.Common.{sym, ap, ◌∙◌, subst, ◌++◌, ◌∷◌, [], None, rules, w64}
use Rattle.std.proofs.lemmas.Int.{to_z-of_z}
use mir.Val.{SFits}
use Rattle.edge_chains.specs.Counts.{net_at, Counts, AreCounts}
use Rattle.edge_chains.proofs.nets.Firsts.{IsFirstOf, IsFirstOf-more, IsFirstOf-whole, IsFirstUnbalanced-from_first}
use Rattle.edge_chains.proofs.nets.Firsts.{found_next, one_more_done, none_counted, if_none_always}
use Rattle.edge_chains.proofs.jumps.Jumps.{jump_beside}
use Rattle.edge_chains.proofs.nets.Balance.{winding_of_rings-balanced, area2_of_rings-balanced, balanced_where_zero}
use Rattle.edge_chains.proofs.edge_sum.EdgeSum.first_unbalanced.Goals as goal

pub loop-edge-preserved : goal.loop-edge-preserved
loop-edge-preserved g c =
    let h = c.loop-edge.invariant in
    let v = ap (λ (s : Counts). s.counts) c.self.view_is in
    let f : SFits w64 c.in-Some.number.now = search rules in
    let found = found_next c.self.inside.numbers.entries c.args.self.now.counts h.0 c.loop-edge.edge-iterator c.next.new.self
    (c.in-Some.edge.now, c.in-Some.number.now)
    c.iter-edge-items.ensures.found v h.1 c.in-Some.ensures.steps in (
      h.0 ++ (c.in-Some.edge.now, c.in-Some.number.now) ∷ [],
      one_more_done c.args.self.now.counts h.0 c.loop-edge.edge-iterator c.next.new.self
          (c.in-Some.edge.now, c.in-Some.number.now) h.1 c.in-Some.ensures.steps,
      IsFirstOf-more c.args.self.now.counts h.0 c.loop-edge.first (c.in-Some.edge.now, c.in-Some.number.now) c.earlier.result found
          (rw (to_z-of_z w64 c.in-Some.number.now f) at c.earlier.ensures.only)
          (rw (to_z-of_z w64 c.in-Some.number.now f) at c.earlier.ensures.first) h.2,
    )

pub returns-clause-first : goal.returns-clause-first
returns-clause-first g c =
    let h = c.loop-edge.invariant in
    let v = ap (λ (s : Counts). s.counts) c.self.view_is in
    let f : SFits w64 c.in_ok-a.number = search rules in
    rw (to_z-of_z w64 c.in_ok-a.number f)
    (IsFirstUnbalanced-from_first c.args.self.now ((c.in_ok-a.a, c.in_ok-a.b), c.in_ok-a.number) c.self.inside.edges
    (subst (λ es. AreCounts es c.self.inside.edges) v c.self.invariant)
    (subst (λ x. IsFirstOf c.args.self.now.counts x c.args.self.now.counts) c.in_ok-a.was
    (IsFirstOf-whole c.args.self.now.counts h.0 c.loop-edge.edge-iterator c.loop-edge.first c.in-None.ensures.steps.0 h.1 h.2)))

pub returns-in_err-a-clause-windings : goal.returns-in_err-a-clause-windings
returns-in_err-a-clause-windings g c =
    let h = c.loop-edge.invariant in
    let none : IsFirstOf c.args.self.now.counts None c.args.self.now.counts =
    subst (λ x. IsFirstOf c.args.self.now.counts x c.args.self.now.counts) c.in_err-a.was
    (IsFirstOf-whole c.args.self.now.counts h.0 c.loop-edge.edge-iterator c.loop-edge.first c.in-None.ensures.steps.0 h.1 h.2) in
    if_none_always _ c.from_residual.result
    (λ added taken k. winding_of_rings-balanced added taken (balanced_where_zero c.args.self.now added taken k
    (none_counted c.args.self.now.counts none)))

pub returns-in_err-a-clause-areas : goal.returns-in_err-a-clause-areas
returns-in_err-a-clause-areas g c =
    let h = c.loop-edge.invariant in
    let none : IsFirstOf c.args.self.now.counts None c.args.self.now.counts =
    subst (λ x. IsFirstOf c.args.self.now.counts x c.args.self.now.counts) c.in_err-a.was
    (IsFirstOf-whole c.args.self.now.counts h.0 c.loop-edge.edge-iterator c.loop-edge.first c.in-None.ensures.steps.0 h.1 h.2) in
    if_none_always _ c.from_residual.result
    (λ added taken k. area2_of_rings-balanced added taken (balanced_where_zero c.args.self.now added taken k
    (none_counted c.args.self.now.counts none)))

pub returns-clause-jump : goal.returns-clause-jump
returns-clause-jump g c =
    let first = returns-clause-first g c in
    λ added taken k h. jump_beside added taken h c.in_ok-a.a c.in_ok-a.b
    (λ z. first.is_unbalanced (sym {a = net_at c.args.self.now.counts c.in_ok-a.a c.in_ok-a.b} first.number
    ∙ k c.in_ok-a.a c.in_ok-a.b ∙ z))
