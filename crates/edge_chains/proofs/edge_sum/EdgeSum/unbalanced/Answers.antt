use Rattle.std.proofs.Common.{ap, subst}
use Rattle.std.specs.List.{IsDistinct}
use Rattle.std.specs.List.Sorted.{IsPermutation}
use Rattle.std.specs.Map.{keys_of}
use Rattle.edge_chains.specs.Counts.{Counts, is_same_edge, AreCounts}
use Rattle.edge_chains.proofs.nets.Unbalanced.{told_whole, are_unbalanced}
use Rattle.edge_chains.proofs.edge_sum.EdgeSum.unbalanced.Goals as goal

pub returns : goal.returns
returns g c =
    let v = ap (λ (s : Counts). s.counts) c.self.view_is in
    let whole = told_whole c.loop-a.edges.items c.loop-a.a-iterator c.args.self.now.counts c.in-None.ensures.steps.0 c.loop-a.invariant in
    are_unbalanced c.args.self.now c.self.inside.edges c.sort_unstable.new.self.items
    (subst (λ es. AreCounts es c.self.inside.edges) v c.self.invariant)
    (subst (λ es. IsDistinct is_same_edge (keys_of es)) v c.iter-a-items.ensures.unique)
    (subst (λ xs. IsPermutation xs c.sort_unstable.new.self.items) whole c.sort_unstable.ensures.permutation)
    c.sort_unstable.ensures.sorted
