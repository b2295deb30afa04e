use Rattle.std.proofs.Common.{◌∙◌, ap, length, refl, subst, sym}
use Rattle.std.specs.Prelude.{IsPermutation}
use Rattle.ring_core.specs.own.ByPlace.{AreEdgesOf}
use Rattle.geo_exact.proofs.numbers.Dropped.{refilled}
use Rattle.ring_core.proofs.searches.PlacedEdges.{edges_permuted}
use Rattle.ring_core.proofs.by_place.edges_by_place.Goals as goal

pub returns : goal.returns
returns c =
    let n = length c.args.ring.now in
    let old = c.edges_in_order-edges.result.items in let new = c.sort_unstable_by_key.new.self in
    let long = c.sort_unstable_by_key.ensures.len ∙ ap length c.deref_mut.ensures.value in
    subst (AreEdgesOf n) (sym (refilled (length old) old new refl long))
    (edges_permuted n old new (subst (λ l. IsPermutation l new) c.deref_mut.ensures.value c.sort_unstable_by_key.ensures.permutation) long
    c.edges_in_order-edges.ensures)
