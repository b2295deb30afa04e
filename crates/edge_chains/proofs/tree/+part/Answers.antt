use Rattle.std.proofs.Common.{◌≡◌, ◌++◌, sym, subst}
use Rattle.std.specs.List.Sorted.{IsPermutation}
use Rattle.std.proofs.lemmas.List.Sorted.{IsPermutation-append, IsPermutation-append_right, IsPermutation-trans}
use Rattle.edge_chains.proofs.tree.+part.Goals as goal

pub returns : goal.returns
returns d c =
    let first = c.split_at_mut-rest.result.0.now in let rest = c.split_at_mut-rest.result.1.now in
    let sorted = c.sort_unstable_by_key.new.self in
    let low = c.split_at_mut-low.result.0.now in let high = c.split_at_mut-low.result.1.now in
    let whole : c.args.corners.now ≡ first ++ rest = c.split_at_mut-rest.ensures.value in
    let halves : sorted ≡ low ++ high = c.split_at_mut-low.ensures.value in
    subst (λ l. IsPermutation l (first ++ (c.part.new.corners ++ c.part-2.new.corners))) (sym whole)
    (IsPermutation-append_right first rest (c.part.new.corners ++ c.part-2.new.corners)
    (IsPermutation-trans rest sorted (c.part.new.corners ++ c.part-2.new.corners) c.sort_unstable_by_key.ensures.permutation
    (subst (λ l. IsPermutation l (c.part.new.corners ++ c.part-2.new.corners)) (sym halves)
    (IsPermutation-append low c.part.new.corners high c.part-2.new.corners c.part.ensures c.part-2.ensures))))
