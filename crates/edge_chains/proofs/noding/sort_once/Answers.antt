use Rattle.std.proofs.lemmas.List.Filters.{dedup_is}
use Rattle.std.proofs.lemmas.List.Kept.{Contains-dedup, Contains-from_dedup, IsStrictlySortedBy-dedup}
use Rattle.std.proofs.lemmas.List.Sorted.{Contains-permutation, IsPermutation-sym}
use Rattle.geo_exact.proofs.corners_and_turns.CornerOrder.{corner_cmp_total, corner_ties, same_from_test}
use Rattle.geo_exact.specs.Order.{is_same_equivalence}
use Rattle.edge_chains.proofs.noding.sort_once.Goals as goal

pub returns : goal.returns
returns g c =
    let is = dedup_is _ _ _ c.dedup.ensures.filtered in
    let moved = c.sort_unstable.ensures.permutation in
    record {
      rises = rw is (IsStrictlySortedBy-dedup corner_cmp_total corner_ties _ c.sort_unstable.ensures.sorted);
      keeps = λ x h. rw is (Contains-dedup is_same_equivalence same_from_test _ x (Contains-permutation _ _ x moved h));
      adds_none = λ x h. Contains-permutation _ _ x (IsPermutation-sym _ _ moved) (Contains-from_dedup _ _ x (rw is at h));
    }
