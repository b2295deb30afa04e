use Rattle.std.proofs.lemmas.List.Filters.{dedup_is}
use Rattle.std.proofs.lemmas.List.Kept.{Contains-dedup, Contains-from_dedup}
use Rattle.std.proofs.lemmas.List.Sorted.{Contains-permutation, IsPermutation-sym, IsPermutation-map}
use Rattle.std.proofs.Common.{map, subst, sym}
use Rattle.std.specs.List.Sorted.{IsPermutation}
use Rattle.geo_exact.proofs.corners_and_turns.CornerOrder.{same_from_test}
use Rattle.geo_exact.specs.Order.{is_same_equivalence}
use Rattle.edge_chains.proofs.blocks.by_place.Goals as goal

pub returns : goal.returns
returns g c =
    let is = dedup_is _ _ _ c.dedup.ensures.filtered in
    let moved : IsPermutation c.args.corners.now c.in_ok-ordered.ordered.items =
    subst (λ xs. IsPermutation xs c.in_ok-ordered.ordered.items) (c.in_ok-placed.ensures _)
    (subst (IsPermutation (map _ c.in_ok-placed.placed.items)) (sym c.in_ok-ordered.ensures)
    (IsPermutation-map _ c.in_ok-placed.placed.items c.deref.result.now
    (subst (IsPermutation c.in_ok-placed.placed.items) (sym c.deref.ensures.value) c.sort_unstable_by_key.ensures.permutation))) in
    λ x. (
      λ h. Contains-permutation _ _ x (IsPermutation-sym c.args.corners.now c.in_ok-ordered.ordered.items moved)
          (Contains-from_dedup _ c.in_ok-ordered.ordered.items x (rw is at h)),
      λ h. rw is (Contains-dedup is_same_equivalence same_from_test c.in_ok-ordered.ordered.items x (Contains-permutation _ _ x moved h)),
    )
