use Rattle.std.proofs.Common.{◌≡◌, ◌∙◌, ap, arith, length, subst, sym}
use Rattle.std.specs.List.{Contains}
use Rattle.std.specs.List.Sorted.{IsPermutation}
use Rattle.std.proofs.lemmas.List.Sorted.{Contains-permutation, IsPermutation-sym, length_permutation}
use Rattle.geo_exact.proofs.numbers.Dropped.{refilled}
use Rattle.edge_chains.proofs.tree.Tree.new.Goals as goal

pub returns : goal.returns
returns g c =
    let old = c.in_ok-list.list.items in let new = c.part.new.corners in
    let given = c.args.corners.now in
    let began : old ≡ given = c.in_ok-list.ensures.items in
    let moved : IsPermutation given new = subst (λ l. IsPermutation l new) (c.as_mut_slice.ensures.value ∙ began) c.part.ensures in
    let is = refilled c.in_ok-list.list.len old new (omega arith) (length_permutation given new moved ∙ ap length (sym began)) in
    λ x. (
      λ h. Contains-permutation new given x (IsPermutation-sym given new moved) (subst (λ l. Contains l x) is h),
      λ h. subst (λ l. Contains l x) (sym is) (Contains-permutation given new x moved h),
    )
