use Rattle.std.proofs.Common.{◌≡◌, subst, ℕ, List, map}
use Rattle.std.specs.Prelude.{IsPermutation, MatchOption}
use Rattle.std.specs.List.Sorted.{IsNonDecreasing, IsStrictlyIncreasing}
use Rattle.std.proofs.lemmas.List.Sorted.{IsNonDecreasingBy-from_sort}
use Rattle.fabric_core.specs.Rows.{numbers}
use Rattle.overlay_work.specs.Sharing.{joined}
use Rattle.overlay_work.specs.own.Differences.{IsFirstDifference}
use Rattle.overlay_work.proofs.Differences.{told}
use Rattle.overlay_work.proofs.sharing.least_out_of_place.Goals as goal

pub returns : goal.returns
returns g c =
    let lists : List (List ℕ) = map (λ list. list.items) c.args.lists.now in
    let dealt = c.sort.new.self.items in
    let ids = numbers c.args.sheet.now.now.rows in
    let moved : IsPermutation (joined lists) dealt =
    subst (λ l. IsPermutation l dealt) c.in_ok-dealt.ensures c.in_ok-sort.ensures.permutation in
    let up : IsNonDecreasing dealt = IsNonDecreasingBy-from_sort (λ (x : ℕ). x) dealt c.in_ok-sort.ensures.sorted in
    let rise : IsStrictlyIncreasing ids = subst IsStrictlyIncreasing c.ids-2.ensures.ids c.ids-2.ensures.ascending in
    told c.first_difference.result lists dealt ids moved up rise
    (subst (λ l. MatchOption c.first_difference.result (dealt ≡ l) (IsFirstDifference dealt l)) c.ids-2.ensures.ids
    (subst (λ l. MatchOption c.first_difference.result (l ≡ c.ids-2.result) (IsFirstDifference l c.ids-2.result))
    c.as_slice.ensures.value c.first_difference.ensures))
