use Rattle.std.proofs.lemmas.List.Filters.{dedup_is}
use Rattle.std.proofs.lemmas.List.Kept.{Contains-dedup_nat, Contains-from_dedup}
use Rattle.std.proofs.lemmas.List.Sorted.{Contains-permutation, IsPermutation-sym}
use Rattle.std.proofs.lemmas.Map.Keys.{IsStrictlyIncreasing-dedup}
use Rattle.fabric_core.proofs.candidates.sort_once.Goals as goal

pub returns : goal.returns
returns g c =
    let is = dedup_is _ _ _ c.dedup.ensures.filtered in
    let moved = c.sort_unstable.ensures.permutation in
    record {
      ascend = rw is (IsStrictlyIncreasing-dedup _ c.sort_unstable.ensures.sorted);
      same = λ id. (
        λ h. Contains-permutation _ _ id (IsPermutation-sym _ _ moved) (Contains-from_dedup _ _ id (rw is at h)),
        λ h. rw is (Contains-dedup_nat _ id (Contains-permutation _ _ id moved h)),
      );
    }
