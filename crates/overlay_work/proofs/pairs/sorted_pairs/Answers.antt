use Rattle.std.proofs.lemmas.List.Sorted.{IsPermutation-trans}
use Rattle.overlay_work.proofs.SortedPairs.{ordered}
use Rattle.overlay_work.specs.Sharing.{joined}
use Rattle.overlay_work.proofs.pairs.sorted_pairs.Goals as goal

pub returns : goal.returns
returns g c =
    let kept = joined c.in_ok-kept.kept in let pairs = c.in_ok-pairs.pairs.items in let new = c.sort.new.self.items in record {
      kept = kept;
      are_pairs = c.in_ok-kept.ensures;
      moved = IsPermutation-trans kept pairs new c.in_ok-pairs.ensures c.in_ok-sort.ensures.permutation;
      ordered = ordered new (λ k d low less. c.in_ok-sort.ensures.sorted k d low less);
    }
