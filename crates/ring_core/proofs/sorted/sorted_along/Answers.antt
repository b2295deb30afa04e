use Rattle.std.proofs.Common.{rules}
use Rattle.std.proofs.lemmas.List.Sorted.{Contains-permutation, IsNonDecreasingBy-from_sort_by_key}
use Rattle.ring_core.specs.declared.sorted.Listed.{Listed}
use Rattle.ring_core.proofs.sorted.sorted_along.Goals as goal

pub returns : goal.returns
returns g c =
    let old = c.in_ok-list.list.items in let new = c.sort_unstable_by_key.new.self.items in
    record {
      sorted = IsNonDecreasingBy-from_sort_by_key (λ (it : Listed). it.key) new c.sort_unstable_by_key.ensures.sorted
          (λ a r q k. search rules);
      each = λ j b. let h = c.in_ok-list.ensures j b in
          (h.0, Contains-permutation old new h.0 c.sort_unstable_by_key.ensures.permutation h.1, h.2);
    }
