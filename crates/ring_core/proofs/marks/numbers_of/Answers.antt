use Rattle.std.proofs.Common.{◌≤◌, ◌∙◌, ◌+◌, ◌-◌, ◌++◌, ◌∷◌, [], ap, arith, below_more, length, get_or}
use Rattle.std.proofs.lemmas.List.{get_or_append_left, get_or_default, get_or_push, length_push}
use Rattle.std.proofs.lemmas.List.Sorted.{IsNonDecreasingBy-push}
use Rattle.ring_core.proofs.marks.numbers_of.Goals as goal

pub loop-k-preserved : goal.loop-k-preserved
loop-k-preserved g c =
    let numbers = c.loop-k.numbers.items in let number = c.min.result in let k = c.loop-k.k in let inv = c.loop-k.invariant in
    record {
      so_long = ap length {y = numbers ++ number ∷ []} c.in_ok-push.ensures.items ∙ length_push numbers number
          ∙ omega (arith, inv.so_long);
      ascend = rw c.in_ok-push.ensures.items (IsNonDecreasingBy-push (λ x. x) numbers number inv.ascend (λ d some.
          let was = inv.below (length numbers - 1) (omega (arith, some, inv.so_long)) in
          rw (get_or_default numbers (length numbers - 1) d 0 (omega (arith, some)))
          (omega (arith, was.0, was.1, c.min.ensures))));
      below = rw c.in_ok-push.ensures.items (below_more
          (λ i. (get_or (numbers ++ number ∷ []) i 0 ≤ k + 1) × (get_or (numbers ++ number ∷ []) i 0 ≤ 65535)) k
          (λ i q. rw (get_or_append_left numbers (number ∷ []) 0 i (omega (arith, inv.so_long, q)))
          (let was = inv.below i q in (omega (arith, was.0), was.1)))
          (rw (get_or_push numbers number 0 k inv.so_long) (omega (arith, c.min.ensures), omega (arith, c.min.ensures))));
    }
