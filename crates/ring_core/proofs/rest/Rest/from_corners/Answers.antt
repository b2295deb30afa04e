use Rattle.std.proofs.Common.{◌≡◌, ◌∙◌, ap, arith, ◌++◌}
use Rattle.ring_core.proofs.rest.Rest.from_corners.Goals as goal

pub invariant_of-result : goal.invariant_of-result
invariant_of-result g c =
    let corners = c.args.corners.now in let numbers = c.in_ok-numbers.numbers.items in let marks = c.in_ok-marks.marks.items in
    let same : c.extend_from_slice.new.self.items ≡ corners =
    c.in_ok-extend_from_slice.ensures.items ∙ ap (λ xs. xs ++ corners) c.new-list.ensures.items in (
      record { in_corners = omega arith; in_numbers = omega arith; in_kinds = omega arith },
      rw same (record {
        as_many = c.in_ok-numbers.ensures.as_many;
        ascend = c.in_ok-numbers.ensures.ascend;
        are = c.in_ok-kinds.ensures.are numbers;
        marked = c.in_ok-kinds.ensures.unblocked numbers marks;
        seen_so_far = record { flats = λ j b. absurd (omega (arith, b)); candidates = λ j b. absurd (omega (arith, b)) };
      }),
      rw same c.in_ok-blocks.ensures,
      rw (same, ← c.as_slice.ensures.value) c.in_ok-sorted.ensures,
    )
