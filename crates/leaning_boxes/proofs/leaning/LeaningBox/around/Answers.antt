use Rattle.std.proofs.Common.{◌≡◌, arith, FitsSigned}
use Rattle.std.specs.Int.{w128, int_min, int_max}
use Rattle.std.proofs.lemmas.Int.{ints, to_z-of_z}
use Rattle.geo_exact.proofs.numbers.Within.{max_within, min_within}
use Rattle.geo_exact.proofs.boxes.InBoxes.{holds_wider}
use Rattle.leaning_boxes.proofs.Held.{least_kept, greatest_kept}
use Rattle.leaning_boxes.proofs.leaning.LeaningBox.around.Goals as goal

pub invariant_of-result : goal.invariant_of-result
invariant_of-result c =
    let box = c.args.self in
    let low : FitsSigned w128 box.low = omega (arith, ints, box.low_in_range.low, box.low_in_range.high) in
    let high : FitsSigned w128 box.high = omega (arith, ints, box.high_in_range.low, box.high_in_range.high) in
    let level : FitsSigned w128 c.turn-level.result = record { sfits = c.turn-level.type_inv } in
    let least : FitsSigned w128 c.min.result = record { sfits = c.min.type_inv } in
    let greatest : FitsSigned w128 c.max.result = record { sfits = c.max.type_inv } in
    let e : c.min.result ≡ int_min box.low c.turn-level.result = simp to_z-of_z at c.min.ensures.value in
    let f : c.max.result ≡ int_max box.high c.turn-level.result = simp to_z-of_z at c.max.ensures.value in record {
      low_in_range = rw to_z-of_z (min_within e box.low_in_range c.turn-level.ensures.bound);
      high_in_range = rw to_z-of_z (max_within f box.high_in_range c.turn-level.ensures.bound);
    }

pub returns-clause-keeps : goal.returns-clause-keeps
returns-clause-keeps c = λ other h.
    let box = c.args.self in
    let low : FitsSigned w128 box.low = omega (arith, ints, box.low_in_range.low, box.low_in_range.high) in
    let high : FitsSigned w128 box.high = omega (arith, ints, box.high_in_range.low, box.high_in_range.high) in record {
      inside = holds_wider box.bounds c.around.result c.around.ensures.first other h.inside;
      not_below = least_kept c.min.result box.low _ _ (record { sfits = c.min.type_inv }) low c.min.ensures.value h.not_below;
      not_above = greatest_kept c.max.result box.high _ _ (record { sfits = c.max.type_inv }) high c.max.ensures.value h.not_above;
    }
