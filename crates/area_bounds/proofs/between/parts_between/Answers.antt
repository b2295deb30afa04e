use Rattle.std.proofs.Common.{◌≡◌, ◌+◌, ◌*◌, ◌≤◌, ◌∙◌, sym, arith, FitsSigned, w64}
use Rattle.std.specs.Int.{abs_diff}
use Rattle.std.proofs.lemmas.Bool.{false≢true}
use Rattle.std.proofs.lemmas.Int.{ints, to_z-of_z}
use lib.IntN.{◌-ℤ◌}
use Rattle.geo_exact.specs.Limit.{limit}
use Rattle.common_areas.specs.Between.{gap}
use Rattle.area_bounds.specs.Edges.{edge_of}
use Rattle.area_bounds.specs.Rounded.{loss_of}
use Rattle.area_bounds.proofs.EdgeLines.{place_bound, widened_edges}
use Rattle.area_bounds.proofs.Gaps.{trapezoid_counted, triangles_counted, area_counted, crossed_sides, sides_by_parting}
use Rattle.area_bounds.proofs.Gaps.{sides_some, sides_bound, factor_some, divisor_some}
use Rattle.area_bounds.proofs.Losses.{trapezoid_losses, triangles_losses, of_area}
use Rattle.area_bounds.proofs.between.parts_between.Goals as goal

pub triangles-requires : goal.triangles-requires
unfolding edge_of
triangles-requires c =
    let hf : FitsSigned w64 c.args.high = c.ranges.high in
    let lf : FitsSigned w64 c.args.low = c.ranges.low in
    let rise_is = simp to_z-of_z at c.above-height.ensures in
    let crossed = c.are_crossed.ensures.0 c.if-are_crossed.true in
    let f : c.abs_diff-first_side.result ≡ abs_diff c.at_level-first.result.one c.at_level-first.result.other =
    c.abs_diff-first_side.ensures in
    let g : c.abs_diff-second_side.result ≡ abs_diff c.at_level-second.result.one c.at_level-second.result.other =
    c.abs_diff-second_side.ensures in
    let sides : abs_diff c.at_level-first.result.one c.at_level-first.result.other
    + abs_diff c.at_level-second.result.one c.at_level-second.result.other
    ≡ c.parting-apart.result * c.above-height.result =
    sides_by_parting c.above-height.result
    (gap (edge_of c.args.one) (edge_of c.args.other) c.args.high -ℤ gap (edge_of c.args.one) (edge_of c.args.other) c.args.low)
    (c.args.high -ℤ c.args.low) _ c.parting-apart.result _
    (widened_edges c.args.one.is_up c.args.other.is_up c.args.one.low c.args.one.high c.args.other.low c.args.other.high
    c.args.low c.args.high c.args.one.rises c.args.other.rises)
    (sym rise_is) (sym c.parting-apart.ensures.value)
    (crossed_sides c.at_level-first.result.one c.at_level-first.result.other c.at_level-second.result.one c.at_level-second.result.other
    _ _ (simp to_z-of_z at c.at_level-first.ensures.value) (simp to_z-of_z at c.at_level-second.ensures.value) crossed) in
    let some = sides_some c.at_level-first.result.one c.at_level-first.result.other c.at_level-second.result.one
    c.at_level-second.result.other crossed in
    let bound = sides_bound limit c.rises-both.result
    c.at_level-first.result.one c.at_level-first.result.other c.at_level-second.result.one c.at_level-second.result.other
    (place_bound (2 * limit) c.at_level-first.result.one c.rises-both.result _ c.at_level-first.ensures.one c.rises-both.ensures.value)
    (place_bound (2 * limit) c.at_level-first.result.other c.rises-both.result _ c.at_level-first.ensures.other c.rises-both.ensures.value)
    (place_bound (2 * limit) c.at_level-second.result.one c.rises-both.result _ c.at_level-second.ensures.one c.rises-both.ensures.value)
    (place_bound (2 * limit) c.at_level-second.result.other c.rises-both.result _ c.at_level-second.ensures.other
    c.rises-both.ensures.value) in
    record {
      height = omega (
        arith,
        ints,
        c.above-height.ensures,
        c.requires.one_low,
        c.requires.one_high,
        c.args.one.low.y_in_range.low,
        c.args.one.high.y_in_range.high,
      );
      some = c.rises-both.ensures.some;
      rises = c.rises-both.ensures.bound;
      sides = rw (f, g) bound;
      apart = factor_some _ c.parting-apart.result c.above-height.result sides some;
      parting = c.parting-apart.ensures.bound;
      sides_part = rw (f, g) sides;
    }

pub trapezoid-requires : goal.trapezoid-requires
trapezoid-requires c =
    let f : c.abs_diff-first_side.result ≡ abs_diff c.at_level-first.result.one c.at_level-first.result.other =
    c.abs_diff-first_side.ensures in
    let g : c.abs_diff-second_side.result ≡ abs_diff c.at_level-second.result.one c.at_level-second.result.other =
    c.abs_diff-second_side.ensures in
    let bound = sides_bound limit c.rises-both.result
    c.at_level-first.result.one c.at_level-first.result.other c.at_level-second.result.one c.at_level-second.result.other
    (place_bound (2 * limit) c.at_level-first.result.one c.rises-both.result _ c.at_level-first.ensures.one c.rises-both.ensures.value)
    (place_bound (2 * limit) c.at_level-first.result.other c.rises-both.result _ c.at_level-first.ensures.other c.rises-both.ensures.value)
    (place_bound (2 * limit) c.at_level-second.result.one c.rises-both.result _ c.at_level-second.ensures.one c.rises-both.ensures.value)
    (place_bound (2 * limit) c.at_level-second.result.other c.rises-both.result _ c.at_level-second.ensures.other
    c.rises-both.ensures.value) in
    record {
      height = omega (
        arith,
        ints,
        c.above-height.ensures,
        c.requires.one_low,
        c.requires.one_high,
        c.args.one.low.y_in_range.low,
        c.args.one.high.y_in_range.high,
      );
      some = c.rises-both.ensures.some;
      rises = c.rises-both.ensures.bound;
      sides = rw (f, g) bound;
    }

pub returns-then-are_crossed : goal.returns-then-are_crossed
returns-then-are_crossed c =
    let hf : FitsSigned w64 c.args.high = c.ranges.high in
    let lf : FitsSigned w64 c.args.low = c.ranges.low in
    let rise_is = simp to_z-of_z at c.above-height.ensures in
    let crossed = c.are_crossed.ensures.0 c.if-are_crossed.true in
    let f : c.abs_diff-first_side.result ≡ abs_diff c.at_level-first.result.one c.at_level-first.result.other =
    c.abs_diff-first_side.ensures in
    let g : c.abs_diff-second_side.result ≡ abs_diff c.at_level-second.result.one c.at_level-second.result.other =
    c.abs_diff-second_side.ensures in
    let some = sides_some c.at_level-first.result.one c.at_level-first.result.other c.at_level-second.result.one
    c.at_level-second.result.other crossed in
    record {
      counted = area_counted (edge_of c.args.one) (edge_of c.args.other) c.triangles.result.parts c.above-height.result c.rises-both.result
          c.triangles.result.lost c.args.low c.args.high c.requires.low_is c.requires.high_is c.requires.order
          rise_is c.rises-both.ensures.value
          (triangles_counted c.at_level-first.result.one c.at_level-first.result.other c.at_level-second.result.one
          c.at_level-second.result.other
          c.above-height.result c.rises-both.result c.triangles.result.parts c.triangles.result.lost
          (gap (edge_of c.args.one) (edge_of c.args.other) c.args.low) (gap (edge_of c.args.one) (edge_of c.args.other) c.args.high)
          (simp to_z-of_z at c.at_level-first.ensures.value) (simp to_z-of_z at c.at_level-second.ensures.value) crossed
          (divisor_some c.rises-both.result _ c.rises-both.ensures.some some)
          (rw (f, g) at c.triangles.ensures.counted));
      bound = c.triangles.ensures.bound;
      lost = c.triangles.ensures.lost;
      rounded = of_area (λ area. c.triangles.result.lost ≤ loss_of area) (edge_of c.args.one) (edge_of c.args.other)
          c.above-height.result c.rises-both.result c.args.low c.args.high c.requires.low_is c.requires.high_is c.requires.order
          rise_is c.rises-both.ensures.value
          (triangles_losses c.at_level-first.result.one c.at_level-first.result.other c.at_level-second.result.one
          c.at_level-second.result.other c.above-height.result c.rises-both.result c.triangles.result.lost
          (gap (edge_of c.args.one) (edge_of c.args.other) c.args.low) (gap (edge_of c.args.one) (edge_of c.args.other) c.args.high)
          (simp to_z-of_z at c.at_level-first.ensures.value) (simp to_z-of_z at c.at_level-second.ensures.value) crossed
          (rw (f, g) at c.triangles.ensures.rounded));
    }

pub returns-else-are_crossed : goal.returns-else-are_crossed
returns-else-are_crossed c =
    let hf : FitsSigned w64 c.args.high = c.ranges.high in
    let lf : FitsSigned w64 c.args.low = c.ranges.low in
    let rise_is = simp to_z-of_z at c.above-height.ensures in
    let f : c.abs_diff-first_side.result ≡ abs_diff c.at_level-first.result.one c.at_level-first.result.other =
    c.abs_diff-first_side.ensures in
    let g : c.abs_diff-second_side.result ≡ abs_diff c.at_level-second.result.one c.at_level-second.result.other =
    c.abs_diff-second_side.ensures in
    record {
      counted = area_counted (edge_of c.args.one) (edge_of c.args.other) c.trapezoid.result.parts c.above-height.result c.rises-both.result
          c.trapezoid.result.lost c.args.low c.args.high c.requires.low_is c.requires.high_is c.requires.order
          rise_is c.rises-both.ensures.value
          (trapezoid_counted c.at_level-first.result.one c.at_level-first.result.other c.at_level-second.result.one
          c.at_level-second.result.other
          c.above-height.result c.rises-both.result c.trapezoid.result.parts c.trapezoid.result.lost
          (gap (edge_of c.args.one) (edge_of c.args.other) c.args.low) (gap (edge_of c.args.one) (edge_of c.args.other) c.args.high)
          (simp to_z-of_z at c.at_level-first.ensures.value) (simp to_z-of_z at c.at_level-second.ensures.value)
          (λ h. false≢true (sym c.if-are_crossed.false ∙ c.are_crossed.ensures.1 h)) c.rises-both.ensures.some
          (rw (f, g) at c.trapezoid.ensures.counted));
      bound = c.trapezoid.ensures.bound;
      lost = c.trapezoid.ensures.lost;
      rounded = of_area (λ area. c.trapezoid.result.lost ≤ loss_of area) (edge_of c.args.one) (edge_of c.args.other)
          c.above-height.result c.rises-both.result c.args.low c.args.high c.requires.low_is c.requires.high_is c.requires.order
          rise_is c.rises-both.ensures.value
          (trapezoid_losses c.at_level-first.result.one c.at_level-first.result.other c.at_level-second.result.one
          c.at_level-second.result.other c.above-height.result c.rises-both.result c.trapezoid.result.lost
          (gap (edge_of c.args.one) (edge_of c.args.other) c.args.low) (gap (edge_of c.args.one) (edge_of c.args.other) c.args.high)
          (simp to_z-of_z at c.at_level-first.ensures.value) (simp to_z-of_z at c.at_level-second.ensures.value)
          (λ h. false≢true (sym c.if-are_crossed.false ∙ c.are_crossed.ensures.1 h))
          (rw (f, g) at c.trapezoid.ensures.rounded));
    }
