use Rattle.std.proofs.Common.{sym, arith, pos, ◌≤ℤ◌, ◌<ℤ◌, FitsSigned}
use Rattle.std.specs.Int.{w128}
use Rattle.std.proofs.lemmas.Int.{ints}
use Rattle.std.proofs.lemmas.Bool.Decides.{nat_tests}
use Rattle.ring_core.proofs.searches.Sides.{upward, not_upward, downward, not_downward, at_most, not_at_most}
use Rattle.ring_core.proofs.searches.Sides.{above_zero, not_above_zero, below_zero, not_below_zero}
use Rattle.ring_core.proofs.side.crossing.Goals as goal

pub returns-then-turn-gt0-clause-value : goal.returns-then-turn-gt0-clause-value
returns-then-turn-gt0-clause-value c =
    let fits : FitsSigned w128 c.turn.result = omega (arith, ints, c.turn.ensures.bound) in
    let left : pos 0 <ℤ c.turn.result = above_zero c.turn.result fits c.if-turn-gt0.true in
    sym (upward c.args.from c.args.to c.args.place
    (at_most c.args.from.y c.args.place.y c.args.from.y_in_range c.args.place.y_in_range c.if-from-place.true)
    (not_at_most c.args.to.y c.args.place.y c.args.to.y_in_range c.args.place.y_in_range c.if-to-place.false)
    (omega (arith, ints, left, c.turn.ensures.value)))

pub returns-else-turn-gt0-clause-value : goal.returns-else-turn-gt0-clause-value
returns-else-turn-gt0-clause-value c =
    let fits : FitsSigned w128 c.turn.result = omega (arith, ints, c.turn.ensures.bound) in
    let not_left : c.turn.result ≤ℤ pos 0 = not_above_zero c.turn.result fits c.if-turn-gt0.false in
    sym (not_upward c.args.from c.args.to c.args.place
    (at_most c.args.from.y c.args.place.y c.args.from.y_in_range c.args.place.y_in_range c.if-from-place.true)
    (not_at_most c.args.to.y c.args.place.y c.args.to.y_in_range c.args.place.y_in_range c.if-to-place.false)
    (omega (arith, ints, not_left, c.turn.ensures.value)))

pub returns-then-turn-lt0-clause-value : goal.returns-then-turn-lt0-clause-value
returns-then-turn-lt0-clause-value c =
    let fits : FitsSigned w128 c.turn-else-from-place.result = omega (arith, ints, c.turn-else-from-place.ensures.bound) in
    let right : c.turn-else-from-place.result <ℤ pos 0 = below_zero c.turn-else-from-place.result fits c.if-turn-lt0.true in
    sym (downward c.args.from c.args.to c.args.place (grind (arith, ints, nat_tests)) (grind (arith, ints, nat_tests))
    (omega (arith, ints, right, c.turn-else-from-place.ensures.value)))

pub returns-else-turn-lt0-clause-value : goal.returns-else-turn-lt0-clause-value
returns-else-turn-lt0-clause-value c =
    let fits : FitsSigned w128 c.turn-else-from-place.result = omega (arith, ints, c.turn-else-from-place.ensures.bound) in
    let not_right : pos 0 ≤ℤ c.turn-else-from-place.result = not_below_zero c.turn-else-from-place.result fits c.if-turn-lt0.false in
    sym (not_downward c.args.from c.args.to c.args.place (grind (arith, ints, nat_tests)) (grind (arith, ints, nat_tests))
    (omega (arith, ints, not_right, c.turn-else-from-place.ensures.value)))
