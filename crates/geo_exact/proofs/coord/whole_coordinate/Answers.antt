use Rattle.std.proofs.Common.{◌≤◌, ◌<◌, arith, rules, ◌∙◌}
use Rattle.geo_exact.specs.Grid.{sign_bit}
use Rattle.geo_exact.proofs.numbers.Signed.{computed, positive, negative, size_of_whole}
use Rattle.geo_exact.proofs.coord.whole_coordinate.Goals as goal

pub returns-then-bits-eq0 : goal.returns-then-bits-eq0
returns-then-bits-eq0 c =
    let e = c.exponent-exponent.result in
    let from : 1023 ≤ e = search rules in
    let below : e < 1075 = search rules in
    let h = computed c.args.bits c.args.unit e _ _ e _ c.exponent-exponent.ensures below c.millimetres.ensures
    c.normal_significand.ensures.value (omega (arith, from))
    (size_of_whole _ _ _ c.in_ok-whole.ensures (omega (arith, c.if-whole.false))) in
    h ∙ positive (sign_bit c.args.bits) _ c.if-bits-eq0.true (omega (arith, c.if-whole.false))

pub returns-else-bits-eq0 : goal.returns-else-bits-eq0
returns-else-bits-eq0 c =
    let e = c.exponent-exponent.result in
    let from : 1023 ≤ e = search rules in
    let below : e < 1075 = search rules in
    let h = computed c.args.bits c.args.unit e _ _ e _ c.exponent-exponent.ensures below c.millimetres.ensures
    c.normal_significand.ensures.value (omega (arith, from))
    (size_of_whole _ _ _ c.in_ok-whole.ensures (omega (arith, c.if-whole.false))) in
    h ∙ negative (sign_bit c.args.bits) _ c.if-bits-eq0.false (omega (arith, c.if-whole.false))
