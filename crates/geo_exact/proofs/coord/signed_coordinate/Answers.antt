use Rattle.std.proofs.Common.{◌<◌, arith, sym, ◌∙◌, ap, lit<}
use Rattle.std.proofs.lemmas.Nat.{mod_below}
use Rattle.std.proofs.lemmas.Grind.{common_steps}
use Rattle.geo_exact.specs.Grid.{with_sign, sign_bit, exponent_field}
use Rattle.geo_exact.proofs.doubles.Coordinates.{refused_when, coordinate_far}
use Rattle.geo_exact.proofs.numbers.Signed.{computed, positive, negative}
use Rattle.geo_exact.proofs.coord.signed_coordinate.Goals as goal

pub returns-then-exponent-eq2047 : goal.returns-then-exponent-eq2047
returns-then-exponent-eq2047 c = sym (refused_when c.args.bits c.args.unit _ (sym c.exponent-exponent.ensures
    ∙ c.if-exponent-eq2047.true))

pub returns-then-exponent-ge1075 : goal.returns-then-exponent-ge1075
returns-then-exponent-ge1075 c =
    let below : exponent_field c.args.bits < 2048 = mod_below _ 2048 (lit< tt) in
    sym (coordinate_far c.args.bits c.args.unit
    (omega (arith, c.exponent-exponent.ensures, c.if-exponent-ge1075.true))
    (omega (arith, below, c.exponent-exponent.ensures, c.if-exponent-eq2047.false)))

pub returns-in_err-size : goal.returns-in_err-size
returns-in_err-size c =
    let h = computed c.args.bits c.args.unit _ _ _ _ _ c.exponent-exponent.ensures c.if-exponent-ge1075.false
    c.millimetres.ensures c.significand.ensures.value c.max.ensures c.near_size.ensures.value in
    let e = c.in_err-size.was in
    grind (arith, common_steps)

pub returns-then-bits-eq0 : goal.returns-then-bits-eq0
returns-then-bits-eq0 c =
    let h = computed c.args.bits c.args.unit _ _ _ _ _ c.exponent-exponent.ensures c.if-exponent-ge1075.false
    c.millimetres.ensures c.significand.ensures.value c.max.ensures c.near_size.ensures.value in
    sym (h ∙ ap (with_sign (sign_bit c.args.bits)) c.in_ok-size.was
    ∙ positive (sign_bit c.args.bits) _ c.if-bits-eq0.true c.in_ok-size.ensures.bound)

pub returns-else-bits-eq0 : goal.returns-else-bits-eq0
returns-else-bits-eq0 c =
    let h = computed c.args.bits c.args.unit _ _ _ _ _ c.exponent-exponent.ensures c.if-exponent-ge1075.false
    c.millimetres.ensures c.significand.ensures.value c.max.ensures c.near_size.ensures.value in
    sym (h ∙ ap (with_sign (sign_bit c.args.bits)) c.in_ok-size.was
    ∙ negative (sign_bit c.args.bits) _ c.if-bits-eq0.false c.in_ok-size.ensures.bound)
