use Rattle.std.proofs.Common.{◌≡◌, ℕ, ◌+◌, refl, arith, to_z, of_z}
use Rattle.std.specs.Int.{w128}
use Rattle.std.specs.Int.RustNames.{unsigned_abs}
use Rattle.std.proofs.lemmas.Int.{ints}
use lib.IntN.{ℤ, pos, ◌+ℤ◌, ◌*ℤ◌}
use lib.Signed.{◌<ℤ◌, ◌≤ℤ◌}
use Rattle.area_bounds.specs.declared.parts.TheConstants.{PARTS}
use Rattle.area_shares.proofs.Wholes.{past_the_next, within_the_next, divided_by}
use Rattle.area_shares.proofs.share.Share.of_parts.Goals as goal

-- as it is passed
abbrev passed : ℤ → ℤ
passed z = to_z w128 (of_z w128 z)

pub returns-then-over-gt-PARTS-clause-rounded : goal.returns-then-over-gt-PARTS-clause-rounded
returns-then-over-gt-PARTS-clause-rounded c = λ f lost m h.
    let low = c.args.parts.low in let whole = c.div_euclid-whole.result in let rest = c.rem_euclid.result in
    let is : low ≡ whole *ℤ pos PARTS +ℤ rest =
    divided_by low (passed low) (passed low) whole rest (passed c.from.result) (passed c.from-2.result)
    c.div_euclid-whole.ensures c.rem_euclid.ensures.value
    (omega (arith, ints)) (omega (arith, ints)) (omega (arith, ints, c.from.ensures)) (omega (arith, ints, c.from-2.ensures)) in
    let least : pos 0 ≤ℤ rest = omega (arith, ints, c.rem_euclid.ensures.lower_bound) in
    let most : rest <ℤ pos PARTS = omega (arith, ints, least, c.rem_euclid.ensures.upper_bound, c.from-2.ensures) in
    past_the_next low whole rest (passed (passed whole +ℤ pos 1)) c.args.parts.lost lost f h is least most
    (omega (arith, ints, c.if-over-gt-PARTS.true, least)) c.requires.lost m (omega (arith, ints, is, least, most))

pub returns-clause-rounded : goal.returns-clause-rounded
returns-clause-rounded c = λ f lost m h.
    let low = c.args.parts.low in let whole = c.div_euclid-whole.result in let rest = c.rem_euclid.result in
    let is : low ≡ whole *ℤ pos PARTS +ℤ rest =
    divided_by low (passed low) (passed low) whole rest (passed c.from.result) (passed c.from-2.result)
    c.div_euclid-whole.ensures c.rem_euclid.ensures.value
    (omega (arith, ints)) (omega (arith, ints)) (omega (arith, ints, c.from.ensures)) (omega (arith, ints, c.from-2.ensures)) in
    let least : pos 0 ≤ℤ rest = omega (arith, ints, c.rem_euclid.ensures.lower_bound) in
    let over : ℕ = unsigned_abs (passed rest) + c.args.parts.lost in
    within_the_next low whole rest (passed whole) c.args.parts.lost lost over f h is least
    (omega (arith, ints, least)) (omega (arith, ints, c.if-over-gt-PARTS.false)) m (omega (arith, ints)) _ refl
