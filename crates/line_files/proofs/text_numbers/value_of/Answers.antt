use Rattle.std.proofs.Common.{arith}
use Rattle.std.proofs.lemmas.Int.Digits.{digits_more, digits_value_more}
use Rattle.line_files.proofs.Numerals.{digit_at, few_digits}
use Rattle.line_files.proofs.text_numbers.value_of.Goals as goal

pub returns-in_err-digit-clause-none : goal.returns-in_err-digit-clause-none
returns-in_err-digit-clause-none c =
    rw c.from_residual.ensures (λ h.
    c.in_err-digit.ensures.value (rw c.from.ensures (digit_at 10 c.args.digits.now c.loop-byte.byte-index c.loop-byte-test.true h)))

pub overflow_mul-value : goal.overflow_mul-value
overflow_mul-value c =
    omega (
      arith,
      few_digits c.args.digits.now c.loop-byte.byte-index c.loop-byte.value c.loop-byte-test.true
          c.requires c.loop-byte.invariant.0 c.loop-byte.invariant.1,
    )

pub overflow_add-value : goal.overflow_add-value
overflow_add-value c =
    omega (
      arith,
      few_digits c.args.digits.now c.loop-byte.byte-index c.loop-byte.value c.loop-byte-test.true c.requires
          c.loop-byte.invariant.0 c.loop-byte.invariant.1,
      c.in_ok-digit.ensures.value.0,
      c.in_ok-digit.ensures.value.1,
      c.from-in-loop-byte.ensures,
    )

pub loop-byte-preserved : goal.loop-byte-preserved
loop-byte-preserved c =
    let text = c.args.digits.now in
    let i = c.loop-byte.byte-index in
    let digit = rw c.from.ensures at c.in_ok-digit.ensures.value in (
      digits_more 10 text i c.loop-byte-test.true c.loop-byte.invariant.0 digit.0,
      omega (arith, digits_value_more 10 text i c.loop-byte-test.true, digit.1, c.loop-byte.invariant.1, c.from-in-loop-byte.ensures),
    )
