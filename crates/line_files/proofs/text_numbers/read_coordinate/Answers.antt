use Rattle.std.proofs.Common.{arith}
use Rattle.std.proofs.lemmas.Int.{ints}
use Rattle.std.proofs.lemmas.Option.{IfSome_then}
use Rattle.line_files.proofs.Numerals.{no_minus, no_number, ahead_of_0, behind_0}
use Rattle.line_files.proofs.text_numbers.read_coordinate.Goals as goal

pub returns-in_err-read_distance-clause-none : goal.returns-in_err-read_distance-clause-none
returns-in_err-read_distance-clause-none c =
    rw c.from_residual-in_err-read_distance.ensures
    (no_minus c.args.grid c.args.text.now c.in_ok-first.first.now c.in_ok-first.digits.now c.in_ok-first.ensures.cases.0
    c.if-first-eq45.true c.in_err-read_distance.ensures.none)

pub returns-in_ok-read_distance-clause-found : goal.returns-in_ok-read_distance-clause-found
returns-in_ok-read_distance-clause-found c =
    let f = c.in_ok-read_distance.ensures.found in (
      behind_0 c.args.grid c.args.text.now c.in_ok-first.first.now c.in_ok-first.digits.now f.0 c.in_ok-read_distance.field-0 _
          c.in_ok-first.ensures.cases.0 c.if-first-eq45.true f.2 f.1 (omega (arith, ints, f.3.low, f.3.high)),
      record { low = omega (arith, ints, f.3.low, f.3.high); high = omega (arith, ints, f.3.low, f.3.high) },
    )

pub returns-else-first-eq45-clause-found : goal.returns-else-first-eq45-clause-found
returns-else-first-eq45-clause-found c =
    IfSome_then c.read_distance-else-first-eq45.result c.read_distance-else-first-eq45.ensures.found
    (λ z f. (ahead_of_0 c.args.grid c.args.text.now f.0 z f.2 f.1, f.3))
