use Rattle.wide_numbers.proofs.Sums.{quotient_of}
use Rattle.wide_numbers.proofs.division.divided.Goals as goal

pub returns : goal.returns
returns c = quotient_of _ _ c.args.divisor _ c.divided_with_rest.ensures.exact c.divided_with_rest.ensures.left
