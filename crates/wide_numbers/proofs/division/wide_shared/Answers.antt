use Rattle.wide_numbers.proofs.Sums.{shared}
use Rattle.wide_numbers.proofs.division.wide_shared.Goals as goal

pub returns-clause-exact : goal.returns-clause-exact
returns-clause-exact c =
    shared c.args.divisor c.args.dividend.a c.args.dividend.b c.args.dividend.c c.args.dividend.d
    c.word_shared-a.result.quotient c.word_shared-b.result.quotient c.word_shared-c.result.quotient c.word_shared-d.result.quotient
    c.word_shared-a.result.rest c.word_shared-b.result.rest c.word_shared-c.result.rest c.word_shared-d.result.rest
    c.word_shared-d.ensures.exact c.word_shared-c.ensures.exact c.word_shared-b.ensures.exact c.word_shared-a.ensures.exact
