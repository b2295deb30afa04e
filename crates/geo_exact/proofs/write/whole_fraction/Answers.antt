use Rattle.std.proofs.Common.{arith}
use Rattle.geo_exact.proofs.doubles.Doubles.{moved_low, moved_high, moved_whole}
use Rattle.geo_exact.proofs.write.whole_fraction.Goals as goal

pub overflow_sub-result-2 : goal.overflow_sub-result-2
overflow_sub-result-2 c =
    rw (moved_whole c.args.size c.args.place c.requires.high c.requires.bound)
    (moved_low c.args.size c.args.place c.requires.low c.requires.bound)

pub returns-clause-value : goal.returns-clause-value
returns-clause-value c = rw (moved_whole c.args.size c.args.place c.requires.high c.requires.bound)

pub returns-clause-bound : goal.returns-clause-bound
returns-clause-bound c =
    rw (moved_whole c.args.size c.args.place c.requires.high c.requires.bound)
    (let h = moved_high c.args.size c.args.place c.requires.high c.requires.bound in omega arith)
