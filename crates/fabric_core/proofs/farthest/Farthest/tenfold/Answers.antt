use Rattle.std.proofs.Common.{arith}
use Rattle.fabric_core.proofs.tens.Farthest.{moved_on}
use Rattle.fabric_core.proofs.farthest.Farthest.tenfold.Goals as goal

pub returns : goal.returns
returns c = λ corners others t h.
    moved_on corners others c.args.self.least c.loop-level.least t c.loop-level.invariant.first
    (λ level b. c.loop-level.invariant.each level (omega (arith, b, c.loop-level-test.false, c.loop-level.auto.level-end))) h
