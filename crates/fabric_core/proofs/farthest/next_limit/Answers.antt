use Rattle.std.proofs.Common.{arith}
use Rattle.fabric_core.proofs.tens.Farthest.{next_none}
use Rattle.fabric_core.proofs.farthest.next_limit.Goals as goal

pub returns-then-most-eq0 : goal.returns-then-most-eq0
returns-then-most-eq0 c = λ level e. next_none level c.args.most (omega (arith, c.if-most-eq0.true)) e
