use Rattle.std.proofs.Common.{arith}
use Rattle.std.proofs.lemmas.Nat.{mul-le}
use Rattle.fabric_core.proofs.hints.Axis.number.Goals as goal

pub overflow_mul-result : goal.overflow_mul-result
overflow_mul-result c =
    omega (arith, mul-le c.args.row c.args.self.count 2047 2048 (omega (arith, c.requires.row)) (omega (arith, c.args.self.is_small)))
