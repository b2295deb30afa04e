use Rattle.std.proofs.Common.{sym, arith}
use Rattle.std.proofs.Math.Nat.{mod-eq_of_lt}
use Rattle.overlay_claims.proofs.Orders.{wrapped}
use Rattle.overlay_claims.proofs.claimant.list_after.Goals as goal

pub returns-then-ended-to_the_last : goal.returns-then-ended-to_the_last
returns-then-ended-to_the_last c = sym (mod-eq_of_lt (omega arith))

pub returns-else-ended-to_the_last : goal.returns-else-ended-to_the_last
returns-else-ended-to_the_last c = sym (wrapped c.args.number c.args.count c.args.ended c.requires.own c.requires.more (omega arith))
