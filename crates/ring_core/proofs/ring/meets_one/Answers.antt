use Rattle.std.proofs.Common.{◌≤◌, arith, below_more}
use Rattle.ring_core.specs.Simple.{MeetOtherwise}
use Rattle.ring_core.proofs.ring.meets_one.Goals as goal

pub loop-i-preserved : goal.loop-i-preserved
loop-i-preserved c =
    let ring = c.args.ring.now in let j = c.args.j in
    λ k o b. below_more (λ l. c.args.start ≤ l → ¬ MeetOtherwise ring l j) c.loop-i.i (λ l r q. c.loop-i.invariant l q r)
    (λ _. c.meets.ensures c.if-meets.false) k b o

pub returns : goal.returns
returns c = λ _ k o b. c.loop-i.invariant k o (omega arith)
