use Rattle.std.proofs.Common.{◌≤◌, arith, below_more}
use Rattle.ring_core.specs.own.ByPlace.{AreClear, edge_at}
use Rattle.ring_core.proofs.by_place.one_meets.Goals as goal

pub loop-p-preserved : goal.loop-p-preserved
loop-p-preserved c = λ k o b.
    let ring = c.args.ring.now in let edges = c.args.edges.now in
    below_more (λ m. c.args.span.start ≤ m → AreClear ring (edge_at edges m) c.args.j) c.loop-p.p
    (λ m x y. c.loop-p.invariant m y x) (λ _. c.meet_in_turn.ensures c.if-meet_in_turn.false) k b o

pub returns : goal.returns
returns c = λ _ p h. c.loop-p.invariant p h.from (omega (arith, h.to, c.loop-p-test.false))
