use Rattle.std.proofs.Common.{arith}
use Rattle.ring_edits.proofs.PutLoops.{found_here, not_here, not_anywhere}
use Rattle.fabric_core.proofs.ring_edges.has_edge.Goals as goal

pub returns-then-is_joining : goal.returns-then-is_joining
returns-then-is_joining c =
    found_here c.args.from c.args.to c.args.ring.now c.loop-i.i c.is_joining.result (omega (arith, c.loop-i-test.true)) c.is_joining.ensures
    c.if-is_joining.true c.loop-i.invariant

pub loop-i-preserved : goal.loop-i-preserved
loop-i-preserved c =
    not_here c.args.from c.args.to c.args.ring.now c.loop-i.i c.is_joining.result (omega (arith, c.loop-i-test.true)) c.is_joining.ensures
    c.if-is_joining.false c.loop-i.invariant

pub returns : goal.returns
returns c = not_anywhere c.args.from c.args.to c.args.ring.now c.loop-i.i (omega (arith, c.loop-i-test.false)) c.loop-i.invariant
