use Rattle.std.proofs.Common.{arith, below_more, slice_index_or, subst, ◌≤◌}
use Rattle.std.proofs.lemmas.List.{get_or_read}
use Rattle.leaning_boxes.specs.Leaning.{IsHeld}
use Rattle.edge_chains.proofs.tree.box_of.Goals as goal

pub loop-k-preserved : goal.loop-k-preserved
loop-k-preserved c = λ k corner from below.
    let corners = c.args.corners.now in let held = c.around-held.result in let i = c.loop-k.k in
    let x = c.index-corners-k in
    below_more (λ m. c.args.start ≤ m → IsHeld held (slice_index_or corners m corner)) i
    (λ m q r. c.around-held.ensures.keeps (slice_index_or corners m corner) (c.loop-k.invariant m corner r q))
    (λ q. subst (IsHeld held) (get_or_read corners i x.result (omega arith) x.is corner) c.around-held.ensures.holds)
    k below from
