use Rattle.std.proofs.Common.{◌≤◌, length, arith, below_more, subst}
use Rattle.ring_core.specs.own.ByPlace.{HoldsEdge, edge_at}
use Rattle.leaning_boxes.specs.Leaning.{IsHeld}
use Rattle.ring_core.proofs.edges.CornersRead.{corner_read, corner_after_read}
use Rattle.ring_core.proofs.by_place.box_of.Goals as goal

pub loop-p-preserved : goal.loop-p-preserved
loop-p-preserved c = λ k o b.
    let ring = c.args.ring.now in let n = length ring in let edges = c.args.edges.now in let p = c.loop-p.p in
    let i = edge_at edges p in
    let in_ring = c.requires.in_ring p (omega arith) in
    let held = c.around-held-in-loop-p.result in
    let first = c.around-held.ensures in let second = c.around-held-in-loop-p.ensures in
    below_more (λ m. c.args.start ≤ m → HoldsEdge held ring (edge_at edges m)) p
    (λ m q r. let h = c.loop-p.invariant m r q in
    (second.keeps _ (first.keeps _ h.0), second.keeps _ (first.keeps _ h.1)))
    (λ r. (
      second.keeps _ (subst (IsHeld c.around-held.result) (corner_read ring i c.index-ring-i.result in_ring c.index-ring-i.is) first.holds),
      subst (IsHeld held)
          (corner_after_read ring i c.following-in-loop-p.result c.index-ring-following-in-loop-p.result in_ring
          c.following-in-loop-p.ensures c.index-ring-following-in-loop-p.is) second.holds,
    )) k b o
