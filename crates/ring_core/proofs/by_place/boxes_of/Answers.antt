use Rattle.std.proofs.Common.{◌*◌, ◌≤◌, ◌<◌, ◌+◌, get_or, arith, below_more}
use Rattle.std.proofs.lemmas.List.{get_or_append_left, get_or_push, length_push}
use Rattle.std.proofs.Common.{[], ◌∷◌, ◌++◌}
use Rattle.ring_core.specs.own.ByPlace.{HoldsEdge, edge_at}
use Rattle.ring_core.proofs.by_place.boxes_of.Goals as goal

pub loop-b-preserved : goal.loop-b-preserved
loop-b-preserved c =
    let ring = c.args.ring.now in let edges = c.args.edges.now in let b = c.loop-b.b in
    let boxes = c.loop-b.boxes.items in let box = c.box_of.result in let inv = c.loop-b.invariant in
    rw c.push.ensures.items (record {
      as_many = omega (arith, length_push boxes box, inv.as_many);
      each = λ k p d below from to in_list. below_more
          (λ m. 8 * m ≤ p → p < 8 * m + 8 → HoldsEdge (get_or (boxes ++ box ∷ []) m d) ring (edge_at edges p)) b
          (λ m q x y. rw (get_or_append_left boxes (box ∷ []) d m (omega (arith, q, inv.as_many))) (inv.each m p d q x y in_list))
          (λ x y. rw (get_or_push boxes box d b inv.as_many)
          (c.box_of.ensures p (omega (arith, x, c.span_of-span.ensures.start)) (c.span_of-span.ensures.all p y in_list))) k below from to;
    })

pub returns : goal.returns
returns c =
    let inv = c.loop-b.invariant in record {
      all = omega (arith, inv.as_many, c.loop-b-test.false);
      some = λ b below. omega (arith, below, inv.as_many);
      each = λ b p d below from to in_list. inv.each b p d (omega (arith, below, inv.as_many)) from to in_list;
    }
