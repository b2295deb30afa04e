use Rattle.std.proofs.Common.{◌*◌, get_or, arith, subst, sym, inl, inr}
use Rattle.std.proofs.lemmas.Bool.{cases_lt}
use Rattle.ring_core.specs.own.ByPlace.{HoldsEdge, edge_at}
use Rattle.ring_core.proofs.searches.PlacedEdges.{clear_in_boxes_apart}
use Rattle.ring_core.proofs.by_place.is_clear_from.Goals as goal
use Rattle.ring_core.proofs.by_place.is_clear_from.Goals.{else-not-are_apart-via-then-not-are_apart+else-not-are_clear}
use Rattle.ring_core.proofs.by_place.is_clear_from.Goals.{else-not-are_apart-via-else-not-are_apart}

pub span_of-requires : goal.span_of-requires
span_of-requires c = c.requires.boxed.some c.loop-c.c (omega arith)

pub are_clear-requires-clause-held : goal.are_clear-requires-clause-held
are_clear-requires-clause-held c = λ p h.
    let ring = c.args.ring.now in let edges = c.args.edges.now in let one = c.span_of-one.ensures in
    subst (λ box. HoldsEdge box ring (edge_at edges p)) (sym c.index-boxes-b.is)
    (c.requires.boxed.each c.args.b p c.index-boxes-b.result c.requires.block (omega (arith, h.from, one.start))
    (omega (arith, h.to, one.most)) (omega (arith, h.to, one.in_list)))

pub loop-c-preserved : goal.loop-c-preserved
loop-c-preserved c = λ p q from to below from_q to_q below_q.
    let ring = c.args.ring.now in let edges = c.args.edges.now in let one = c.span_of-one.ensures in
    let boxed = c.requires.boxed in let b = c.args.b in let d = c.loop-c.c in
    elim (cases_lt q (8 * d)) [
      | inl h ↦ c.loop-c.invariant p q from to below from_q h below_q
      | inr h ↦ elim c.else-not-are_apart.branch [
        | else-not-are_apart-via-then-not-are_apart+else-not-are_clear w ↦
            w.are_clear.ensures w.if-not-are_clear.false p q
            (record { from = omega (arith, from, one.start); to = one.all p to below })
            (record { from = omega (arith, h, w.span_of.ensures.start); to = w.span_of.ensures.all q (omega (arith, to_q)) below_q })
        | else-not-are_apart-via-else-not-are_apart w ↦
            clear_in_boxes_apart ring (edge_at edges p) (edge_at edges q) c.index-boxes-b.result
            (get_or c.args.boxes.now d c.index-boxes-c.result)
            (subst (λ box. HoldsEdge box ring (edge_at edges p)) (sym c.index-boxes-b.is)
            (boxed.each b p c.index-boxes-b.result c.requires.block from to below))
            (boxed.each d q c.index-boxes-c.result (omega arith) h (omega (arith, to_q)) below_q)
            (c.are_apart.ensures w.if-not-are_apart.false)
      ]
    ]

pub returns : goal.returns
returns c = λ _ p q from to below from_q below_q.
    c.loop-c.invariant p q from to below from_q (omega (arith, c.requires.boxed.all, c.loop-c-test.false, below_q)) below_q
