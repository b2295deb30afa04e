use Rattle.std.proofs.Common.{◌*◌, arith, inl, inr}
use Rattle.std.proofs.lemmas.Bool.{cases_lt}
use Rattle.ring_core.proofs.searches.PlacedEdges.{all_clear}
use Rattle.ring_core.proofs.by_place.are_all_clear.Goals as goal

pub loop-b-preserved : goal.loop-b-preserved
loop-b-preserved c = λ p q below o in_list.
    let b = c.loop-b.b in
    elim (cases_lt p (8 * b)) [
      | inl h ↦ c.loop-b.invariant p q h o in_list
      | inr h ↦ c.is_clear_from.ensures c.if-not-is_clear_from.false p q h (omega (arith, below)) (omega (arith, o, in_list))
          (omega (arith, h, o)) in_list
    ]

pub returns : goal.returns
returns c = λ _. all_clear c.args.ring.now c.args.edges.now c.requires.edges (λ p q o b.
    c.loop-b.invariant p q (omega (arith, c.requires.boxed.all, c.loop-b-test.false, o, b)) o b)
