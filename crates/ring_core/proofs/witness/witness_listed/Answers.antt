use Rattle.std.proofs.Common.{◌<◌, ◌≤◌, ◌∙◌, ℕ, sym, subst, arith, below_more, length, get_or}
use Rattle.std.proofs.lemmas.Bool.{false≢true}
use Rattle.geo_exact.specs.Places.{corner_at}
use Rattle.ring_core.specs.declared.sorted.Axis.{Axis}
use Rattle.ring_core.specs.declared.sorted.Listed.{Listed}
use Rattle.ring_core.specs.Clipping.{Blocks, next, previous}
use Rattle.ring_core.specs.own.Sorted.{IsListed}
use Rattle.ring_core.proofs.ears.Renumbered.{inside_like}
use Rattle.ring_core.proofs.witness.witness_listed.Goals as goal
use Rattle.ring_core.proofs.witness.witness_listed.Goals.{then-is_in_boxed+in_default, else-is_in_boxed}

pub loop-i-preserved : goal.loop-i-preserved
loop-i-preserved c =
    let corners = c.args.corners.now in let numbers = c.args.numbers.now in let list = c.args.list.now in let k = c.args.k in
    let t = c.args.triangle in let at = c.requires.is_triangle in
    λ i o b. below_more (λ i. c.args.span.start ≤ i → (j : ℕ) (axis : Axis) → j < length corners
    → ((d : Listed) → IsListed axis corners numbers j (get_or list i d)) → ¬ Blocks corners k j) c.loop-i.i
    (λ i b o. c.loop-i.invariant i o b)
    (λ _ j axis below h x.
    let is = subst (IsListed axis corners numbers j) (sym c.index-list-i.is) (h c.index-list-i.result) in
    elim c.if-is_in_boxed.branch [
      | then-is_in_boxed+in_default w ↦
          let there = w.places_of-places.ensures.has j (omega (arith, below, c.requires.as_many)) (sym is.number) in
          w.in_default.ensures j there.from there.to x
      | else-is_in_boxed w ↦ false≢true (sym w.if-is_in_boxed.false ∙ c.is_in_boxed.ensures.1
          (inside_like (corner_at corners j) (previous corners k) (corner_at corners k) (next corners k)
          c.index-list-i.result.corner t.a t.b t.c is.corner at.a at.b at.c x.is_inside))
    ]) i b o

pub returns-clause-none : goal.returns-clause-none
returns-clause-none c = λ i j axis in_span below h.
    c.loop-i.invariant i in_span.from (omega (arith, in_span.to, c.loop-i-test.false)) j axis below h
