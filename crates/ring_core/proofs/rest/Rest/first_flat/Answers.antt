use Rattle.std.proofs.Common.{ℕ, ◌<◌, ap, arith, length, drop}
use Rattle.ring_core.specs.Clipping.{IsFlat}
use Rattle.ring_core.proofs.clipping.KindsTell.{flat_here, none_flat}
use Rattle.ring_core.proofs.clipping.TakenOnEitherSide.{shown}
use Rattle.ring_core.proofs.rest.Rest.first_flat.Goals as goal
use Rattle.ring_core.proofs.rest.Rest.first_flat.Goals.{then-k-count, else-k-count}

pub returns-clause-flat : goal.returns-clause-flat
returns-clause-flat g c =
    let inside = c.self.inside in let start = inside.start in
    let rest = drop start inside.corners.items in let numbers = drop start inside.numbers.items in
    let kinds = drop start inside.kinds.items in
    let k = c.first_flat-k.result in let inv = c.self.invariant.1 in let are = inv.are in
    let kinds_are = shown _ _ start c.deref.ensures.value in
    let has = rw kinds_are at c.first_flat-k.ensures.flat in
    let none = rw kinds_are at c.first_flat-k.ensures.none in
    let before : (j : ℕ) → j < k → j < length rest → ¬ IsFlat rest j =
    none_flat rest numbers kinds inside.seen.flats k are inv.seen_so_far.flats none in
    elim c.if-k-count.branch [
      | then-k-count w ↦
          let below : k < length rest = omega (arith, are.same_length, w.if-k-count.true, ap length kinds_are) in
          rw w.result-is (record {
            below = below;
            has = flat_here rest numbers kinds k are below (has (omega (arith, are.same_length, below)));
            none_before = λ j b. before j b (omega (arith, b, below));
          })
      | else-k-count w ↦ rw w.result-is (λ j b.
          before j (omega (arith, are.same_length, b, w.if-k-count.false, ap length kinds_are)) b)
    ]
