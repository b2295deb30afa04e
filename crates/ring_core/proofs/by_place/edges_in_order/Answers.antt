use Rattle.std.proofs.Common.{◌<◌, length, arith, subst, sym}
use Rattle.ring_core.proofs.by_place.edges_in_order.Goals as goal

pub returns : goal.returns
returns c =
    let n = length c.args.ring.now in let inv = c.loop-i.invariant in record {
      as_many = omega (arith, inv.as_many);
      in_ring = λ p b. subst (λ k. k < n) (sym (inv.each p (omega (arith, inv.as_many, b)))) (omega (arith, inv.as_many, b));
      each = λ i b. (i, omega (arith, inv.as_many, b), inv.each i (omega (arith, b)));
    }
