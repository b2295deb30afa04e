use Rattle.std.proofs.Common.{subst}
use Rattle.scaled_rings.specs.Tenfold.{AreTenTimes}
use Rattle.scaled_rings.proofs.Simple.{simple_of_ten}
use Rattle.scaled_rings.proofs.rings.tenfold_ring.Goals as goal

pub invariant_of-result : goal.invariant_of-result
invariant_of-result g c = record {
  is_simple =
      simple_of_ten c.args.ring.now.corners c.in_ok-corners.corners
      (subst (λ xs. AreTenTimes xs c.in_ok-corners.corners) c.as_slice.ensures c.in_ok-corners.ensures) c.args.ring.now.is_simple;
}
