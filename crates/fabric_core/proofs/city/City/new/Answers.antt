use Rattle.std.proofs.Common.{◌≡◌, ◌⊎◌, inl, inr, ◌∙◌, sym, subst, arith, ℤ, pos, ◌≤◌, length}
use Rattle.std.proofs.lemmas.Int.{ints}
use Rattle.fabric_core.proofs.edits.Refusals.{IsErrAnd-weaker}
use lib.Signed.{◌≤ℤ◌}
use Rattle.geo_exact.specs.Rings.{begun_at_least}
use Rattle.geo_exact.specs.declared.limits.TheConstants.{RING_CORNERS}
use Rattle.ring_core.specs.Simple.{IsSimpleRing}
use Rattle.ring_core.specs.Clipping.{IsClippedTo}
use Rattle.ring_core.specs.Faults.{IsRingFault}
use Rattle.tri_overlap.proofs.Unfolded.{ring_at_most_once}
use Rattle.fabric_core.specs.declared.city.CityFault.TheVariants.{NoMemory}
use Rattle.fabric_core.proofs.loads.BegunRings.{begun_length}
use Rattle.fabric_core.proofs.loads.OneFault.{same_ring_fault, same_fold, no_city_fault}
use Rattle.fabric_core.proofs.city.City.new.Goals as goal

once : (z : ℤ) → (z ≡ pos 0) ⊎ (z ≡ pos 1) → (pos 0 ≤ℤ z) × (z ≤ℤ pos 1)
once z (inl e) = (omega (arith, ints, e), omega (arith, ints, e))
once z (inr e) = (omega (arith, ints, e), omega (arith, ints, e))

pub returns-in_err-ring-clause-refuses : goal.returns-in_err-ring-clause-refuses
returns-in_err-ring-clause-refuses g c = λ fault h.
    let same = same_ring_fault (begun_at_least c.args.ring.corners) c.in_err-ring.field-0.0 fault
    (subst (λ ring. IsRingFault ring c.in_err-ring.field-0.0) c.begin_at_least.ensures c.in_err-ring.ensures.err) h in
    IsErrAnd-weaker c.from_residual.result _ (λ e. (e ≡ fault) ⊎ (e ≡ NoMemory)) (λ e k. inl (k ∙ same)) c.from_residual.ensures.1

pub returns-in-Some-clause-refuses : goal.returns-in-Some-clause-refuses
returns-in-Some-clause-refuses g c = λ fault h.
    let begun = c.in_ok-ring.ensures.ok ∙ c.begin_at_least.ensures in
    inl (same_fold (begun_at_least c.args.ring.corners) c.in_ok-shape.shape.triangles c.in-Some.i c.in-Some.j fault
    (subst IsSimpleRing begun c.in_ok-ring.ring.is_simple)
    (subst (λ ring. IsClippedTo ring c.in_ok-shape.shape.triangles) begun c.in_ok-shape.ensures.clipped) c.in-Some.ensures h)

pub invariant_of-result : goal.invariant_of-result
invariant_of-result g c = record {
  few = subst (λ ring. length ring ≤ RING_CORNERS) (sym (c.in_ok-shape.ensures.ring ∙ c.in_ok-ring.ensures.ok
      ∙ c.begin_at_least.ensures))
      (omega (arith, begun_length c.args.ring.corners, c.args.ring.few));
  least_box = c.in_ok-shape.shape.least_box;
  wound_once = λ p. once _ (ring_at_most_once c.in_ok-shape.shape.ring.corners c.in_ok-shape.shape.triangles c.in_ok-shape.shape.made_up
      c.in_default.ensures p);
}

pub returns-clause-refuses : goal.returns-clause-refuses
returns-clause-refuses g c = λ fault h.
    let begun = c.in_ok-ring.ensures.ok ∙ c.begin_at_least.ensures in
    no_city_fault (begun_at_least c.args.ring.corners) c.in_ok-shape.shape.triangles fault
    (subst IsSimpleRing begun c.in_ok-ring.ring.is_simple)
    (subst (λ ring. IsClippedTo ring c.in_ok-shape.shape.triangles) begun c.in_ok-shape.ensures.clipped) c.in_default.ensures h
