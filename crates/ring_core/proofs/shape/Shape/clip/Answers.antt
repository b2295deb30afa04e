use Rattle.std.proofs.Common.{◌≡◌, ◌∙◌, ap, ◌<◌, length, arith}
use Rattle.ring_core.proofs.edges.Corners.{three_corners}
use Rattle.ring_core.proofs.clipping.Clipped.{make_up}
use Rattle.ring_core.proofs.clipping.CornersInBoxes.{box_of_corners}
use Rattle.ring_core.proofs.clipping.NeverStuck.{never_stuck}
use Rattle.ring_core.proofs.clipping.ClipSteps.{clip_start, clip_flat, clip_ear, one_less}
use Rattle.ring_core.proofs.shape.Shape.clip.Goals as goal

pub loop-rest-init : goal.loop-rest-init
loop-rest-init g c =
    let ring = c.args.ring.corners in
    let rest_is : c.in_ok-rest.rest ≡ ring = c.in_ok-rest.ensures ∙ c.as_slice.ensures in
    record {
      clipped = clip_start ring _ _ c.in_ok-triangles.ensures rest_is;
      two_left = omega (arith, three_corners ring c.args.ring.is_simple.counterclockwise, ap length rest_is);
    }

pub loop-rest-smaller-in-Some : goal.loop-rest-smaller-in-Some
loop-rest-smaller-in-Some g c =
    let flat = rw c.in-Some.ensures.same at c.in-Some.ensures.flat in
    let taken = rw c.in-Some.ensures.same at c.remove.ensures in
    omega (arith, one_less c.loop-rest.rest c.remove.new.self c.in-Some.k flat.below taken)

pub loop-rest-preserved-in-Some : goal.loop-rest-preserved-in-Some
loop-rest-preserved-in-Some g c =
    let more : 2 < length c.loop-rest.rest = omega (arith, ap length c.as_slice-in-loop-rest.ensures) in
    let flat = rw c.in-Some.ensures.same at c.in-Some.ensures.flat in
    let taken = rw c.in-Some.ensures.same at c.remove.ensures in
    record {
      clipped = clip_flat c.args.ring.corners c.loop-rest.rest _ _ c.in-Some.k c.loop-rest.invariant.clipped more flat taken;
      two_left = omega (arith, one_less c.loop-rest.rest c.remove.new.self c.in-Some.k flat.below taken);
    }

pub loop-rest-smaller : goal.loop-rest-smaller
loop-rest-smaller g c =
    let same = c.in-Some-first_ear.ensures.same ∙ c.in_default.ensures.same in
    let ear = rw same at c.in-Some-first_ear.ensures.ear in
    let taken = rw same at c.remove-in-Some-first_ear.ensures in
    omega (arith, one_less c.loop-rest.rest c.remove-in-Some-first_ear.new.self c.in-Some-first_ear.k ear.below taken)

pub loop-rest-preserved : goal.loop-rest-preserved
loop-rest-preserved g c =
    let more : 2 < length c.loop-rest.rest = omega (arith, ap length c.as_slice-in-loop-rest.ensures) in
    let same = c.in-Some-first_ear.ensures.same ∙ c.in_default.ensures.same in
    let none = rw c.in_default.ensures.same at c.in_default.ensures.flat in
    let ear = rw same at c.in-Some-first_ear.ensures.ear in
    let taken = rw same at c.remove-in-Some-first_ear.ensures in
    let made = rw (c.as_slice-in-Some-first_ear.ensures ∙ same) at c.triangle_at.ensures in
    record {
      clipped = clip_ear c.args.ring.corners c.loop-rest.rest _ _ _ c.in-Some-first_ear.k c.triangle_at.result
          c.loop-rest.invariant.clipped more none ear made c.in_ok-push.ensures.ok taken;
      two_left = omega (arith, one_less c.loop-rest.rest c.remove-in-Some-first_ear.new.self c.in-Some-first_ear.k ear.below taken);
    }

pub invariant_of-result : goal.invariant_of-result
invariant_of-result g c =
    let two : length c.loop-rest.rest ≡ 2 = omega (arith, c.loop-rest.invariant.two_left, ap length c.as_slice-in-loop-rest.ensures) in
    let least = rw c.as_slice-2.ensures at c.bounds_of_ring-bounds.ensures in
    record {
      least_box = least;
      bounded = box_of_corners c.bounds_of_ring-bounds.result c.args.ring.corners c.loop-rest.triangles
          c.loop-rest.rest c.loop-rest.invariant.clipped
          least.holds;
      cored = rw c.as_slice-3.ensures at c.core_of-core.ensures;
      made_up = make_up c.args.ring.corners c.loop-rest.triangles (c.loop-rest.rest, c.loop-rest.invariant.clipped, two);
    }

pub unreachable-requires : goal.unreachable-requires
unreachable-requires g c =
    let none = rw c.in_default.ensures.same at c.in_default.ensures.flat in
    never_stuck c.args.ring.corners c.args.ring.is_simple c.loop-rest.triangles c.loop-rest.rest c.loop-rest.invariant.clipped
    (omega (arith, ap length c.as_slice-in-loop-rest.ensures)) none
    (rw (c.in_default-first_ear.ensures.same ∙ c.in_default.ensures.same) at c.in_default-first_ear.ensures.ear)
