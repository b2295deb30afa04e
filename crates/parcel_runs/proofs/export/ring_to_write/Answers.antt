use Rattle.std.proofs.Common.{rules, ◌≡◌, ◌≤◌, length, sym, subst}
use lib.IntN.{pos}
use lib.Signed.{◌≤ℤ◌}
use Rattle.geo_exact.specs.Area.{area2}
use Rattle.geo_exact.specs.Rings.{HasNoRepeats}
use Rattle.geo_exact.specs.declared.limits.TheConstants.{RING_CORNERS}
use Rattle.parcel_runs.proofs.SimpleRings.{enough_corners, no_repeats, not_clockwise}
use Rattle.parcel_runs.proofs.export.ring_to_write.Goals as goal

pub invariant_of-result : goal.invariant_of-result
invariant_of-result g c =
    let ring = c.args.ring.now.corners in
    let same : c.in_ok-corners.corners ≡ ring = search rules in
    record {
      enough = subst (λ corners. 3 ≤ length corners) (sym same) (enough_corners ring c.args.ring.now.is_simple);
      few = subst (λ corners. length corners ≤ RING_CORNERS) (sym same) c.requires;
      no_repeats = subst HasNoRepeats (sym same) (no_repeats ring c.args.ring.now.is_simple);
      not_clockwise = subst (λ corners. pos 0 ≤ℤ area2 corners) (sym same) (not_clockwise ring c.args.ring.now.is_simple);
    }
