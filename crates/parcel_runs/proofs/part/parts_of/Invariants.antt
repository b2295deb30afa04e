use Rattle.std.proofs.Common.{◌≤◌, ◌++◌, length}
use Rattle.std.specs.List.{AllByRecursion, AllZip}
use Rattle.geo_exact.specs.Layers.{numbered}
use Rattle.geo_exact.specs.declared.limits.TheConstants.{RING_CORNERS}
use Rattle.parcel_runs.specs.own.WrittenParts.{IsWrittenPart}
use Rattle.parcel_runs.proofs.part.parts_of.Given as goal

abbrev pub invariant-loop-district : goal.invariant-loop-district
invariant-loop-district g l =
    AllByRecursion (λ shape. length shape.1.ring.corners ≤ RING_CORNERS) l.district-iterator
    × ((more : _) → AllZip (λ shape part. IsWrittenPart (numbered shape.0 shape.1.ring.corners) part) l.district-iterator more
    → AllZip (λ shape part. IsWrittenPart (numbered shape.0 shape.1.ring.corners) part) l.fn.shapes (l.parts.items ++ more))
