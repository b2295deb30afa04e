use Rattle.std.proofs.Common.{map}
use Rattle.geo_exact.specs.Layers.{numbered}
use Rattle.overlay_tests.proofs.PlainTables.{AreZonesSoFar}
use Rattle.overlay_tests.proofs.pairs.pairs_of.Given as goal

abbrev pub invariant-loop-zone : goal.invariant-loop-zone
invariant-loop-zone g l =
    AreZonesSoFar (numbered l.id l.shape.ring.corners) l.zones.rows
    (map (λ shape. numbered shape.0 shape.1.ring.corners) l.zone-iterator) l.pairs.items
