use Rattle.std.proofs.Common.{map}
use Rattle.geo_exact.specs.Layers.{numbered}
use Rattle.overlay_tests.proofs.PlainTables.{AreSoFar}
use Rattle.overlay_tests.proofs.pairs.all_pairs.Given as goal

abbrev pub invariant-loop-id : goal.invariant-loop-id
invariant-loop-id g l =
    AreSoFar l.sheet.now.rows l.zones.rows (map (λ shape. numbered shape.0 shape.1.ring.corners) l.id-iterator) l.pairs.items
