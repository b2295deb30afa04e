use Rattle.std.proofs.Common.{◌⊎◌, drop}
use Rattle.geo_exact.specs.Bounds.{IsBeyondBox}
use Rattle.geo_exact.specs.Point.{Point}
use Rattle.geo_exact.specs.Turn.{IsOnRing, IsOnSome}
use Rattle.geo_exact.specs.Rings.{path}
use Rattle.ring_core.proofs.inner.misses.Given as goal

abbrev pub invariant-loop-to : goal.invariant-loop-to
invariant-loop-to l =
    (p : Point) → IsOnRing p l.fn.ring → IsBeyondBox p l.bounds ⊎ IsOnSome p (path l.from (drop l.to-index l.rest) l.first)
