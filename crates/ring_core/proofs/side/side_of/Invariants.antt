use Rattle.std.proofs.Common.{◌≡◌, ◌↔◌, ◌+ℤ◌, drop}
use Rattle.geo_exact.specs.Limit.{IsWithin}
use Rattle.geo_exact.specs.Point.{corner_point}
use Rattle.geo_exact.specs.Winding.{winding, crossings}
use Rattle.geo_exact.specs.Turn.{IsOnRing, IsOnSome}
use Rattle.geo_exact.specs.Rings.{path}
use Rattle.ring_core.proofs.side.side_of.Given as goal

abbrev pub invariant-loop-to : goal.invariant-loop-to
invariant-loop-to l = record {
  so_far : l.sum +ℤ crossings (corner_point l.place) (path l.from (drop l.to-index l.rest) l.first) ≡ winding
      (corner_point l.place) l.fn.ring;
  left : IsOnSome (corner_point l.place) (path l.from (drop l.to-index l.rest) l.first) ↔ IsOnRing (corner_point l.place) l.fn.ring;
  bound : IsWithin l.to-index l.sum;
}
