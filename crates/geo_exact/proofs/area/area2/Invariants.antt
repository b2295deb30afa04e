use Rattle.std.proofs.Common.{◌≡◌, ◌*◌, ◌+ℤ◌, drop}
use Rattle.geo_exact.specs.Limit.{IsWithin, limit}
use Rattle.geo_exact.specs.Area.{area2, edge_area2}
use Rattle.geo_exact.specs.Rings.{sum_over, path}
use Rattle.geo_exact.proofs.area.area2.Given as goal

abbrev pub invariant-loop-to : goal.invariant-loop-to
invariant-loop-to l = record {
  so_far : l.sum +ℤ sum_over edge_area2 (path l.from (drop l.to-index l.rest) l.first) ≡ area2 l.fn.ring;
  bound : IsWithin (2 * (limit * limit) * l.to-index) l.sum;
}
