use Rattle.std.proofs.Common.{◌+◌, ◌*◌, ◌^◌, ◌≤◌, drop}
use Rattle.geo_exact.specs.Limit.{IsWithin}
use Rattle.geo_exact.specs.Rings.{path, edges}
use Rattle.common_areas.specs.Between.{between}
use Rattle.common_areas.specs.Common.{sum_shares}
use Rattle.area_bounds.specs.Edges.{edge_of}
use Rattle.area_bounds.specs.Rounded.{count_over, loss_of}
use Rattle.area_bounds.proofs.Counts.{Leads}
use Rattle.area_bounds.proofs.sums.ring_parts.Given as goal

abbrev pub invariant-loop-to : goal.invariant-loop-to
invariant-loop-to l = record {
  so_far : Leads l.sum.low l.sum.lost (sum_shares (between (edge_of l.one)) (path l.from (drop l.to-index l.rest) l.first))
      (sum_shares (between (edge_of l.one)) (edges l.fn.ring));
  bound : IsWithin (3 * 2 ^ 100 * l.to-index) l.sum.low;
  lost : l.sum.lost ≤ l.to-index;
  rounded : l.sum.lost
      + count_over (λ edge. loss_of (between (edge_of l.one) edge)) (path l.from (drop l.to-index l.rest) l.first)
      ≤ count_over (λ edge. loss_of (between (edge_of l.one) edge)) (edges l.fn.ring);
}
