use Rattle.std.proofs.Common.{◌+◌, ◌*◌, ◌^◌, ◌≤◌, length, drop}
use Rattle.geo_exact.specs.Limit.{IsWithin}
use Rattle.geo_exact.specs.Rings.{path, edges}
use Rattle.geo_exact.specs.declared.limits.TheConstants.{RING_CORNERS}
use Rattle.common_areas.specs.Between.{between}
use Rattle.common_areas.specs.Common.{sum_shares}
use Rattle.area_bounds.specs.Rounded.{count_over, loss_of, pairs_rounded}
use Rattle.area_bounds.proofs.Counts.{Leads}
use Rattle.area_bounds.proofs.sums.common_parts.Given as goal

abbrev pub invariant-loop-to : goal.invariant-loop-to
invariant-loop-to l = record {
  so_far : Leads l.sum.low l.sum.lost
      (sum_shares (λ e. sum_shares (between e) (edges l.other)) (path l.from (drop l.to-index l.rest) l.first))
      (sum_shares (λ e. sum_shares (between e) (edges l.other)) (edges l.fn.one));
  bound : IsWithin (3 * 2 ^ 100 * RING_CORNERS * l.to-index) l.sum.low;
  lost : l.sum.lost ≤ l.to-index * length l.other;
  rounded : l.sum.lost
      + count_over (λ e. count_over (λ f. loss_of (between e f)) (edges l.other)) (path l.from (drop l.to-index l.rest) l.first)
      ≤ pairs_rounded l.fn.one l.other;
}
