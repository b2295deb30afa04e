use Rattle.std.proofs.Common.{◌≡◌, ◌*◌, ◌^◌, ◌+ℤ◌, drop}
use Rattle.geo_exact.specs.Limit.{IsWithin}
use Rattle.area_shares.specs.own.Rounded.{least_of_all}
use Rattle.area_shares.proofs.shared.sum_of_least.Given as goal

abbrev pub invariant-loop-share : goal.invariant-loop-share
invariant-loop-share l = record {
  so_far : l.sum +ℤ least_of_all (drop l.share-index l.shares) ≡ least_of_all l.fn.shares;
  small : IsWithin (2 ^ 100 * l.share-index) l.sum;
}
