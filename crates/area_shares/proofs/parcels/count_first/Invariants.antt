use Rattle.std.proofs.Common.{◌≡◌, ◌+◌, drop}
use Rattle.area_shares.specs.own.Parcels.{count_first}
use Rattle.area_shares.proofs.parcels.count_first.Given as goal

abbrev pub invariant-loop-pair : goal.invariant-loop-pair
invariant-loop-pair l = record {
  so_far : l.count + count_first l.id (drop l.pair-index l.pairs) ≡ count_first l.id l.pairs;
  all : l.count ≡ l.pair-index;
}
