use Rattle.std.proofs.Common.{◌≡◌, ◌+◌, ◌^◌, ◌++◌, drop}
use Rattle.geo_exact.specs.Limit.{IsWithin}
use Rattle.area_shares.proofs.Given.{lines_of, left_over}
use Rattle.area_shares.proofs.shared.push_shares.Given as goal

abbrev pub invariant-loop-share : goal.invariant-loop-share
invariant-loop-share g l = record {
  so_far : l.lines.items ++ lines_of l.id l.rest (drop l.share-index l.others) ≡ l.initial.lines.items ++ lines_of l.id l.initial.rest
      l.others;
  left : left_over l.rest (drop l.share-index l.others) ≡ left_over l.initial.rest l.others;
  small : IsWithin (2 ^ 120 + 2 ^ 100 + l.share-index) l.rest;
}
