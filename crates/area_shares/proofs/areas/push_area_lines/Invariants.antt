use Rattle.std.proofs.Common.{length, List}
use Rattle.area_shares.specs.declared.shared.AreaLine.{AreaLine}
use Rattle.area_shares.specs.AreaTable.{ArePairsOfParcels, AddsAreaLines}
use Rattle.area_shares.proofs.areas.push_area_lines.Given as goal

abbrev pub invariant-loop-first : goal.invariant-loop-first
invariant-loop-first g l = record {
  pairs : ArePairsOfParcels l.parcels.now.rows l.zones.rows l.rest;
  so_far : (new : List AreaLine) → AddsAreaLines l.parcels.now.rows l.zones.rows l.rest l.lines.items new
      → AddsAreaLines l.parcels.now.rows l.zones.rows l.pairs l.initial.lines.items new;
}

abbrev pub decreases-loop-first : goal.decreases-loop-first
decreases-loop-first g l = length l.rest
