use Rattle.std.proofs.Common.{IfOk}
use Rattle.area_shares.specs.AreaTable.{AreAreaLines}
use Rattle.area_shares.proofs.SlicePairs.{AreGathered}
use Rattle.area_shares.proofs.workers.joined.Given as goal

abbrev pub invariant-loop-lines : goal.invariant-loop-lines
invariant-loop-lines g l =
    AreGathered l.fn.parcels.now.rows l.fn.zones.rows
    (λ here result. IfOk result (λ lines. AreAreaLines l.fn.parcels.now.rows l.fn.zones.rows here lines.items))
    l.fn.pairs l.lines-iterator.rest.items l.all.items
