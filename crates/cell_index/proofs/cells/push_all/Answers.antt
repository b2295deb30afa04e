use Rattle.std.proofs.Common.{arith, get_or}
use Rattle.cell_index.specs.own.Ranges.{with_entry}
use Rattle.cell_index.proofs.Changes.{same_cell, changed_more}
use Rattle.cell_index.proofs.cells.push_all.Goals as goal

pub loop-n-preserved : goal.loop-n-preserved
loop-n-preserved g c =
    changed_more c.args.places c.loop-n.n c.number.result (omega (arith, c.loop-n-test.true, c.count-n-end.ensures)) c.number.ensures.value
    (with_entry c.args.entry) c.args.cells.now c.loop-n.cells c.index-cells-number.result c.push_reserved.new.self
    (omega (arith, c.number.ensures.kept, c.requires.all, c.loop-n.auto.cells))
    (same_cell c.push_reserved.new.self
    (with_entry c.args.entry (get_or c.loop-n.cells c.number.result c.index-cells-number.result))
    c.push_reserved.ensures.items c.push_reserved.ensures.capacity)
    c.loop-n.invariant
