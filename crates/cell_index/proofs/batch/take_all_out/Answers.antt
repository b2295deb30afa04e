use Rattle.std.proofs.Common.{sym, subst, arith}
use Rattle.std.proofs.lemmas.List.{take_all}
use Rattle.cell_index.specs.Cells.{without}
use Rattle.cell_index.specs.own.Ranges.{Keeps}
use Rattle.cell_index.proofs.Batches.{without_nothing, one_gone_more, room_after_taking}
use Rattle.cell_index.proofs.batch.take_all_out.Goals as goal

pub loop-entry-init : goal.loop-entry-init
loop-entry-init g c = record {
  kept = λ entries kept. subst (Keeps c.args.area c.args.cells.now) (sym (without_nothing entries)) kept;
  room = λ come count room. room;
}

pub loop-entry-preserved : goal.loop-entry-preserved
loop-entry-preserved g c = record {
  kept = λ entries kept.
      one_gone_more c.args.area c.places_of.result c.args.gone.now c.loop-entry.entry-index c.entry-item.result
      c.loop-entry.cells c.take_out.new.cells
      (omega (arith, c.loop-entry-test.true)) c.entry-item.is c.places_of.ensures c.take_out.ensures entries
      (c.loop-entry.invariant.kept entries kept);
  room = λ come count room.
      room_after_taking c.args.area c.places_of.result c.entry-item.result c.loop-entry.cells c.take_out.new.cells
      c.places_of.ensures c.take_out.ensures
      come count (c.loop-entry.invariant.room come count room);
}

pub returns-clause-kept : goal.returns-clause-kept
returns-clause-kept g c = λ entries kept.
    subst (λ gone. Keeps c.args.area c.loop-entry.cells (without gone entries))
    (take_all c.loop-entry.entry-index c.args.gone.now (omega (arith, c.loop-entry-test.false))) (c.loop-entry.invariant.kept entries kept)
