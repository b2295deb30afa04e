use Rattle.std.proofs.Common.{◌∙◌, arith, length}
use Rattle.cell_index.proofs.Batches.{room_for_one_more}
use Rattle.cell_index.proofs.batch.make_room_for_all.Goals as goal

pub loop-entry-preserved : goal.loop-entry-preserved
loop-entry-preserved g c = record {
  kept = c.make_room.ensures.kept ∙ c.loop-entry.invariant.kept;
  room = room_for_one_more c.args.area c.places_of.result c.args.come.now c.loop-entry.entry-index
      (length c.args.come.now) c.entry-item.result
      c.loop-entry.cells c.make_room.new.cells (omega (arith, c.loop-entry-test.true)) c.entry-item.is
      (omega (arith, c.loop-entry.auto.cells, c.requires)) (omega (arith, c.make_room.auto.cells, c.loop-entry.auto.cells, c.requires))
      c.make_room.ensures.kept c.make_room.ensures.no_less c.places_of.ensures c.in_ok-make_room.ensures.room c.loop-entry.invariant.room;
}
