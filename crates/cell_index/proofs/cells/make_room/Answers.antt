use Rattle.std.proofs.Common.{arith, ◌∙◌, ◌<◌, length}
use Rattle.cell_index.proofs.Changes.{room_more, contents_kept, room_kept}
use Rattle.cell_index.proofs.cells.make_room.Goals as goal

pub loop-n-preserved : goal.loop-n-preserved
loop-n-preserved g c =
    let inside : c.number.result < length c.loop-n.cells = omega (arith, c.number.ensures.kept, c.requires, c.loop-n.auto.cells) in
    record {
      kept = contents_kept c.loop-n.cells c.number.result c.index-cells-number.result c.reserve.new.self inside c.reserve.ensures.items
          ∙ c.loop-n.invariant.kept;
      room = room_more c.args.places c.loop-n.n c.number.result
          (omega (arith, c.loop-n-test.true, c.count-n-end.ensures)) c.number.ensures.value
          c.args.count c.loop-n.cells c.reserve.new.self inside c.in_ok-reserve.ensures.ok c.loop-n.invariant.room;
      no_less = room_kept c.args.cells.now c.loop-n.cells c.number.result c.index-cells-number.result c.reserve.new.self inside
          c.reserve.ensures.capacity c.loop-n.invariant.no_less;
    }
