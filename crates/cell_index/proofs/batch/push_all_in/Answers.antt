use Rattle.std.proofs.Common.{◌<◌, ◌-◌, ◌++◌, sym, subst, arith, length}
use Rattle.std.specs.List.{Contains}
use Rattle.std.proofs.lemmas.List.{take_all}
use Rattle.std.proofs.lemmas.List.Elements.{Contains-get_or}
use Rattle.cell_index.specs.own.Ranges.{Keeps}
use Rattle.cell_index.proofs.Batches.{one_come_more, room_of, room_after_adding}
use Rattle.cell_index.proofs.batch.push_all_in.Goals as goal

pub push_all-requires : goal.push_all-requires
push_all-requires g c =
    let inside : c.loop-entry.entry-index < length c.args.come.now = omega (arith, c.loop-entry-test.true) in
    let member : Contains c.args.come.now c.entry-item.result =
    subst (Contains c.args.come.now) (sym c.entry-item.is) (Contains-get_or c.args.come.now c.loop-entry.entry-index
    c.entry-item.result inside) in (
      omega arith,
      (
        omega (arith, c.loop-entry.auto.cells, c.requires.all),
        room_of c.args.area c.places_of.result c.args.come.now (length c.args.come.now - c.loop-entry.entry-index)
            c.entry-item.result c.loop-entry.cells member
            (omega (arith, inside)) c.places_of.ensures c.loop-entry.invariant.room,
      ),
    )

pub loop-entry-preserved : goal.loop-entry-preserved
loop-entry-preserved g c =
    let inside : c.loop-entry.entry-index < length c.args.come.now = omega (arith, c.loop-entry-test.true) in
    record {
      kept = λ entries kept.
          one_come_more c.args.area c.places_of.result c.args.come.now c.loop-entry.entry-index c.entry-item.result
          c.loop-entry.cells c.push_all.new.cells
          inside c.entry-item.is c.places_of.ensures c.push_all.ensures entries (c.loop-entry.invariant.kept entries kept);
      room = room_after_adding c.args.area c.places_of.result c.entry-item.result c.loop-entry.cells c.push_all.new.cells c.args.come.now
          (length c.args.come.now - c.loop-entry.entry-index) _ (omega (arith, inside)) c.places_of.ensures
          c.push_all.ensures c.loop-entry.invariant.room;
    }

pub returns : goal.returns
returns g c = λ entries kept.
    subst (λ come. Keeps c.args.area c.loop-entry.cells (entries ++ come))
    (take_all c.loop-entry.entry-index c.args.come.now (omega (arith, c.loop-entry-test.false))) (c.loop-entry.invariant.kept entries kept)
