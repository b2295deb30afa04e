use Rattle.std.proofs.Common.{◌≡◌, ◌∙◌, ◌++◌, ap, sym, subst, arith, length}
use Rattle.std.specs.Vec.{with_items}
use Rattle.std.proofs.lemmas.List.{with_items_is}
use Rattle.cell_index.specs.Cells.{Indexes, without}
use Rattle.cell_index.specs.own.Ranges.{contents, shown, HaveRoomForAll, Keeps}
use Rattle.cell_index.proofs.CellsKept.{keeps, shows, shown_alike}
use Rattle.cell_index.proofs.index.CellIndex.change.Goals as goal

pub push_all_in-requires : goal.push_all_in-requires
push_all_in-requires g c =
    let area = c.self.inside.area in
    let roomy : c.as_mut_slice-2.result.now ≡ c.make_room_for_all.new.cells =
    c.as_mut_slice-2.ensures.value ∙ with_items_is c.self.inside.cells c.make_room_for_all.new.cells
    (omega (arith, c.make_room_for_all.auto.cells, c.as_mut_slice.ensures.len)) in
    let left : c.as_mut_slice-3.result.now ≡ c.take_all_out.new.cells =
    c.as_mut_slice-3.ensures.value ∙ with_items_is (with_items c.self.inside.cells c.make_room_for_all.new.cells) c.take_all_out.new.cells
    (omega (arith, c.take_all_out.auto.cells, c.as_mut_slice-2.ensures.len)) in (
      omega arith,
      (
        omega (
          arith,
          ap length left,
          c.take_all_out.auto.cells,
          ap length roomy,
          c.make_room_for_all.auto.cells,
          ap length c.as_mut_slice.ensures.value,
          c.self.invariant,
        ),
        subst (HaveRoomForAll area c.args.come.now (length c.args.come.now)) (sym left)
            (c.take_all_out.ensures.room c.args.come.now (length c.args.come.now)
            (subst (HaveRoomForAll area c.args.come.now (length c.args.come.now)) (sym roomy) c.in_ok-make_room_for_all.ensures.room)),
      ),
    )

pub returns-clause-ok : goal.returns-clause-ok
returns-clause-ok g c = λ entries index.
    let area = c.self.inside.area in
    let first = with_items c.self.inside.cells c.make_room_for_all.new.cells in
    let second = with_items first c.take_all_out.new.cells in
    let roomy : c.as_mut_slice-2.result.now ≡ c.make_room_for_all.new.cells =
    c.as_mut_slice-2.ensures.value ∙ with_items_is c.self.inside.cells c.make_room_for_all.new.cells
    (omega (arith, c.make_room_for_all.auto.cells, c.as_mut_slice.ensures.len)) in
    let left : c.as_mut_slice-3.result.now ≡ c.take_all_out.new.cells =
    c.as_mut_slice-3.ensures.value ∙ with_items_is first c.take_all_out.new.cells
    (omega (arith, c.take_all_out.auto.cells, c.as_mut_slice-2.ensures.len)) in
    let all : length c.as_mut_slice-2.result.now ≡ 4097 =
    omega (arith, ap length roomy, c.make_room_for_all.auto.cells, ap length c.as_mut_slice.ensures.value, c.self.invariant) in
    let same : contents c.as_mut_slice-2.result.now ≡ contents c.self.inside.cells.items =
    ap contents roomy ∙ c.make_room_for_all.ensures.kept ∙ ap contents c.as_mut_slice.ensures.value in
    let was : Indexes (shown area c.as_mut_slice-2.result.now) entries =
    subst (λ grid. Indexes grid entries) (sym c.self.view_is
    ∙ sym (shown_alike area c.as_mut_slice-2.result.now c.self.inside.cells.items same)) index in
    let gone : Keeps area c.as_mut_slice-3.result.now (without c.args.gone.now entries) =
    subst (λ cells. Keeps area cells (without c.args.gone.now entries)) (sym left)
    (c.take_all_out.ensures.kept entries (keeps area c.as_mut_slice-2.result.now all entries was)) in
    subst (λ xs. Indexes (shown area xs) (without c.args.gone.now entries ++ c.args.come.now))
    (sym (with_items_is second c.push_all_in.new.cells (omega (arith, c.push_all_in.auto.cells, c.as_mut_slice-3.ensures.len))))
    (shows area c.push_all_in.new.cells
    (omega (arith, c.push_all_in.auto.cells, ap length left, c.take_all_out.auto.cells, all))
    (without c.args.gone.now entries ++ c.args.come.now) (c.push_all_in.ensures (without c.args.gone.now entries) gone))
