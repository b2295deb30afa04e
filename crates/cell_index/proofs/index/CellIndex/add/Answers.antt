use Rattle.std.proofs.Common.{◌≡◌, ◌∙◌, ◌∷◌, ◌++◌, ap, sym, subst, arith, length, []}
use Rattle.std.specs.Vec.{with_items}
use Rattle.std.proofs.lemmas.List.{with_items_is}
use Rattle.cell_index.specs.Cells.{Indexes}
use Rattle.cell_index.specs.own.Ranges.{contents, shown}
use Rattle.cell_index.proofs.CellsKept.{added, keeps, shows, shown_alike}
use Rattle.cell_index.proofs.index.CellIndex.add.Goals as goal

pub returns-clause-ok : goal.returns-clause-ok
returns-clause-ok g c = λ entries index.
    let area = c.self.inside.area in
    let before = with_items c.self.inside.cells c.make_room.new.cells in
    let made : before.items ≡ c.make_room.new.cells = with_items_is c.self.inside.cells c.make_room.new.cells
    (omega (arith, c.make_room.auto.cells, c.as_mut_slice.ensures.len)) in
    let all : length c.as_mut_slice-2.result.now ≡ 4097 =
    omega (
      arith,
      ap length c.as_mut_slice-2.ensures.value,
      ap length made,
      c.make_room.auto.cells,
      ap length c.as_mut_slice.ensures.value,
      c.self.invariant,
    ) in
    let same : contents c.as_mut_slice-2.result.now ≡ contents c.self.inside.cells.items =
    ap contents (c.as_mut_slice-2.ensures.value ∙ made) ∙ c.make_room.ensures.kept ∙ ap contents c.as_mut_slice.ensures.value in
    let was : Indexes (shown area c.as_mut_slice-2.result.now) entries =
    subst (λ grid. Indexes grid entries) (sym c.self.view_is
    ∙ sym (shown_alike area c.as_mut_slice-2.result.now c.self.inside.cells.items same)) index in
    subst (λ xs. Indexes (shown area xs) (entries ++ c.args.entry ∷ []))
    (sym (with_items_is before c.push_all.new.cells (omega (arith, c.push_all.auto.cells, c.as_mut_slice-2.ensures.len))))
    (shows area c.push_all.new.cells (c.push_all.auto.cells ∙ all) (entries ++ c.args.entry ∷ [])
    (added area c.places_of-places.result c.args.entry c.as_mut_slice-2.result.now c.push_all.new.cells
    c.places_of-places.ensures c.push_all.ensures entries (keeps area c.as_mut_slice-2.result.now all entries was)))
