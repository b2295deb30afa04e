use Rattle.std.proofs.Common.{◌≡◌, ◌∙◌, ◌∷◌, ap, sym, subst, arith, length, []}
use Rattle.std.proofs.lemmas.List.{with_items_is}
use Rattle.cell_index.specs.Cells.{Indexes, without}
use Rattle.cell_index.specs.own.Ranges.{shown}
use Rattle.cell_index.proofs.CellsKept.{removed, keeps, shows}
use Rattle.cell_index.proofs.index.CellIndex.remove.Goals as goal

pub returns-clause-removed : goal.returns-clause-removed
returns-clause-removed g c = λ entries index.
    let area = c.self.inside.area in
    let all : length c.as_mut_slice.result.now ≡ 4097 = omega (arith, ap length c.as_mut_slice.ensures.value, c.self.invariant) in
    let was : Indexes (shown area c.as_mut_slice.result.now) entries =
    subst (λ xs. Indexes (shown area xs) entries) (sym c.as_mut_slice.ensures.value)
    (subst (λ grid. Indexes grid entries) (sym c.self.view_is) index) in
    subst (λ xs. Indexes (shown area xs) (without (c.args.entry ∷ []) entries))
    (sym (with_items_is c.self.inside.cells c.take_out.new.cells (omega (arith, c.take_out.auto.cells, c.as_mut_slice.ensures.len))))
    (shows area c.take_out.new.cells (c.take_out.auto.cells ∙ all) (without (c.args.entry ∷ []) entries)
    (removed area c.places_of.result c.args.entry c.as_mut_slice.result.now c.take_out.new.cells
    c.places_of.ensures c.take_out.ensures entries (keeps area c.as_mut_slice.result.now all entries was)))
