use Rattle.std.proofs.Common.{◌∙◌, ◌++◌, ap, sym, arith, map, []}
use Rattle.std.specs.List.{filter}
use Rattle.std.proofs.lemmas.List.{take_all, get_or_default}
use Rattle.cell_index.specs.own.Ranges.{has_some_of, no_cell}
use Rattle.cell_index.proofs.CellsKept.{items_beside}
use Rattle.cell_index.proofs.index.CellIndex.gather_beside.Goals as goal

pub returns : goal.returns
returns g c =
    c.loop-entry.invariant
    ∙ ap (λ xs. c.args.keys.now.items ++ map (λ entry. entry.key)
    (filter (λ entry. has_some_of c.args.self.now.area c.args.range entry.bounds) xs))
    (take_all c.loop-entry.entry-index c.as_slice-entry-items.result.now c.loop-entry-test.false
    ∙ c.as_slice-entry-items.ensures
    ∙ ap (λ x. x.items) (c.index.ensures ∙ get_or_default c.self.inside.cells.items 4096 c.index.result.now no_cell
    (omega (arith, c.self.invariant)))
    ∙ sym (items_beside c.self.inside.area c.self.inside.cells.items c.self.invariant [])
    ∙ ap (λ grid. grid.beside) c.self.view_is)
