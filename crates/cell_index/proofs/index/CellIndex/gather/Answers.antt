use Rattle.std.proofs.Common.{◌∙◌, ◌<◌, ◌++◌, ap, sym, arith, map, length, get_or, []}
use Rattle.std.specs.List.{filter}
use Rattle.std.proofs.lemmas.List.{take_all, get_or_default}
use Rattle.cell_index.specs.own.Ranges.{shown, gathered, is_first_at, no_cell, number_at}
use Rattle.cell_index.proofs.CellsKept.{items_shown}
use Rattle.cell_index.proofs.Gathered.{gathered_more}
use Rattle.cell_index.proofs.index.CellIndex.gather.Goals as goal

pub loop-n-init : goal.loop-n-init
loop-n-init g c = c.new-keys.ensures.items

pub loop-n-preserved : goal.loop-n-preserved
loop-n-preserved g c =
    let inside : c.number.result < length c.self.inside.cells.items = omega (arith, c.number.ensures.in_grid, c.self.invariant) in
    c.loop-entry.invariant
    ∙ ap (λ xs. gathered c.args.self.now.area c.args.range c.args.self.now.cells c.loop-n.n
    ++ map (λ entry. entry.key) (filter (λ entry. is_first_at c.args.self.now.area c.args.range c.loop-n.n entry.bounds) xs))
    (take_all c.loop-entry.entry-index c.as_slice-entry-items.result.now c.loop-entry-test.false
    ∙ c.as_slice-entry-items.ensures
    ∙ ap (λ x. x.items) (c.index.ensures ∙ get_or_default c.self.inside.cells.items c.number.result c.index.result.now no_cell inside)
    ∙ sym (items_shown c.self.inside.area c.self.inside.cells.items c.self.invariant [] c.number.result c.number.ensures.in_grid)
    ∙ ap (λ k. get_or (shown c.self.inside.area c.self.inside.cells.items).cells k []) c.number.ensures.value
    ∙ ap (λ grid. get_or grid.cells (number_at c.args.range c.loop-n.n) []) c.self.view_is)
    ∙ sym (gathered_more c.args.self.now.area c.args.range c.args.self.now.cells c.loop-n.n)
