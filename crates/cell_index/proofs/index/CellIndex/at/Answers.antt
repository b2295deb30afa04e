use Rattle.std.proofs.Common.{◌≡◌, ◌∙◌, ◌<◌, ◌+◌, ◌*◌, ap, sym, subst, arith, length, get_or}
use Rattle.std.proofs.lemmas.Int.{to_z-of_z}
use Rattle.std.proofs.lemmas.List.{get_or_default}
use Rattle.geo_exact.specs.Bounds.{HoldsCorner}
use Rattle.std.specs.List.{filter}
use Rattle.geo_exact.proofs.numbers.Fits.{fits_x, fits_y}
use Rattle.cell_index.specs.Cells.{column, row, stands_at, narrow, Indexes}
use Rattle.cell_index.specs.own.Ranges.{no_cell}
use Rattle.cell_index.proofs.Along.{cells_in_grid}
use Rattle.cell_index.proofs.CellsKept.{items_shown}
use Rattle.cell_index.proofs.index.CellIndex.at.Goals as goal

pub index-requires : goal.index-requires
index-requires g c =
    let h = cells_in_grid c.self.inside.area c.args.corner c.cell_of-column.result c.cell_of-row.result
    (subst (λ grid. HoldsCorner grid.area c.args.corner) (sym c.self.view_is) c.requires)
    (simp (to_z-of_z, fits_x) at c.cell_of-column.ensures) (simp (to_z-of_z, fits_y) at c.cell_of-row.ensures) in
    omega (arith, h, c.self.invariant)

pub returns : goal.returns
returns g c = λ entries index.
    let a = c.self.inside.area in let p = c.args.corner in
    let h = cells_in_grid a p c.cell_of-column.result c.cell_of-row.result
    (subst (λ grid. HoldsCorner grid.area p) (sym c.self.view_is) c.requires)
    (simp (to_z-of_z, fits_x) at c.cell_of-column.ensures) (simp (to_z-of_z, fits_y) at c.cell_of-row.ensures) in
    let k : 64 * c.cell_of-column.result + c.cell_of-row.result ≡ 64 * column a p.x + row a p.y =
    ap (λ n. 64 * n + c.cell_of-row.result) h.0 ∙ ap (λ n. 64 * column a p.x + n) h.1 in
    let all : 64 * column a p.x + row a p.y < length c.self.inside.cells.items = omega (arith, h.2, h.3, c.self.invariant) in
    subst (λ grid. c.as_slice.result.now ≡ filter (λ entry. stands_at grid.area p entry.bounds)
    (narrow grid.area entries)) c.self.view_is
    (c.as_slice.ensures
    ∙ ap (λ x. x.items)
    (c.index.ensures ∙ ap (λ n. get_or c.self.inside.cells.items n c.index.result.now) k
    ∙ get_or_default c.self.inside.cells.items (64 * column a p.x + row a p.y) c.index.result.now no_cell all)
    ∙ sym (items_shown a c.self.inside.cells.items c.self.invariant entries (64 * column a p.x + row a p.y)
    (omega (arith, h.2, h.3)))
    ∙ (subst (λ grid. Indexes grid entries) (sym c.self.view_is) index).in_cells (column a p.x) (row a p.y) h.2 h.3)
