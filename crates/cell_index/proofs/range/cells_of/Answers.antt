use Rattle.std.proofs.Common.{◌∙◌, ap, ◌*◌}
use Rattle.std.proofs.lemmas.Int.{to_z-of_z}
use Rattle.geo_exact.proofs.numbers.Fits.{fits_x, fits_y}
use Rattle.cell_index.specs.Cells.{cells_along}
use Rattle.cell_index.proofs.BoxesInCells.{range_stands}
use Rattle.cell_index.proofs.range.cells_of.Goals as goal

pub returns-clause-cells : goal.returns-clause-cells
returns-clause-cells c =
    let a = c.args.area in let b = c.args.bounds in
    λ i j h k.
    range_stands (record { columns = c.cells_from_to.result; rows = c.cells_from_to-2.result }) a b i j
    (simp (to_z-of_z, fits_x) at (c.cells_from_to.ensures.cells i h))
    (simp (to_z-of_z, fits_y) at (c.cells_from_to-2.ensures.cells j k))

pub returns-clause-count : goal.returns-clause-count
returns-clause-count c =
    let a = c.args.area in let b = c.args.bounds in
    ap (λ n. n * c.cells_from_to-2.result.count) (simp (to_z-of_z, fits_x) at c.cells_from_to.ensures.count)
    ∙ ap (λ n. cells_along a.low.x a.high.x b.low.x b.high.x * n) (simp (to_z-of_z, fits_y) at c.cells_from_to-2.ensures.count)
