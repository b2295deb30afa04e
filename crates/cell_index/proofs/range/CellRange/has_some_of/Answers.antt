use Rattle.std.proofs.lemmas.Int.{to_z-of_z}
use Rattle.geo_exact.proofs.numbers.Fits.{fits_x, fits_y}
use Rattle.geo_exact.proofs.boxes.InBoxes.{both_tests}
use Rattle.cell_index.specs.Cells.{column, row}
use Rattle.cell_index.specs.own.Ranges.{common_along}
use Rattle.cell_index.proofs.Members.{none_test}
use Rattle.cell_index.proofs.range.CellRange.has_some_of.Goals as goal

pub returns-then-have_common : goal.returns-then-have_common
returns-then-have_common c =
    let s = c.args.self in let a = c.args.area in let b = c.args.bounds in
    both_tests c.have_common.result c.have_common-then-have_common.result
    (common_along s.columns (column a b.low.x) (column a b.high.x)) (common_along s.rows (row a b.low.y) (row a b.high.y))
    (simp (to_z-of_z, fits_x) at c.have_common.ensures)
    (simp (to_z-of_z, fits_y) at c.have_common-then-have_common.ensures)
    c.if-have_common.true

pub returns-else-have_common : goal.returns-else-have_common
returns-else-have_common c =
    let s = c.args.self in let a = c.args.area in let b = c.args.bounds in
    none_test c.have_common.result
    (common_along s.columns (column a b.low.x) (column a b.high.x)) (common_along s.rows (row a b.low.y) (row a b.high.y))
    (simp (to_z-of_z, fits_x) at c.have_common.ensures)
    c.if-have_common.false
