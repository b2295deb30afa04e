use Rattle.std.proofs.Common.{◌∙◌, ap}
use Rattle.std.proofs.lemmas.Int.{to_z-of_z}
use Rattle.geo_exact.proofs.numbers.Fits.{fits_x, fits_y}
use Rattle.geo_exact.proofs.boxes.InBoxes.{both_tests}
use Rattle.cell_index.specs.Cells.{column, row}
use Rattle.cell_index.specs.own.Ranges.{column_at, row_at, is_first_common}
use Rattle.cell_index.proofs.Members.{none_test}
use Rattle.cell_index.proofs.range.CellRange.is_first.Goals as goal

pub returns-then-is_first_common : goal.returns-then-is_first_common
returns-then-is_first_common c =
    let s = c.args.self in let a = c.args.area in let b = c.args.bounds in
    both_tests c.is_first_common.result c.is_first_common-then-is_first_common.result
    (is_first_common s.columns.first (column a b.low.x) (column_at s c.args.n))
    (is_first_common s.rows.first (row a b.low.y) (row_at s c.args.n))
    (simp (to_z-of_z, fits_x) at c.is_first_common.ensures
    ∙ ap (is_first_common s.columns.first (column a b.low.x)) c.column.ensures.value)
    (simp (to_z-of_z, fits_y) at c.is_first_common-then-is_first_common.ensures
    ∙ ap (is_first_common s.rows.first (row a b.low.y)) c.row.ensures.value)
    c.if-is_first_common.true

pub returns-else-is_first_common : goal.returns-else-is_first_common
returns-else-is_first_common c =
    let s = c.args.self in let a = c.args.area in let b = c.args.bounds in
    none_test c.is_first_common.result
    (is_first_common s.columns.first (column a b.low.x) (column_at s c.args.n))
    (is_first_common s.rows.first (row a b.low.y) (row_at s c.args.n))
    (simp (to_z-of_z, fits_x) at c.is_first_common.ensures
    ∙ ap (is_first_common s.columns.first (column a b.low.x)) c.column.ensures.value)
    c.if-is_first_common.false
