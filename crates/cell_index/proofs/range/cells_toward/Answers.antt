use Rattle.std.proofs.Common.{arith, FitsSigned, w64}
use Rattle.std.proofs.lemmas.Int.{ints, to_z-of_z}
use Rattle.geo_exact.proofs.numbers.Fits.{fits_x, fits_y}
use Rattle.cell_index.proofs.BoxesInCells.{range_between}
use Rattle.cell_index.proofs.range.cells_toward.Goals as goal

pub returns : goal.returns
returns c =
    let a = c.args.area in let u = c.args.low in let v = c.args.high in
    let f9 : FitsSigned w64 c.into_range-west.result = omega (arith, ints, c.into_range-west.type_inv) in
    let f10 : FitsSigned w64 c.into_range-east.result = omega (arith, ints, c.into_range-east.type_inv) in
    let f11 : FitsSigned w64 c.into_range-south.result = omega (arith, ints, c.into_range-south.type_inv) in
    let f12 : FitsSigned w64 c.into_range-north.result = omega (arith, ints, c.into_range-north.type_inv) in
    λ i j h k.
    range_between (record { columns = c.cells_from_to.result; rows = c.cells_from_to-2.result }) a u v
    c.into_range-west.result c.into_range-east.result c.into_range-south.result c.into_range-north.result i j
    (simp (to_z-of_z, fits_x) at c.into_range-west.ensures) (simp (to_z-of_z, fits_x) at c.into_range-east.ensures)
    (simp (to_z-of_z, fits_y) at c.into_range-south.ensures) (simp (to_z-of_z, fits_y) at c.into_range-north.ensures)
    (simp (to_z-of_z, fits_x) at (c.cells_from_to.ensures.cells i h))
    (simp (to_z-of_z, fits_y) at (c.cells_from_to-2.ensures.cells j k))
