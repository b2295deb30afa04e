use Rattle.std.proofs.Common.{◌∙◌}
use Rattle.std.proofs.lemmas.Int.{to_z-of_z}
use Rattle.cell_index.specs.declared.axis.TheConstants.{ACROSS}
use Rattle.cell_index.specs.Cells.{cell_of}
use Rattle.cell_index.proofs.Along.{capped, count_capped}
use Rattle.cell_index.proofs.axis.cells_from_to.Goals as goal

pub returns-clause-cells : goal.returns-clause-cells
returns-clause-cells c =
    let f1 = c.ranges.low in let f2 = c.ranges.high in let f3 = c.ranges.from in let f4 = c.ranges.to in λ i h.
    let given = c.cells_between.ensures.cells i h in
    let caps = capped ACROSS (cell_of c.args.low c.args.high c.args.from) (cell_of c.args.low c.args.high c.args.to)
    c.cell_of.result c.cell_of-2.result
    (simp to_z-of_z at c.cell_of.ensures) (simp to_z-of_z at c.cell_of-2.ensures) i h in
    (λ p. caps.0 (given.0 p), λ p. given.1 (caps.1 p))

pub returns-clause-count : goal.returns-clause-count
returns-clause-count c =
    let f1 = c.ranges.low in let f2 = c.ranges.high in let f3 = c.ranges.from in let f4 = c.ranges.to in
    c.cells_between.ensures.count
    ∙ count_capped ACROSS (cell_of c.args.low c.args.high c.args.from) (cell_of c.args.low c.args.high c.args.to)
    c.cell_of.result c.cell_of-2.result
    (simp to_z-of_z at c.cell_of.ensures) (simp to_z-of_z at c.cell_of-2.ensures)
