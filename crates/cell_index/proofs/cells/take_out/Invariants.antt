use Rattle.std.proofs.Common.{not}
use Rattle.cell_index.specs.Cells.{is_same_entry}
use Rattle.cell_index.specs.own.Ranges.{IsChanged, passing}
use Rattle.cell_index.proofs.cells.take_out.Given as goal

abbrev pub invariant-loop-n : goal.invariant-loop-n
invariant-loop-n g l = IsChanged l.places l.n (passing (λ entry. not (is_same_entry entry l.gone))) l.initial.cells l.cells
