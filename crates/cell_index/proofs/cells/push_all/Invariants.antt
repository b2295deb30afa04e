use Rattle.cell_index.specs.own.Ranges.{IsChanged, with_entry}
use Rattle.cell_index.proofs.cells.push_all.Given as goal

abbrev pub invariant-loop-n : goal.invariant-loop-n
invariant-loop-n g l = IsChanged l.places l.n (with_entry l.entry) l.initial.cells l.cells
