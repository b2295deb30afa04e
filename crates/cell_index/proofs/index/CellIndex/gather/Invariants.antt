use Rattle.std.proofs.Common.{◌≡◌, ◌++◌, map, take}
use Rattle.std.specs.List.{filter}
use Rattle.cell_index.specs.own.Ranges.{gathered, is_first_at}
use Rattle.cell_index.proofs.index.CellIndex.gather.Given as goal

abbrev pub invariant-loop-n : goal.invariant-loop-n
invariant-loop-n g l = l.keys.items ≡ gathered l.self.area l.range l.self.cells l.n

abbrev pub invariant-loop-entry : goal.invariant-loop-entry
invariant-loop-entry g l =
    l.keys.items ≡ gathered l.self.area l.range l.self.cells l.n
    ++ map (λ entry. entry.key) (filter (λ entry. is_first_at l.self.area l.range l.n entry.bounds) (take l.entry-index l.entry-items))
