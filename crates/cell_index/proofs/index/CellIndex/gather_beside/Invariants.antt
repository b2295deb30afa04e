use Rattle.std.proofs.Common.{◌≡◌, ◌++◌, map, take}
use Rattle.std.specs.List.{filter}
use Rattle.cell_index.specs.own.Ranges.{has_some_of}
use Rattle.cell_index.proofs.index.CellIndex.gather_beside.Given as goal

abbrev pub invariant-loop-entry : goal.invariant-loop-entry
invariant-loop-entry g l =
    l.keys.items ≡ l.initial.keys.items
    ++ map (λ entry. entry.key) (filter (λ entry. has_some_of l.self.area l.range entry.bounds) (take l.entry-index l.entry-items))
