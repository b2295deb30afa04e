use Rattle.std.proofs.Common.{map, drop, ◌*◌}
use Rattle.line_files.specs.declared.grids.Grid.TheVariants.{Millimetres}
use Rattle.line_files.proofs.CornerWords.{IsReadTo}
use Rattle.tool_arguments.proofs.asked.corners_of.Given as goal

abbrev pub invariant-loop-i : goal.invariant-loop-i
invariant-loop-i l = IsReadTo Millimetres (map (λ word. word.now) l.words) (map (λ word. word.now) (drop (2 * l.i) l.words)) l.corners
