use Rattle.std.proofs.Common.{length}
use Rattle.line_files.proofs.CornerWords.{IsReadTo}
use Rattle.line_files.proofs.edit_words.read_path.Given as goal

abbrev pub invariant-loop-corner : goal.invariant-loop-corner
invariant-loop-corner g l = IsReadTo l.grid l.fn.words l.words l.path

abbrev pub decreases-loop-corner : goal.decreases-loop-corner
decreases-loop-corner g l = length l.words
