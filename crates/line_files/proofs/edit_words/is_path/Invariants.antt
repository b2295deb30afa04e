use Rattle.std.proofs.Common.{length}
use Rattle.line_files.proofs.ClerkWords.{IsPathTo}
use Rattle.line_files.proofs.edit_words.is_path.Given as goal

abbrev pub invariant-loop-words : goal.invariant-loop-words
invariant-loop-words l = IsPathTo l.grid l.fn.words l.words

abbrev pub decreases-loop-words : goal.decreases-loop-words
decreases-loop-words l = length l.words
