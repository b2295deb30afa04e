use Rattle.line_files.proofs.ClerkWords.{no_straighten_at}
use Rattle.line_files.proofs.edit_words.read_straighten.Goals as goal

pub returns-in_err-at : goal.returns-in_err-at
returns-in_err-at g c = rw c.from_residual.ensures (no_straighten_at c.args.grid c.args.words c.in_err-at.ensures.none)
