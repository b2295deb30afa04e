use Rattle.line_files.specs.ClerkFile.{words_of}
use Rattle.line_files.proofs.WordLists.{some_word, is_left}
use Rattle.line_files.proofs.words.Words.is_empty.Goals as goal

pub returns : goal.returns
returns c = is_left c.self.inside.is_read c.args.self.now (words_of c.self.inside.text.now) c.self.view_is
    (some_word c.self.inside.text.now)
