use Rattle.line_files.specs.ClerkFile.{words_of}
use Rattle.line_files.proofs.WordLists.{first_of_words, last_word, next_left, last_left}
use Rattle.line_files.proofs.words.Words.next.Goals as goal

pub returns-in-Some : goal.returns-in-Some
returns-in-Some c =
    let text = c.self.inside.text.now in
    next_left c.self.inside.is_read c.args.self.now (words_of text) (words_of c.in-Some.behind.now) c.in-Some.word.now
    c.self.view_is c.if-self.false
    (first_of_words text c.in-Some.word.now c.in-Some.behind.now c.in-Some.ensures)

pub returns-in-None : goal.returns-in-None
returns-in-None c =
    let text = c.self.inside.text.now in
    last_left c.self.inside.is_read c.args.self.now (words_of text) text c.self.view_is c.if-self.false (last_word text c.in-None.ensures)
