use Rattle.std.proofs.Common.{◌≡◌, ◌≢◌, [], IsTrue, refl, rules, false}
use Rattle.std.specs.Prelude.{is_some}
use Rattle.line_files.proofs.ClerkWords.{path_begins, path_goes_on, path_ends, no_path}
use Rattle.line_files.proofs.edit_words.is_path.Goals as goal

pub loop-words-init : goal.loop-words-init
loop-words-init c = path_begins c.args.words

pub loop-words-preserved : goal.loop-words-preserved
loop-words-preserved c =
    let is : IsTrue (is_some c.take_corner.result) = search rules in
    let some : c.take_corner.new.words ≢ [] = search rules in
    path_goes_on c.args.words c.loop-words.words c.take_corner.new.words c.take_corner.result c.loop-words.invariant is
    c.take_corner.ensures.found some

pub returns-then-is_empty : goal.returns-then-is_empty
returns-then-is_empty c =
    let is : IsTrue (is_some c.take_corner.result) = search rules in
    let none : c.take_corner.new.words ≡ [] = search rules in (
      λ yes. path_ends c.args.words c.loop-words.words c.take_corner.new.words c.take_corner.result c.loop-words.invariant is
          c.take_corner.ensures.found none,
      λ path. refl,
    )

pub returns : goal.returns
returns c =
    let is : is_some c.take_corner.result ≡ false = search rules in (
      λ yes. absurd (cc),
      λ path. absurd (no_path c.args.words c.loop-words.words c.take_corner.result c.loop-words.invariant is
          c.take_corner.ensures.none path),
    )
