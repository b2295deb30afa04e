use Rattle.std.proofs.Common.{◌≡◌, [], drop, ◌+◌, ◌*◌, refl, arith}
use Rattle.std.proofs.lemmas.List.{drop_all}
use Rattle.line_files.specs.declared.grids.Grid.TheVariants.{Millimetres}
use Rattle.line_files.proofs.CornerWords.{all_read}
use Rattle.tool_arguments.proofs.CornerWords.{odd_words, two_left, more_corners, no_corner}
use Rattle.tool_arguments.proofs.asked.corners_of.Goals as goal

pub returns-then-words-ne0-clause-none : goal.returns-then-words-ne0-clause-none
returns-then-words-ne0-clause-none c = λ list h. odd_words Millimetres (λ word. word.now) c.args.words.now list c.if-words-ne0.true h

pub returns-in_default-clause-none : goal.returns-in_default-clause-none
returns-in_default-clause-none c = λ list h.
    let i = c.loop-i.i in
    let left = two_left c.args.words.now _ (2 * i) (2 * i + 1) (2 * (i + 1)) _ _ c.as_bytes.ensures.value c.as_bytes-in-loop-i.ensures.value
    (omega arith) (omega arith) (omega arith) in
    no_corner Millimetres _ _ _ _ _ list (rw left at c.loop-i.invariant) c.in_default.ensures.none h

pub loop-i-preserved : goal.loop-i-preserved
loop-i-preserved c =
    let i = c.loop-i.i in
    let left = two_left c.args.words.now _ (2 * i) (2 * i + 1) (2 * (i + 1)) _ _ c.as_bytes.ensures.value c.as_bytes-in-loop-i.ensures.value
    (omega arith) (omega arith) (omega arith) in
    rw c.in_ok-push.ensures.ok (more_corners Millimetres _ _ _ _ _ c.in-Some.corner (rw left at c.loop-i.invariant) c.in-Some.ensures.found)

pub returns-clause-found : goal.returns-clause-found
returns-clause-found c =
    let none : drop (2 * c.loop-i.i) c.args.words.now ≡ [] = drop_all (2 * c.loop-i.i) c.args.words.now (omega arith) in
    all_read _ _ _ (rw none at c.loop-i.invariant) refl
