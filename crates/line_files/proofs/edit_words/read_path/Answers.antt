use Rattle.std.proofs.Common.{rules, IsTrue}
use Rattle.line_files.specs.own.EditWords.{AreAPath}
use Rattle.line_files.proofs.ClerkWords.{path_is_read}
use Rattle.line_files.proofs.CornerWords.{one_more_read}
use Rattle.line_files.proofs.PassedOn.{of_err}
use Rattle.line_files.proofs.edit_words.read_path.Goals as goal

pub returns-then-not-is_path-clause-path : goal.returns-then-not-is_path-clause-path
returns-then-not-is_path-clause-path g c = λ path h.
    let all : AreAPath c.args.grid c.copy.result = rw c.copy.ensures (path, h) in
    let is : IsTrue c.is_path.result = c.is_path.ensures.1 all in
    absurd (cc)

pub returns-in_err-push-clause-memory : goal.returns-in_err-push-clause-memory
returns-in_err-push-clause-memory g c =
    let is : IsTrue c.is_path.result = search rules in
    let all : AreAPath c.args.grid c.args.words = rw c.copy.ensures at (c.is_path.ensures.0 is) in
    of_err c.from_residual.result _ all

pub loop-corner-preserved : goal.loop-corner-preserved
loop-corner-preserved g c = rw c.in_ok-push.ensures.ok
    (one_more_read c.args.words c.loop-corner.words c.take_corner.new.words c.loop-corner.path c.in-Some.corner
    c.loop-corner.invariant c.in-Some.ensures.found)

pub returns-clause-path : goal.returns-clause-path
returns-clause-path g c =
    let is : IsTrue c.is_path.result = search rules in
    let all : AreAPath c.args.grid c.args.words = rw c.copy.ensures at (c.is_path.ensures.0 is) in
    path_is_read c.args.words c.loop-corner.words c.loop-corner.path c.loop-corner.invariant c.in_default.ensures.none all
