use Rattle.std.proofs.Common.{◌≡◌, subst}
use Rattle.line_files.specs.TextNumbers.{IsCornerText}
use Rattle.line_files.proofs.PassedOn.{if_none}
use Rattle.line_files.proofs.edit_words.take_corner.Goals as goal

pub returns-clause-none : goal.returns-clause-none
returns-clause-none c = if_none c.read_corner_on.result _ _
    (λ none corner left h.
    let x : h.x ≡ c.in_ok-x.x.now = cc (h.are_words, c.in_ok-x.ensures) in
    let y : h.y ≡ c.in_ok-y.y.now = cc (h.are_words, c.in_ok-x.ensures, c.in_ok-y.ensures) in
    none corner (subst (λ x. IsCornerText c.args.grid x c.in_ok-y.y.now corner) x
    (subst (λ y. IsCornerText c.args.grid h.x y corner) y h.is_corner)))
    c.read_corner_on.ensures.none
