use Rattle.std.proofs.Common.{◌∷◌, [], ◌++◌, sym, ap, ◌∙◌}
use Rattle.line_files.specs.own.Splitting.{without_return}
use Rattle.line_files.proofs.Splits.{ends_with_return, ends_otherwise}
use Rattle.line_files.proofs.text_lines.without_return.Goals as goal

pub returns-then-last-eq13 : goal.returns-then-last-eq13
returns-then-last-eq13 c =
    let front = c.in-Some.front.now in
    sym (ap without_return (c.in-Some.ensures.cases.0 ∙ ap (λ last. front ++ last ∷ []) c.if-last-eq13.true)
    ∙ ends_with_return front)

pub returns-else-last-eq13 : goal.returns-else-last-eq13
returns-else-last-eq13 c =
    let whole = c.in-Some.ensures.cases.0 in
    whole ∙ sym (ends_otherwise c.in-Some.front.now c.in-Some.last.now c.if-last-eq13.false) ∙ ap without_return (sym whole)
