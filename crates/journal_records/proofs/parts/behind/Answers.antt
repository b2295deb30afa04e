use Rattle.std.proofs.Common.{◌∙◌, sym, ap, take, length}
use Rattle.std.proofs.lemmas.Bool.{false≢true}
use Rattle.std.proofs.lemmas.Bool.Decides.{Decides-eqb}
use Rattle.std.proofs.lemmas.Slice.Eq.{slice_eq-Decides}
use Rattle.journal_records.proofs.Words.{take_front}
use Rattle.journal_records.proofs.parts.behind.Goals as goal

pub returns-else-eq-clause-none : goal.returns-else-eq-clause-none
returns-else-eq-clause-none c = λ rest is.
    let beginning = c.args.beginning.now in
    let same = c.split_at.ensures.front ∙ ap (take (length beginning)) is ∙ take_front beginning rest in
    false≢true (sym c.if-eq.false ∙ (slice_eq-Decides Decides-eqb _ _ _ c.eq.ensures).1 same)
