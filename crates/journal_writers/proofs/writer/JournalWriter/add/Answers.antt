use Rattle.std.proofs.Common.{◌≡◌, ◌+◌, ◌∙◌, inr, ap, sym, subst, IfSome, arith, rules}
use Rattle.std.proofs.lemmas.Grind.{common_steps}
use Rattle.journal_records.specs.Tails.{IsTwoLines}
use Rattle.journal_writers.specs.Files.{with_more}
use Rattle.journal_writers.specs.Writers.{IsKept}
use Rattle.journal_writers.proofs.Kept.{more, unless_broken}
use Rattle.journal_writers.proofs.writer.JournalWriter.add.Goals as goal

pub invariant_of-self-2 : goal.invariant_of-self-2
invariant_of-self-2 g c =
    let B = g.row.B.Denot in
    let layer = c.self.inside.layer.digits in
    let before = g.K.JournalFile.bytes c.self.inside.file in
    let follows : c.draft.inside.before.digits ≡ c.self.inside.seal.digits = search rules in
    let next : c.draft.inside.number ≡ c.self.inside.records + 1 = grind (arith, common_steps) in
    let bytes : g.K.JournalFile.bytes c.append.new.self ≡ with_more c.draft.inside.text.items before =
    c.in_ok-append.ensures.ok ∙ ap (λ t. with_more t before) c.as_slice-2.ensures.value in
    let two : IsTwoLines c.draft.inside.text.items =
    subst IsTwoLines c.as_slice.ensures.value (c.is_two_lines.ensures (search rules)) in
    inr (subst (λ b. IfSome b (λ b. IsKept B layer b c.draft.inside.number c.draft.inside.seal.digits)) (sym bytes)
    (more B layer before c.self.inside.records c.self.inside.seal.digits _
    (unless_broken c.self.inside.is_broken c.if-self.false c.self.invariant) c.draft.invariant two follows next))
