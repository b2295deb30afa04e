use Rattle.std.proofs.Common.{◌≡◌, ◌++◌, ◌∙◌, sym, ap}
use Rattle.journal_records.specs.Journals.{header_line}
use Rattle.journal_records.proofs.read.behind_header.Goals as goal

pub returns-in-None-clause-fault : goal.returns-in-None-clause-fault
returns-in-None-clause-fault g c =
    let written : c.as_slice.result.now ≡ header_line c.args.layer.now.digits =
    c.as_slice.ensures.value ∙ c.in_ok-push_header.ensures
    ∙ ap (λ t. t ++ header_line c.args.layer.now.digits) c.new-header.ensures.items in (
      c.is_header.ensures.0 c.if-is_header.true,
      λ rest is. c.in-None.ensures.none rest (is ∙ ap (λ t. t ++ rest) (sym written)),
    )
