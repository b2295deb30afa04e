use Rattle.std.proofs.Common.{◌≡◌, ◌∙◌, rules, tests}
use Rattle.std.specs.Char.{is_control}
use Rattle.std.specs.List.{list_any}
use Rattle.std.specs.Str.{chars}
use Rattle.std.proofs.lemmas.Iterator.{YieldsList-from_chars}
use Rattle.std.proofs.lemmas.Iterator.Search.{any_from_yields_List}
use Rattle.journal_records.proofs.Words.{none_passed, none_passes}
use Rattle.journal_records.proofs.word.is_plain.Goals as goal

pub returns-in-Ok : goal.returns-in-Ok
returns-in-Ok c =
    let bytes = c.args.text.now in
    let told = c.in-Ok.ensures.cases in
    let yields = YieldsList-from_chars bytes told.1 (c.chars.ensures.rest ∙ told.0) in
    let any : c.any.result ≡ list_any is_control (chars bytes) =
    any_from_yields_List is_control _ _ c.any.result c.any.ensures.ran yields (λ x b q k. search (rules, tests)) in (
      λ plain. record { is_utf8 = told.1; no_control = none_passed c.any.result _ any plain },
      λ plain. none_passes c.any.result _ any plain.no_control,
    )
