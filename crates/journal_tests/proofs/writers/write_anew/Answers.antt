use Rattle.std.proofs.Common.{rules, ◌≡◌, ◌∙◌, refl, length}
use Rattle.std.specs.Vec.{vec_len}
use Rattle.journal_writers.proofs.Kept.{kept_of}
use Rattle.journal_tests.proofs.writers.write_anew.Goals as goal

pub go_on-begun-requires-clause-kept : goal.go_on-begun-requires-clause-kept
go_on-begun-requires-clause-kept c =
    let records = c.in-Ok.read.records in
    let count : vec_len records ≡ length records.items = search rules in
    kept_of c.layer-layer.result.digits c.args.text.now records.items c.in-Ok.read.seal.digits c.in-Ok.read.torn.now
    c.in-Ok.read.lacks_end c.len.result c.saturating_sub-whole.result _ c.in-Ok.ensures.read (c.len.ensures ∙ count) refl
    c.saturating_sub-whole.ensures
