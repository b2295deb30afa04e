use Rattle.std.proofs.Common.{◌≡◌, ◌∷◌, ◌++◌, [], ◌+◌, ◌∙◌, take, sym, ap, subst}
use Rattle.std.proofs.lemmas.List.{take_more}
use Rattle.session_rooms.specs.Kept.{HasRecords}
use Rattle.session_rooms.proofs.Recorded.{recorded, one_more}
use Rattle.session_rooms.proofs.clerk_edits.add_entries.Goals as goal

pub loop-entry-preserved : goal.loop-entry-preserved
loop-entry-preserved g c =
    let entries = c.args.entries.now in
    let i = c.loop-entry.entry-index in
    let more : take (i + 1) entries ≡ take i entries ++ c.entry-item.result ∷ [] =
    take_more entries i c.entry-item.result c.loop-entry-test.true ∙ ap (λ entry. take i entries ++ entry ∷ []) (sym c.entry-item.is) in
    subst (λ made. HasRecords c.args.writer.now c.add.new.self made) (sym more)
    (one_more (take i entries) c.args.writer.now c.loop-entry.writer c.add.new.self c.entry-item.result c.loop-entry.invariant
    (recorded c.loop-entry.writer c.add.new.self c.in-Ok.draft _ _ c.entry-item.result c.in-Ok.ensures.drafted c.edit.ensures
    c.in-Ok.ensures.before c.number.ensures c.clerk.ensures c.in_ok-add.ensures.bytes c.in_ok-add.ensures.next
    c.in_ok-add.ensures.records c.in_ok-add.ensures.seal c.in_ok-add.ensures.layer
    c.in_ok-add.ensures.file (c.in_ok-add.ensures.whole.1 ∙ sym c.in_ok-add.ensures.whole.0)))
