use Rattle.std.proofs.Common.{◌≡◌, ◌∙◌, sym, ap, subst}
use Rattle.std.specs.Prelude.{IsPermutation}
use Rattle.std.specs.List.Sorted.{IsStrictlyIncreasing}
use Rattle.fabric_core.specs.Rows.{numbers}
use Rattle.zone_tables.specs.Overlap.{IsOverlapTable}
use Rattle.overlay_work.specs.Rounds.{Task}
use Rattle.overlay_work.specs.own.Gathered.{did_by}
use Rattle.overlay_work.proofs.Tables.{is_table}
use Rattle.overlay_work.proofs.round.Round.gather.Goals as goal

pub gather-requires-clause-table : goal.gather-requires-clause-table
gather-requires-clause-table g c =
    let task = c.args.self in
    let hands = c.args.hands.items in
    let same : c.work-work.result.now ≡ task = c.work-work.ensures in
    let rows : c.sheet-sheet.result.now.now.rows ≡ task.rows = c.sheet-sheet.ensures.rows ∙ ap (λ (t : Task). t.rows) same in
    let zones : c.zones-zones.result.now.rows ≡ task.zones = c.zones-zones.ensures.zones ∙ ap (λ (t : Task). t.zones) same in
    let up : IsStrictlyIncreasing (numbers task.rows) = subst (λ l. IsStrictlyIncreasing (numbers l)) rows
    (subst IsStrictlyIncreasing c.ids.ensures.ids c.ids.ensures.ascending) in
    let once = subst (λ (t : Task). IsPermutation (did_by hands) (numbers t.rows)) same c.confirm.ensures.did in
    let pairs = c.requires.pairs in
    let table = is_table task hands pairs.kept c.args.pairs.items up c.requires.at_work pairs.are_pairs once pairs.moved pairs.ordered in
    subst (λ r. IsOverlapTable r c.zones-zones.result.now.rows c.args.pairs.items) (sym rows)
    (subst (λ z. IsOverlapTable task.rows z c.args.pairs.items) (sym zones) table)
