use Rattle.std.proofs.Common.{◌≡◌, sym, ap, subst, ◌∙◌, arith, List, Bor}
use Rattle.entry_history.proofs.Beginnings.{is_whole, begins_whole}
use mathlib.Core.List.{IsPrefix}
use Rattle.geo_exact.specs.Point.{corner_point}
use Rattle.fabric_core.specs.Journal.{State, JournalEntry, replay}
use Rattle.fabric_core.specs.Locate.{IsLocatedAt}
use Rattle.clerk_runs.proofs.locating.locate_one.Goals as goal

-- the window has seen the sheet's entries, and no more
pub returns-in-Ok-clause-at : goal.returns-in-Ok-clause-at
returns-in-Ok-clause-at g c =
    let journal : List (JournalEntry (Bor g.row.H.Denot)) = c.args.sheet.now.journal in
    let seen : List (JournalEntry (Bor g.row.H.Denot)) = c.locate-2.new.self.seen in
    let begins : IsPrefix journal seen =
    begins_whole journal c.args.window.now.seen seen (c.requires.has_seen c.if-not-has_seen.false) c.locate-2.ensures.begins in
    let same : journal ≡ seen =
    is_whole journal seen begins (omega (arith, c.in-Ok.ensures.count, c.if-entries.true, c.entries.ensures)) in
    let opening : c.args.sheet.now.opening ≡ c.locate-2.new.self.opening = sym (c.locate-2.ensures.opening ∙ c.requires.opening) in
    let now : replay c.locate-2.new.self.opening seen ≡ c.args.sheet.now.now =
    sym (sym c.use_invariant.ensures.replays ∙ (ap (λ l. replay c.args.sheet.now.opening l) same ∙ ap (λ o. replay o seen) opening)) in
    subst (λ (state : State). IsLocatedAt state.rows (corner_point c.args.corner) c.in-Ok.at) now c.in-Ok.ensures.at
