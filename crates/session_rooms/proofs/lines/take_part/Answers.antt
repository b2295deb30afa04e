use Rattle.std.proofs.Common.{◌+◌, ◌≤◌, ◌++◌, length, take, cond, sym, ap, subst, ◌∙◌, arith, length-append, length-take-le}
use Rattle.std.specs.Io.KnownBytes.{Consumes}
use Rattle.std.specs.Io.BufRead.{FillKeeps}
use Rattle.std.proofs.BufReadLemmas.{Consumes_shown}
use Rattle.session_rooms.specs.Lines.{AreRound}
use Rattle.session_rooms.proofs.TakenLines.{shown_line}
use Rattle.session_rooms.proofs.lines.take_part.Goals as goal

pub returns-in-Some-clause-part : goal.returns-in-Some-clause-part
returns-in-Some-clause-part g c =
    let rested = c.fill_buf.follows.lender-at-none in
    let Keeps = FillKeeps (g.R.Read.remaining c.args.reader.now) (g.R.Read.remaining rested) (g.R.BufRead.consumable_len rested) in
    let filled = subst Keeps c.in_ok-there.was c.fill_buf.follows.holds-at-none in
    let told = c.in_ok-there.ensures in
    let shown = c.in_ok-there.there.now in
    let before = c.in-Some.before.now in
    let room = c.min-room.result in
    let fits : room ≤ length shown = omega (arith, c.min-room.ensures) in
    let falls : AreRound (take room shown) before c.in-Some.field-0-1.now = c.in-Some.ensures in
    let line = shown_line shown before c.in-Some.field-0-1.now room fits falls.falls in
    let moved = Consumes_shown _ _ _ _ shown (length before + 1) line.0 told.front told.end filled.0 filled.1 c.consume.ensures.bytes in
    let old = c.args.line.now.items in (
      before,
      record { no_line_feed = falls.no_line_feed; gone = subst (Consumes _ _) line.1 moved.0 },
      λ kept. c.extend_from_slice.ensures.items ∙ ap (λ b. cond b (old ++ before) old) (sym c.is_ok-kept.ensures.value ∙ kept),
    )

pub returns-in-None-clause-part : goal.returns-in-None-clause-part
returns-in-None-clause-part g c =
    let rested = c.fill_buf.follows.lender-at-none in
    let Keeps = FillKeeps (g.R.Read.remaining c.args.reader.now) (g.R.Read.remaining rested) (g.R.BufRead.consumable_len rested) in
    let filled = subst Keeps c.in_ok-there.was c.fill_buf.follows.holds-at-none in
    let told = c.in_ok-there.ensures in
    let shown = c.in_ok-there.there.now in
    let room = c.min-room.result in
    let fits : room ≤ length shown = omega (arith, c.min-room.ensures) in
    let moved = Consumes_shown _ _ _ _ shown room fits told.front told.end filled.0 filled.1 c.consume-in-None.ensures.bytes in
    let old = c.args.line.now.items in (
      take room shown,
      record { no_line_feed = c.in-None.ensures; gone = moved.0 },
      omega (arith, length-append old (take room shown), length-take-le room shown fits),
    )
