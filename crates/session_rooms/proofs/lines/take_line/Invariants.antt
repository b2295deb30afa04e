use Rattle.std.proofs.Common.{◌≡◌, ◌≢◌, ◌<◌, ◌≤◌, ℕ, List, length, vec_len, vec_items}
use Rattle.session_rooms.specs.declared.lines.Came.TheVariants.{Line, TooLong, End}
use Rattle.session_rooms.specs.Lines.{TakesPart, IsTooLong}
use Rattle.session_rooms.proofs.lines.take_line.Given as goal

-- the parts that were taken have no line feed, and stand in the line unless it is forgotten, which has no more bytes than they;
-- where the line is too long, they are; no end was met
abbrev pub invariant-loop : goal.invariant-loop
invariant-loop g l = (vec_len l.line < 1048576) × (l.came ≢ End) × ((bytes : List ℕ)
    × TakesPart (g.R.Read.remaining l.fn.reader) (g.R.Read.remaining l.reader) bytes
    × (l.came ≡ Line → vec_items l.line ≡ bytes)
    × (length (vec_items l.line) ≤ length bytes)
    × (l.came ≡ TooLong → IsTooLong bytes))
