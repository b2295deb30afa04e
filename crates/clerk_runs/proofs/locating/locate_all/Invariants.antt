use Rattle.std.proofs.Common.{◌≡◌, true, drop}
use mathlib.Core.List.{IsPrefix}
use Rattle.clerk_runs.proofs.Places.{HaveLocated}
use Rattle.clerk_runs.proofs.locating.locate_all.Given as goal

abbrev pub invariant-loop-corner : goal.invariant-loop-corner
invariant-loop-corner g l = record {
  opening : l.window.opening ≡ l.sheet.opening;
  has_seen : l.has_seen ≡ true → IsPrefix l.sheet.journal l.window.seen;
  located : HaveLocated l.sheet.now.rows l.corners (drop l.corner-index l.corners) l.places.items;
}
