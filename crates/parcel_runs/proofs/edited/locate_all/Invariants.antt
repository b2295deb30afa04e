use Rattle.std.proofs.Common.{take}
use Rattle.clerk_runs.specs.ClerkRuns.{AreLocated}
use Rattle.parcel_runs.proofs.edited.locate_all.Given as goal

abbrev pub invariant-loop-corner : goal.invariant-loop-corner
invariant-loop-corner g l = AreLocated l.sheet.now.rows (take l.corner-index l.corners) l.places.items
