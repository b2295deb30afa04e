use Rattle.std.proofs.Common.{◌≡◌, ◌++◌, drop}
use Rattle.geo_exact.specs.Rings.{edges}
use Rattle.ring_edits.specs.Edits.{put_along, put_between}
use Rattle.ring_edits.proofs.inserts.put_all.Given as goal

abbrev pub invariant-loop-i : goal.invariant-loop-i
invariant-loop-i g l = l.list.items ++ put_along l.from l.to l.at (drop l.i (edges l.ring)) ≡ put_between l.from l.to l.at l.ring
