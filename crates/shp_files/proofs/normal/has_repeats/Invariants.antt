use Rattle.std.proofs.Common.{drop}
use Rattle.geo_exact.specs.Rings.{HasNoRepeats, path}
use Rattle.shp_files.proofs.rings.Turned.{AllApart}
use Rattle.shp_files.proofs.normal.has_repeats.Given as goal

abbrev pub invariant-loop-to : goal.invariant-loop-to
invariant-loop-to l = AllApart (path l.from (drop l.to-index l.rest) l.first) → HasNoRepeats l.fn.ring
