use Rattle.std.proofs.Common.{◌≡◌, ◌++◌, drop}
use Rattle.geo_exact.specs.Rings.{path}
use Rattle.shp_files.specs.NormalForm.{starts}
use Rattle.shp_files.proofs.normal.without_repeats.Given as goal

abbrev pub invariant-loop-to : goal.invariant-loop-to
invariant-loop-to g l = l.kept ++ starts (path l.from (drop l.to-index l.drawn) l.first) ≡ starts (path l.first l.drawn l.first)
