use Rattle.std.proofs.Common.{◌++◌, List, take}
use Rattle.geo_exact.specs.declared.corner.Corner.{Corner}
use Rattle.shp_files.specs.own.Writing.{MayBeBounds}
use Rattle.shp_files.proofs.bounds.with_corners.Given as goal

abbrev pub invariant-loop-corner : goal.invariant-loop-corner
invariant-loop-corner l = (before : List Corner) → MayBeBounds l.fn.bounds before
    → MayBeBounds l.bounds (before ++ take l.corner-index l.corners)
