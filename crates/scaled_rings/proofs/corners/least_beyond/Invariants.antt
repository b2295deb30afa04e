use Rattle.std.proofs.Common.{List, ◌++◌, take}
use Rattle.geo_exact.specs.declared.corner.Corner.{Corner}
use Rattle.scaled_rings.specs.Tenfold.{IsLeastBeyondOf}
use Rattle.scaled_rings.proofs.corners.least_beyond.Given as goal

abbrev pub invariant-loop-corner : goal.invariant-loop-corner
invariant-loop-corner l = (before : List Corner) → IsLeastBeyondOf l.most before l.fn.found
    → IsLeastBeyondOf l.most (before ++ take l.corner-index l.corners) l.least
