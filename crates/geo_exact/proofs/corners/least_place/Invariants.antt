use Rattle.std.specs.List.{IsFirstBest}
use Rattle.geo_exact.specs.Order.{is_before}
use Rattle.geo_exact.proofs.corners.least_place.Given as goal

abbrev pub invariant-loop-k : goal.invariant-loop-k
invariant-loop-k l = IsFirstBest is_before l.corners l.k l.least
