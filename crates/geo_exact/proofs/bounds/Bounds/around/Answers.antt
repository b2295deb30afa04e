use Rattle.geo_exact.proofs.numbers.Extremes.{min_of, max_of}
use Rattle.geo_exact.proofs.bounds.Bounds.around.Goals as goal

pub returns-clause-first : goal.returns-clause-first
returns-clause-first c = (
  ((min_of c.lower.ensures.x).0, (max_of c.upper.ensures.x).0),
  ((min_of c.lower.ensures.y).0, (max_of c.upper.ensures.y).0),
)

pub returns-clause-second : goal.returns-clause-second
returns-clause-second c = (
  ((min_of c.lower.ensures.x).1, (max_of c.upper.ensures.x).1),
  ((min_of c.lower.ensures.y).1, (max_of c.upper.ensures.y).1),
)
