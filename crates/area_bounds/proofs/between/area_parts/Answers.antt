use Rattle.std.proofs.Common.{arith}
use Rattle.std.proofs.lemmas.Int.{ints}
use Rattle.area_bounds.specs.Edges.{edge_of}
use Rattle.area_bounds.proofs.Gaps.{no_levels}
use Rattle.area_bounds.proofs.between.area_parts.Goals as goal

pub returns-then-high-low-clause-counted : goal.returns-then-high-low-clause-counted
returns-then-high-low-clause-counted c =
    no_levels (edge_of c.args.one) (edge_of c.args.other)
    (omega (arith, ints, c.bottom-low.ensures.value, c.top-high.ensures.value, c.if-high-low.true))
