use Rattle.std.proofs.Common.{◌≤◌, subst}
use Rattle.geo_exact.specs.Rings.{Edge}
use Rattle.common_areas.specs.Between.{between}
use Rattle.area_bounds.specs.Edges.{edge_of}
use Rattle.area_bounds.specs.Parts.{IsCounted}
use Rattle.area_bounds.specs.Rounded.{loss_of}
use Rattle.area_bounds.proofs.Gaps.{level_counted, nothing_between}
use Rattle.area_bounds.proofs.between.edge_parts.Goals as goal

pub returns-then-are_apart-clause-counted : goal.returns-then-are_apart-clause-counted
returns-then-are_apart-clause-counted c =
    nothing_between (edge_of c.args.one) (record { from = c.args.from; to = c.args.to }) (c.are_apart.ensures c.if-are_apart.true)

pub returns-in-None-clause-counted : goal.returns-in-None-clause-counted
returns-in-None-clause-counted c =
    level_counted (edge_of c.args.one) (record { from = c.args.from; to = c.args.to }) c.in-None.ensures

pub returns-in-Some-clause-counted : goal.returns-in-Some-clause-counted
returns-in-Some-clause-counted c =
    let P : Edge → Type 0 = λ e. IsCounted c.signed_parts.result.low c.signed_parts.result.lost (between (edge_of c.args.one) e) in
    subst P c.in-Some.ensures c.signed_parts.ensures.counted

pub returns-in-Some-clause-rounded : goal.returns-in-Some-clause-rounded
returns-in-Some-clause-rounded c =
    let P : Edge → Type 0 = λ e. c.signed_parts.result.lost ≤ loss_of (between (edge_of c.args.one) e) in
    subst P c.in-Some.ensures c.signed_parts.ensures.rounded
