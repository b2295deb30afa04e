use Rattle.std.proofs.Common.{arith, sym, ◌∙◌}
use Rattle.std.proofs.lemmas.Bool.{false≢true}
use Rattle.std.proofs.lemmas.Int.{ints}
use lib.IntN.{pos, ◌-ℤ◌, neg_ℤ}
use Rattle.common_areas.specs.Between.{between}
use Rattle.area_bounds.specs.Edges.{edge_of}
use Rattle.area_bounds.proofs.Counts.{counted_same}
use Rattle.area_bounds.proofs.Gaps.{alike_counted, unlike_counted}
use Rattle.area_bounds.proofs.Losses.{signed_loss}
use Rattle.area_bounds.proofs.between.signed_parts.Goals as goal

pub returns-then-go_alike-clause-counted : goal.returns-then-go_alike-clause-counted
unfolding edge_of
returns-then-go_alike-clause-counted c =
    counted_same (neg_ℤ (pos c.area_parts-area.result.parts) -ℤ pos c.area_parts-area.result.lost) _
    c.area_parts-area.result.lost c.area_parts-area.result.lost (between (edge_of c.args.one) (edge_of c.args.other))
    (alike_counted c.args.one.is_up c.args.other.is_up c.args.one.low c.args.one.high c.args.other.low c.args.other.high
    (pos c.area_parts-area.result.parts) c.area_parts-area.result.lost c.args.one.rises c.args.other.rises
    (c.go_alike.ensures.0 c.if-go_alike.true) c.area_parts-area.ensures.counted)
    (omega (arith, ints, c.area_parts-area.ensures.bound, c.area_parts-area.ensures.lost, c.from.ensures)) (omega arith)

pub returns-else-go_alike-clause-counted : goal.returns-else-go_alike-clause-counted
unfolding edge_of
returns-else-go_alike-clause-counted c =
    counted_same (pos c.area_parts-area.result.parts) _
    c.area_parts-area.result.lost c.area_parts-area.result.lost (between (edge_of c.args.one) (edge_of c.args.other))
    (unlike_counted c.args.one.is_up c.args.other.is_up c.args.one.low c.args.one.high c.args.other.low c.args.other.high
    (pos c.area_parts-area.result.parts) c.area_parts-area.result.lost c.args.one.rises c.args.other.rises
    (λ e. false≢true (sym c.if-go_alike.false ∙ c.go_alike.ensures.1 e)) c.area_parts-area.ensures.counted)
    (omega (arith, ints, c.area_parts-area.ensures.bound)) (omega arith)

pub returns-then-go_alike-clause-rounded : goal.returns-then-go_alike-clause-rounded
unfolding edge_of
returns-then-go_alike-clause-rounded c =
    signed_loss c.args.one.is_up c.args.other.is_up c.args.one.low c.args.one.high c.args.other.low c.args.other.high
    c.area_parts-area.result.lost c.args.one.rises c.args.other.rises c.area_parts-area.ensures.rounded

pub returns-else-go_alike-clause-rounded : goal.returns-else-go_alike-clause-rounded
unfolding edge_of
returns-else-go_alike-clause-rounded c =
    signed_loss c.args.one.is_up c.args.other.is_up c.args.one.low c.args.one.high c.args.other.low c.args.other.high
    c.area_parts-area.result.lost c.args.one.rises c.args.other.rises c.area_parts-area.ensures.rounded
