use Rattle.std.proofs.Common.{◌↔◌, sym, ◌∙◌, subst, arith}
use Rattle.std.specs.List.{Contains}
use Rattle.std.proofs.lemmas.List.{take_all}
use Rattle.std.proofs.lemmas.Map.Views.{hash_set_contains_iff}
use Rattle.geo_exact.specs.Order.{is_same_equivalence}
use Rattle.geo_exact.proofs.corners_and_turns.CornerOrder.{same_from_test}
use Rattle.edge_chains.proofs.edges.OnSteps.{keys_more, not_false}
use Rattle.edge_chains.proofs.points.Points.new.Goals as goal

pub loop-corner-preserved : goal.loop-corner-preserved
loop-corner-preserved g c =
    let ok = c.in_ok-insert.ensures in
    keys_more c.args.corners.now c.loop-corner.places.keys c.insert.new.self.keys c.loop-corner.corner-index
    c.corner-item.result c.in_ok-insert.field-0
    c.loop-corner-test.true c.corner-item.is ok.keys
    (λ e. (hash_set_contains_iff is_same_equivalence same_from_test c.loop-corner.places c.corner-item.result).0
    (not_false (sym e ∙ ok.added)))
    c.loop-corner.invariant

pub returns : goal.returns
returns g c = λ x. subst (λ xs. Contains c.loop-corner.places.keys x ↔ Contains xs x)
    (take_all c.loop-corner.corner-index c.args.corners.now (omega (arith, c.loop-corner-test.false))) (c.loop-corner.invariant x)
