use Rattle.std.proofs.Common.{sym, ◌∙◌, ap, ◌||◌}
use Rattle.std.specs.List.{list_any}
use Rattle.geo_exact.specs.Layers.{NumberedRing}
use Rattle.parcel_table.specs.Table.{rows_of as rows_of_shapes}
use Rattle.fabric_core.specs.own.RingChanges.{is_changed}
use Rattle.fabric_core.proofs.edges.is_any_changed.Goals as goal

pub loop-shape-init : goal.loop-shape-init
loop-shape-init g c =
    ap (list_any (λ (row : NumberedRing). is_changed c.args.change row.corners))
    (ap rows_of_shapes c.into_iter-shape-iterator.ensures.into_iter_gives ∙ c.shapes-shape-items.ensures)

pub loop-shape-preserved : goal.loop-shape-preserved
loop-shape-preserved g c =
    let test = (λ (row : NumberedRing). is_changed c.args.change row.corners) in
    ap (λ b. b || list_any test (rows_of_shapes c.next.new.self))
    (sym c.if-changes.false ∙ c.changes.ensures ∙ ap (is_changed c.args.change) c.as_slice.ensures)
    ∙ sym (ap (λ shapes. list_any test (rows_of_shapes shapes)) c.in-Some.ensures.steps) ∙ c.loop-shape.invariant

pub returns-then-changes : goal.returns-then-changes
returns-then-changes g c =
    let test = (λ (row : NumberedRing). is_changed c.args.change row.corners) in
    ap (λ b. b || list_any test (rows_of_shapes c.next.new.self))
    (sym c.if-changes.true ∙ c.changes.ensures ∙ ap (is_changed c.args.change) c.as_slice.ensures)
    ∙ sym (ap (λ shapes. list_any test (rows_of_shapes shapes)) c.in-Some.ensures.steps) ∙ c.loop-shape.invariant

pub returns : goal.returns
returns g c =
    let test = (λ (row : NumberedRing). is_changed c.args.change row.corners) in
    sym (ap (λ shapes. list_any test (rows_of_shapes shapes)) c.in-None.ensures.steps.0) ∙ c.loop-shape.invariant
