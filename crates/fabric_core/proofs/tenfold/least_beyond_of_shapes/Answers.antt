use Rattle.std.proofs.Common.{sym, ◌∙◌, ap, subst, ◌++◌, ◌∷◌, []}
use Rattle.std.proofs.lemmas.List.{append-nil, append_assoc}
use Rattle.geo_exact.specs.Layers.{numbered}
use Rattle.parcel_table.specs.Table.{rows_of as rows_of_shapes}
use Rattle.scaled_rings.specs.Tenfold.{IsLeastBeyondOf}
use Rattle.fabric_core.specs.Tenfold.{corners_of_rows}
use Rattle.fabric_core.proofs.tens.Corners.{corners_of_rows-push}
use Rattle.fabric_core.proofs.tenfold.least_beyond_of_shapes.Goals as goal

pub loop-shape-init : goal.loop-shape-init
loop-shape-init g c = (
  [],
  ap rows_of_shapes c.into_iter-shape-iterator.ensures.into_iter_gives,
  λ before h. subst (λ xs. IsLeastBeyondOf c.args.most xs c.args.found) (sym (append-nil before)) h,
)

pub loop-shape-preserved : goal.loop-shape-preserved
loop-shape-preserved g c =
    let done = c.loop-shape.invariant.0 in let row = numbered c.in-Some.field-0-0 c.in-Some.shape.now.ring.corners in (
      done ++ row ∷ [],
      append_assoc done (row ∷ []) (rows_of_shapes c.next.new.self)
          ∙ sym (ap (λ shapes. done ++ rows_of_shapes shapes) c.in-Some.ensures.steps) ∙ c.loop-shape.invariant.1,
      λ before h.
          subst (λ xs. IsLeastBeyondOf c.args.most xs c.least_beyond-least.result)
          (append_assoc before (corners_of_rows done) c.as_slice.result.now
          ∙ ap (λ cs. before ++ cs) (ap (λ cs. corners_of_rows done ++ cs) c.as_slice.ensures ∙ sym (corners_of_rows-push done row)))
          (c.least_beyond-least.ensures (before ++ corners_of_rows done) (c.loop-shape.invariant.2 before h)),
    )

pub returns : goal.returns
returns g c = λ before h.
    subst (λ rows. IsLeastBeyondOf c.args.most (before ++ corners_of_rows rows) c.loop-shape.least)
    (sym (append-nil c.loop-shape.invariant.0)
    ∙ ap (λ shapes. c.loop-shape.invariant.0 ++ rows_of_shapes shapes) (sym c.in-None.ensures.steps.0) ∙ c.loop-shape.invariant.1)
    (c.loop-shape.invariant.2 before h)
