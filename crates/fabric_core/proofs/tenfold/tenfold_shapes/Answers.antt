use Rattle.std.proofs.Common.{sym, ◌∙◌, ap, subst, ◌++◌, ◌∷◌, []}
use Rattle.std.specs.List.{AllByRecursion, AllZip}
use Rattle.std.proofs.lemmas.List.{append-nil, append_assoc}
use Rattle.std.proofs.lemmas.Slice.Zip.{all_zipped_more}
use Rattle.geo_exact.specs.Layers.{NumberedRing, numbered}
use Rattle.parcel_table.specs.Table.{rows_of as rows_of_shapes}
use Rattle.ring_core.specs.declared.shape.Shape.{Shape}
use Rattle.scaled_rings.specs.Tenfold.{AreTenTimes, IsNear}
use Rattle.scaled_rings.proofs.Lists.{near_left, near_right}
use Rattle.fabric_core.specs.Tenfold.{corners_of_rows}
use Rattle.fabric_core.proofs.tenfold.tenfold_shapes.Goals as goal

abbrev IsTenShape : {A : Type 0} → NumberedRing → Shape A → Type 0
IsTenShape row other = AreTenTimes row.corners other.ring.corners

pub loop-shape-init : goal.loop-shape-init
loop-shape-init g c =
    let all = ap rows_of_shapes c.into_iter-shape-iterator.ensures.into_iter_gives in (
      [],
      all,
      subst (λ rows. AllByRecursion IsNear (corners_of_rows rows)) (sym all) c.requires,
      subst (AllZip IsTenShape []) (sym c.in_ok-others.ensures.items) tt,
    )

pub tenfold_ring-requires : goal.tenfold_ring-requires
tenfold_ring-requires g c =
    near_left c.in-Some.shape.now.ring.corners (corners_of_rows (rows_of_shapes c.next.new.self))
    (subst (λ shapes. AllByRecursion IsNear (corners_of_rows (rows_of_shapes shapes))) c.in-Some.ensures.steps c.loop-shape.invariant.2)

pub loop-shape-preserved : goal.loop-shape-preserved
loop-shape-preserved g c =
    let done = c.loop-shape.invariant.0 in let row = numbered c.in-Some.field-0-0 c.in-Some.shape.now.ring.corners in (
      done ++ row ∷ [],
      append_assoc done (row ∷ []) (rows_of_shapes c.next.new.self)
          ∙ sym (ap (λ shapes. done ++ rows_of_shapes shapes) c.in-Some.ensures.steps) ∙ c.loop-shape.invariant.1,
      near_right c.in-Some.shape.now.ring.corners (corners_of_rows (rows_of_shapes c.next.new.self))
          (subst (λ shapes. AllByRecursion IsNear (corners_of_rows (rows_of_shapes shapes))) c.in-Some.ensures.steps
          c.loop-shape.invariant.2),
      subst (AllZip IsTenShape (done ++ row ∷ [])) (sym c.in_ok-push.ensures.items)
          (all_zipped_more IsTenShape done c.loop-shape.others.items row c.in_ok-clip.field-0 c.loop-shape.invariant.3
          (subst (AreTenTimes row.corners) (sym c.in_ok-clip.ensures.ring) c.in_ok-ring.ensures)),
    )

pub returns : goal.returns
returns g c =
    subst (λ rows. AllZip IsTenShape rows c.loop-shape.others.items)
    (sym (append-nil c.loop-shape.invariant.0)
    ∙ ap (λ shapes. c.loop-shape.invariant.0 ++ rows_of_shapes shapes) (sym c.in-None.ensures.steps.0) ∙ c.loop-shape.invariant.1)
    c.loop-shape.invariant.3
