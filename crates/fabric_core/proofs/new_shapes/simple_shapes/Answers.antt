use Rattle.std.proofs.Common.{inl, refl, ◌∙◌, ap, subst, arith, ◌+◌, add-one}
use Rattle.ring_core.specs.Faults.{IsRingFault}
use Rattle.fabric_core.proofs.edits.NewShapes.{shaped_more, short_at, bad_at}
use Rattle.fabric_core.proofs.new_shapes.simple_shapes.Goals as goal
use Rattle.geo_exact.specs.declared.corner.Corner.{Corner}
use Rattle.std.proofs.Common.{List, length}

pub check-requires : goal.check-requires
check-requires g c =
    omega (
      arith,
      ap (λ (ring : List Corner). length ring) c.in_ok-corners.ensures.cases,
      short_at c.args.rows.now c.loop-which.which c.index-rows-which.result c.loop-which-test.true c.index-rows-which.is c.requires.short,
    )

pub returns-in-Err-clause-err : goal.returns-in-Err-clause-err
returns-in-Err-clause-err g c =
    inl (
      c.loop-which.which + 1,
      c.in-Err.fault,
      rw add-one (bad_at c.args.rows.now c.loop-which.shapes.items c.loop-which.which c.index-rows-which.result
          c.in-Err.fault c.loop-which-test.true
          c.index-rows-which.is c.loop-which.invariant
          (subst (λ ring. IsRingFault ring c.in-Err.fault) c.in_ok-corners.ensures.cases c.in-Err.ensures.err)),
      refl,
    )

pub loop-which-preserved : goal.loop-which-preserved
loop-which-preserved g c =
    rw (add-one, c.in_ok-push-in-Ok.ensures.items)
    (shaped_more c.args.rows.now c.loop-which.shapes.items c.loop-which.which c.index-rows-which.result c.in_ok-clip-in-Ok.field-0
    c.loop-which-test.true c.index-rows-which.is c.loop-which.invariant
    (c.in_ok-clip-in-Ok.ensures.ring ∙ c.in-Ok.ensures.ok ∙ c.in_ok-corners.ensures.cases))
