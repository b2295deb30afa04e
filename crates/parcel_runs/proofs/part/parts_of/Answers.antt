use Rattle.std.proofs.Common.{ℕ, ◌≤◌, Bor, refl, [], ◌∷◌, ◌++◌, length, sym, subst, append_assoc}
use Rattle.std.specs.List.{AllByRecursion, AllZip}
use Rattle.std.proofs.lemmas.List.{append-nil}
use Rattle.geo_exact.specs.Layers.{numbered}
use Rattle.geo_exact.specs.declared.limits.TheConstants.{RING_CORNERS}
use Rattle.parcel_runs.specs.declared.export.Exported.{Exported}
use Rattle.parcel_runs.specs.own.WrittenParts.{IsWrittenPart}
use Rattle.parcel_runs.proofs.part.parts_of.Goals as goal

pub loop-district-preserved : goal.loop-district-preserved
loop-district-preserved g c =
    let part : ℕ × Exported (Bor g.row.H.Denot) = (c.in-Some.district.0, c.in_ok-part_of.field-0) in (
      (subst (AllByRecursion (λ shape. length shape.1.ring.corners ≤ RING_CORNERS)) c.in-Some.ensures.steps
          c.loop-district.invariant.0).1,
      λ more h.
          subst (λ parts. AllZip (λ shape part. IsWrittenPart (numbered shape.0 shape.1.ring.corners) part) c.args.shapes (parts ++ more))
          (sym c.in_ok-push.ensures.items)
          (subst (AllZip (λ shape part. IsWrittenPart (numbered shape.0 shape.1.ring.corners) part) c.args.shapes)
          (sym (append_assoc c.loop-district.parts.items (part ∷ []) more))
          (c.loop-district.invariant.1 (part ∷ more)
          (subst (λ rest. AllZip (λ shape part. IsWrittenPart (numbered shape.0 shape.1.ring.corners) part) rest (part ∷ more))
          (sym c.in-Some.ensures.steps) (
            record {
              has_number = refl;
              is_main = c.in_ok-part_of.ensures.main;
              is_index = c.in_ok-part_of.ensures.index;
              is_read_back = c.in_ok-part_of.ensures.read_back;
              is_told = c.in_ok-part_of.ensures.lines;
            },
            h,
          )))),
    )

pub returns : goal.returns
returns g c =
    subst (AllZip (λ shape part. IsWrittenPart (numbered shape.0 shape.1.ring.corners) part) c.args.shapes)
    (append-nil c.loop-district.parts.items)
    (c.loop-district.invariant.1 []
    (subst (λ rest. AllZip (λ shape part. IsWrittenPart (numbered shape.0 shape.1.ring.corners) part) rest [])
    (sym c.in-None.ensures.steps.0)
    tt))
