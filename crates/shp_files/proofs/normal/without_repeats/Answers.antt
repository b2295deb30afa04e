use Rattle.std.proofs.Common.{sym, ◌∙◌}
use Rattle.shp_files.specs.NormalForm.{starts}
use Rattle.geo_exact.specs.Rings.{path}
use Rattle.shp_files.proofs.rings.KeptCorners.{keeps_corner, skips_corner, keeps_last, skips_last, kept_of_whole}
use Rattle.shp_files.proofs.normal.without_repeats.Goals as goal
use Rattle.shp_files.proofs.normal.without_repeats.Goals.{then-is_other+in_ok-push, else-is_other}
use Rattle.shp_files.proofs.normal.without_repeats.Goals.{then-is_other-2+in_ok-push-2, else-is_other-2}

pub loop-to-preserved : goal.loop-to-preserved
loop-to-preserved g c =
    elim c.if-is_other.branch [
      | then-is_other+in_ok-push w ↦
          rw (w.kept-is, w.in_ok-push.ensures.ok) (keeps_corner c.loop-to.kept c.args.drawn.now
          (starts (path c.in-Some.first.now c.args.drawn.now c.in-Some.first.now)) c.loop-to.from c.to-item.result
          c.in-Some.first.now c.loop-to.to-index
          c.loop-to-test.true c.to-item.is c.loop-to.invariant (sym c.is_other.ensures ∙ w.if-is_other.true))
      | else-is_other w ↦
          rw w.kept-is (skips_corner c.loop-to.kept c.args.drawn.now
          (starts (path c.in-Some.first.now c.args.drawn.now c.in-Some.first.now)) c.loop-to.from c.to-item.result
          c.in-Some.first.now c.loop-to.to-index
          c.loop-to-test.true c.to-item.is c.loop-to.invariant (sym c.is_other.ensures ∙ w.if-is_other.false))
    ]

pub returns : goal.returns
returns g c =
    let whole = kept_of_whole c.args.drawn.now c.in-Some.first.now c.in-Some.ensures.item.3.0 c.in-Some.ensures.item.1 in
    elim c.if-is_other-2.branch [
      | then-is_other-2+in_ok-push-2 w ↦
          rw (w.kept-is, w.in_ok-push-2.ensures.ok) (keeps_last c.loop-to.kept c.args.drawn.now
          (starts (path c.in-Some.first.now c.args.drawn.now c.in-Some.first.now)) c.loop-to.from c.in-Some.first.now c.loop-to.to-index
          c.loop-to-test.false c.loop-to.invariant (sym c.is_other-2.ensures ∙ w.if-is_other-2.true)) ∙ whole
      | else-is_other-2 w ↦
          rw w.kept-is (skips_last c.loop-to.kept c.args.drawn.now
          (starts (path c.in-Some.first.now c.args.drawn.now c.in-Some.first.now)) c.loop-to.from c.in-Some.first.now c.loop-to.to-index
          c.loop-to-test.false c.loop-to.invariant (sym c.is_other-2.ensures ∙ w.if-is_other-2.false)) ∙ whole
    ]
