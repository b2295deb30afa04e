use Rattle.std.proofs.Common.{◌≡◌, ◌≤◌, ◌+◌, ℕ, length, None, Some, sym, ap, subst, ◌∙◌, arith}
use Rattle.std.proofs.lemmas.Bool.{ltb-false}
use Rattle.shp_files.specs.NormalForm.{kept_once, counterclockwise, normal_form}
use Rattle.shp_files.specs.Checks.{first_failure, ring_checks, polygon_checks}
use Rattle.shp_files.specs.own.Reading.{Fails}
use Rattle.shp_files.proofs.lines.Lines.{stops, passed}
use Rattle.shp_files.proofs.lines.FoundAmongLines.{fails_stops, fails_on, found_by_exit}
use Rattle.shp_files.proofs.rings.Distinct.{corners_answer, kept_fewer}
use Rattle.shp_files.proofs.rings.Turned.{is_normal}
use Rattle.shp_files.proofs.record.read_polygon.Goals as goal

pub returns-in_err-count-clause-checked : goal.returns-in_err-count-clause-checked
unfolding polygon_checks
returns-in_err-count-clause-checked g c =
    found_by_exit c.from_residual.result _ _ c.from_residual.ensures.1
    (sym (stops _ _ c.in_err-count.field-0.0 c.in_err-count.ensures.checked))

pub returns-in_err-drawn-clause-checked : goal.returns-in_err-drawn-clause-checked
unfolding polygon_checks
returns-in_err-drawn-clause-checked g c =
    let e = c.in_err-drawn.field-0.0 in
    let P : ℕ → Type 0 =
    λ n. Fails e (first_failure (ring_checks c.args.main.now c.args.unit c.args.head.position (c.args.head.start + 56) n)) in
    found_by_exit c.from_residual-in_err-drawn.result _ _ c.from_residual-in_err-drawn.ensures.1
    (fails_on e _ _ c.in_ok-count.ensures.checked
    (fails_stops e _ _ (subst P c.in_ok-count.ensures.count c.in_err-drawn.ensures.checked)))

pub returns-in_err-refuse_if-clause-checked : goal.returns-in_err-refuse_if-clause-checked
returns-in_err-refuse_if-clause-checked g c =
    found_by_exit c.from_residual-in_err-refuse_if.result _ _ c.from_residual-in_err-refuse_if.ensures.1
    (sym (corners_answer c.args.main.now c.args.unit c.args.head.position c.args.head.start c.args.corners_before
    c.in_ok-count.count c.in_ok-drawn.drawn c.as_slice.result.now c.fault.result (Some c.in_err-refuse_if.field-0.0)
    c.in_ok-count.ensures.checked c.in_ok-count.ensures.count (omega (arith, c.in_ok-count.ensures.enough))
    c.in_ok-drawn.ensures.checked c.in_ok-drawn.ensures.read c.in_ok-drawn.ensures.count
    (c.as_slice.ensures ∙ c.in_ok-corners.ensures) c.fault.ensures c.in_err-refuse_if.ensures))

pub turn_counterclockwise-requires : goal.turn_counterclockwise-requires
turn_counterclockwise-requires g c =
    let kept : c.in_ok-corners.corners ≡ kept_once c.in_ok-drawn.drawn = c.in_ok-corners.ensures in
    omega (arith, ap length kept, kept_fewer c.in_ok-drawn.drawn, c.in_ok-drawn.ensures.count, c.in_ok-count.ensures.few)

pub invariant_of-result : goal.invariant_of-result
invariant_of-result g c =
    let kept : c.in_ok-corners.corners ≡ kept_once c.in_ok-drawn.drawn = c.in_ok-corners.ensures in
    let ring : c.turn_counterclockwise.new.ring ≡ normal_form c.in_ok-drawn.drawn = c.turn_counterclockwise.ensures
    ∙ ap counterclockwise kept in
    let normal = is_normal c.in_ok-drawn.drawn in
    let enough : 3 ≤ length c.as_slice.result.now = ltb-false _ _ (passed _ c.fault.result c.in_ok-refuse_if.ensures) in
    let sizes = ap length (c.as_slice.ensures ∙ kept) in
    record {
      enough = rw ring (omega (arith, normal.same_length, sizes));
      few = rw ring
          (omega (arith, normal.same_length, kept_fewer c.in_ok-drawn.drawn, c.in_ok-drawn.ensures.count, c.in_ok-count.ensures.few));
      no_repeats = rw ring normal.apart;
      not_clockwise = rw ring normal.area;
    }

pub returns-clause-checked : goal.returns-clause-checked
returns-clause-checked g c =
    sym (corners_answer c.args.main.now c.args.unit c.args.head.position c.args.head.start c.args.corners_before
    c.in_ok-count.count c.in_ok-drawn.drawn c.as_slice.result.now c.fault.result None
    c.in_ok-count.ensures.checked c.in_ok-count.ensures.count (omega (arith, c.in_ok-count.ensures.enough))
    c.in_ok-drawn.ensures.checked c.in_ok-drawn.ensures.read c.in_ok-drawn.ensures.count
    (c.as_slice.ensures ∙ c.in_ok-corners.ensures) c.fault.ensures c.in_ok-refuse_if.ensures)
