use Rattle.std.proofs.Common.{◌≡◌, true, false, cond, [], sym, ap, ◌∙◌}
use Rattle.shp_files.specs.Checks.{first_failure, polygon_checks, is_null, record_checks}
use Rattle.shp_files.proofs.lines.Lines.{goes_on, stops, first_failure_none}
use Rattle.shp_files.proofs.lines.FoundAmongLines.{finds_on, found_by_exit}
use Rattle.shp_files.proofs.record.read_record.Goals as goal

pub returns-in_err-content_end-clause-checked : goal.returns-in_err-content_end-clause-checked
unfolding record_checks
returns-in_err-content_end-clause-checked g c =
    found_by_exit c.from_residual.result _ _ c.from_residual.ensures.1
    (sym (stops _ _ c.in_err-content_end.field-0.0 c.in_err-content_end.ensures.checked))

pub returns-in_err-check_shape-clause-checked : goal.returns-in_err-check_shape-clause-checked
unfolding record_checks
returns-in_err-check_shape-clause-checked g c =
    found_by_exit c.from_residual-in_err-check_shape.result _ _ c.from_residual-in_err-check_shape.ensures.1
    (goes_on _ _ c.in_ok-content_end.ensures.checked
    ∙ sym (stops _ _ c.in_err-check_shape.field-0.0 c.in_err-check_shape.ensures.checked))

pub returns-then-branch-clause-checked : goal.returns-then-branch-clause-checked
unfolding record_checks
returns-then-branch-clause-checked g c =
    let null : is_null c.args.main.now c.args.head.start ≡ true = sym c.in_ok-check_shape.ensures.null ∙ c.if-branch.true in
    goes_on _ _ c.in_ok-content_end.ensures.checked ∙ goes_on _ _ c.in_ok-check_shape.ensures.checked
    ∙ ap (λ b. first_failure
    (cond b [] (polygon_checks c.args.main.now c.args.unit c.args.head.position c.args.head.start
    c.args.corners_before))) null ∙ first_failure_none

pub returns-clause-checked : goal.returns-clause-checked
unfolding record_checks
returns-clause-checked g c =
    let null : is_null c.args.main.now c.args.head.start ≡ false = sym c.in_ok-check_shape.ensures.null ∙ c.if-branch.false in
    finds_on c.read_polygon.result _ _ c.in_ok-content_end.ensures.checked
    (finds_on c.read_polygon.result _ _ c.in_ok-check_shape.ensures.checked
    (rw null c.read_polygon.ensures.checked))
