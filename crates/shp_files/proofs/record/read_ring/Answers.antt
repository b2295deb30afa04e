use Rattle.std.proofs.Common.{◌≡◌, ◌<◌, ◌+◌, ◌-◌, ◌*◌, length, Some, None, sym, ◌∙◌, arith}
use Rattle.shp_files.proofs.lines.Lines.{passed}
use Rattle.shp_files.proofs.lines.FoundAmongLines.{found_by_exit}
use Rattle.shp_files.proofs.rings.Ring.{corners_refused, same_corner, first_of, last_refused, closing_answer, closed_read}
use Rattle.shp_files.proofs.record.read_ring.Goals as goal

pub returns-in_err-corners-clause-checked : goal.returns-in_err-corners-clause-checked
returns-in_err-corners-clause-checked g c =
    found_by_exit c.from_residual.result _ _ c.from_residual.ensures.1
    (corners_refused c.args.main.now c.args.unit c.args.head.position (c.args.head.start + 56)
    c.args.count c.in_err-corners.field-0.0 (omega arith) c.in_err-corners.ensures.checked)

pub returns-in_err-closing-clause-checked : goal.returns-in_err-closing-clause-checked
returns-in_err-closing-clause-checked g c =
    found_by_exit c.from_residual-in_err-closing.result _ _ c.from_residual-in_err-closing.ensures.1
    (sym (last_refused c.args.main.now c.args.unit c.args.head.position (c.args.head.start + 56) c.args.count
    (c.args.head.start + (56 + 16 * (c.args.count - 1))) c.in_err-closing.field-0.0 (omega arith) (omega arith)
    (sym c.in_ok-corners.ensures.checked) c.in_err-closing.ensures.checked))

pub returns-in_err-refuse_if-clause-checked : goal.returns-in_err-refuse_if-clause-checked
returns-in_err-refuse_if-clause-checked g c =
    found_by_exit c.from_residual-in_err-refuse_if.result _ _ c.from_residual-in_err-refuse_if.ensures.1
    (sym (closing_answer c.args.main.now c.args.unit c.args.head.position (c.args.head.start + 56) c.args.count
    (c.args.head.start + (56 + 16 * (c.args.count - 1))) c.in_ok-corners.corners c.as_slice.result.now c.index-as_slice-0.result
    c.in_ok-closing.closing c.is_other-open.result c.fault.result (Some c.in_err-refuse_if.field-0.0) (omega arith) (omega arith)
    c.in_ok-corners.ensures.checked c.in_ok-corners.ensures.read c.in_ok-corners.ensures.count
    c.in_ok-closing.ensures.checked c.in_ok-closing.ensures.read c.index-as_slice-0.is c.as_slice.ensures
    c.is_other-open.ensures c.fault.ensures c.in_err-refuse_if.ensures))

pub returns-clause-checked : goal.returns-clause-checked
returns-clause-checked g c =
    sym (closing_answer c.args.main.now c.args.unit c.args.head.position (c.args.head.start + 56) c.args.count
    (c.args.head.start + (56 + 16 * (c.args.count - 1))) c.in_ok-corners.corners c.as_slice.result.now c.index-as_slice-0.result
    c.in_ok-closing.closing c.is_other-open.result c.fault.result None (omega arith) (omega arith)
    c.in_ok-corners.ensures.checked c.in_ok-corners.ensures.read c.in_ok-corners.ensures.count
    c.in_ok-closing.ensures.checked c.in_ok-closing.ensures.read c.index-as_slice-0.is c.as_slice.ensures
    c.is_other-open.ensures c.fault.ensures c.in_ok-refuse_if.ensures)

pub returns-clause-read : goal.returns-clause-read
returns-clause-read g c =
    let some : 0 < length c.in_ok-corners.corners = omega (arith, c.in_ok-corners.ensures.count) in
    let last : c.args.head.start + (56 + 16 * (c.args.count - 1)) ≡ c.args.head.start + 56
    + 16 * length c.in_ok-corners.corners = omega (arith, c.in_ok-corners.ensures.count) in
    let same = same_corner c.index-as_slice-0.result c.in_ok-closing.closing (sym c.is_other-open.ensures
    ∙ passed c.is_other-open.result c.fault.result c.in_ok-refuse_if.ensures) in
    closed_read c.args.unit c.args.main.now (c.args.head.start + 56) (c.args.head.start + (56 + 16 * (c.args.count - 1)))
    c.in_ok-corners.corners c.index-as_slice-0.result c.in_ok-closing.closing c.in_ok-corners.ensures.read some
    (first_of c.as_slice.result.now c.in_ok-corners.corners c.index-as_slice-0.result c.index-as_slice-0.is c.as_slice.ensures)
    last c.in_ok-closing.ensures.read same
