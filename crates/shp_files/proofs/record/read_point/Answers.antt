use Rattle.std.proofs.Common.{◌+◌, rules}
use Rattle.shp_files.specs.Checks.{coordinate_checks}
use Rattle.shp_files.proofs.lines.Lines.{stops, goes_on}
use Rattle.shp_files.proofs.rings.Points.{coordinates_append}
use Rattle.shp_files.proofs.record.read_point.Goals as goal

pub returns-in_err-x-clause-checked : goal.returns-in_err-x-clause-checked
returns-in_err-x-clause-checked c =
    let all = coordinates_append c.args.main.now c.args.unit c.args.head.position (c.args.head.start + c.args.offset) 1 1 in
    let e = stops _ (coordinate_checks c.args.main.now c.args.unit c.args.head.position
    (c.args.head.start + c.args.offset + 8) 1) _ c.in_err-x.ensures.checked in
    rw all (search (rules, e))

pub returns-in_err-y-clause-checked : goal.returns-in_err-y-clause-checked
returns-in_err-y-clause-checked c =
    let all = coordinates_append c.args.main.now c.args.unit c.args.head.position (c.args.head.start + c.args.offset) 1 1 in
    let e = goes_on _ (coordinate_checks c.args.main.now c.args.unit c.args.head.position
    (c.args.head.start + c.args.offset + 8) 1) c.in_ok-x.ensures.checked in
    rw (all, e) (search (rules, c.in_err-y.ensures.checked))

pub returns-clause-checked : goal.returns-clause-checked
returns-clause-checked c =
    let all = coordinates_append c.args.main.now c.args.unit c.args.head.position (c.args.head.start + c.args.offset) 1 1 in
    let e = goes_on _ (coordinate_checks c.args.main.now c.args.unit c.args.head.position
    (c.args.head.start + c.args.offset + 8) 1) c.in_ok-x.ensures.checked in
    rw (all, e) (search (rules, c.in_ok-y.ensures.checked))
