use Rattle.std.proofs.Common.{◌+◌, ◌*◌, [], ◌∷◌, length, length-append, sym, ap, ◌∙◌}
use Rattle.std.proofs.Common.{arith}
use Rattle.shp_files.proofs.lines.FoundAmongLines.{found_by_exit}
use Rattle.shp_files.proofs.rings.Points.{none_left, read_more, refused_at, reads_push}
use Rattle.shp_files.proofs.record.read_corners.Goals as goal

pub loop-i-init : goal.loop-i-init
loop-i-init g c = record {
  checked = sym (none_left c.args.main.now c.args.unit c.args.head.position (c.args.head.start + 56));
  read = rw c.in_ok-corners.ensures tt;
  count = ap length c.in_ok-corners.ensures;
}

pub returns-in_err-corner-clause-checked : goal.returns-in_err-corner-clause-checked
returns-in_err-corner-clause-checked g c =
    found_by_exit c.from_residual-in_err-corner.result _ _ c.from_residual-in_err-corner.ensures.1
    (sym (refused_at c.args.main.now c.args.unit c.args.head.position (c.args.head.start + 56) c.loop-i.i c.args.count
    (c.args.head.start + (56 + 16 * c.loop-i.i)) c.in_err-corner.field-0.0 (omega arith) (omega arith)
    c.loop-i.invariant.checked c.in_err-corner.ensures.checked))

pub loop-i-preserved : goal.loop-i-preserved
loop-i-preserved g c =
    let place = c.args.head.start + (56 + 16 * c.loop-i.i) in
    record {
      checked = read_more c.args.main.now c.args.unit c.args.head.position (c.args.head.start + 56) c.loop-i.i place (omega arith)
          c.loop-i.invariant.checked c.in_ok-corner.ensures.checked;
      read = rw c.in_ok-push.ensures.ok (reads_push c.args.unit c.args.main.now (c.args.head.start + 56) c.loop-i.corners
          c.in_ok-corner.corner place (omega (arith, c.loop-i.invariant.count)) c.loop-i.invariant.read c.in_ok-corner.ensures.read);
      count = ap length c.in_ok-push.ensures.ok ∙ omega (arith, length-append c.loop-i.corners (c.in_ok-corner.corner ∷ []));
    }
