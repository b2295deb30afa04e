use Rattle.std.proofs.Common.{refl}
use Rattle.shp_files.specs.Written.{zeros, header}
use Rattle.shp_files.proofs.written.Puts.{more, appended, extended}
use Rattle.shp_files.proofs.write.put_header.Goals as goal

pub returns : goal.returns
unfolding header zeros
returns g c = λ corners. λ are.
    let boxed = c.in_ok-put_box.ensures corners are in
    let start = more _ _ _ _ _ c.in_ok-put_big.ensures c.in_ok-extend_from_slice.ensures.items in
    let sized = more _ _ _ _ _ start c.in_ok-put_big-2.ensures in
    let kinds = more _ _ _ _ _ (more _ _ _ _ _ sized c.in_ok-put_little.ensures) c.in_ok-put_little-2.ensures in
    appended c.extend_from_slice-2.result _ _ _ _ _ _ (more _ _ _ _ _ kinds boxed)
    (extended c.extend_from_slice-2.result _ _ _ (zeros 32) c.extend_from_slice-2.ensures.items refl) refl
