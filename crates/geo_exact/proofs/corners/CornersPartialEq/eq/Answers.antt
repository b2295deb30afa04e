use Rattle.std.proofs.lemmas.Slice.Eq.{slice_eq-Decides}
use Rattle.geo_exact.proofs.corners_and_turns.CornerOrder.{Decides-is_same}
use Rattle.geo_exact.proofs.corners.CornersPartialEq.eq.Goals as goal

pub returns-clause-same : goal.returns-clause-same
returns-clause-same g c =
    rw (c.as_slice.ensures, c.as_slice-2.ensures) at
    (slice_eq-Decides Decides-is_same c.as_slice.result.now c.as_slice-2.result.now c.eq.result c.eq.ensures)
