use Rattle.std.proofs.lemmas.Slice.Eq.{slice_eq-Decides}
use Rattle.geo_exact.proofs.corners_and_turns.CornerOrder.{Decides-is_same}
use Rattle.overlay_work.proofs.round.are_same.Goals as goal

pub returns : goal.returns
returns c = slice_eq-Decides Decides-is_same c.args.a.now c.args.b.now c.eq.result c.eq.ensures
