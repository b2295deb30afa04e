use Rattle.tri_overlap.proofs.Boxes.{inside_box}
use Rattle.tri_overlap.proofs.triangles.triangles_overlap.Goals as goal

pub meet_in_box-requires : goal.meet_in_box-requires
meet_in_box-requires c = λ p i j. inside_box c.args.first.now p _ c.bounds_of.ensures i
