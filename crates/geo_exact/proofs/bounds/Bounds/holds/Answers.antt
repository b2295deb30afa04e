use Rattle.std.proofs.lemmas.Int.{to_z-of_z}
use Rattle.geo_exact.proofs.numbers.Fits.{fits_x, fits_y}
use Rattle.geo_exact.specs.Bounds.{is_from_to}
use Rattle.geo_exact.proofs.boxes.InBoxes.{both_tests}
use Rattle.geo_exact.proofs.bounds.Bounds.holds.Goals as goal

pub returns-then-is_within : goal.returns-then-is_within
returns-then-is_within c =
    let s = c.args.self in let p = c.args.corner in
    both_tests c.is_within.result c.is_within-then-is_within.result (is_from_to s.low.x s.high.x p.x) (is_from_to s.low.y s.high.y p.y)
    (simp (to_z-of_z, fits_x) at c.is_within.ensures) (simp (to_z-of_z, fits_y) at c.is_within-then-is_within.ensures)
    c.if-is_within.true
