use Rattle.std.proofs.Common.{sym, ◌∙◌}
use Rattle.std.proofs.lemmas.Bool.{false≢true}
use Rattle.std.proofs.lemmas.Int.{to_z-of_z}
use Rattle.geo_exact.proofs.numbers.Fits.{fits_x, fits_y}
use Rattle.geo_exact.proofs.bounds.Bounds.is_wider.Goals as goal

pub returns-then-lies_between : goal.returns-then-lies_between
returns-then-lies_between c =
    let in_x = simp (to_z-of_z, fits_x) at c.lies_between.ensures in
    let in_y = simp (to_z-of_z, fits_y) at c.lies_between-then-lies_between.ensures in
    (λ r. (in_x.0 c.if-lies_between.true, in_y.0 r), λ w. in_y.1 w.1)

pub returns-else-lies_between : goal.returns-else-lies_between
returns-else-lies_between c =
    let in_x = simp (to_z-of_z, fits_x) at c.lies_between.ensures in (
      λ r. absurd (false≢true (sym c.if-lies_between.false ∙ r)),
      λ w. absurd (false≢true (sym c.if-lies_between.false ∙ in_x.1 w.0)),
    )
