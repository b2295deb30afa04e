use Rattle.std.proofs.Common.{inl, inr, sym, ◌∙◌}
use Rattle.std.proofs.lemmas.Bool.{false≢true}
use Rattle.std.proofs.lemmas.Int.{to_z-of_z}
use Rattle.geo_exact.proofs.numbers.Fits.{fits_x, fits_y}
use Rattle.geo_exact.proofs.bounds.Bounds.is_apart.Goals as goal

pub returns-then-ends_before : goal.returns-then-ends_before
returns-then-ends_before c =
    let apart = simp (to_z-of_z, fits_x) at c.ends_before.ensures in
    (λ _. inl (apart.0 c.if-ends_before.true), λ _. c.if-ends_before.true)

pub returns-else-ends_before : goal.returns-else-ends_before
returns-else-ends_before c =
    let in_x = simp (to_z-of_z, fits_x) at c.ends_before.ensures in
    let in_y = simp (to_z-of_z, fits_y) at c.ends_before-else-ends_before.ensures in (
      λ r. inr (in_y.0 r),
      λ a. elim a [
        | inl h ↦ absurd (false≢true (sym c.if-ends_before.false ∙ in_x.1 h))
        | inr h ↦ in_y.1 h
      ],
    )
