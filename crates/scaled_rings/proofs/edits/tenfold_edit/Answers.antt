use Rattle.std.proofs.Common.{refl, sym, subst}
use Rattle.ring_edits.specs.declared.edit.Edit.TheVariants.{Insert, Straighten}
use Rattle.scaled_rings.specs.TenfoldEdits.{IsTenfoldEdit}
use Rattle.scaled_rings.proofs.edits.tenfold_edit.Goals as goal

pub returns-in-Insert : goal.returns-in-Insert
returns-in-Insert g c =
    subst (λ e. IsTenfoldEdit e (Insert c.tenfold.result c.tenfold-in-Insert.result c.tenfold-in-Insert-2.result)) (sym c.in-Insert.is) (
      c.tenfold.result,
      c.tenfold-in-Insert.result,
      c.tenfold-in-Insert-2.result,
      refl,
      c.tenfold.ensures,
      c.tenfold-in-Insert.ensures,
      c.tenfold-in-Insert-2.ensures,
    )

pub returns-in-Straighten : goal.returns-in-Straighten
returns-in-Straighten g c =
    subst (λ e. IsTenfoldEdit e (Straighten c.tenfold-in-Straighten.result)) (sym c.in-Straighten.is)
    (c.tenfold-in-Straighten.result, refl, c.tenfold-in-Straighten.ensures)
