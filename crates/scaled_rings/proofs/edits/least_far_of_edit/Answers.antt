use Rattle.std.proofs.Common.{sym, subst, ◌++◌}
use Rattle.scaled_rings.specs.Tenfold.{IsLeastFarOf}
use Rattle.scaled_rings.specs.TenfoldEdits.{corners_of_edit}
use Rattle.scaled_rings.proofs.edits.least_far_of_edit.Goals as goal

pub returns-in-Split : goal.returns-in-Split
returns-in-Split g c = λ before h.
    subst (λ e. IsLeastFarOf (before ++ corners_of_edit e) c.least_far.result) (sym c.in-Split.is)
    (subst (λ xs. IsLeastFarOf (before ++ xs) c.least_far.result) c.as_slice.ensures (c.least_far.ensures before h))

pub returns-in-Move : goal.returns-in-Move
returns-in-Move g c = λ before h.
    subst (λ e. IsLeastFarOf (before ++ corners_of_edit e) c.least_far-in-Move.result) (sym c.in-Move.is)
    (subst (λ xs. IsLeastFarOf (before ++ xs) c.least_far-in-Move.result) c.as_slice-in-Move.ensures (c.least_far-in-Move.ensures before h))

pub returns-in-Insert : goal.returns-in-Insert
returns-in-Insert g c = λ before h.
    subst (λ e. IsLeastFarOf (before ++ corners_of_edit e) c.least_far-in-Insert.result) (sym c.in-Insert.is)
    (c.least_far-in-Insert.ensures before h)

pub returns-in-Straighten : goal.returns-in-Straighten
returns-in-Straighten g c = λ before h.
    subst (λ e. IsLeastFarOf (before ++ corners_of_edit e) c.least_far-in-Straighten.result) (sym c.in-Straighten.is)
    (c.least_far-in-Straighten.ensures before h)
