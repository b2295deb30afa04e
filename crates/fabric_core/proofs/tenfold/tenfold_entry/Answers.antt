use Rattle.std.proofs.Common.{sym, subst}
use Rattle.std.specs.List.{AllByRecursion}
use Rattle.scaled_rings.specs.Tenfold.{IsNear}
use Rattle.scaled_rings.specs.TenfoldEdits.{corners_of_edit}
use Rattle.fabric_core.specs.Tenfold.{corners_of_rows}
use Rattle.fabric_core.proofs.tens.Corners.{near_edit, near_news}
use Rattle.fabric_core.proofs.tenfold.tenfold_entry.Goals as goal

pub tenfold_edit-requires : goal.tenfold_edit-requires
tenfold_edit-requires g c =
    subst (λ edit. AllByRecursion IsNear (corners_of_edit edit)) (sym c.edit.ensures) (near_edit c.args.entry.now c.requires)

pub tenfold_rows-requires : goal.tenfold_rows-requires
tenfold_rows-requires g c =
    subst (λ rows. AllByRecursion IsNear (corners_of_rows rows)) (sym c.rows.ensures) (near_news c.args.entry.now c.requires)
