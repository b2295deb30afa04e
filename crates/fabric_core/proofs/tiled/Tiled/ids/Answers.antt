use Rattle.std.proofs.Common.{◌≡◌, sym, ◌∙◌, subst}
use Rattle.std.specs.List.Sorted.{IsStrictlyIncreasing}
use Rattle.fabric_core.specs.Rows.{numbers}
use Rattle.fabric_core.specs.own.Kept.{Kept}
use Rattle.parcel_table.proofs.Tables.{ids_of_rows}
use Rattle.fabric_core.proofs.tiled.Tiled.ids.Goals as goal

pub returns-clause-ids : goal.returns-clause-ids
returns-clause-ids g c =
    subst (λ (t : Kept). c.ids.result ≡ numbers t.rows) c.self.view_is (c.ids.ensures
    ∙ sym (ids_of_rows c.self.inside.parcels.parcels))

pub returns-clause-ascending : goal.returns-clause-ascending
returns-clause-ascending g c =
    subst IsStrictlyIncreasing (sym (c.ids.ensures ∙ sym (ids_of_rows c.self.inside.parcels.parcels))) c.self.invariant.ids_rise
