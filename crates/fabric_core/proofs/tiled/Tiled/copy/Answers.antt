use Rattle.std.proofs.Common.{◌≡◌, sym, ◌∙◌, ap, subst}
use Rattle.parcel_table.proofs.Clones.{same_rows, same_entries}
use Rattle.parcel_table.proofs.Tables.{ids_of_rows}
use Rattle.fabric_core.specs.Rows.{numbers}
use Rattle.fabric_core.specs.own.Kept.{Kept, IsKept, ids_by_key, by_ids}
use Rattle.fabric_core.proofs.loads.ByIds.{same_ids_by_key}
use Rattle.fabric_core.proofs.edits.Copied.{copied}
use Rattle.fabric_core.proofs.edits.Exchanges.{shown}
use Rattle.fabric_core.proofs.tiled.Tiled.copy.Goals as goal

pub invariant_of-result : goal.invariant_of-result
invariant_of-result g c =
    let old = c.self.inside.parcels in let clones = c.in_ok-parcels.ensures.cases in let copies = c.in_ok-parcels.parcels.parcels in
    subst (λ city. IsKept copies city c.in_ok-refined.refined c.in_ok-index.index) (sym c.in_ok-city.ensures.cases)
    (subst (λ refined. IsKept copies c.self.inside.city refined c.in_ok-index.index) (sym c.in_ok-refined.ensures.cases)
    (subst (λ index. IsKept copies c.self.inside.city c.self.inside.refined index) (sym c.in_ok-index.ensures.cases)
    (copied old.parcels copies c.self.inside.city c.self.inside.refined c.self.inside.index (same_rows old.parcels copies clones.parcels)
    (same_entries old.parcels copies clones.parcels) c.self.invariant)))

pub returns : goal.returns
returns g c =
    let old = c.self.inside.parcels in let clones = c.in_ok-parcels.ensures.cases in let copy = c.in_ok-parcels.parcels in
    subst (λ (t : Kept). shown c.in_ok-city.city c.in_ok-refined.refined copy c.in_ok-index.index ≡ t) c.self.view_is
    (ap (λ city. shown city c.in_ok-refined.refined copy c.in_ok-index.index) c.in_ok-city.ensures.cases
    ∙ ap (λ refined. shown c.self.inside.city refined copy c.in_ok-index.index) c.in_ok-refined.ensures.cases
    ∙ ap (λ index. shown c.self.inside.city c.self.inside.refined copy index) c.in_ok-index.ensures.cases
    ∙ ap (λ pairs. record (shown c.self.inside.city c.self.inside.refined copy c.self.inside.index) {
      index = by_ids pairs c.self.inside.index;
    }) (same_ids_by_key copy.parcels old.parcels
    (sym (ids_of_rows copy.parcels) ∙ ap numbers (same_rows old.parcels copy.parcels clones.parcels) ∙ ids_of_rows old.parcels)
    (same_entries old.parcels copy.parcels clones.parcels))
    ∙ ap (λ rows. record (shown c.self.inside.city c.self.inside.refined copy c.self.inside.index) {
      rows = rows;
      index = by_ids (ids_by_key old.parcels) c.self.inside.index;
    })
    (same_rows old.parcels copy.parcels clones.parcels)
    ∙ ap (λ next. record (shown c.self.inside.city c.self.inside.refined old c.self.inside.index) {
      next = next;
      fates = copy.fates;
    }) clones.next
    ∙ ap (λ fates. record (shown c.self.inside.city c.self.inside.refined old c.self.inside.index) { fates = fates }) clones.fates)
