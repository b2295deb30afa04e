use Rattle.std.proofs.Common.{◌≡◌, ◌∙◌, ℕ, List, length, subst, Result, Ok, Err}
use Rattle.std.specs.Result.{IfOk}
use Rattle.geo_exact.specs.declared.corner.Corner.{Corner}
use Rattle.ring_edits.specs.declared.edit.Edit.{Edit}
use Rattle.fabric_core.specs.Rows.{Tiles}
use Rattle.fabric_core.specs.Tiling.{IsTiling}
use Rattle.fabric_core.specs.Journal.{State, Book, opening_state}
use Rattle.clerk_runs.specs.ClerkRuns.{register_of, AreMade}
use Rattle.clerk_runs.specs.own.Working.{AreMadeIn}
use Rattle.clerk_runs.proofs.runs.edit_by_clerks.Goals as goal

-- what is made in a run from a layer's opening is made on the layer, where the parcels tile its city
made_on : {A Y E : Type 0} (answer : Result Y E) (sheet : Y → Book A) (lines : Y → List ℕ) (tiles : Tiles)
    (clerks : List (List (ℕ × Edit A))) (opening : State) (city : List Corner)
    → opening ≡ opening_state tiles.rows tiles.refined → city ≡ tiles.city
    → IfOk answer (λ y. AreMadeIn (record { clerks = length clerks; opening = opening }) clerks (register_of (sheet y)) (lines y))
    → IfOk answer (λ y. (sheet y).city ≡ city) → IfOk answer (λ y. IsTiling (sheet y).now.rows (sheet y).city)
    → IfOk answer (λ y. AreMade tiles clerks (register_of (sheet y)) (lines y))
made_on (Ok y) sheet lines tiles clerks opening city from_layer of_layer made same tiling =
    let here = subst (λ (o : State). AreMadeIn (record { clerks = length clerks; opening = o }) clerks (register_of (sheet y)) (lines y))
    from_layer made in
    record {
      is_journal = here.is_journal;
      leads = here.leads;
      is_tiling = subst (IsTiling (sheet y).now.rows) (same ∙ of_layer) tiling;
      are_told = here.are_told;
    }
made_on (Err e) sheet lines tiles clerks opening city from_layer of_layer made same tiling = tt

pub returns-clause-made : goal.returns-clause-made
returns-clause-made g c =
    made_on c.edit_at_office.result (λ edited. edited.sheet) (λ edited. edited.lines.items) c.args.layer c.args.clerks.items
    c.in-Ok.fabric.opening c.in-Ok.fabric.city c.in-Ok.ensures.opening c.in-Ok.ensures.city c.edit_at_office.ensures.made
    c.edit_at_office.ensures.city c.edit_at_office.ensures.tiling
