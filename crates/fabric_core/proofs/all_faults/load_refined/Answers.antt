use Rattle.std.proofs.Common.{sym, ◌∙◌, ap, subst}
use Rattle.geo_exact.specs.Bounds.{IsLeastBox}
use Rattle.fabric_core.specs.own.Checks.{IsChecked}
use Rattle.fabric_core.specs.own.Lists.{numbered_rows, corners_of_shapes}
use Rattle.fabric_core.proofs.loads.Shared.{corners_of_clipped}
use Rattle.fabric_core.proofs.all_faults.load_refined.Goals as goal

pub layer_of-requires-clause-checked : goal.layer_of-requires-clause-checked
layer_of-requires-clause-checked g c =
    let found = c.in_ok-found.found in
    let shapes = c.in_ok-shapes.shapes.items in
    subst (λ ids. IsChecked ids (corners_of_shapes shapes) found.city found.refined) (sym c.deref.ensures.value)
    (subst (λ rings. IsChecked found.numbers.items rings found.city found.refined)
    (sym (corners_of_clipped found.rings.items shapes c.in_ok-shapes.ensures)) c.in_ok-found.ensures.checked)

pub layer_of-requires-clause-area : goal.layer_of-requires-clause-area
layer_of-requires-clause-area g c = subst (IsLeastBox c.args.area) (sym c.in_ok-found.ensures.city) c.requires.area

pub returns-clause-rows : goal.returns-clause-rows
returns-clause-rows g c =
    let found = c.in_ok-found.found in
    let shapes = c.in_ok-shapes.shapes.items in
    c.in_ok-layer.ensures.rows
    ∙ ap (λ ids. numbered_rows ids (corners_of_shapes shapes)) (c.deref.ensures.value ∙ c.in_ok-found.ensures.numbers)
    ∙ ap (numbered_rows c.args.refined.numbers.items)
    (corners_of_clipped found.rings.items shapes c.in_ok-shapes.ensures ∙ c.in_ok-found.ensures.rings)
