use Rattle.std.proofs.Common.{[], ◌∙◌, subst}
use Rattle.clerk_runs.specs.ClerkRuns.{AreMade, opened}
use Rattle.parcel_runs.proofs.EditedRuns.{none_made, same_register}
use Rattle.parcel_runs.proofs.edited.as_read.Goals as goal

pub returns-clause-made : goal.returns-clause-made
returns-clause-made g c =
    let layer = c.args.layer in
    let opening = c.in-Ok.ensures in
    rw c.new.ensures.items
    (subst (λ after. AreMade layer [] after [])
    (same_register (opened layer) c.in-Ok.sheet (opening.now ∙ opening.opening) opening.journal)
    (none_made layer c.use_invariant.ensures.tiling))
