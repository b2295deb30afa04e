use Rattle.std.proofs.Common.{◌≡◌, [], sym, subst}
use Rattle.std.specs.Vec.{vec_len}
use Rattle.clerk_runs.specs.ClerkRuns.{register_of, AreMade}
use Rattle.parcel_runs.proofs.EditedRuns.{none_where_empty}
use Rattle.parcel_runs.proofs.edited.edit_layer.Goals as goal

pub returns-then-is_empty-clause-made : goal.returns-then-is_empty-clause-made
returns-then-is_empty-clause-made g c =
    let edited = c.in_ok-as_read.field-0 in
    let clerks = c.args.clerks in
    let none : clerks.items ≡ [] = none_where_empty clerks.items (vec_len clerks) (search) c.if-is_empty.ensures in
    subst (λ made. AreMade c.args.layer made (register_of edited.sheet) edited.lines.items) (sym none)
    c.in_ok-as_read.ensures.made
