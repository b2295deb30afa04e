use Rattle.std.proofs.Common.{◌≡◌, sym, ◌∙◌, ap, subst, append-nil, ◌++◌}
use Rattle.zone_tables.specs.Overlap.{AreSplitZoned}
use Rattle.zone_tables.specs.own.Zonings.{split_ids, zonings}
use Rattle.zone_tables.proofs.Told.{are_split}
use Rattle.zone_tables.proofs.table.Table.split_zoned.Goals as goal

pub returns : goal.returns
returns g c =
    let ids = c.loop-parcel.ids.items in
    let all : ids ≡ split_ids (zonings c.args.self.now.pairs) =
    sym (append-nil ids) ∙ sym (ap (λ left. ids ++ split_ids left) c.in-None.ensures.steps.0) ∙ c.loop-parcel.invariant in
    subst (AreSplitZoned c.args.self.now.rows c.args.self.now.zones) (sym all)
    (are_split c.args.self.now.rows c.args.self.now.zones c.args.self.now.pairs c.use_invariant.ensures.table)
