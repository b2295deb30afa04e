use Rattle.std.proofs.Common.{◌≡◌, ◌++◌}
use Rattle.zone_tables.specs.own.Zonings.{split_ids, zonings}
use Rattle.zone_tables.proofs.table.Table.split_zoned.Given as goal

abbrev pub invariant-loop-parcel : goal.invariant-loop-parcel
invariant-loop-parcel g l = l.ids.items ++ split_ids l.parcel-iterator ≡ split_ids (zonings l.self.pairs)
