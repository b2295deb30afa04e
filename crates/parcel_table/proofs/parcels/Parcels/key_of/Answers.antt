use Rattle.parcel_table.proofs.Order.{known}
use Rattle.parcel_table.proofs.parcels.Parcels.key_of.Goals as goal

pub unreachable-requires : goal.unreachable-requires
unreachable-requires g c = known c.args.self.now c.args.id c.requires.0 c.fate.result c.requires.1 c.fate.ensures c.in-Unknown.is
