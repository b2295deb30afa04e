use Rattle.std.proofs.Common.{take}
use Rattle.std.specs.List.{AllZip}
use Rattle.area_shares.specs.own.Parcels.{IsShareOf}
use Rattle.area_shares.proofs.zones.shares_of.Given as goal

abbrev pub invariant-loop-pair : goal.invariant-loop-pair
invariant-loop-pair g l = AllZip (IsShareOf l.parcel l.zones.rows) (take l.pair-index l.here) l.shares.items
