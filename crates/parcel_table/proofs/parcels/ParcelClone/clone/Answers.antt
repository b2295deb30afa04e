use Rattle.std.proofs.Common.{refl}
use Rattle.parcel_table.proofs.Clones.{parcel_clone}
use Rattle.parcel_table.proofs.parcels.ParcelClone.clone.Goals as goal

pub returns : goal.returns
returns g c = record {
  cases = parcel_clone c.args.self.now (record { id = c.args.self.now.id; shape = c.in_ok-clone.field-0 }) refl
      c.in_ok-clone.ensures.cases.0 c.in_ok-clone.ensures.cases.1;
}
