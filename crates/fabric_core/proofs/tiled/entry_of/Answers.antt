use Rattle.std.proofs.Common.{ap}
use Rattle.fabric_core.proofs.tiled.entry_of.Goals as goal

pub returns : goal.returns
returns g c =
    let w = c.in-Here.ensures.0 in record {
      parcel = w.parcel;
      is_here = w.is_here;
      has_id = w.has_id;
      has_box = ap (λ parcel. parcel.shape.bounds) (c.at.ensures w.parcel w.is_here);
    }
