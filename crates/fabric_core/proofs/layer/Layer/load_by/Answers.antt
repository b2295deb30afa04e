use Rattle.std.proofs.Common.{Ok, Err}
use Rattle.geo_exact.specs.Layers.{rings_of}
use Rattle.fabric_core.specs.declared.all_faults.Asked.{Asked}
use Rattle.fabric_core.proofs.loads.FullyNoded.{loaded_where_tiling, untiled_where_told}
use Rattle.fabric_core.proofs.loads.LoadRefusals.{first_or_memory}
use Rattle.fabric_core.proofs.layer.Layer.load_by.Goals as goal

pub returns-in-Err-clause-fault : goal.returns-in-Err-clause-fault
returns-in-Err-clause-fault g c =
    first_or_memory Asked.First (rings_of c.args.records.items) c.args.city.now.ring.corners c.in-Err.refusal c.in-Err.ensures.faults

pub returns-in-Ok-clause-loads : goal.returns-in-Ok-clause-loads
returns-in-Ok-clause-loads g c = loaded_where_tiling (Ok c.in-Ok.layer) (rings_of c.args.records.items) c.args.city.now.ring.corners
    c.in-Ok.ensures.rows tt

pub returns-in-Err-clause-loads : goal.returns-in-Err-clause-loads
returns-in-Err-clause-loads g c =
    loaded_where_tiling (Err c.in-Err.refusal.first) (rings_of c.args.records.items) c.args.city.now.ring.corners tt
    (returns-in-Err-clause-fault g c)

pub returns-in-Err-clause-gap : goal.returns-in-Err-clause-gap
returns-in-Err-clause-gap g c = λ rows refined a b net h e.
    untiled_where_told (Err c.in-Err.refusal.first) (rings_of c.args.records.items) c.args.city.now.ring.corners
    (returns-in-Err-clause-fault g c) rows refined a b net h e
