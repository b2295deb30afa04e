use Rattle.std.proofs.Common.{◌≡◌, ◌⊎◌, inl, inr, subst}
use Rattle.city_layers.specs.declared.fault.Role.TheVariants.{Parcels, Zones}
use Rattle.city_layers.specs.declared.fault.ToolFault.TheVariants.{NoMemory}
use Rattle.city_layers.specs.TilingFiles.{files_of}
use Rattle.city_layers.specs.own.Told.{IsToldOfLayer}
use Rattle.geo_exact.proofs.PassedOn.{passed_on, passed_if}
use Rattle.city_layers.proofs.ZonedFaults.{by_layer, tiled_in, of_zones}
use Rattle.city_layers.proofs.zones.load_layers_by.Goals as goal

pub returns-in_err-city-clause-loads : goal.returns-in_err-city-clause-loads
returns-in_err-city-clause-loads g c = λ tiles regions h.
    passed_if _ _ _ c.from_residual.ensures.1 (c.in_err-city.ensures.reads tiles.city h.are_tiles.is_city)

pub returns-in_err-city-clause-refuses : goal.returns-in_err-city-clause-refuses
returns-in_err-city-clause-refuses g c = λ fault h. passed_on _ _ _ c.from_residual.ensures.1 (elim h [
  | inl k ↦ elim k [ inl a ↦ c.in_err-city.ensures.refuses fault a | inr b ↦ inr (c.in_err-city.ensures.reads b.corners b.is_city) ]
  | inr k ↦ inr (c.in_err-city.ensures.reads k.tiles.city k.are_tiles.is_city)
])

pub returns-in_err-parcels-clause-loads : goal.returns-in_err-parcels-clause-loads
returns-in_err-parcels-clause-loads g c = λ tiles regions h.
    let parcels = subst (IsToldOfLayer Parcels (files_of c.args.parcels.now) c.args.unit c.in_ok-city.city.ring.corners)
    c.in_err-parcels.was c.read_both-parcels.ensures.parcels in
    passed_if _ _ _ c.from_residual-in_err-parcels.ensures.1
    (parcels.loads tiles
    (tiled_in (files_of c.args.city.now) (files_of c.args.parcels.now) c.args.unit c.in_ok-city.city.ring.corners
    tiles.city tiles c.in_ok-city.ensures.reads
    h.are_tiles.is_city h.are_tiles.is_tiled))

pub returns-in_err-parcels-clause-refuses : goal.returns-in_err-parcels-clause-refuses
returns-in_err-parcels-clause-refuses g c = λ fault h.
    let parcels = subst (IsToldOfLayer Parcels (files_of c.args.parcels.now) c.args.unit c.in_ok-city.city.ring.corners)
    c.in_err-parcels.was c.read_both-parcels.ensures.parcels in
    let e = c.in_err-parcels.field-0.0 in
    passed_on _ e (λ told. (told ≡ fault) ⊎ (told ≡ NoMemory)) c.from_residual-in_err-parcels.ensures.1
    (by_layer (files_of c.args.city.now) (files_of c.args.parcels.now) (files_of c.args.zones.now) c.args.unit
    c.in_ok-city.city.ring.corners
    ((e ≡ fault) ⊎ (e ≡ NoMemory)) fault c.in_ok-city.ensures.reads h
    (λ k. absurd (c.in_ok-city.ensures.refuses fault k))
    (λ k. parcels.refuses fault k)
    (λ tiles is k. inr (parcels.loads tiles is)))

pub returns-in_err-zones-clause-fault : goal.returns-in_err-zones-clause-fault
returns-in_err-zones-clause-fault g c =
    let parcels = subst (IsToldOfLayer Parcels (files_of c.args.parcels.now) c.args.unit c.in_ok-city.city.ring.corners)
    c.in_ok-parcels.was c.read_both-parcels.ensures.parcels in
    let zones = subst (IsToldOfLayer Zones (files_of c.args.zones.now) c.args.unit c.in_ok-city.city.ring.corners)
    c.in_err-zones.was c.read_both-parcels.ensures.zones in
    passed_if _ _ _ c.from_residual-in_err-zones.ensures.1
    (of_zones (files_of c.args.city.now) (files_of c.args.parcels.now) (files_of c.args.zones.now) c.args.unit
    c.in_ok-city.city.ring.corners
    c.in_ok-parcels.parcels c.in_err-zones.field-0.0 c.in_ok-city.ensures.city parcels.layer zones.fault)

pub returns-in_err-zones-clause-loads : goal.returns-in_err-zones-clause-loads
returns-in_err-zones-clause-loads g c = λ tiles regions h.
    let zones = subst (IsToldOfLayer Zones (files_of c.args.zones.now) c.args.unit c.in_ok-city.city.ring.corners)
    c.in_err-zones.was c.read_both-parcels.ensures.zones in
    passed_if _ _ _ c.from_residual-in_err-zones.ensures.1
    (zones.loads regions
    (tiled_in (files_of c.args.city.now) (files_of c.args.zones.now) c.args.unit c.in_ok-city.city.ring.corners
    tiles.city regions c.in_ok-city.ensures.reads
    h.are_tiles.is_city h.are_regions))

pub returns-in_err-zones-clause-refuses : goal.returns-in_err-zones-clause-refuses
returns-in_err-zones-clause-refuses g c = λ fault h.
    let parcels = subst (IsToldOfLayer Parcels (files_of c.args.parcels.now) c.args.unit c.in_ok-city.city.ring.corners)
    c.in_ok-parcels.was c.read_both-parcels.ensures.parcels in
    let zones = subst (IsToldOfLayer Zones (files_of c.args.zones.now) c.args.unit c.in_ok-city.city.ring.corners)
    c.in_err-zones.was c.read_both-parcels.ensures.zones in
    let e = c.in_err-zones.field-0.0 in
    passed_on _ e (λ told. (told ≡ fault) ⊎ (told ≡ NoMemory)) c.from_residual-in_err-zones.ensures.1
    (by_layer (files_of c.args.city.now) (files_of c.args.parcels.now) (files_of c.args.zones.now) c.args.unit
    c.in_ok-city.city.ring.corners
    ((e ≡ fault) ⊎ (e ≡ NoMemory)) fault c.in_ok-city.ensures.reads h
    (λ k. absurd (c.in_ok-city.ensures.refuses fault k))
    (λ k. absurd (parcels.refuses fault k))
    (λ tiles is k. zones.refuses fault k))

pub returns-clause-refuses : goal.returns-clause-refuses
returns-clause-refuses g c = λ fault h.
    let parcels = subst (IsToldOfLayer Parcels (files_of c.args.parcels.now) c.args.unit c.in_ok-city.city.ring.corners)
    c.in_ok-parcels.was c.read_both-parcels.ensures.parcels in
    let zones = subst (IsToldOfLayer Zones (files_of c.args.zones.now) c.args.unit c.in_ok-city.city.ring.corners)
    c.in_ok-zones.was c.read_both-parcels.ensures.zones in
    by_layer (files_of c.args.city.now) (files_of c.args.parcels.now) (files_of c.args.zones.now) c.args.unit c.in_ok-city.city.ring.corners
    _ fault c.in_ok-city.ensures.reads h
    (λ k. absurd (c.in_ok-city.ensures.refuses fault k))
    (λ k. absurd (parcels.refuses fault k))
    (λ tiles is k. absurd (zones.refuses fault k))
