use Rattle.std.proofs.Common.{◌∷◌, [], length, ap, subst, arith}
use Rattle.std.specs.List.{AllZip}
use Rattle.std.proofs.lemmas.List.{length-append}
use Rattle.std.proofs.lemmas.Slice.Zip.{AllZip-long}
use Rattle.geo_exact.specs.Layers.{rings_of}
use Rattle.edge_chains.specs.Noding.{IsNoded}
use Rattle.fabric_core.specs.Tiling.{corner_lists}
use Rattle.fabric_core.proofs.refine.refine.Goals as goal

pub begun-requires-clause-some : goal.begun-requires-clause-some
begun-requires-clause-some g c =
    omega (
      arith,
      ap length c.in_ok-all.ensures.rings,
      length-append (corner_lists (rings_of c.args.records.items)) (c.args.city.now ∷ []),
    )

pub begun-requires-clause-noded : goal.begun-requires-clause-noded
begun-requires-clause-noded g c =
    subst (λ rings. AllZip (λ ring out. IsNoded ring c.in_ok-all.all.corners.items out) rings c.in_ok-noded.noded.items)
    c.deref.ensures.value
    (subst (λ corners. AllZip (λ ring out. IsNoded ring corners out) c.deref.result.now c.in_ok-noded.noded.items)
    c.deref-2.ensures.value c.in_ok-noded.ensures.noded)

pub begun-requires-clause-as_many : goal.begun-requires-clause-as_many
begun-requires-clause-as_many g c =
    AllZip-long (λ ring out. IsNoded ring c.in_ok-all.all.corners.items out) c.in_ok-all.all.rings.items c.in_ok-noded.noded.items
    (begun-requires-clause-noded g c)

pub returns-clause-city : goal.returns-clause-city
returns-clause-city g c =
    (c.begun.ensures (rings_of c.args.records.items) c.args.city.now c.in_ok-all.ensures.numbers c.in_ok-all.ensures.rings).0

pub returns-clause-noded : goal.returns-clause-noded
returns-clause-noded g c =
    (c.begun.ensures (rings_of c.args.records.items) c.args.city.now c.in_ok-all.ensures.numbers c.in_ok-all.ensures.rings).1
