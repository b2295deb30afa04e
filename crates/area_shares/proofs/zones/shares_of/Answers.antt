use Rattle.std.proofs.Common.{ℕ, get_or, refl}
use Rattle.std.specs.List.{Contains}
use Rattle.std.proofs.lemmas.List.{get_or_default}
use Rattle.std.proofs.lemmas.List.Elements.{Contains-get_or}
use Rattle.edge_chains.proofs.nodings.NodedEdges.{AllZip-more}
use Rattle.geo_exact.specs.Layers.{numbered}
use Rattle.fabric_core.specs.Rows.{numbers}
use Rattle.fabric_core.proofs.tilings.OneParcel.{of_each}
use Rattle.fabric_core.proofs.rows.RowLists.{has_row}
use Rattle.area_shares.specs.own.Parcels.{IsShareOf}
use Rattle.area_shares.proofs.zones.shares_of.Goals as goal

pub loop-pair-preserved : goal.loop-pair-preserved
loop-pair-preserved g c =
    let here = c.args.here.now in let pair = get_or here c.loop-pair.pair-index (0, 0) in
    rw c.in_ok-push.ensures.items
    (AllZip-more (IsShareOf c.args.parcel.now c.args.zones.now.rows) here c.loop-pair.shares.items c.loop-pair.pair-index pair
    c.in-Some.share
    c.loop-pair-test.true (get_or_default here c.loop-pair.pair-index (0, 0) pair c.loop-pair-test.true) c.loop-pair.invariant
    (c.in-Some.ensures pair.0))

pub returns-in_default : goal.returns-in_default
returns-in_default g c =
    let here = c.args.here.now in let pair = get_or here c.loop-pair.pair-index (0, 0) in
    let named = of_each (λ (p : ℕ × ℕ). Contains (numbers c.args.zones.now.rows) p.1) here pair c.requires.zones
    (Contains-get_or here c.loop-pair.pair-index (0, 0) c.loop-pair-test.true) in
    let w = has_row c.args.zones.now.rows pair.1 named in
    absurd (c.in_default.ensures (numbered pair.1 w.0) w.1 refl)
