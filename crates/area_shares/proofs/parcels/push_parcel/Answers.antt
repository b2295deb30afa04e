use Rattle.std.proofs.Common.{ℕ, ◌≡◌, ◌≤◌, ◌∙◌, refl, sym, ap, subst, length, get_or, arith, to_z, of_z, ◌++◌, ◌∷◌, []}
use Rattle.std.specs.Int.{w128}
use Rattle.std.specs.List.{Contains}
use Rattle.std.proofs.lemmas.List.Elements.{Contains-get_or}
use Rattle.std.proofs.lemmas.Int.{ints}
use Rattle.std.proofs.lemmas.Result.{on_ok_weaker}
use Rattle.geo_exact.specs.Area.{area2}
use Rattle.geo_exact.specs.Layers.{NumberedRing, numbered}
use Rattle.geo_exact.specs.declared.limits.TheConstants.{RING_CORNERS}
use Rattle.fabric_core.specs.Rows.{numbers}
use Rattle.fabric_core.proofs.tilings.OneParcel.{of_each}
use Rattle.fabric_core.proofs.rows.RowLists.{has_row}
use Rattle.area_shares.specs.own.Parcels.{AddsParcel, AreSharesOf, IsShareOf}
use Rattle.area_shares.specs.own.Rounded.{line_of, AddsShares, AddsTwo}
use Rattle.area_shares.proofs.ParcelLines.{
  AreLaid,
  are_laid,
  the_parcel,
  one_pair,
  two_pairs,
  lines_of_two,
  zones_named,
  shares_counted,
  fewer_rows,
  few_pairs,
  lines_of_shares,
  line_alone,
}
use Rattle.area_shares.proofs.parcels.push_parcel.Goals as goal

pub returns-in_default : goal.returns-in_default
returns-in_default g c =
    let w = the_parcel c.args.parcels.now.now.rows c.args.zones.now.rows c.args.id c.args.here.now c.requires.pairs c.requires.some in
    absurd (c.in_default.ensures w.0 w.1 w.2)

pub returns-then-here-eq1 : goal.returns-then-here-eq1
returns-then-here-eq1 g c =
    let rows = c.args.parcels.now.now.rows in let zones = c.args.zones.now.rows in
    let laid : AreLaid rows zones c.args.parcels.now.city =
    are_laid rows zones c.args.parcels.now.city c.args.zones.now.city c.ids.result c.ids-2.result c.use_invariant.ensures.tiling
    c.use_invariant-2.ensures.tiling
    c.requires.city c.ids.ensures.ids c.ids-2.ensures.ids c.ids.ensures.ascending c.ids-2.ensures.ascending in
    let ring = c.in-Some.ring.now.corners in let here = c.args.here.now in let old = c.args.lines.now.items in
    let zone = (get_or here 0 (0, 0)).1 in
    let total : to_z w128 (of_z w128 c.area2-total.result) ≡ area2 ring =
    omega (arith, ints, c.area2-total.ensures.value, ap area2 c.as_slice-corners.ensures) in
    subst (AddsParcel rows zones c.args.id here old) (sym (c.in_ok-push.ensures.items ∙ ap
    (λ area. old ++ line_of c.args.id zone area ∷ []) total))
    (line_alone rows zones c.args.parcels.now.city laid c.args.id here c.requires.pairs (numbered c.args.id ring) c.in-Some.ensures refl
    zone old
    (one_pair c.args.id here c.requires.pairs.same c.if-here-eq1.true))

pub shares_of-requires-clause-zones : goal.shares_of-requires-clause-zones
shares_of-requires-clause-zones g c =
    zones_named c.args.parcels.now.now.rows c.args.zones.now.rows c.args.id c.args.here.now c.requires.pairs

pub push_shares-requires-clause-some : goal.push_shares-requires-clause-some
push_shares-requires-clause-some g c =
    omega (
      arith,
      c.requires.some,
      ap length c.as_slice.ensures.value,
      shares_counted c.as_slice-corners.result.now c.args.zones.now.rows c.args.here.now c.in_ok-shares.shares.items c.in_ok-shares.ensures,
    )

pub push_shares-requires-clause-count : goal.push_shares-requires-clause-count
push_shares-requires-clause-count g c =
    let rows = c.args.parcels.now.now.rows in let zones = c.args.zones.now.rows in
    let laid : AreLaid rows zones c.args.parcels.now.city =
    are_laid rows zones c.args.parcels.now.city c.args.zones.now.city c.ids.result c.ids-2.result c.use_invariant.ensures.tiling
    c.use_invariant-2.ensures.tiling
    c.requires.city c.ids.ensures.ids c.ids-2.ensures.ids c.ids.ensures.ascending c.ids-2.ensures.ascending in
    omega (
      arith,
      ap length c.as_slice.ensures.value,
      shares_counted c.as_slice-corners.result.now zones c.args.here.now c.in_ok-shares.shares.items c.in_ok-shares.ensures,
      few_pairs rows zones c.args.parcels.now.city laid c.args.id c.args.here.now c.requires.pairs
          (numbered c.args.id c.in-Some.ring.now.corners)
          c.in-Some.ensures refl,
      fewer_rows zones c.use_invariant-2.ensures.simple,
      c.use_invariant-2.ensures.within.together,
    )

pub push_shares-requires-clause-small : goal.push_shares-requires-clause-small
push_shares-requires-clause-small g c =
    let l : length c.in-Some.ring.now.corners ≤ RING_CORNERS =
    of_each (λ (row : NumberedRing). length row.corners ≤ RING_CORNERS) c.args.parcels.now.now.rows
    (numbered c.args.id c.in-Some.ring.now.corners)
    c.use_invariant.ensures.within.each c.in-Some.ensures in
    record {
      low = omega (arith, ints, l, ap length c.as_slice-corners.ensures, c.area2-total.ensures.bound.low);
      high = omega (arith, ints, l, ap length c.as_slice-corners.ensures, c.area2-total.ensures.bound.high);
    }

pub returns : goal.returns
returns g c =
    let rows = c.args.parcels.now.now.rows in let zones = c.args.zones.now.rows in
    let laid : AreLaid rows zones c.args.parcels.now.city =
    are_laid rows zones c.args.parcels.now.city c.args.zones.now.city c.ids.result c.ids-2.result c.use_invariant.ensures.tiling
    c.use_invariant-2.ensures.tiling
    c.requires.city c.ids.ensures.ids c.ids-2.ensures.ids c.ids.ensures.ascending c.ids-2.ensures.ascending in
    let ring = c.in-Some.ring.now.corners in let here = c.args.here.now in
    let old = c.args.lines.now.items in let new = c.push_shares.new.lines.items in let shares = c.as_slice.result.now in
    let total : to_z w128 (of_z w128 c.area2-total.result) ≡ area2 ring =
    omega (arith, ints, c.area2-total.ensures.value, ap area2 c.as_slice-corners.ensures) in
    let are : AreSharesOf ring zones here shares =
    subst (AreSharesOf ring zones here) (sym c.as_slice.ensures.value)
    (subst (λ r. AreSharesOf r zones here c.in_ok-shares.shares.items) c.as_slice-corners.ensures c.in_ok-shares.ensures) in
    let adds : AddsShares c.args.id (to_z w128 (of_z w128 c.area2-total.result)) shares old new
    → AddsParcel rows zones c.args.id here old new =
    λ h. lines_of_shares rows zones c.args.parcels.now.city laid c.args.id here c.requires.pairs (numbered c.args.id ring)
    c.in-Some.ensures refl
    shares old new are (subst (λ t. AddsShares c.args.id t shares old new) total h) in
    on_ok_weaker c.push_shares.result adds c.push_shares.ensures

pub returns-in_default-share_of : goal.returns-in_default-share_of
returns-in_default-share_of g c =
    let zones = c.args.zones.now.rows in let here = c.args.here.now in
    let named = of_each (λ (p : ℕ × ℕ). Contains (numbers zones) p.1) here (get_or here 0 (0, 0))
    (zones_named c.args.parcels.now.now.rows zones c.args.id here c.requires.pairs) (Contains-get_or here 0 (0, 0) c.requires.some) in
    let w = has_row zones (get_or here 0 (0, 0)).1 named in
    absurd (c.in_default-share_of.ensures (numbered (get_or here 0 (0, 0)).1 w.0) w.1 refl)

pub push_two-requires : goal.push_two-requires
push_two-requires g c =
    let l : length c.in-Some.ring.now.corners ≤ RING_CORNERS =
    of_each (λ (row : NumberedRing). length row.corners ≤ RING_CORNERS) c.args.parcels.now.now.rows
    (numbered c.args.id c.in-Some.ring.now.corners) c.use_invariant.ensures.within.each c.in-Some.ensures in
    record {
      low = omega (arith, ints, l, ap length c.as_slice-corners.ensures, c.area2-total.ensures.bound.low);
      high = omega (arith, ints, l, ap length c.as_slice-corners.ensures, c.area2-total.ensures.bound.high);
    }

pub returns-then-here-eq2 : goal.returns-then-here-eq2
returns-then-here-eq2 g c =
    let rows = c.args.parcels.now.now.rows in let zones = c.args.zones.now.rows in
    let laid : AreLaid rows zones c.args.parcels.now.city =
    are_laid rows zones c.args.parcels.now.city c.args.zones.now.city c.ids.result c.ids-2.result c.use_invariant.ensures.tiling
    c.use_invariant-2.ensures.tiling
    c.requires.city c.ids.ensures.ids c.ids-2.ensures.ids c.ids.ensures.ascending c.ids-2.ensures.ascending in
    let ring = c.in-Some.ring.now.corners in let here = c.args.here.now in
    let old = c.args.lines.now.items in let new = c.push_two.new.lines.items in let share = c.in-Some-share_of.share in
    let zone = (get_or here 0 (0, 0)).1 in let other = (get_or here 1 (0, 0)).1 in
    let total : to_z w128 (of_z w128 c.area2-total.result) ≡ area2 ring =
    omega (arith, ints, c.area2-total.ensures.value, ap area2 c.as_slice-corners.ensures) in
    let told : IsShareOf c.as_slice-corners.result.now zones (c.args.id, zone) share = c.in-Some-share_of.ensures c.args.id in
    let is : IsShareOf ring zones (c.args.id, share.zone) share =
    subst (λ z. IsShareOf ring zones (c.args.id, z) share) (sym told.has_zone)
    (subst (λ r. IsShareOf r zones (c.args.id, zone) share) c.as_slice-corners.ensures told) in
    let pairs : here ≡ (c.args.id, share.zone) ∷ (c.args.id, other) ∷ [] =
    two_pairs c.args.id here c.requires.pairs.same c.if-here-eq2.true
    ∙ ap (λ z. (c.args.id, z) ∷ (c.args.id, other) ∷ []) (sym told.has_zone) in
    let adds : AddsTwo c.args.id (to_z w128 (of_z w128 c.area2-total.result)) share other old new
    → AddsParcel rows zones c.args.id here old new =
    λ h. lines_of_two rows zones c.args.parcels.now.city laid c.args.id here c.requires.pairs (numbered c.args.id ring) c.in-Some.ensures
    refl
    share other old new pairs is (subst (λ t. AddsTwo c.args.id t share other old new) total h) in
    on_ok_weaker c.push_two.result adds c.push_two.ensures
