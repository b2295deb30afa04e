use Rattle.std.proofs.Common.{◌≡◌, ◌*◌, sym, subst, length, arith, List}
use Rattle.std.specs.List.Sorted.{IsStrictlyIncreasing}
use Rattle.std.proofs.lemmas.Int.{ints}
use Rattle.geo_exact.specs.declared.corner.Corner.{Corner}
use Rattle.geo_exact.specs.Layers.{NumberedRing, numbered}
use Rattle.fabric_core.proofs.rows.RowLists.{ascending, same_row}
use Rattle.common_areas.specs.Common.{common_area2}
use Rattle.area_shares.specs.own.Rounded.{IsRounded}
use Rattle.area_shares.proofs.zones.share_of.Goals as goal

pub of_parts-requires-clause-small : goal.of_parts-requires-clause-small
of_parts-requires-clause-small g c = record {
  low = omega (arith, ints, c.requires, c.common_parts.ensures.bound.low);
  high = omega (arith, ints, c.requires, c.common_parts.ensures.bound.high);
}

pub returns : goal.returns
returns g c = λ id.
    let r = c.args.parcel.now in
    let rows = c.args.zones.now.rows in
    let ring = c.in_ok-ring.ring.now.corners in
    let found : NumberedRing = numbered c.args.zone ring in
    record {
      has_zone = c.of_parts.ensures.zone;
      rounded = λ zone is e.
          let same : found ≡ zone =
          same_row rows found zone (ascending rows (subst IsStrictlyIncreasing c.ids.ensures.ids c.ids.ensures.ascending))
          c.in_ok-ring.ensures is (sym e) in
          let P : List Corner → Type 0 = λ ring. IsRounded (length r * length ring) (common_area2 r ring) c.of_parts.result.least
          c.of_parts.result.has_next in
          subst (λ (z : NumberedRing). P z.corners) same
          (subst P c.as_slice.ensures (c.of_parts.ensures.rounded (common_area2 r c.as_slice.result.now)
          (length r * length c.as_slice.result.now) c.common_parts.ensures.lost c.common_parts.ensures.counted));
    }
