use Rattle.std.proofs.Common.{◌≡◌, ◌∙◌, sym, refl, ap, subst, arith, [], ◌+◌, get_or, take, true≢false, append-nil}
use Rattle.std.specs.List.{Contains}
use Rattle.std.specs.Vec.{vec_len, vec_capacity}
use Rattle.std.specs.List.Sorted.{IsStrictlyIncreasing}
use Rattle.std.proofs.lemmas.List.{take_all, get_or_default}
use Rattle.std.proofs.lemmas.List.Elements.{All-contains}
use Rattle.geo_exact.specs.Layers.{numbered}
use Rattle.geo_exact.specs.Interiors.{InteriorsMeet}
use Rattle.fabric_core.specs.Rows.{numbers}
use Rattle.fabric_core.proofs.rows.RowLists.{has_row}
use Rattle.overlay_work.specs.own.Kept.{KeepsFound, MeetsZone}
use Rattle.overlay_work.proofs.ZonesFound.{none_found, keeps_more, keeps_no_more, not_met}
use Rattle.overlay_work.proofs.pair_search.keep_found.Goals.{then-shapes_overlap, else-shapes_overlap}
use Rattle.overlay_work.proofs.pair_search.keep_found.Goals as goal

pub loop-zone-init : goal.loop-zone-init
loop-zone-init g c = record {
  found = record {
    pairs = [];
    kept = sym (append-nil c.args.kept.now.items);
    are_found =
        none_found c.args.zones.now.rows c.args.parcel.now.ring.corners c.args.id;
  };
  room = omega (arith, c.requires.room);
}

pub unreachable-requires : goal.unreachable-requires
unreachable-requires g c =
    let zone = get_or c.args.candidates.now c.loop-zone.zone-index 0 in
    let named = All-contains (Contains (numbers c.args.zones.now.rows)) c.args.candidates.now zone c.requires.here (
      c.loop-zone.zone-index,
      c.loop-zone-test.true,
      get_or_default c.args.candidates.now c.loop-zone.zone-index zone 0
          c.loop-zone-test.true,
    ) in
    let row = has_row c.args.zones.now.rows zone named in
    c.in_default.ensures (numbered zone row.0) row.1 refl

pub push_reserved-requires : goal.push_reserved-requires
push_reserved-requires g c = omega (arith, c.loop-zone.invariant.room, c.loop-zone-test.true)

pub loop-zone-preserved : goal.loop-zone-preserved
loop-zone-preserved g c =
    let zones = c.args.zones.now.rows in
    let ring = c.args.parcel.now.ring.corners in
    let candidates = c.args.candidates.now in
    let k = c.loop-zone.zone-index in
    let zone = get_or candidates k 0 in
    let region = c.in-Some.shape.now.ring.corners in
    let up : IsStrictlyIncreasing (numbers zones) = subst IsStrictlyIncreasing c.ids.ensures.ids c.ids.ensures.ascending in
    let here : Contains zones (numbered zone region) = c.in-Some.ensures in
    elim c.if-shapes_overlap.branch [
      | then-shapes_overlap w ↦
          (let meets : MeetsZone zones ring zone = record {
            region = numbered zone region;
            is_zone = here;
            has_number = refl;
            interiors_meet = c.shapes_overlap.ensures.0 w.if-shapes_overlap.true;
          } in
          let more = keeps_more zones ring c.args.id candidates k c.args.kept.now.items c.loop-zone.kept.items
          c.requires.ascend c.loop-zone-test.true c.loop-zone.invariant.found meets in
          let at = ap (λ v. v.items) w.kept-is ∙ w.push_reserved.ensures.items in
          let len = ap vec_len w.kept-is ∙ w.push_reserved.ensures.len in
          let room = ap vec_capacity w.kept-is ∙ w.push_reserved.ensures.capacity in
          record {
            found = subst (λ l. KeepsFound zones ring c.args.id (take (k + 1) candidates) c.args.kept.now.items l) (sym at) more;
            room = omega (arith, len, room, c.loop-zone.invariant.room, c.loop-zone-test.true);
          })
      | else-shapes_overlap w ↦
          (let apart : InteriorsMeet ring region → ⊥ =
          (λ h. absurd (true≢false (sym (c.shapes_overlap.ensures.1 h) ∙ w.if-shapes_overlap.false))) in
          let same = keeps_no_more zones ring c.args.id candidates k c.args.kept.now.items c.loop-zone.kept.items
          c.loop-zone-test.true c.loop-zone.invariant.found
          (not_met zones ring zone region up here apart) in
          record {
            found = subst (λ l. KeepsFound zones ring c.args.id (take (k + 1) candidates) c.args.kept.now.items l)
                (sym (ap (λ v. v.items) w.kept-is)) same;
            room = (let len = ap vec_len w.kept-is in let room = ap vec_capacity w.kept-is in
                omega (arith, len, room, c.loop-zone.invariant.room, c.loop-zone-test.true));
          })
    ]

pub returns : goal.returns
returns g c =
    let whole : take c.loop-zone.zone-index c.args.candidates.now ≡ c.args.candidates.now =
    take_all c.loop-zone.zone-index c.args.candidates.now (omega (arith, c.loop-zone-test.false)) in
    subst (λ l. KeepsFound c.args.zones.now.rows c.args.parcel.now.ring.corners c.args.id l c.args.kept.now.items
    c.loop-zone.kept.items) whole c.loop-zone.invariant.found
