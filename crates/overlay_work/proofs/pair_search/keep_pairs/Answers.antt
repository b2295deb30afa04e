use Rattle.std.proofs.Common.{rules, ◌≡◌, ◌∙◌, sym, refl, ap, subst, length, ◌++◌, get_or}
use Rattle.std.specs.List.{Contains}
use Rattle.std.specs.List.Sorted.{IsStrictlyIncreasing}
use Rattle.std.proofs.lemmas.List.{get_or_default}
use Rattle.overlay_work.specs.own.Kept.{KeepsFound, KeepsPairs}
use Rattle.geo_exact.specs.Layers.{numbered}
use Rattle.ring_core.specs.Simple.{IsSimpleRing}
use Rattle.fabric_core.specs.Rows.{numbers}
use Rattle.fabric_core.proofs.rows.RowLists.{has_row, has_number}
use Rattle.overlay_work.proofs.ZonesFound.{member_of_all}
use Rattle.overlay_work.proofs.Boxes.{box_goes_east, box_goes_north, are_pairs}
use Rattle.overlay_work.proofs.pair_search.keep_pairs.Goals as goal

pub unreachable-requires : goal.unreachable-requires
unreachable-requires g c =
    let row = has_row c.sheet-sheet.result.now.now.rows c.args.id (subst (λ rows. Contains (numbers rows) c.args.id)
    (sym c.sheet-sheet.ensures.rows) c.requires) in
    c.in_default.ensures (numbered c.args.id row.0) row.1 refl

pub candidates-requires-clause-eastward : goal.candidates-requires-clause-eastward
candidates-requires-clause-eastward g c =
    let parcel = c.in-Some.parcel.now in
    let row = numbered c.args.id parcel.ring.corners in
    box_goes_east parcel.ring.corners parcel.bounds
    (member_of_all (λ row. IsSimpleRing row.corners) c.sheet-sheet.result.now.now.rows row c.use_invariant.ensures.simple
    c.in-Some.ensures) parcel.least_box

pub candidates-requires-clause-northward : goal.candidates-requires-clause-northward
candidates-requires-clause-northward g c =
    let parcel = c.in-Some.parcel.now in
    let row = numbered c.args.id parcel.ring.corners in
    box_goes_north parcel.ring.corners parcel.bounds
    (member_of_all (λ row. IsSimpleRing row.corners) c.sheet-sheet.result.now.now.rows row c.use_invariant.ensures.simple
    c.in-Some.ensures) parcel.least_box

pub keep_found-requires-clause-here : goal.keep_found-requires-clause-here
keep_found-requires-clause-here g c k d less =
    let zones = c.zones-zones.result.now.rows in
    let zone = get_or c.as_slice.result.now k d in
    let here : Contains c.as_slice.result.now zone = (k, less, get_or_default c.as_slice.result.now k zone d less) in
    let candidate = (c.in_ok-candidates.ensures.exactly zone).0 (subst (λ l. Contains l zone) c.as_slice.ensures.value here) in
    subst (Contains (numbers zones)) candidate.has_id (has_number zones candidate.row candidate.is_row)

pub returns-clause-ok : goal.returns-clause-ok
returns-clause-ok g c =
    let task = c.args.work.now in
    let rows = c.sheet-sheet.result.now.now.rows in
    let zones = c.zones-zones.result.now.rows in
    let city = c.zones-zones.result.now.city in
    let parcel = c.in-Some.parcel.now in
    let ring = parcel.ring.corners in
    let candidates = c.in_ok-candidates.candidates.items in
    let told = c.in_ok-candidates.ensures in
    let up : IsStrictlyIncreasing (numbers rows) = subst IsStrictlyIncreasing c.ids.ensures.ids c.ids.ensures.ascending in
    let found = subst (λ l. KeepsFound zones ring c.args.id l c.reserve.new.self.items c.keep_found.new.kept.items)
    c.as_slice.ensures.value c.keep_found.ensures in
    let count : c.len-2.result ≡ length candidates = search rules in
    let made : KeepsPairs (record task { rows = rows; zones = zones; city = city }) c.args.id c.args.kept.now.items
    c.keep_found.new.kept.items c.len-2.result = record {
      pairs = found.pairs;
      are_pairs = are_pairs rows zones c.args.id ring candidates found.pairs up c.in-Some.ensures
          (λ row is meets. told.meeting row ring is parcel.least_box.holds meets) found.are_found;
      kept = found.kept ∙ ap (λ l. l ++ found.pairs) c.in_ok-reserve.ensures.items;
      candidates = candidates;
      are_candidates = record {
        parcel = numbered c.args.id ring;
        is_row = c.in-Some.ensures;
        has_id = refl;
        box = parcel.bounds;
        is_its_box = parcel.least_box;
        ascend = told.ascend;
        exactly = told.exactly;
      };
      tests = count;
    } in
    subst (λ t. KeepsPairs t c.args.id c.args.kept.now.items c.keep_found.new.kept.items c.len-2.result)
    (λ i. record task {
      rows = c.sheet-sheet.ensures.rows i;
      zones = c.zones-zones.ensures.zones i;
      city =
          c.zones-zones.ensures.city i;
    }) made
