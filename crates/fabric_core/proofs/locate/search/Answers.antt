use Rattle.std.proofs.Common.{◌≡◌, ◌≤◌, ◌+◌, ◌++◌, ◌∷◌, sym, ◌∙◌, ap, subst, drop, length}
use Rattle.std.specs.List.{Contains}
use Rattle.std.proofs.lemmas.List.Elements.{Contains-get_or}
use Rattle.geo_exact.specs.Layers.{numbered}
use Rattle.geo_exact.specs.Point.{corner_point}
use Rattle.geo_exact.specs.Bounds.{holds_corner}
use Rattle.geo_exact.specs.declared.limits.TheConstants.{RING_CORNERS}
use Rattle.ring_core.specs.Sides.{IsSide}
use Rattle.parcel_table.specs.Table.{rows_of_keyed}
use Rattle.parcel_table.proofs.Tables.{row_of_parcel}
use Rattle.fabric_core.proofs.places.Located.{none_searched, searched_on_edge, inside_row, searched_outside, found_all}
use Rattle.fabric_core.proofs.places.FromOneCell.{off_box, next_parcel, next_row, none_left}
use Rattle.fabric_core.proofs.locate.search.Goals.{in-OnEdge+in_ok-push-in-OnEdge, in-Outside}
use Rattle.fabric_core.proofs.locate.search.Goals as goal

pub loop-entry-init : goal.loop-entry-init
loop-entry-init g c = λ some same among rows h. none_searched (corner_point c.args.corner) rows (rows_of_keyed some) _ h

pub loop-entry-preserved-then-not-holds : goal.loop-entry-preserved-then-not-holds
loop-entry-preserved-then-not-holds g c = λ some same among rows h.
    let p = corner_point c.args.corner in
    let w = next_parcel some c.args.entries.now c.loop-entry.entry-index c.entry-item.result same c.loop-entry-test.true c.entry-item.is in
    let off = off_box w.parcel.shape.bounds w.parcel.shape.ring.corners c.args.corner w.parcel.shape.least_box.holds
    (ap (λ box. holds_corner box c.args.corner) (sym w.has_box) ∙ sym c.if-not-holds.ensures) in
    searched_outside p (rows ++ rows_of_keyed some) (drop c.loop-entry.entry-index (rows_of_keyed some))
    (drop (c.loop-entry.entry-index + 1) (rows_of_keyed some)) w.parcel.id w.parcel.shape.ring.corners c.loop-entry.on_edge.items
    (c.loop-entry.invariant some same among rows h) (next_row some c.loop-entry.entry-index c.entry-item.result w) off.0 off.1

pub at-parcel-requires : goal.at-parcel-requires
at-parcel-requires g c =
    let w = c.requires c.entry-item.result (subst (Contains c.args.entries.now) (sym c.entry-item.is)
    (Contains-get_or c.args.entries.now c.loop-entry.entry-index c.entry-item.result c.loop-entry-test.true)) in
    (w.0, w.1)

pub side_of-requires : goal.side_of-requires
side_of-requires g c =
    let w = c.requires c.entry-item.result (subst (Contains c.args.entries.now) (sym c.entry-item.is)
    (Contains-get_or c.args.entries.now c.loop-entry.entry-index c.entry-item.result c.loop-entry-test.true)) in
    subst (λ ring. length ring ≤ RING_CORNERS) (sym (c.as_slice.ensures ∙ ap (λ parcel. parcel.shape.ring.corners)
    (c.at-parcel.ensures w.0 w.1))) w.2

pub returns-in-Inside : goal.returns-in-Inside
returns-in-Inside g c = λ some same among rows h.
    let p = corner_point c.args.corner in let key = c.entry-item.result.key in let parcel = c.at-parcel.result.now in
    let w = next_parcel some c.args.entries.now c.loop-entry.entry-index c.entry-item.result same c.loop-entry-test.true c.entry-item.is in
    let there = subst (λ x. Contains some (key, x)) (sym (c.at-parcel.ensures w.parcel (among (key, w.parcel) w.is_there))) w.is_there in
    inside_row p (rows_of_keyed some) parcel.id parcel.shape.ring.corners (row_of_parcel some key parcel there)
    (subst (IsSide p parcel.shape.ring.corners) c.in-Inside.is
    (subst (λ r. IsSide p r c.side_of.result) c.as_slice.ensures c.side_of.ensures))

pub loop-entry-preserved : goal.loop-entry-preserved
loop-entry-preserved g c = λ some same among rows h.
    let p = corner_point c.args.corner in let i = c.loop-entry.entry-index in
    let w = next_parcel some c.args.entries.now i c.entry-item.result same c.loop-entry-test.true c.entry-item.is in
    let parcel = c.at-parcel.result.now in let ring = c.at-parcel.result.now.shape.ring.corners in
    let all = rows ++ rows_of_keyed some in let rest = drop i (rows_of_keyed some) in let left = drop (i + 1) (rows_of_keyed some) in
    let on_edge = c.loop-entry.on_edge.items in
    let next : rest ≡ numbered parcel.id ring ∷ left = next_row some i c.entry-item.result w
    ∙ ap (λ x. numbered x.id x.shape.ring.corners ∷ left)
    (sym (c.at-parcel.ensures w.parcel (among (c.entry-item.result.key, w.parcel) w.is_there))) in
    let side = subst (λ r. IsSide p r c.side_of.result) c.as_slice.ensures c.side_of.ensures in
    let before = c.loop-entry.invariant some same among rows h in
    elim c.match-side_of.branch [
      | in-OnEdge+in_ok-push-in-OnEdge v ↦ rw (v.on_edge-is, v.in_ok-push-in-OnEdge.ensures.items)
          (searched_on_edge p all rest left parcel.id ring on_edge before next (subst (IsSide p ring) v.in-OnEdge.is side))
      | in-Outside v ↦ rw v.on_edge-is
          (let out = subst (IsSide p ring) v.in-Outside.is side in
          searched_outside p all rest left parcel.id ring on_edge before next out.0 out.1)
    ]

pub returns : goal.returns
returns g c = λ some same among rows h.
    found_all (corner_point c.args.corner) (rows ++ rows_of_keyed some) (drop c.loop-entry.entry-index (rows_of_keyed some))
    c.loop-entry.on_edge.items
    (none_left some c.args.entries.now c.loop-entry.entry-index same c.loop-entry-test.false)
    (c.loop-entry.invariant some same among rows h)
