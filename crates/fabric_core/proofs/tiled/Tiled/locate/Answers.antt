use Rattle.std.proofs.Common.{ℕ, false, ◌≡◌, [], ◌++◌, sym, ◌∙◌, ap, subst, MatchOption}
use Rattle.geo_exact.specs.Point.{corner_point}
use Rattle.geo_exact.specs.Bounds.{holds_corner}
use Rattle.fabric_core.specs.Locate.{AreAllOnEdge, IsInsideOf}
use Rattle.fabric_core.specs.own.Kept.{Kept}
use Rattle.parcel_table.specs.Table.{rows_of_keyed, entries_of}
use Rattle.std.specs.List.{Contains}
use Rattle.geo_exact.proofs.boxes.InBoxes.{Decides-holds_corner}
use Rattle.fabric_core.specs.own.Sides.{IsFound}
use Rattle.fabric_core.proofs.places.Located.{none_found}
use Rattle.fabric_core.proofs.places.FromOneCell.{nothing_beyond, in_cell, beside_cells, entries_in_cell}
use Rattle.fabric_core.proofs.places.FromOneCell.{entries_beside, in_cell_among, beside_among, row_in_cell}
use Rattle.fabric_core.proofs.places.FromOneCell.{row_beside, inside_among, inside_alone, searchable, all_located}
use Rattle.fabric_core.proofs.tiled.Tiled.locate.Goals as goal

pub returns-then-not-holds : goal.returns-then-not-holds
returns-then-not-holds g c =
    let beyond : holds_corner c.self.inside.index.area c.args.corner ≡ false =
    ap (λ box. holds_corner box c.args.corner) (sym c.area.ensures)
    ∙ sym c.if-not-holds.ensures in
    subst (λ (t : Kept). AreAllOnEdge t.rows (corner_point c.args.corner) []
    × ((id : ℕ) → ¬ IsInsideOf t.rows (corner_point c.args.corner) id))
    c.self.view_is
    (nothing_beyond c.self.inside.index.area c.args.corner (rows_of_keyed c.self.inside.parcels.parcels) c.self.invariant.in_area beyond)

pub returns-in-Some : goal.returns-in-Some
returns-in-Some g c =
    let p = corner_point c.args.corner in
    subst (λ (t : Kept). AreAllOnEdge t.rows p [] × IsInsideOf t.rows p c.in-Some.id) c.self.view_is
    (inside_alone c.self.inside.parcels.parcels c.self.inside.city c.self.inside.refined c.self.inside.index p c.in-Some.id c.self.invariant
    (subst (λ (t : Kept). IsInsideOf t.rows p c.in-Some.id) (sym c.self.view_is) c.in-Some.ensures))

pub at-in_cell-requires : goal.at-in_cell-requires
at-in_cell-requires g c =
    (Decides-holds_corner c.self.inside.index.area c.args.corner).0
    (sym (c.if-not-holds.ensures ∙ ap (λ box. holds_corner box c.args.corner) c.area.ensures))

pub search-requires : goal.search-requires
search-requires g c = λ entry there.
    let all = c.self.inside.parcels.parcels in let area = c.self.inside.index.area in
    let in_its_cell = in_cell area c.args.corner all in
    searchable all in_its_cell c.self.invariant.within.each (in_cell_among area c.args.corner all) entry
    (subst (λ entries. Contains entries entry) (c.at-in_cell.ensures (entries_of all) c.self.invariant.indexed
    ∙ entries_in_cell area c.args.corner all) there)

pub search-requires-2 : goal.search-requires-2
search-requires-2 g c = λ entry there.
    let all = c.self.inside.parcels.parcels in let area = c.self.inside.index.area in
    searchable all (beside_cells area c.args.corner all) c.self.invariant.within.each (beside_among area c.args.corner all) entry
    (subst (λ entries. Contains entries entry) (c.beside-beside.ensures (entries_of all) c.self.invariant.indexed
    ∙ entries_beside area c.args.corner all) there)

pub returns-in-Some-2 : goal.returns-in-Some-2
returns-in-Some-2 g c =
    let all = c.self.inside.parcels.parcels in let area = c.self.inside.index.area in
    let corner = c.args.corner in let p = corner_point c.args.corner in let here = in_cell area corner all in
    let none : IsFound [] p c.new-on_edge.result.items = rw c.new-on_edge.ensures.items (none_found p) in
    let found = c.in_ok-id.ensures here (c.at-in_cell.ensures (entries_of all) c.self.invariant.indexed ∙ entries_in_cell area corner all)
    (in_cell_among area corner all) [] none in
    let inside = subst (λ i. MatchOption i (IsFound (rows_of_keyed here) p c.search.new.on_edge.items) (IsInsideOf (rows_of_keyed here) p))
    c.in-Some-2.is found in
    subst (λ (t : Kept). AreAllOnEdge t.rows p [] × IsInsideOf t.rows p c.in-Some-2.id) c.self.view_is
    (inside_alone all c.self.inside.city c.self.inside.refined c.self.inside.index p c.in-Some-2.id c.self.invariant
    (inside_among p (rows_of_keyed here) (rows_of_keyed all) c.in-Some-2.id (row_in_cell area corner all) inside))

pub returns-in-Some-3 : goal.returns-in-Some-3
returns-in-Some-3 g c =
    let all = c.self.inside.parcels.parcels in let area = c.self.inside.index.area in
    let corner = c.args.corner in let p = corner_point c.args.corner in
    let here = in_cell area corner all in let wide = beside_cells area corner all in
    let none : IsFound [] p c.new-on_edge.result.items = rw c.new-on_edge.ensures.items (none_found p) in
    let first = subst (λ i. MatchOption i (IsFound (rows_of_keyed here) p c.search.new.on_edge.items) (IsInsideOf (rows_of_keyed here) p))
    c.in_default-2.is (c.in_ok-id.ensures here (c.at-in_cell.ensures (entries_of all) c.self.invariant.indexed
    ∙ entries_in_cell area corner all)
    (in_cell_among area corner all) [] none) in
    let found = c.in_ok-id-2.ensures wide (c.beside-beside.ensures (entries_of all) c.self.invariant.indexed
    ∙ entries_beside area corner all)
    (beside_among area corner all) (rows_of_keyed here) first in
    let inside = subst (λ i. MatchOption i (IsFound (rows_of_keyed here ++ rows_of_keyed wide) p c.search-2.new.on_edge.items)
    (IsInsideOf (rows_of_keyed wide) p)) c.in-Some-3.is found in
    subst (λ (t : Kept). AreAllOnEdge t.rows p [] × IsInsideOf t.rows p c.in-Some-3.id) c.self.view_is
    (inside_alone all c.self.inside.city c.self.inside.refined c.self.inside.index p c.in-Some-3.id c.self.invariant
    (inside_among p (rows_of_keyed wide) (rows_of_keyed all) c.in-Some-3.id (row_beside area corner all) inside))

pub returns : goal.returns
returns g c =
    let all = c.self.inside.parcels.parcels in let area = c.self.inside.index.area in
    let corner = c.args.corner in let p = corner_point c.args.corner in
    let here = in_cell area corner all in let wide = beside_cells area corner all in
    let none : IsFound [] p c.new-on_edge.result.items = rw c.new-on_edge.ensures.items (none_found p) in
    let first = subst (λ i. MatchOption i (IsFound (rows_of_keyed here) p c.search.new.on_edge.items) (IsInsideOf (rows_of_keyed here) p))
    c.in_default-2.is (c.in_ok-id.ensures here (c.at-in_cell.ensures (entries_of all) c.self.invariant.indexed
    ∙ entries_in_cell area corner all)
    (in_cell_among area corner all) [] none) in
    let both = subst (λ i. MatchOption i (IsFound (rows_of_keyed here ++ rows_of_keyed wide) p c.search-2.new.on_edge.items)
    (IsInsideOf (rows_of_keyed wide) p)) c.in_default-3.is
    (c.in_ok-id-2.ensures wide (c.beside-beside.ensures (entries_of all) c.self.invariant.indexed ∙ entries_beside area corner all)
    (beside_among area corner all) (rows_of_keyed here) first) in
    c.on_edge_or_outside.ensures c.args.self.now.rows p
    (subst (λ (t : Kept). IsFound t.rows p c.search-2.new.on_edge.items) c.self.view_is
    (all_located area corner all c.search-2.new.on_edge.items both))
