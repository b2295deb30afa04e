-- A corner that is put into rings or taken out of them: what stays of each ring, and the renewals of rows.
use Rattle.std.proofs.Common.{◌≡◌, ◌⊎◌, inl, inr, ⊎_elim, sym, ◌∙◌, ap, subst, true, false, ◌&&◌, ℤ, ℕ, List, [], ◌∷◌, IsTrue}
use Rattle.std.specs.List.{AllByRecursion, Contains, list_any}
use Rattle.std.proofs.lemmas.Bool.{and_parts, false_from_ne_true, false≢true, or_cases}
use Rattle.geo_exact.specs.declared.bounds.Bounds.{Bounds}
use Rattle.geo_exact.specs.declared.corner.Corner.{Corner}
use Rattle.geo_exact.specs.Bounds.{IsLeastBox}
use Rattle.geo_exact.specs.Layers.{NumberedRing}
use Rattle.geo_exact.specs.Order.{is_same}
use Rattle.geo_exact.specs.Rings.{Edge, path, begun_at_least}
use Rattle.geo_exact.proofs.corners_and_turns.CornerOrder.{same_from_test}
use Rattle.edge_chains.proofs.nodings.NodedEdges.{Contains-here, Contains-there}
use Rattle.geo_exact.proofs.rings.Begun.{least_within, sum_over-begun}
use Rattle.ring_core.specs.Simple.{IsSimpleRing}
use Rattle.ring_edits.specs.Edits.{CoversAlike, has_corner, has_edge_between, joins, put_between}
use Rattle.ring_edits.proofs.PutEdges.{put_none, sum_over-put}
use Rattle.ring_edits.proofs.PutGround.{put_covers, with_corner_box}
use Rattle.ring_edits.proofs.StaySimple.{put_simple, without_simple}
use Rattle.ring_edits.proofs.Straight.{sum_over-straightened, sum_over-without, straightened_box, without_covers, without_none}
use Rattle.fabric_core.specs.declared.ring_change.RingChange.{RingChange}
use Rattle.fabric_core.specs.declared.ring_change.RingChange.TheVariants.{PutIn, TakeOut}
use Rattle.fabric_core.specs.EditResults.{IsChange, IsInsertOf, IsStraightenOf}
use Rattle.fabric_core.specs.Journal.{State}
use Rattle.fabric_core.specs.own.RingChanges.{KeepsGround, IsRenewalOf, changed_city, changed_ring, corner_of, edit_of}
use Rattle.fabric_core.specs.own.RingChanges.{is_changed}
use Rattle.fabric_core.proofs.rows.Alikes.{AddsUp, measured}

-- ---- a ring with an edge has the edge's ends
joins_end : (from to : Corner) (edge : Edge) → joins from to edge ≡ true → (edge.from ≡ from) ⊎ (edge.to ≡ from)
joins_end from to edge h = ⊎_elim
    (λ onward. inl (same_from_test edge.from from (and_parts (is_same edge.from from) (is_same edge.to to) onward).0))
    (λ back. inr (same_from_test edge.to from (and_parts (is_same edge.from to) (is_same edge.to from) back).1))
    (or_cases (is_same edge.from from && is_same edge.to to) (is_same edge.from to && is_same edge.to from) h)

path_end : (from to start : Corner) (rest : List Corner) (last : Corner) → list_any (joins from to) (path start rest last) ≡ true
    → (start ≡ from) ⊎ (Contains rest from ⊎ (last ≡ from))
path_end from to start [] last h = ⊎_elim
    (λ here. ⊎_elim (λ e. inl e) (λ e. inr (inr e)) (joins_end from to (record { from = start; to = last }) here))
    (λ none. absurd (false≢true none))
    (or_cases (joins from to (record { from = start; to = last })) false h)
path_end from to start (next ∷ rest) last h = ⊎_elim
    (λ here. ⊎_elim
    (λ e. inl e)
    (λ e. inr (inl (subst (Contains (next ∷ rest)) e (Contains-here next rest))))
    (joins_end from to (record { from = start; to = next }) here))
    (λ later. ⊎_elim
    (λ e. inr (inl (subst (Contains (next ∷ rest)) e (Contains-here next rest))))
    (λ there. ⊎_elim (λ k. inr (inl (Contains-there next rest from k))) (λ e. inr (inr e)) there)
    (path_end from to next rest last later))
    (or_cases (joins from to (record { from = start; to = next })) (list_any (joins from to) (path next rest last)) h)

has_end : (from to : Corner) (ring : List Corner) → has_edge_between from to ring ≡ true → Contains ring from
has_end from to [] h = absurd (false≢true h)
has_end from to (first ∷ rest) h = ⊎_elim
    (λ e. subst (Contains (first ∷ rest)) e (Contains-here first rest))
    (λ later. ⊎_elim (λ k. Contains-there first rest from k) (λ e. subst (Contains (first ∷ rest)) e
    (Contains-here first rest)) later)
    (path_end from to first rest first h)

-- a ring of which one is the corner has it
has_at : (at : Corner) (ring : List Corner) → has_corner at ring ≡ true → Contains ring at
has_at at [] h = absurd (false≢true h)
has_at at (first ∷ rest) h = ⊎_elim
    (λ here. subst (Contains (first ∷ rest)) (sym (same_from_test at first here)) (Contains-here first rest))
    (λ later. Contains-there first rest at (has_at at rest later))
    (or_cases (is_same at first) (has_corner at rest) h)

-- ---- measures
begun_measure : (measure : Edge → ℤ) (ring : List Corner) → measured measure (begun_at_least ring) ≡ measured measure ring
begun_measure measure ring = let w = least_within ring in ap (measured measure) w.2 ∙ sum_over-begun measure w.0 ring w.1

pub ring_measure : (measure : Edge → ℤ) → AddsUp measure → (change : RingChange) (ring : List Corner) → KeepsGround change ring
    → measured measure (changed_ring change ring) ≡ measured measure ring
ring_measure measure adds (PutIn from to at) ring h =
    begun_measure measure (put_between from to at ring) ∙ sum_over-put measure from to at ring (λ a b i. adds.cuts a b at i) h
ring_measure measure adds (TakeOut at) ring h = sum_over-straightened measure at ring (λ a b i. sym (adds.cuts a b at i)) h

pub city_measure : (measure : Edge → ℤ) → AddsUp measure → (change : RingChange) (ring : List Corner) → KeepsGround change ring
    → measured measure (changed_city change ring) ≡ measured measure ring
city_measure measure adds (PutIn from to at) ring h = sum_over-put measure from to at ring (λ a b i. adds.cuts a b at i) h
city_measure measure adds (TakeOut at) ring h = sum_over-without measure at ring (λ a b i. sym (adds.cuts a b at i)) h

-- ---- ground, boxes, corners
pub city_covers : (change : RingChange) (ring : List Corner) → KeepsGround change ring → CoversAlike ring (changed_city change ring)
city_covers (PutIn from to at) ring h = put_covers from to at ring h
city_covers (TakeOut at) ring h = without_covers at ring h

pub city_simple : (change : RingChange) (ring : List Corner) → KeepsGround change ring → IsSimpleRing ring
    → IsSimpleRing (changed_city change ring)
city_simple (PutIn from to at) ring h simple = put_simple from to at ring h simple
city_simple (TakeOut at) ring h simple = without_simple at ring h simple

pub box_kept : (change : RingChange) (box : Bounds) (ring : List Corner) → KeepsGround change ring → IsLeastBox box ring
    → IsLeastBox box (changed_ring change ring)
box_kept (PutIn from to at) box ring h k = with_corner_box box from to at ring h k
box_kept (TakeOut at) box ring h k = straightened_box box at ring h k

-- a ring that is not changed
pub city_stays : (change : RingChange) (ring : List Corner) → ¬ IsTrue (is_changed change ring) → changed_city change ring ≡ ring
city_stays (PutIn from to at) ring h = put_none from to at ring h
city_stays (TakeOut at) ring h = without_none at ring (false_from_ne_true (has_corner at ring) h)

-- a ring that is changed has the corner
pub has_its_corner : (change : RingChange) (ring : List Corner) → is_changed change ring ≡ true → Contains ring (corner_of change)
has_its_corner (PutIn from to at) ring h = has_end from to ring h
has_its_corner (TakeOut at) ring h = has_at at ring h

-- ---- the edits that make a change
all_of : (P : NumberedRing → Type 0) → ((row : NumberedRing) → P row) → (rows : List NumberedRing) → AllByRecursion P rows
all_of P h [] = tt
all_of P h (row ∷ rows) = (h row, all_of P h rows)

renewal_of_insert : (state : State) (from to at : Corner) (out : List ℕ) (rows : List NumberedRing)
    → IsInsertOf state from to at out rows → IsRenewalOf state (PutIn from to at) out rows
renewal_of_insert state from to at out rows h = record {
  two_ends = h.two_ends;
  ground = all_of (λ row. KeepsGround (PutIn from to at) row.corners) (λ row. h.is_between) state.rows;
  city_ground = h.is_between;
  rows_are = h.rows_are;
  out_are = h.out_are;
}

renewal_of_straighten : (state : State) (at : Corner) (out : List ℕ) (rows : List NumberedRing)
    → IsStraightenOf state at out rows → IsRenewalOf state (TakeOut at) out rows
renewal_of_straighten state at out rows h = record {
  two_ends = tt;
  ground = h.straight;
  city_ground = h.city_straight;
  rows_are = h.rows_are;
  out_are = h.out_are;
}

pub renewal_of : (A : Type 0) (state : State) (change : RingChange) (out : List ℕ) (rows : List NumberedRing)
    → IsChange state (edit_of {A = A} change) out rows → IsRenewalOf state change out rows
renewal_of A state (PutIn from to at) out rows h = renewal_of_insert state from to at out rows h
renewal_of A state (TakeOut at) out rows h = renewal_of_straighten state at out rows h
