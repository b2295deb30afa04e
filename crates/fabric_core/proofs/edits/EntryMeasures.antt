-- Entries keep the rows alike with the city's refined ring.
use Rattle.std.proofs.Common.{◌≡◌, ◌≢◌, refl, sym, ◌∙◌, ap, arith, Bool, true, false, cond, ℕ, ◌+◌, ℤ, pos}
use Rattle.std.proofs.Common.{◌+ℤ◌, List, []}
use Rattle.std.proofs.Common.{◌∷◌, ◌++◌, map}
use Rattle.std.specs.List.{AllByRecursion, Contains}
use Rattle.std.proofs.lemmas.Int.{ints}
use Rattle.std.proofs.lemmas.List.{map-append}
use Rattle.geo_exact.specs.declared.corner.Corner.{Corner}
use Rattle.geo_exact.specs.Area.{edge_area2}
use Rattle.geo_exact.specs.Layers.{NumberedRing, numbered}
use Rattle.geo_exact.specs.Rings.{Edge}
use Rattle.ring_core.specs.Simple.{IsSimpleRing}
use Rattle.ring_edits.specs.declared.edit.Edit.{Edit}
use Rattle.ring_edits.specs.declared.edit.Edit.TheVariants.{Split, Merge, Move, Insert, Straighten}
use Rattle.ring_edits.proofs.EditNets.{split_nets, merge_nets, move_nets}
use Rattle.ring_edits.proofs.StaySimple.{put_simple, without_simple}
use Rattle.fabric_core.specs.declared.ring_change.RingChange.{RingChange}
use Rattle.fabric_core.specs.declared.ring_change.RingChange.TheVariants.{PutIn, TakeOut}
use Rattle.fabric_core.specs.own.Balanced.{Ascend, HasRisingIds, IsBalanced}
use Rattle.fabric_core.specs.own.RingChanges.{IsRenewalOf, KeepsGround, changed_city, changed_row, is_changed, renewed}
use Rattle.fabric_core.specs.Tiling.{corner_lists}
use Rattle.fabric_core.specs.Faults.{AreSimple}
use Rattle.fabric_core.specs.Journal.{State, JournalEntry, after_entry, replay, refined_by, with_rows, without_ids}
use Rattle.fabric_core.specs.EditResults.{IsChange, IsEntryOf, AreLawfulFrom}
use Rattle.fabric_core.proofs.rows.Alikes.{AddsUp, all_measured, areas_add, balanced_alike, crossing_of, crossings_add, measured}
use Rattle.fabric_core.proofs.rows.RowLists.{Ascend-filter, taken_out, still_has, without_both}
use Rattle.fabric_core.proofs.edits.Neighbours.{ring_is_simple, run_has_edge, merged_run, moved_run, two_parcels}
use Rattle.fabric_core.proofs.edits.Replays.{BringsNew, rows_after_new, rows_after_renewal}
use Rattle.fabric_core.proofs.edits.Replays.{all_after, rising_after}
use Rattle.fabric_core.proofs.edits.RingChanges.{city_measure, renewal_of, ring_measure}

module _ (measure : Edge → ℤ) (adds : AddsUp measure) where
  -- the measure of the rows' edges
  abbrev sum : List NumberedRing → ℤ
  sum rows = all_measured measure (corner_lists rows)

  measured-append : (xs ys : List (List Corner)) → all_measured measure (xs ++ ys) ≡ all_measured measure xs +ℤ all_measured measure ys
  measured-append [] ys = omega (arith, ints)
  measured-append (x ∷ xs) ys = omega (arith, ints, measured-append xs ys)

  sum-append : (rows others : List NumberedRing) → sum (rows ++ others) ≡ sum rows +ℤ sum others
  sum-append rows others =
      ap (all_measured measure) (map-append (λ row. row.corners) rows others)
      ∙ measured-append (corner_lists rows) (corner_lists others)

  -- ---- rows that are taken out take their edges along
  sum_taken : (id : ℕ) (ring : List Corner) (rows : List NumberedRing) → Ascend rows → Contains rows (numbered id ring)
      → sum rows ≡ sum (without_ids (id ∷ []) rows) +ℤ all_measured measure (ring ∷ [])
  sum_taken id ring rows up h =
      let w = taken_out id ring rows up h in
      total (sum rows) (sum (without_ids (id ∷ []) rows)) (all_measured measure (ring ∷ [])) (sum w.before) (sum w.behind)
      (sum (numbered id ring ∷ w.behind))
      (ap sum w.were_all ∙ sum-append w.before (numbered id ring ∷ w.behind))
      (measured-append (ring ∷ []) (corner_lists w.behind))
      (ap sum w.are_left ∙ sum-append w.before w.behind)
    where
      total : (rows rest ring before behind others : ℤ) → rows ≡ before +ℤ others → others ≡ ring +ℤ behind
          → rest ≡ before +ℤ behind
          → rows ≡ rest +ℤ ring
      total rows rest ring before behind others h k l = omega (arith, ints)

  sum_both_taken : (a b : ℕ) (ring other : List Corner) (rows : List NumberedRing) → a ≢ b → Ascend rows
      → Contains rows (numbered a ring)
      → Contains rows (numbered b other)
      → sum rows ≡ sum (without_ids (a ∷ b ∷ []) rows) +ℤ all_measured measure (ring ∷ other ∷ [])
  sum_both_taken a b ring other rows off up h k =
      total (sum rows) (sum (without_ids (a ∷ []) rows)) (sum (without_ids (a ∷ b ∷ []) rows))
      (all_measured measure (ring ∷ []))
      (all_measured measure (other ∷ [])) (all_measured measure (ring ∷ other ∷ [])) (sum_taken a ring rows up h)
      (sum_taken b other (without_ids (a ∷ []) rows) (Ascend-filter _ rows up) (still_has a b other rows off k)
      ∙ ap (λ xs. sum xs +ℤ all_measured measure (other ∷ [])) (sym (without_both a (b ∷ []) rows)))
      (measured-append (ring ∷ []) (other ∷ []))
    where
      total : (rows less rest ring other both : ℤ) → rows ≡ less +ℤ ring → less ≡ rest +ℤ other → both ≡ ring +ℤ other
          → rows ≡ rest +ℤ both
      total rows less rest ring other both h k l = omega (arith, ints)

  -- ---- rows whose rings are changed
  row_stays : (change : RingChange) (row : NumberedRing) → KeepsGround change row.corners
      → measured measure (changed_row change row).corners ≡ measured measure row.corners
  row_stays change row h = by_test (is_changed change row.corners)
    where
      by_test : (b : Bool) → measured measure (cond b (renewed change row) row).corners ≡ measured measure row.corners
      by_test true = ring_measure measure adds change row.corners h
      by_test false = refl

  sum_stays : (change : RingChange) (rows : List NumberedRing) → AllByRecursion (λ row. KeepsGround change row.corners) rows
      → sum (map (changed_row change) rows) ≡ sum rows
  sum_stays change [] h = refl
  sum_stays change (row ∷ rows) h = both (row_stays change row h.0) (sum_stays change rows h.1)
    where
      both : {x y u v : ℤ} → x ≡ u → y ≡ v → x +ℤ y ≡ u +ℤ v
      both {y = y} {u = u} e f = ap (λ z. z +ℤ y) e ∙ ap (λ z. u +ℤ z) f

  renewed_sums : (state : State) (out : List ℕ) (rows : List NumberedRing) → HasRisingIds state → (change : RingChange)
      → IsRenewalOf state change out rows
      → sum state.rows ≡ all_measured measure (state.refined ∷ [])
      → sum (with_rows rows (without_ids out state.rows)) ≡ all_measured measure (changed_city change state.refined ∷ [])
  renewed_sums state out rows ids change h same =
      ap sum (rows_after_renewal state change out rows ids h) ∙ sum_stays change state.rows h.ground ∙ same
      ∙ ap (λ z. z +ℤ pos 0) (sym (city_measure measure adds change state.refined h.city_ground))

  -- ---- what an edit takes out and brings
  module _ {A : Type 0} (state : State) (out : List ℕ) (rows : List NumberedRing) (simple : AreSimple state.rows)
      (ids : HasRisingIds state) where
    new_sums : (edit : Edit A) → BringsNew edit → IsChange state edit out rows → (olds : List (List Corner))
        → sum state.rows ≡ sum (without_ids out state.rows) +ℤ all_measured measure olds
        → sum rows ≡ all_measured measure olds
        → sum state.rows ≡ all_measured measure (state.refined ∷ [])
        → sum (with_rows rows (without_ids out state.rows)) ≡ all_measured measure (state.refined ∷ [])
    new_sums edit new h olds k l same =
        ap sum (rows_after_new state edit out rows ids new h) ∙ sum-append (without_ids out state.rows) rows
        ∙ ap (λ z. sum (without_ids out state.rows) +ℤ z) l ∙ sym k ∙ same

    -- the sums stay equal
    equal_sums : (edit : Edit A) → IsChange state edit out rows → sum state.rows ≡ all_measured measure (state.refined ∷ [])
        → sum (with_rows rows (without_ids out state.rows)) ≡ all_measured measure (refined_by edit state.refined ∷ [])
    equal_sums (Split id path) h same = new_sums (Split id path) tt h (h.ring ∷ [])
        (sum_taken id h.ring state.rows ids.up h.has
        ∙ ap (λ xs. sum (without_ids xs state.rows) +ℤ all_measured measure (h.ring ∷ [])) (sym h.out_is))
        (ap sum h.rows_are
        ∙ balanced_alike (h.left ∷ h.right ∷ []) (h.ring ∷ []) (split_nets h.ring path h.left h.right h.is_split) measure adds)
        same
    equal_sums (Merge a b) h same = new_sums (Merge a b) tt h (h.ring_a ∷ h.ring_b ∷ [])
        (sum_both_taken a b h.ring_a h.ring_b state.rows
        (two_parcels state.rows a b h.ring_a h.ring_b simple ids.up h.has_a h.has_b
        (run_has_edge h.ring_a h.ring_b (merged_run h.ring_a h.ring_b h.ring h.is_merge)))
        ids.up h.has_a h.has_b
        ∙ ap (λ xs. sum (without_ids xs state.rows) +ℤ all_measured measure (h.ring_a ∷ h.ring_b ∷ [])) (sym h.out_are))
        (ap sum h.rows_are
        ∙ balanced_alike (h.ring ∷ []) (h.ring_a ∷ h.ring_b ∷ [])
        (merge_nets h.ring_a h.ring_b h.ring (ring_is_simple state.rows a h.ring_a simple h.has_a)
        (ring_is_simple state.rows b h.ring_b simple h.has_b)
        h.is_merge) measure adds)
        same
    equal_sums (Move a b path) h same = new_sums (Move a b path) tt h (h.ring_a ∷ h.ring_b ∷ [])
        (sum_both_taken a b h.ring_a h.ring_b state.rows
        (two_parcels state.rows a b h.ring_a h.ring_b simple ids.up h.has_a h.has_b
        (run_has_edge h.ring_a h.ring_b (moved_run h.ring_a h.ring_b path h.new_a h.new_b h.is_move)))
        ids.up h.has_a h.has_b
        ∙ ap (λ xs. sum (without_ids xs state.rows) +ℤ all_measured measure (h.ring_a ∷ h.ring_b ∷ [])) (sym h.out_are))
        (ap sum h.rows_are
        ∙ balanced_alike (h.new_a ∷ h.new_b ∷ []) (h.ring_a ∷ h.ring_b ∷ [])
        (move_nets h.ring_a h.ring_b path h.new_a h.new_b (ring_is_simple state.rows a h.ring_a simple h.has_a)
        (ring_is_simple state.rows b h.ring_b simple h.has_b) h.is_move) measure adds)
        same
    equal_sums (Insert from to at) h same =
        renewed_sums state out rows ids (PutIn from to at) (renewal_of A state (PutIn from to at) out rows h) same
    equal_sums (Straighten at) h same = renewed_sums state out rows ids (TakeOut at) (renewal_of A state (TakeOut at) out rows h) same

-- ---- states with simple rings that go alike with the city's
-- the city's refined ring stays simple
city_after : {A : Type 0} (state : State) (edit : Edit A) (out : List ℕ) (rows : List NumberedRing) → IsChange state edit out rows
    → IsSimpleRing state.refined → IsSimpleRing (refined_by edit state.refined)
city_after state (Split id path) out rows h simple = simple
city_after state (Merge a b) out rows h simple = simple
city_after state (Move a b path) out rows h simple = simple
city_after state (Insert from to at) out rows h simple = put_simple from to at state.refined h.is_between simple
city_after state (Straighten at) out rows h simple = without_simple at state.refined h.city_straight simple

-- entries lead from one to the next
pub balanced_after : {A : Type 0} (state : State) (entry : JournalEntry A) → IsBalanced state → IsEntryOf state entry
    → IsBalanced (after_entry state entry)
balanced_after state entry h k = record {
  ids = rising_after state entry h.ids k.is_change;
  simple = all_after (λ row. IsSimpleRing row.corners) state entry.edit entry.out entry.rows h.ids k.is_change h.simple k.are_simple;
  simple_city = city_after state entry.edit entry.out entry.rows k.is_change h.simple_city;
  alike = record {
    windings = λ p.
        equal_sums (crossing_of p) (crossings_add p) state entry.out entry.rows h.simple h.ids entry.edit k.is_change (h.alike.windings p);
    areas = equal_sums edge_area2 areas_add state entry.out entry.rows h.simple h.ids entry.edit k.is_change h.alike.areas;
  };
}

pub balanced_replayed : {A : Type 0} (state : State) (number : ℕ) (entries : List (JournalEntry A)) → IsBalanced state
    → AreLawfulFrom state number entries → IsBalanced (replay state entries)
balanced_replayed state number [] h k = h
balanced_replayed state number (entry ∷ entries) h k =
    balanced_replayed (after_entry state entry) (number + 1) entries (balanced_after state entry h k.1) k.2
