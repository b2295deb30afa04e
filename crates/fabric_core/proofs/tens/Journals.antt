-- A lawful journal is lawful with each corner times ten, and leads to what it led to, ten times as large.
use Rattle.std.proofs.Common.{◌≡◌, ◌≢◌, ◌↔◌, refl, sym, ◌∙◌, ap, subst, arith, ℕ, ◌+◌, Bool, true, false, not, cond}
use Rattle.std.proofs.Common.{List, [], ◌∷◌, length, map, max, nat_eq}
use Rattle.std.specs.Prelude.{nat_lt}
use Rattle.std.specs.List.{AllByRecursion, Contains, list_any}
use Rattle.std.proofs.lemmas.List.{length-map}
use Rattle.geo_exact.specs.declared.corner.Corner.{Corner}
use Rattle.geo_exact.specs.Layers.{NumberedRing, numbered, corner_count}
use Rattle.geo_exact.specs.Order.{is_same}
use Rattle.ring_edits.specs.declared.edit.Edit.{Edit}
use Rattle.ring_edits.specs.declared.edit.Edit.TheVariants.{Split, Merge, Move, Insert, Straighten}
use Rattle.ring_edits.specs.Edits.{has_edge_between, with_corner, has_corner, straightened, BendsAt}
use Rattle.scaled_rings.specs.Tenfold.{IsNear}
use Rattle.scaled_rings.specs.TenfoldEdits.{corners_of_edit}
use Rattle.scaled_rings.proofs.Scaling.{ten, ten_apart, AreNear}
use Rattle.scaled_rings.proofs.Points.{strictly_ten}
use Rattle.scaled_rings.proofs.TenEdits.{split_ten, merge_ten, move_ten, edge_between_ten, put_between_ten, with_corner_ten}
use Rattle.scaled_rings.proofs.TenEdits.{near_put, has_corner_ten, without_corner_ten, straightened_ten, bends_of_ten}
use Rattle.fabric_core.specs.Journal.{State, JournalEntry, after_entry, next_after, refined_by, replay, with_row, with_rows, without_ids}
use Rattle.fabric_core.specs.EditResults.{IsSplitOf, IsMergeOf, IsMoveOf, IsInsertOf, IsStraightenOf, IsChange, IsEntryOf}
use Rattle.fabric_core.specs.EditResults.{AreLawfulFrom, AreWithinLayerLimits, rows_with_edge, rows_at_corner}
use Rattle.fabric_core.specs.Refusals.{Retires, IsRetiredBy}
use Rattle.fabric_core.specs.own.Books.{IsBook}
use Rattle.fabric_core.specs.own.Changes.{state_of}
use Rattle.fabric_core.specs.own.Kept.{Kept, gone_by}
use Rattle.fabric_core.proofs.edits.Exchanged.{filter_mapped}
use Rattle.fabric_core.proofs.rows.RowLists.{AllByRecursion-filter, Contains-mapped, Contains-from_mapped}
use Rattle.fabric_core.proofs.tilings.OneParcel.{of_each}
use Rattle.fabric_core.proofs.tens.Rows.{ten_row, ten_rows, ten_state, ten_edit, ten_entry, HasNearCorners, AreNearRows}
use Rattle.fabric_core.proofs.tens.Rows.{IsNearState, IsNearEntry, numbers_ten, within_layer_ten, simple_rows_ten}
use Rattle.fabric_core.proofs.tens.Rows.{balanced_ten, count_ten}

-- ---- rows taken out and put in
with_row_ten : (row : NumberedRing) (rows : List NumberedRing) → with_row (ten_row row) (ten_rows rows) ≡ ten_rows (with_row row rows)
with_row_ten row [] = refl
with_row_ten row (other ∷ rest) = by_test (nat_lt row.number other.number) (with_row_ten row rest)
  where
    by_test : (b : Bool) → with_row (ten_row row) (ten_rows rest) ≡ ten_rows (with_row row rest)
        → cond b (ten_row row ∷ ten_row other ∷ ten_rows rest) (ten_row other ∷ with_row (ten_row row) (ten_rows rest))
        ≡ ten_rows (cond b (row ∷ other ∷ rest) (other ∷ with_row row rest))
    by_test true h = refl
    by_test false h = ap (λ rows. ten_row other ∷ rows) h

with_rows_ten : (news rows : List NumberedRing) → with_rows (ten_rows news) (ten_rows rows) ≡ ten_rows (with_rows news rows)
with_rows_ten [] rows = refl
with_rows_ten (new ∷ news) rows = ap (with_rows (ten_rows news)) (with_row_ten new rows) ∙ with_rows_ten news (with_row new rows)

without_ids_ten : (ids : List ℕ) (rows : List NumberedRing) → without_ids ids (ten_rows rows) ≡ ten_rows (without_ids ids rows)
without_ids_ten ids rows = filter_mapped ten_row (λ row. not (list_any (nat_eq row.number) ids))
    (λ row. not (list_any (nat_eq row.number) ids)) rows (λ row h. refl)

next_after_ten : (rows : List NumberedRing) (next : ℕ) → next_after (ten_rows rows) next ≡ next_after rows next
next_after_ten [] next = refl
next_after_ten (row ∷ rows) next = ap (λ n. max (row.number + 1) n) (next_after_ten rows next)

-- what is so of a row and of others is so of all
all_with_row : (P : NumberedRing → Type 0) (row : NumberedRing) (rows : List NumberedRing) → P row → AllByRecursion P rows
    → AllByRecursion P (with_row row rows)
all_with_row P row [] h k = (h, tt)
all_with_row P row (other ∷ rest) h k = by_test (nat_lt row.number other.number) (all_with_row P row rest h k.1)
  where
    by_test : (b : Bool) → AllByRecursion P (with_row row rest)
        → AllByRecursion P (cond b (row ∷ other ∷ rest) (other ∷ with_row row rest))
    by_test true later = (h, k)
    by_test false later = (k.0, later)

all_with_rows : (P : NumberedRing → Type 0) (news rows : List NumberedRing) → AllByRecursion P news → AllByRecursion P rows
    → AllByRecursion P (with_rows news rows)
all_with_rows P [] rows h k = k
all_with_rows P (new ∷ news) rows h k = all_with_rows P news (with_row new rows) h.1 (all_with_row P new rows h.0 k)

near_ring : (rows : List NumberedRing) (id : ℕ) (ring : List Corner) → AreNearRows rows → Contains rows (numbered id ring) → AreNear ring
near_ring rows id ring n h = of_each HasNearCorners rows (numbered id ring) n h

-- ---- the rows that an insert or a straightening changes
some_ten : (rows : List NumberedRing) → rows ≢ [] → ten_rows rows ≢ []
some_ten [] h e = h refl
some_ten (row ∷ rows) h e = absurd (cc)

with_edge_ten : (from to : Corner) (rows : List NumberedRing) → IsNear from → IsNear to → AreNearRows rows
    → rows_with_edge (ten from) (ten to) (ten_rows rows) ≡ ten_rows (rows_with_edge from to rows)
with_edge_ten from to rows h k n =
    filter_mapped ten_row (λ row. has_edge_between (ten from) (ten to) row.corners) (λ row. has_edge_between from to row.corners) rows
    (λ row there. edge_between_ten from to row.corners h k (of_each HasNearCorners rows row n there))

at_corner_ten : (at : Corner) (rows : List NumberedRing) → IsNear at → AreNearRows rows
    → rows_at_corner (ten at) (ten_rows rows) ≡ ten_rows (rows_at_corner at rows)
at_corner_ten at rows h n =
    filter_mapped ten_row (λ row. has_corner (ten at) row.corners) (λ row. has_corner at row.corners) rows
    (λ row there. has_corner_ten at row.corners h (of_each HasNearCorners rows row n there))

-- rows with new rings under their own ids
module _ (f g : List Corner → List Corner) (same : (ring : List Corner) → AreNear ring → g (map ten ring) ≡ map ten (f ring)) where
  rings_ten : (rows : List NumberedRing) → AreNearRows rows
      → ten_rows (map (λ row. numbered row.number (f row.corners)) rows) ≡ map (λ row. numbered row.number (g row.corners)) (ten_rows rows)
  rings_ten [] n = refl
  rings_ten (row ∷ rows) n =
      ap (λ ring. numbered row.number ring ∷ ten_rows (map (λ row. numbered row.number (f row.corners)) rows)) (sym (same row.corners n.0))
      ∙ ap (λ rows. numbered row.number (g (map ten row.corners)) ∷ rows) (rings_ten rows n.1)

straight_ten : (at : Corner) (rows : List NumberedRing) → IsNear at → AreNearRows rows
    → AllByRecursion (λ row. ¬ BendsAt at row.corners) rows → AllByRecursion (λ row. ¬ BendsAt (ten at) row.corners) (ten_rows rows)
straight_ten at [] h n k = tt
straight_ten at (row ∷ rows) h n k = (λ b. k.0 (bends_of_ten at row.corners h n.0 b), straight_ten at rows h n.1 k.1)

-- ---- what an edit takes out and brings
split_change : (state : State) (id : ℕ) (path : List Corner) (out : List ℕ) (rows : List NumberedRing) → IsNearState state → AreNear path
    → IsSplitOf state id path out rows → IsSplitOf (ten_state state) id (map ten path) out (ten_rows rows)
split_change state id path out rows n m h = record {
  ring = map ten h.ring;
  has = Contains-mapped ten_row state.rows (numbered id h.ring) h.has;
  left = map ten h.left;
  right = map ten h.right;
  is_split = split_ten h.ring path h.left h.right (near_ring state.rows id h.ring n.rows h.has) m h.is_split;
  out_is = h.out_is;
  rows_are = ap ten_rows h.rows_are;
}

merge_change : (state : State) (a b : ℕ) (out : List ℕ) (rows : List NumberedRing) → IsNearState state
    → IsMergeOf state a b out rows → IsMergeOf (ten_state state) a b out (ten_rows rows)
merge_change state a b out rows n h = record {
  ring_a = map ten h.ring_a;
  has_a = Contains-mapped ten_row state.rows (numbered a h.ring_a) h.has_a;
  ring_b = map ten h.ring_b;
  has_b = Contains-mapped ten_row state.rows (numbered b h.ring_b) h.has_b;
  ring = map ten h.ring;
  is_merge = merge_ten h.ring_a h.ring_b h.ring (near_ring state.rows a h.ring_a n.rows h.has_a)
      (near_ring state.rows b h.ring_b n.rows h.has_b) h.is_merge;
  out_are = h.out_are;
  rows_are = ap ten_rows h.rows_are;
}

move_change : (state : State) (a b : ℕ) (path : List Corner) (out : List ℕ) (rows : List NumberedRing) → IsNearState state → AreNear path
    → IsMoveOf state a b path out rows → IsMoveOf (ten_state state) a b (map ten path) out (ten_rows rows)
move_change state a b path out rows n m h = record {
  ring_a = map ten h.ring_a;
  has_a = Contains-mapped ten_row state.rows (numbered a h.ring_a) h.has_a;
  ring_b = map ten h.ring_b;
  has_b = Contains-mapped ten_row state.rows (numbered b h.ring_b) h.has_b;
  new_a = map ten h.new_a;
  new_b = map ten h.new_b;
  is_move = move_ten h.ring_a h.ring_b path h.new_a h.new_b (near_ring state.rows a h.ring_a n.rows h.has_a)
      (near_ring state.rows b h.ring_b n.rows h.has_b) m h.is_move;
  out_are = h.out_are;
  rows_are = ap ten_rows h.rows_are;
}

insert_change : (state : State) (from to at : Corner) (out : List ℕ) (rows : List NumberedRing) → IsNearState state
    → IsNear from → IsNear to → IsNear at
    → IsInsertOf state from to at out rows → IsInsertOf (ten_state state) (ten from) (ten to) (ten at) out (ten_rows rows)
insert_change state from to at out rows n k l m h =
    let with_edge = with_edge_ten from to state.rows k l n.rows in record {
      two_ends = λ e. h.two_ends (ten_apart from to k l e);
      some = subst (λ rows. rows ≢ []) (sym with_edge) (some_ten (rows_with_edge from to state.rows) h.some);
      is_between = strictly_ten at from to m k l h.is_between;
      rows_are = ap ten_rows h.rows_are
          ∙ rings_ten (with_corner from to at) (with_corner (ten from) (ten to) (ten at))
          (λ ring r. with_corner_ten from to at ring k l m r) (rows_with_edge from to state.rows)
          (AllByRecursion-filter HasNearCorners (λ row. has_edge_between from to row.corners) state.rows n.rows)
          ∙ ap (map (λ (row : NumberedRing). numbered row.number (with_corner (ten from) (ten to) (ten at) row.corners))) (sym with_edge);
      out_are = h.out_are ∙ sym (numbers_ten rows);
    }

straighten_change : (state : State) (at : Corner) (out : List ℕ) (rows : List NumberedRing) → IsNearState state → IsNear at
    → IsStraightenOf state at out rows → IsStraightenOf (ten_state state) (ten at) out (ten_rows rows)
straighten_change state at out rows n m h =
    let at_corner = at_corner_ten at state.rows m n.rows in record {
      some = subst (λ rows. rows ≢ []) (sym at_corner) (some_ten (rows_at_corner at state.rows) h.some);
      straight = straight_ten at state.rows m n.rows h.straight;
      city_straight = λ b. h.city_straight (bends_of_ten at state.refined m n.refined b);
      rows_are = ap ten_rows h.rows_are
          ∙ rings_ten (straightened at) (straightened (ten at)) (λ ring r. straightened_ten at ring m r) (rows_at_corner at state.rows)
          (AllByRecursion-filter HasNearCorners (λ row. has_corner at row.corners) state.rows n.rows)
          ∙ ap (map (λ (row : NumberedRing). numbered row.number (straightened (ten at) row.corners))) (sym at_corner);
      out_are = h.out_are ∙ sym (numbers_ten rows);
    }

module _ {A : Type 0} where
  pub change_ten : (state : State) (edit : Edit A) (out : List ℕ) (rows : List NumberedRing) → IsNearState state
      → AreNear (corners_of_edit edit)
      → IsChange state edit out rows → IsChange (ten_state state) (ten_edit edit) out (ten_rows rows)
  change_ten state (Split id path) out rows n m h = split_change state id path out rows n m h
  change_ten state (Merge a b) out rows n m h = merge_change state a b out rows n h
  change_ten state (Move a b path) out rows n m h = move_change state a b path out rows n m h
  change_ten state (Insert from to at) out rows n m h = insert_change state from to at out rows n m.0 m.1.0 m.1.1.0 h
  change_ten state (Straighten at) out rows n m h = straighten_change state at out rows n m.0 h

  -- ---- the state after an entry
  refined_ten : (edit : Edit A) (ring : List Corner) → AreNear (corners_of_edit edit) → AreNear ring
      → refined_by (ten_edit edit) (map ten ring) ≡ map ten (refined_by edit ring)
  refined_ten (Split id path) ring m n = refl
  refined_ten (Merge a b) ring m n = refl
  refined_ten (Move a b path) ring m n = refl
  refined_ten (Insert from to at) ring m n = put_between_ten from to at ring m.0 m.1.0 n
  refined_ten (Straighten at) ring m n = without_corner_ten at ring m.0 n

  near_refined : (edit : Edit A) (ring : List Corner) → AreNear (corners_of_edit edit) → AreNear ring → AreNear (refined_by edit ring)
  near_refined (Split id path) ring m n = n
  near_refined (Merge a b) ring m n = n
  near_refined (Move a b path) ring m n = n
  near_refined (Insert from to at) ring m n = near_put from to at ring m.1.1.0 n
  near_refined (Straighten at) ring m n = AllByRecursion-filter IsNear (λ corner. not (is_same at corner)) ring n

  pub after_ten : (state : State) (entry : JournalEntry A) → IsNearState state → IsNearEntry entry
      → after_entry (ten_state state) (ten_entry entry) ≡ ten_state (after_entry state entry)
  after_ten state entry n m =
      ap (λ rows. record {
        rows = rows;
        refined = refined_by (ten_edit entry.edit) (map ten state.refined);
        next = next_after (ten_rows entry.rows) state.next;
      }) (ap (with_rows (ten_rows entry.rows)) (without_ids_ten entry.out state.rows)
      ∙ with_rows_ten entry.rows (without_ids entry.out state.rows))
      ∙ ap (λ ring. record {
        rows = ten_rows (with_rows entry.rows (without_ids entry.out state.rows));
        refined = ring;
        next = next_after (ten_rows entry.rows) state.next;
      }) (refined_ten entry.edit state.refined m.edit n.refined)
      ∙ ap (λ next. record {
        rows = ten_rows (with_rows entry.rows (without_ids entry.out state.rows));
        refined = map ten (refined_by entry.edit state.refined);
        next = next;
      }) (next_after_ten entry.rows state.next)

  pub near_after : (state : State) (entry : JournalEntry A) → IsNearState state → IsNearEntry entry → IsNearState (after_entry state entry)
  near_after state entry n m = record {
    rows = all_with_rows HasNearCorners entry.rows (without_ids entry.out state.rows) m.rows
        (AllByRecursion-filter HasNearCorners (λ row. not (list_any (nat_eq row.number) entry.out)) state.rows n.rows);
    refined = near_refined entry.edit state.refined m.edit n.refined;
  }

  -- ---- lawful journals
  pub entry_ten : (state : State) (entry : JournalEntry A) → IsNearState state → IsNearEntry entry → IsEntryOf state entry
      → IsEntryOf (ten_state state) (ten_entry entry)
  entry_ten state entry n m h = record {
    has_place = h.has_place;
    is_change = change_ten state entry.edit entry.out entry.rows n m.edit h.is_change;
    are_simple = simple_rows_ten entry.rows m.rows h.are_simple;
    within = subst AreWithinLayerLimits (ap (λ (s : State). s.rows) (sym (after_ten state entry n m)))
        (within_layer_ten (after_entry state entry).rows h.within);
  }

  pub lawful_ten : (state : State) (number : ℕ) (entries : List (JournalEntry A)) → IsNearState state
      → AllByRecursion IsNearEntry entries
      → AreLawfulFrom state number entries → AreLawfulFrom (ten_state state) number (map ten_entry entries)
  lawful_ten state number [] n m h = tt
  lawful_ten state number (entry ∷ entries) n m h = (
    h.0,
    entry_ten state entry n m.0 h.1,
    subst (λ s. AreLawfulFrom s (number + 1) (map ten_entry entries)) (sym (after_ten state entry n m.0))
        (lawful_ten (after_entry state entry) (number + 1) entries (near_after state entry n m.0) m.1 h.2),
  )

  pub replay_ten : (state : State) (entries : List (JournalEntry A)) → IsNearState state → AllByRecursion IsNearEntry entries
      → replay (ten_state state) (map ten_entry entries) ≡ ten_state (replay state entries)
  replay_ten state [] n m = refl
  replay_ten state (entry ∷ entries) n m =
      ap (λ s. replay s (map ten_entry entries)) (after_ten state entry n m.0)
      ∙ replay_ten (after_entry state entry) entries (near_after state entry n m.0) m.1

  -- ---- which ids were retired
  retires_to : (entry : JournalEntry A) (id : ℕ) → Retires entry id → Retires (ten_entry entry) id
  retires_to entry id h = record {
    is_out = h.is_out;
    is_not_back = λ c. h.is_not_back (subst (λ ns. Contains ns id) (numbers_ten entry.rows) c);
  }

  retires_from : (entry : JournalEntry A) (id : ℕ) → Retires (ten_entry entry) id → Retires entry id
  retires_from entry id h = record {
    is_out = h.is_out;
    is_not_back = λ c. h.is_not_back (subst (λ ns. Contains ns id) (sym (numbers_ten entry.rows)) c);
  }

  pub retired_ten : (entries : List (JournalEntry A)) (id by : ℕ) → IsRetiredBy entries id by ↔ IsRetiredBy (map ten_entry entries) id by
  retired_ten entries id by = (
    λ h. record {
      entry = ten_entry h.entry;
      is_entry = Contains-mapped ten_entry entries h.entry h.is_entry;
      has_number = h.has_number;
      retires = retires_to h.entry id h.retires;
    },
    λ h. let w = Contains-from_mapped ten_entry entries h.entry h.is_entry in record {
      entry = w.0;
      is_entry = w.1;
      has_number = ap (λ (e : JournalEntry A). e.number) w.2 ∙ h.has_number;
      retires = retires_from w.0 id (subst (λ (e : JournalEntry A). Retires e id) (sym w.2) h.retires);
    },
  )

  -- ---- what a fabric keeps
  pub book_ten : (opening : State) (journal : List (JournalEntry A)) (kept other : Kept) (corners : ℕ) → IsNearState opening
      → AllByRecursion IsNearEntry journal → state_of other ≡ ten_state (state_of kept)
      → ((id : ℕ) → gone_by other id ≡ gone_by kept id) → length other.city ≡ length kept.city
      → IsBook opening journal kept corners → IsBook (ten_state opening) (map ten_entry journal) other corners
  book_ten opening journal kept other corners n m is gone same h = record {
    balanced = balanced_ten opening n h.balanced;
    lawful = lawful_ten opening 1 journal n m h.lawful;
    replays = replay_ten opening journal n m ∙ ap ten_state h.replays ∙ sym is;
    few = omega (arith, length-map journal ten_entry, h.few);
    gone = λ id by. (
      λ e. (retired_ten journal id by).0 ((h.gone id by).0 (sym (gone id) ∙ e)),
      λ r. gone id ∙ (h.gone id by).1 ((retired_ten journal id by).1 r),
    );
    counted = h.counted ∙ sym (ap (λ (s : State). corner_count s.rows) is ∙ count_ten kept.rows);
    small = omega (arith, length-map journal ten_entry, h.small, ap (λ (s : State). s.next) is);
    few_opened = omega (arith, length-map opening.rows ten_row, h.few_opened);
    city_few = omega (arith, same, h.city_few);
  }
