-- Rows, states, edits and entries with each corner times ten, as functions; what is so of rows stays so of those ten times as large.
use Rattle.std.proofs.Common.{◌≡◌, refl, sym, ◌∙◌, ap, subst, arith, ℕ, ◌<◌, ◌≤◌, pos, List, [], ◌∷◌, ◌++◌, map, length}
use Rattle.std.specs.List.{AllByRecursion, AllZip}
use Rattle.std.proofs.lemmas.Int.{ints}
use Rattle.std.proofs.lemmas.List.{length-map}
use lib.IntN.{◌+ℤ◌, ◌*ℤ◌}
use Rattle.geo_exact.specs.declared.corner.Corner.{Corner}
use Rattle.geo_exact.specs.declared.limits.TheConstants.{LAYER_RECORDS, RING_CORNERS}
use Rattle.geo_exact.specs.Layers.{NumberedRing, numbered, corner_count}
use Rattle.geo_exact.specs.Point.{Point}
use Rattle.geo_exact.specs.Winding.{winding}
use Rattle.edge_chains.specs.Net.{winding_of_rings, area2_of_rings}
use Rattle.ring_edits.specs.declared.edit.Edit.{Edit}
use Rattle.ring_edits.specs.declared.edit.Edit.TheVariants.{Split, Merge, Move, Insert, Straighten}
use Rattle.scaled_rings.specs.TenfoldEdits.{IsTenfoldEdit, corners_of_edit}
use Rattle.scaled_rings.proofs.Scaling.{ten, AreNear, are_tens, ten_if_ten, tens_of}
use Rattle.scaled_rings.proofs.Lists.{near_left, near_right}
use Rattle.scaled_rings.proofs.Points.{tenth, winding_ten, area_ten}
use Rattle.scaled_rings.proofs.Simple.{simple_ten}
use Rattle.fabric_core.specs.Tiling.{corner_lists}
use Rattle.fabric_core.specs.Rows.{numbers}
use Rattle.fabric_core.specs.Faults.{AreSimple}
use Rattle.fabric_core.specs.Limits.{AreWithinLimits}
use Rattle.fabric_core.specs.Journal.{State, JournalEntry, Book}
use Rattle.fabric_core.specs.EditResults.{AreWithinLayerLimits}
use Rattle.fabric_core.specs.Tenfold.{IsTenfoldRow, IsTenfoldState, IsTenfoldEntry, corners_of_rows, corners_of_state}
use Rattle.fabric_core.specs.Tenfold.{corners_of_entries, corners_of_book}
use Rattle.fabric_core.specs.own.Alike.{GoAlike}
use Rattle.fabric_core.specs.own.Balanced.{AreBelow, IsBalanced}
use Rattle.fabric_core.proofs.rows.RowLists.{AllByRecursion-map, Ascend-map}

-- ---- ten times as large
abbrev pub ten_row : NumberedRing → NumberedRing
ten_row row = numbered row.number (map ten row.corners)

abbrev pub ten_rows : List NumberedRing → List NumberedRing
ten_rows rows = map ten_row rows

abbrev pub ten_state : State → State
ten_state state = record { rows = ten_rows state.rows; refined = map ten state.refined; next = state.next }

abbrev pub ten_edit : {A : Type 0} → Edit A → Edit A
ten_edit (Split id path) = Split id (map ten path)
ten_edit (Merge a b) = Merge a b
ten_edit (Move a b path) = Move a b (map ten path)
ten_edit (Insert from to at) = Insert (ten from) (ten to) (ten at)
ten_edit (Straighten at) = Straighten (ten at)

abbrev pub ten_entry : {A : Type 0} → JournalEntry A → JournalEntry A
ten_entry entry = record {
  number = entry.number;
  clerk = entry.clerk;
  edit = ten_edit entry.edit;
  out = entry.out;
  rows = ten_rows entry.rows;
}

-- ---- the relations are those of these functions
pub is_ten_row : (row other : NumberedRing) → IsTenfoldRow row other → other ≡ ten_row row
is_ten_row row other h =
    ap (λ n. numbered n other.corners) h.number ∙ ap (λ cs. numbered row.number cs) (tens_of row.corners other.corners h.ring)

pub are_ten_rows : (rows others : List NumberedRing) → AllZip IsTenfoldRow rows others → others ≡ ten_rows rows
are_ten_rows [] [] h = refl
are_ten_rows [] (other ∷ others) h = absurd h
are_ten_rows (row ∷ rows) [] h = absurd h
are_ten_rows (row ∷ rows) (other ∷ others) h =
    ap (λ r. r ∷ others) (is_ten_row row other h.0) ∙ ap (λ rs. ten_row row ∷ rs) (are_ten_rows rows others h.1)

pub is_ten_state : (state other : State) → IsTenfoldState state other → other ≡ ten_state state
is_ten_state state other h =
    ap (λ rows. record { rows = rows; refined = other.refined; next = other.next }) (are_ten_rows state.rows other.rows h.rows)
    ∙ ap (λ ring. record { rows = ten_rows state.rows; refined = ring; next = other.next }) (tens_of state.refined other.refined h.refined)
    ∙ ap (λ n. record { rows = ten_rows state.rows; refined = map ten state.refined; next = n }) h.next

module _ {A : Type 0} where
  pub is_ten_edit : (edit other : Edit A) → IsTenfoldEdit edit other → other ≡ ten_edit edit
  is_ten_edit (Split id path) other h = h.1 ∙ ap (Split id) (tens_of path h.0 h.2)
  is_ten_edit (Merge a b) other h = h
  is_ten_edit (Move a b path) other h = h.1 ∙ ap (Move a b) (tens_of path h.0 h.2)
  is_ten_edit (Insert from to at) other h =
      h.3 ∙ ap (λ c. Insert c h.1 h.2) (ten_if_ten from h.0 h.4) ∙ ap (λ c. Insert (ten from) c h.2) (ten_if_ten to h.1 h.5)
      ∙ ap (Insert (ten from) (ten to)) (ten_if_ten at h.2 h.6)
  is_ten_edit (Straighten at) other h = h.1 ∙ ap Straighten (ten_if_ten at h.0 h.2)

  pub is_ten_entry : (entry other : JournalEntry A) → IsTenfoldEntry entry other → other ≡ ten_entry entry
  is_ten_entry entry other h =
      ap (λ n. record { number = n; clerk = other.clerk; edit = other.edit; out = other.out; rows = other.rows }) h.number
      ∙ ap (λ n. record { number = entry.number; clerk = n; edit = other.edit; out = other.out; rows = other.rows }) h.clerk
      ∙ ap (λ e. record { number = entry.number; clerk = entry.clerk; edit = e; out = other.out; rows = other.rows })
      (is_ten_edit entry.edit other.edit h.edit)
      ∙ ap (λ ids. record {
        number = entry.number;
        clerk = entry.clerk;
        edit = ten_edit entry.edit;
        out = ids;
        rows = other.rows;
      }) h.out
      ∙ ap (λ rows. record {
        number = entry.number;
        clerk = entry.clerk;
        edit = ten_edit entry.edit;
        out = entry.out;
        rows = rows;
      }) (are_ten_rows entry.rows other.rows h.rows)

  pub are_ten_entries : (entries others : List (JournalEntry A)) → AllZip IsTenfoldEntry entries others → others ≡ map ten_entry entries
  are_ten_entries [] [] h = refl
  are_ten_entries [] (other ∷ others) h = absurd h
  are_ten_entries (entry ∷ entries) [] h = absurd h
  are_ten_entries (entry ∷ entries) (other ∷ others) h =
      ap (λ e. e ∷ others) (is_ten_entry entry other h.0) ∙ ap (λ es. ten_entry entry ∷ es) (are_ten_entries entries others h.1)

-- ---- what is near
abbrev pub HasNearCorners : NumberedRing → Type 0
HasNearCorners row = AreNear row.corners

abbrev pub AreNearRows : List NumberedRing → Type 0
AreNearRows rows = AllByRecursion HasNearCorners rows

pub record IsNearState (state : State) : Type 0 where
  pub rows : AreNearRows state.rows
  pub refined : AreNear state.refined

pub record IsNearEntry {A : Type 0} (entry : JournalEntry A) : Type 0 where
  pub edit : AreNear (corners_of_edit entry.edit)
  pub rows : AreNearRows entry.rows

pub near_rows : (rows : List NumberedRing) → AreNear (corners_of_rows rows) → AreNearRows rows
near_rows [] h = tt
near_rows (row ∷ rows) h =
    (near_left row.corners (corners_of_rows rows) h, near_rows rows (near_right row.corners (corners_of_rows rows) h))

pub near_state : (state : State) → AreNear (corners_of_state state) → IsNearState state
near_state state h = record {
  rows = near_rows state.rows (near_left (corners_of_rows state.rows) state.refined h);
  refined = near_right (corners_of_rows state.rows) state.refined h;
}

pub near_entries : {A : Type 0} (entries : List (JournalEntry A)) → AreNear (corners_of_entries entries)
    → AllByRecursion IsNearEntry entries
near_entries [] h = tt
near_entries (entry ∷ entries) h =
    let first = near_left (corners_of_edit entry.edit ++ corners_of_rows entry.rows) (corners_of_entries entries) h in (
      record {
        edit = near_left (corners_of_edit entry.edit) (corners_of_rows entry.rows) first;
        rows = near_rows entry.rows (near_right (corners_of_edit entry.edit) (corners_of_rows entry.rows) first);
      },
      near_entries entries (near_right (corners_of_edit entry.edit ++ corners_of_rows entry.rows) (corners_of_entries entries) h),
    )

pub record IsNearBook {A : Type 0} (book : Book A) : Type 0 where
  pub city : AreNear book.city
  pub opening : AreNear (corners_of_state book.opening)
  pub now : AreNear (corners_of_state book.now)
  pub journal : AreNear (corners_of_entries book.journal)

pub near_book : {A : Type 0} (book : Book A) → AreNear (corners_of_book book) → IsNearBook book
near_book book h =
    let city = book.city in let opening = corners_of_state book.opening in let now = corners_of_state book.now in
    let states = near_left ((city ++ opening) ++ now) (corners_of_entries book.journal) h in
    let first = near_left (city ++ opening) now states in record {
      city = near_left city opening first;
      opening = near_right city opening first;
      now = near_right (city ++ opening) now states;
      journal = near_right ((city ++ opening) ++ now) (corners_of_entries book.journal) h;
    }

-- near rows are ten times as large as these functions make them
pub are_tens_of : (rows : List NumberedRing) → AreNearRows rows → AllZip IsTenfoldRow rows (ten_rows rows)
are_tens_of [] n = tt
are_tens_of (row ∷ rows) n = (record { number = refl; ring = are_tens row.corners n.0 }, are_tens_of rows n.1)

-- ---- numbers and lengths
pub numbers_ten : (rows : List NumberedRing) → numbers (ten_rows rows) ≡ numbers rows
numbers_ten [] = refl
numbers_ten (row ∷ rows) = ap (λ ns. row.number ∷ ns) (numbers_ten rows)

pub count_ten : (rows : List NumberedRing) → corner_count (ten_rows rows) ≡ corner_count rows
count_ten [] = refl
count_ten (row ∷ rows) = omega (arith, length-map row.corners ten, count_ten rows)

short_ten : (rows : List NumberedRing) → AllByRecursion (λ row. length row.corners ≤ RING_CORNERS) rows
    → AllByRecursion (λ row. length row.corners ≤ RING_CORNERS) (ten_rows rows)
short_ten [] h = tt
short_ten (row ∷ rows) h = (subst (λ n. n ≤ RING_CORNERS) (sym (length-map row.corners ten)) h.0, short_ten rows h.1)

pub within_ten : (rows : List NumberedRing) → AreWithinLimits rows → AreWithinLimits (ten_rows rows)
within_ten rows h = record { each = short_ten rows h.each; together = omega (arith, h.together, count_ten rows) }

pub within_layer_ten : (rows : List NumberedRing) → AreWithinLayerLimits rows → AreWithinLayerLimits (ten_rows rows)
within_layer_ten rows h = record {
  corners = within_ten rows h.corners;
  number = subst (λ n. n ≤ LAYER_RECORDS) (sym (length-map rows ten_row)) h.number;
}

-- ---- simple rings
pub simple_rows_ten : (rows : List NumberedRing) → AreNearRows rows → AreSimple rows → AreSimple (ten_rows rows)
simple_rows_ten [] n h = tt
simple_rows_ten (row ∷ rows) n h = (simple_ten row.corners n.0 h.0, simple_rows_ten rows n.1 h.1)

-- ---- winding numbers and areas
windings_ten : (rows : List NumberedRing) (p : Point) → AreNearRows rows
    → winding_of_rings p (corner_lists (ten_rows rows)) ≡ winding_of_rings (tenth p) (corner_lists rows)
windings_ten [] p n = refl
windings_ten (row ∷ rows) p n =
    ap (λ z. z +ℤ winding_of_rings p (corner_lists (ten_rows rows))) (winding_ten row.corners p n.0)
    ∙ ap (λ z. winding (tenth p) row.corners +ℤ z) (windings_ten rows p n.1)

areas_ten : (rows : List NumberedRing) → AreNearRows rows
    → area2_of_rings (corner_lists (ten_rows rows)) ≡ pos 100 *ℤ area2_of_rings (corner_lists rows)
areas_ten [] n = refl
areas_ten (row ∷ rows) n = omega (arith, ints, area_ten row.corners n.0, areas_ten rows n.1)

pub alike_ten : (rows : List NumberedRing) (refined : List Corner) → AreNearRows rows → AreNear refined
    → GoAlike (corner_lists rows) refined → GoAlike (corner_lists (ten_rows rows)) (map ten refined)
alike_ten rows refined n m h = record {
  windings = λ p.
      windings_ten rows p n ∙ h.windings (tenth p) ∙ sym (windings_ten (numbered 0 refined ∷ []) p (m, tt));
  areas =
      areas_ten rows n ∙ ap (λ z. pos 100 *ℤ z) h.areas ∙ sym (areas_ten (numbered 0 refined ∷ []) (m, tt));
}

-- ---- a balanced state
below_ten : (n : ℕ) (rows : List NumberedRing) → AreBelow n rows → AreBelow n (ten_rows rows)
below_ten n rows h = AllByRecursion-map (λ row. row.number < n) ten_row rows h

pub balanced_ten : (state : State) → IsNearState state → IsBalanced state → IsBalanced (ten_state state)
balanced_ten state n h = record {
  ids = record {
    up = Ascend-map ten_row (λ row. refl) state.rows h.ids.up;
    below = below_ten state.next state.rows h.ids.below;
  };
  simple = simple_rows_ten state.rows n.rows h.simple;
  simple_city = simple_ten state.refined n.refined h.simple_city;
  alike = alike_ten state.rows state.refined n.rows n.refined h.alike;
}
