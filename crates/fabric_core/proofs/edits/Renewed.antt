-- The rows that an edit changes: each is a candidate of one of its corners, and they are changed one after the other.
use Rattle.std.proofs.Common.{◌≡◌, ⊎_elim, refl, sym, ◌∙◌, ap, subst, arith, Bool, true}
use Rattle.std.proofs.Common.{false, cond, ◌||◌, ◌≢◌}
use Rattle.std.proofs.Common.{ℕ, ◌<◌, ◌≤◌, ℤ, List, [], ◌∷◌, ◌++◌, length, map, take, get_or}
use Rattle.std.proofs.lemmas.Int.{ints, clamps}
use Rattle.std.specs.List.{All, AllByRecursion, Contains, filter, list_any}
use Rattle.std.specs.List.Sorted.{IsStrictlyIncreasing}
use Rattle.std.proofs.lemmas.Bool.{cases_Bool, false_from_ne_true, false≢true}
use Rattle.std.proofs.lemmas.List.{map-append, length-take, get_or-take, get_or_default}
use Rattle.std.proofs.lemmas.List.Elements.{All-contains, Contains-append_left, Contains-push, Contains-push_cases}
use Rattle.std.proofs.lemmas.List.Kept.{AllPairs-from_increasing}
use lib.Signed.{◌≤ℤ◌}
use Rattle.geo_exact.specs.declared.bounds.Bounds.{Bounds}
use Rattle.geo_exact.specs.declared.corner.Corner.{Corner}
use Rattle.geo_exact.specs.Bounds.{HoldsCorner, IsLeastBox}
use Rattle.geo_exact.specs.Layers.{NumberedRing, numbered}
use Rattle.cell_index.specs.Cells.{Grid, column, row, brought_into, StandsBetween}
use Rattle.cell_index.proofs.Along.{cell_grows}
use Rattle.cell_index.proofs.BoxesInCells.{Decides-stands}
use Rattle.edge_chains.proofs.nodings.NodedEdges.{none_in_nil, Contains-here, Contains-there, Contains-cases, all_from_contains}
use Rattle.fabric_core.specs.own.Balanced.{Ascend}
use Rattle.fabric_core.specs.declared.ring_change.RingChange.{RingChange}
use Rattle.fabric_core.specs.GridIndex.{IsEntryOf, IsIndexed, IsCandidate}
use Rattle.fabric_core.specs.own.RingChanges.{changed_ring, corner_of, is_changed, renewed, rows_changed}
use Rattle.fabric_core.proofs.edits.RingChanges.{has_its_corner}
use Rattle.fabric_core.proofs.places.Between.{zipped_left}
use Rattle.fabric_core.proofs.rows.RowLists.{Ascend-filter, ascend_behind, Contains-kept, Contains-from_kept, same_row}
use Rattle.fabric_core.proofs.tilings.OneParcel.{of_each}

-- a ring whose box does not hold the corner is not changed
pub off_the_box : (change : RingChange) (bounds : Bounds) (ring : List Corner) → IsLeastBox bounds ring
    → ¬ HoldsCorner bounds (corner_of change) → is_changed change ring ≡ false
off_the_box change bounds ring box off =
    false_from_ne_true (is_changed change ring)
    (λ h. off (All-contains (HoldsCorner bounds) ring (corner_of change) box.holds (has_its_corner change ring h)))

-- ---- what has a corner stands in the corner's cell
brought_inside : (low high z : ℤ) → low ≤ℤ z → z ≤ℤ high → brought_into low high z ≡ z
brought_inside low high z h k = omega (arith, ints, clamps, h, k)

not_less : (m n : ℕ) → m ≡ n → (m ≤ n) × (n ≤ m)
not_less m n e = (omega (arith, e), omega (arith, e))

stands_at_own : (area box : Bounds) (corner : Corner) → HoldsCorner area corner → HoldsCorner box corner
    → StandsBetween area corner corner box
stands_at_own area box corner h k =
    let x = not_less (column area (brought_into area.low.x area.high.x corner.x)) (column area corner.x)
    (ap (column area) (brought_inside area.low.x area.high.x corner.x h.west h.east)) in
    let y = not_less (row area (brought_into area.low.y area.high.y corner.y)) (row area corner.y)
    (ap (row area) (brought_inside area.low.y area.high.y corner.y h.south h.north)) in (
      column area corner.x,
      row area corner.y,
      record { from_column = x.0; to_column = x.1; from_row = y.0; to_row = y.1 },
      (Decides-stands area (column area corner.x) (row area corner.y) box).1 (
        (cell_grows area.low.x area.high.x box.low.x corner.x k.west, cell_grows area.low.x area.high.x corner.x box.high.x k.east),
        (cell_grows area.low.y area.high.y box.low.y corner.y k.south, cell_grows area.low.y area.high.y corner.y box.high.y k.north),
      ),
    )

pub changed_is_candidate : (change : RingChange) (rows : List NumberedRing) (city : List Corner) (index : Grid) (row : NumberedRing)
    → IsIndexed rows city index → AllByRecursion (λ r. All (HoldsCorner index.area) r.corners) rows → Contains rows row
    → is_changed change row.corners ≡ true → IsCandidate rows city (corner_of change) (corner_of change) row.number
changed_is_candidate change rows city index row indexed in_area is_row has =
    let corner = corner_of change in
    let w = zipped_left IsEntryOf rows indexed.entries row indexed.are_theirs is_row in
    let there = has_its_corner change row.corners has in record {
      row = row;
      is_row = is_row;
      has_id = refl;
      area = index.area;
      is_area = indexed.area;
      box = w.0.bounds;
      is_its_box = w.2.is_its_box;
      stands = stands_at_own index.area w.0.bounds corner
          (All-contains (HoldsCorner index.area) row.corners corner
          (of_each (λ r. All (HoldsCorner index.area) r.corners) rows row in_area is_row) there)
          (All-contains (HoldsCorner w.0.bounds) row.corners corner w.2.is_its_box.holds there);
    }

-- ---- two lists of rows by ascending id that have the same rows are equal
pub same_rows : (xs ys : List NumberedRing) → Ascend xs → Ascend ys → ((row : NumberedRing) → Contains xs row → Contains ys row)
    → ((row : NumberedRing) → Contains ys row → Contains xs row) → xs ≡ ys
same_rows [] [] up ups h k = refl
same_rows [] (y ∷ ys) up ups h k = absurd (none_in_nil y (k y (Contains-here y ys)))
same_rows (x ∷ xs) [] up ups h k = absurd (none_in_nil x (h x (Contains-here x xs)))
same_rows (x ∷ xs) (y ∷ ys) up ups h k = ap (λ row. row ∷ xs) first
    ∙ ap (λ rows. y ∷ rows) (same_rows xs ys up.1 ups.1 onward back)
  where
    first : x ≡ y
    first = ⊎_elim
        (λ e. sym e)
        (λ later. ⊎_elim
        (λ e. e)
        (λ more. absurd (omega (
          arith,
          of_each (λ r. y.number < r.number) ys x ups.0 later,
          of_each (λ r. x.number < r.number) xs y up.0 more,
        )))
        (Contains-cases x xs y (k y (Contains-here y ys))))
        (Contains-cases y ys x (h x (Contains-here x xs)))

    onward : (row : NumberedRing) → Contains xs row → Contains ys row
    onward row c = ⊎_elim
        (λ e. absurd (omega
        (arith, of_each (λ r. x.number < r.number) xs row up.0 c, ap (λ (r : NumberedRing). r.number) (first ∙ e))))
        (λ later. later)
        (Contains-cases y ys row (h row (Contains-there x xs row c)))

    back : (row : NumberedRing) → Contains ys row → Contains xs row
    back row c = ⊎_elim
        (λ e. absurd (omega
        (arith, of_each (λ r. y.number < r.number) ys row ups.0 c, ap (λ (r : NumberedRing). r.number) (sym first ∙ e))))
        (λ later. later)
        (Contains-cases x xs row (k row (Contains-there y ys row c)))

-- ---- rows that are changed, one after the other
-- the rows with these ids that are changed are found, and these are they after the change
pub record AreRenewed (rows : List NumberedRing) (change : RingChange) (ids : List ℕ) (news : List NumberedRing) : Type 0 where
  pub found : List NumberedRing
  pub ascend : Ascend found
  pub each : (row : NumberedRing) → Contains found row → Contains rows row
      × (is_changed change row.corners ≡ true) × Contains ids row.number
  pub all : (row : NumberedRing) → Contains rows row → is_changed change row.corners ≡ true
      → Contains ids row.number → Contains found row
  pub are_renewed : news ≡ map (renewed change) found

-- ids that rise are above those before them
pub above_before : (ids : List ℕ) (k n m : ℕ) → IsStrictlyIncreasing ids → k < length ids → n ≡ get_or ids k 0
    → Contains (take k ids) m → m < n
above_before ids k n m up h e c =
    let before : c.0 < k = omega (arith, c.1, length-take k ids) in
    let in_ids : c.0 < length ids = omega arith in
    let at : get_or ids c.0 0 ≡ m = get_or_default ids c.0 0 m in_ids ∙ sym (get_or-take k ids c.0 m before) ∙ c.2 in
    omega (arith, AllPairs-from_increasing ids up c.0 k 0 before h, at, e)

module _ (rows : List NumberedRing) (change : RingChange) where
  pub none_renewed : AreRenewed rows change [] []
  none_renewed = record {
    found = [];
    ascend = tt;
    each = λ row c. absurd (none_in_nil row c);
    all = λ row is has named. absurd (none_in_nil row.number named);
    are_renewed = refl;
  }

  module _ (ids : List ℕ) (news : List NumberedRing) (n : ℕ) (ring : List Corner) (up : Ascend rows)
      (is_row : Contains rows (numbered n ring))
      (so_far : AreRenewed rows change ids news) where
    -- a row that is not changed
    pub not_renewed : is_changed change ring ≡ false → AreRenewed rows change (ids ++ n ∷ []) news
    not_renewed off = record {
      found = so_far.found;
      ascend = so_far.ascend;
      each = λ row c. let w = so_far.each row c in (w.0, w.1, Contains-append_left ids (n ∷ []) row.number w.2);
      all = λ row is has named. ⊎_elim
          (λ old. so_far.all row is has old)
          (λ e. absurd (false≢true
          (sym off ∙ ap (λ (r : NumberedRing). is_changed change r.corners)
          (same_row rows (numbered n ring) row up is_row is e) ∙ has)))
          (Contains-push_cases ids n row.number named);
      are_renewed = so_far.are_renewed;
    }

    -- a row that is
    pub one_renewed : ((m : ℕ) → Contains ids m → m < n) → is_changed change ring ≡ true
        → AreRenewed rows change (ids ++ n ∷ []) (news ++ numbered n (changed_ring change ring) ∷ [])
    one_renewed above on = record {
      found = so_far.found ++ numbered n ring ∷ [];
      ascend = ascend_behind n so_far.found (numbered n ring ∷ []) so_far.ascend
          (all_from_contains (λ (row : NumberedRing). row.number < n) so_far.found (λ row c.
          above row.number (so_far.each row c).2)) (refl, tt);
      each = λ row c. ⊎_elim
          (λ old. let w = so_far.each row old in (w.0, w.1, Contains-append_left ids (n ∷ []) row.number w.2))
          (λ e. subst (λ (r : NumberedRing). Contains rows r × (is_changed change r.corners ≡ true)
          × Contains (ids ++ n ∷ []) r.number) e
          (is_row, on, Contains-push ids n))
          (Contains-push_cases so_far.found (numbered n ring) row c);
      all = λ row is has named. ⊎_elim
          (λ old. Contains-append_left so_far.found (numbered n ring ∷ []) row (so_far.all row is has old))
          (λ e. subst (Contains (so_far.found ++ numbered n ring ∷ [])) (same_row rows (numbered n ring) row up is_row is e)
          (Contains-push so_far.found (numbered n ring)))
          (Contains-push_cases ids n row.number named);
      are_renewed = ap (λ xs. xs ++ numbered n (changed_ring change ring) ∷ []) so_far.are_renewed
          ∙ sym (map-append (renewed change) so_far.found (numbered n ring ∷ []));
    }

  -- all rows that are changed
  pub all_renewed : (ids : List ℕ) (news : List NumberedRing) → Ascend rows
      → ((row : NumberedRing) → Contains rows row → is_changed change row.corners ≡ true → Contains ids row.number)
      → AreRenewed rows change ids news → news ≡ map (renewed change) (rows_changed change rows)
  all_renewed ids news up named h = h.are_renewed ∙ ap (map (renewed change)) (same_rows h.found (rows_changed change rows) h.ascend
      (Ascend-filter (λ row. is_changed change row.corners) rows up)
      (λ row c. let w = h.each row c in Contains-kept (λ row. is_changed change row.corners) rows row w.0 w.1)
      (λ row c. let w = Contains-from_kept (λ (row : NumberedRing). is_changed change row.corners) rows row c in
      h.all row w.0 w.1 (named row w.0 w.1)))

-- ---- what the answer for one ring says
pub changes_not : (b : Bool) → ¬ (b ≡ true) → b ≡ false
changes_not b off = false_from_ne_true b off

pub changes_it : (b : Bool) → ¬ (¬ (b ≡ true)) → b ≡ true
changes_it b h = ⊎_elim (λ t. t) (λ f. absurd (h (λ t. false≢true (sym f ∙ t)))) (cases_Bool b)

-- ---- whether any row is changed
module _ {X : Type 0} (p : X → Bool) where
  -- where a test finds nothing, nothing is kept
  pub none_kept : (xs : List X) → list_any p xs ≡ false → filter p xs ≡ []
  none_kept [] h = refl
  none_kept (x ∷ xs) h = by_test (p x) (none_kept xs) h
    where
      by_test : (b : Bool) → (list_any p xs ≡ false → filter p xs ≡ []) → (b || list_any p xs) ≡ false
          → cond b (x ∷ filter p xs) (filter p xs) ≡ []
      by_test true rest h = absurd (false≢true (sym h))
      by_test false rest h = rest h

  -- and where it finds something, something is
  pub some_kept : (xs : List X) → list_any p xs ≡ true → filter p xs ≢ []
  some_kept [] h = absurd (false≢true h)
  some_kept (x ∷ xs) h = by_test (p x) (some_kept xs) h
    where
      by_test : (b : Bool) → (list_any p xs ≡ true → filter p xs ≢ []) → (b || list_any p xs) ≡ true
          → cond b (x ∷ filter p xs) (filter p xs) ≢ []
      by_test true rest h = λ e. absurd (cc)
      by_test false rest h = rest h
