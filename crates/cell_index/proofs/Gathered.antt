-- The keys that are gathered from the cells of a range: those of all entries that stand in one of these, each from one cell.
use Rattle.std.proofs.Common.{◌≡◌, ◌≢◌, ◌↔◌, ◌∙◌, ⊎_elim, refl, sym, ap, subst, ℕ, zero, suc, ◌+◌, ◌*◌}
use Rattle.std.proofs.Common.{◌<◌, ◌≤◌, max, min, nat_lt, not, arith, add-one, Bool, true, false, ◌&&◌, List, []}
use Rattle.std.proofs.Common.{◌++◌, map, get_or}
use Rattle.std.specs.List.{filter, Contains, AllPairs}
use Rattle.std.proofs.lemmas.Bool.{cases_lt, false≢true}
use Rattle.std.proofs.lemmas.Bool.Decides.{nat_tests}
use Rattle.std.proofs.lemmas.List.Elements.{Contains-append_left, Contains-append_right, Contains-append_cases}
use Rattle.std.proofs.lemmas.List.Kept.{AllPairs-filter}
use Rattle.geo_exact.specs.declared.bounds.Bounds.{Bounds}
use Rattle.geo_exact.specs.declared.corner.Corner.{Corner}
use Rattle.geo_exact.specs.Places.{origin}
use Rattle.cell_index.specs.declared.entry.IndexEntry.{IndexEntry}
use Rattle.cell_index.specs.declared.range.CellRange.{CellRange}
use Rattle.cell_index.specs.Cells.{column, row, stands_in, is_wide, narrow, Grid, Indexes, HaveOwnKeys, IsCellBetween}
use Rattle.cell_index.specs.Cells.{IsKeyBetween, StandsBetween}
use Rattle.cell_index.specs.own.Ranges.{HasCell, cell_count, column_at, row_at, number_at, is_first_common}
use Rattle.cell_index.specs.own.Ranges.{is_first_at, gathered, has_some_of}
use Rattle.cell_index.proofs.Along.{between_in_grid}
use Rattle.cell_index.proofs.Members.{by_test, filtered, from_filtered, mapped, from_mapped, pairs_joined, pairs_mapped, same_member}
use Rattle.cell_index.proofs.Ranges.{has_cell, column_in_grid, row_in_grid, nth_cell, one_number}
use Rattle.cell_index.proofs.BoxesInCells.{Stands, Decides-stands}

-- what the n-th cell gives
abbrev gives : Bounds → CellRange → List (List IndexEntry) → ℕ → List IndexEntry
gives area range cells n = filter (λ entry. is_first_at area range n entry.bounds) (get_or cells (number_at range n) [])

abbrev keys_of : List IndexEntry → List ℕ
keys_of entries = map (λ entry. entry.key) entries

pub gathered_more : (area : Bounds) (range : CellRange) (cells : List (List IndexEntry)) (n : ℕ)
    → gathered area range cells (n + 1) ≡ gathered area range cells n ++ keys_of (gives area range cells n)
gathered_more area range cells n = ap (gathered area range cells) (add-one n)

no_entry : IndexEntry
no_entry = record { key = 0; bounds = record { low = origin; high = origin } }

-- ---- the first cell along an axis
first_is : (first low i : ℕ) → is_first_common first low i ≡ true → first ≤ i → low ≤ i → i ≡ max first low
first_is first low i t h k = grind (arith, nat_tests)

is_first : (first low : ℕ) → is_first_common first low (max first low) ≡ true
is_first first low = grind (arith, nat_tests)

both_true : (a b : Bool) → (a && b) ≡ true → (a ≡ true) × (b ≡ true)
both_true true true e = (refl, refl)
both_true true false e = (refl, e)
both_true false b e = absurd (false≢true e)

and_true : (a b : Bool) → a ≡ true → b ≡ true → (a && b) ≡ true
and_true a b e f = rw (e, f) refl

-- in each cell are exactly the entries whose boxes stand there
abbrev InCells : Bounds → List (List IndexEntry) → List IndexEntry → Type 0
InCells area cells entries = (i j : ℕ) → i < 64 → j < 64 → get_or cells (64 * i + j) []
    ≡ filter (λ e. stands_in area i j e.bounds) entries

module _ (area : Bounds) (range : CellRange) (cells : List (List IndexEntry)) (entries : List IndexEntry)
    (index : InCells area cells entries) where
  -- ---- what stands in the n-th cell
  cell_is : (n : ℕ) → n < cell_count range
      → get_or cells (number_at range n) [] ≡ filter (λ e. stands_in area (column_at range n) (row_at range n) e.bounds) entries
  cell_is n b = index (column_at range n) (row_at range n) (column_in_grid range n b) (row_in_grid range n b)

  -- an entry that stands in the n-th cell, which is its first
  abbrev IsGivenAt : ℕ → IndexEntry → Type 0
  IsGivenAt n e =
      Contains entries e × (stands_in area (column_at range n) (row_at range n) e.bounds ≡ true)
      × (is_first_at area range n e.bounds ≡ true)

  given_at : (n : ℕ) (e : IndexEntry) → n < cell_count range → Contains (gives area range cells n) e → IsGivenAt n e
  given_at n e b h =
      let first = from_filtered (λ x. is_first_at area range n x.bounds) (get_or cells (number_at range n) []) e h in
      let stands = from_filtered (λ x. stands_in area (column_at range n) (row_at range n) x.bounds) entries e
      (subst (λ xs. Contains xs e) (cell_is n b) first.0) in
      (stands.0, stands.1, first.1)

  gives_it : (n : ℕ) (e : IndexEntry) → n < cell_count range → IsGivenAt n e → Contains (gives area range cells n) e
  gives_it n e b h =
      filtered (λ x. is_first_at area range n x.bounds) (get_or cells (number_at range n) []) e
      (subst (λ xs. Contains xs e) (sym (cell_is n b))
      (filtered (λ x. stands_in area (column_at range n) (row_at range n) x.bounds) entries e h.0 h.1)) h.2

  -- ---- members
  abbrev IsFrom : ℕ → ℕ → Type 0
  IsFrom n key = (m : ℕ) × (m < n) × ((e : IndexEntry) × IsGivenAt m e × (e.key ≡ key))

  from_gathered : (n : ℕ) (key : ℕ) → n ≤ cell_count range → Contains (gathered area range cells n) key → IsFrom n key
  from_gathered zero key b (k, c, e) = absurd (omega (arith, c))
  from_gathered (suc n) key b h =
      ⊎_elim
      (λ so_far. let m = from_gathered n key (omega (arith, b)) so_far in (m.0, omega (arith, m.1), m.2))
      (λ here. let e = from_mapped (λ x. x.key) (gives area range cells n) key here in
      (n, omega arith, (e.0, given_at n e.0 (omega (arith, b)) e.1, e.2)))
      (Contains-append_cases (gathered area range cells n) (keys_of (gives area range cells n)) key h)

  to_gathered : (n : ℕ) (key : ℕ) → n ≤ cell_count range → IsFrom n key → Contains (gathered area range cells n) key
  to_gathered zero key b (m, c, h) = absurd (omega (arith, c))
  to_gathered (suc n) key b (m, c, h) =
      ⊎_elim
      (λ less. Contains-append_left (gathered area range cells n) (keys_of (gives area range cells n)) key
      (to_gathered n key (omega (arith, b)) (m, less, h)))
      (λ last. Contains-append_right (gathered area range cells n) (keys_of (gives area range cells n)) key
      (subst (λ k. Contains (keys_of (gives area range cells n)) k) h.2
      (mapped (λ x. x.key) (gives area range cells n) h.0
      (gives_it n h.0 (omega (arith, b)) (subst (λ k. IsGivenAt k h.0) (let e : m ≡ n = omega (arith, c, last) in e) h.1)))))
      (cases_lt m n)

  -- ---- each once
  one_cell : (m n : ℕ) (e : IndexEntry) → m < cell_count range → n < cell_count range → IsGivenAt m e → IsGivenAt n e → m ≡ n
  one_cell m n e b c h k =
      let at_m : Stands area (column_at range m) (row_at range m) e.bounds =
      (Decides-stands area (column_at range m) (row_at range m) e.bounds).0 h.1 in
      let at_n : Stands area (column_at range n) (row_at range n) e.bounds =
      (Decides-stands area (column_at range n) (row_at range n) e.bounds).0 k.1 in
      let first_m = both_true _ _ h.2 in
      let first_n = both_true _ _ k.2 in
      let has_m : HasCell range (column_at range m) (row_at range m) = has_cell range m b in
      let has_n : HasCell range (column_at range n) (row_at range n) = has_cell range n c in
      let columns : column_at range m ≡ column_at range n =
      first_is range.columns.first (column area e.bounds.low.x) (column_at range m) first_m.0 has_m.from_column at_m.0.0
      ∙ sym (first_is range.columns.first (column area e.bounds.low.x) (column_at range n) first_n.0 has_n.from_column at_n.0.0) in
      let rows : row_at range m ≡ row_at range n =
      first_is range.rows.first (row area e.bounds.low.y) (row_at range m) first_m.1 has_m.from_row at_m.1.0
      ∙ sym (first_is range.rows.first (row area e.bounds.low.y) (row_at range n) first_n.1 has_n.from_row at_n.1.0) in
      one_number range m n b c (ap (λ i. 64 * i + row_at range m) columns ∙ ap (λ j. 64 * column_at range n + j) rows)

  pub each_once : HaveOwnKeys entries → (n : ℕ) → n ≤ cell_count range → AllPairs (λ a b. a ≢ b) (gathered area range cells n)
  each_once own zero b = λ i j d before below. absurd (omega (arith, below))
  each_once own (suc n) b =
      pairs_joined (λ a b. a ≢ b) (gathered area range cells n) (keys_of (gives area range cells n)) (each_once own n (omega (arith, b)))
      (pairs_mapped (λ x. x.key) no_entry (gives area range cells n)
      (AllPairs-filter (λ x y. x.key ≢ y.key) (λ x. is_first_at area range n x.bounds) (get_or cells (number_at range n) [])
      (subst (AllPairs (λ x y. x.key ≢ y.key)) (sym (cell_is n (omega (arith, b))))
      (AllPairs-filter (λ x y. x.key ≢ y.key) (λ x. stands_in area (column_at range n) (row_at range n) x.bounds) entries own))))
      (λ x y hx hy same.
      let m = from_gathered n x (omega (arith, b)) hx in
      let e = from_mapped (λ z. z.key) (gives area range cells n) y hy in
      let here : IsGivenAt n e.0 = given_at n e.0 (omega (arith, b)) e.1 in
      let one : m.2.0 ≡ e.0 = same_member (λ z. z.key) entries m.2.0 e.0 own m.2.1.0 here.0 (m.2.2 ∙ same ∙ sym e.2) in
      let number : m.0 ≡ n = one_cell m.0 n e.0 (omega (arith, m.1, b)) (omega (arith, b)) (subst (IsGivenAt m.0) one m.2.1) here in
      omega (arith, m.1, number))

  -- ---- exactly those that stand between
  module _ (low high : Corner) (covers : (i j : ℕ) → i < 64 → j < 64 → HasCell range i j
      ↔ IsCellBetween area low high i j) (key : ℕ) where
    stands_between : Contains (gathered area range cells (cell_count range)) key → IsKeyBetween area low high entries key
    stands_between h =
        let m = from_gathered (cell_count range) key (omega arith) h in
        let i : ℕ = column_at range m.0 in let j : ℕ = row_at range m.0 in (
          m.2.0,
          m.2.1.0,
          m.2.2,
          (i, j, (covers i j (column_in_grid range m.0 m.1) (row_in_grid range m.0 m.1)).0 (has_cell range m.0 m.1), m.2.1.1),
        )

    -- the first cell that the entry has in common with the range
    from_first : (e : IndexEntry) → Contains entries e → e.key ≡ key → (i j : ℕ) → HasCell range i j
        → stands_in area i j e.bounds ≡ true
        → Contains (gathered area range cells (cell_count range)) key
    from_first e member is i j has stands =
        let s : Stands area i j e.bounds = (Decides-stands area i j e.bounds).0 stands in
        let a : ℕ = max range.columns.first (column area e.bounds.low.x) in
        let b : ℕ = max range.rows.first (row area e.bounds.low.y) in
        let n = nth_cell range a b (record {
          from_column = omega arith;
          to_column = omega (arith, has.from_column, has.to_column, s.0.0);
          from_row = omega arith;
          to_row = omega (arith, has.from_row, has.to_row, s.1.0);
        }) in
        let there : stands_in area a b e.bounds ≡ true = (Decides-stands area a b e.bounds).1
        ((omega arith, omega (arith, has.from_column, s.0.0, s.0.1)), (omega arith, omega (arith, has.from_row, s.1.0, s.1.1))) in
        to_gathered (cell_count range) key (omega arith) (
          n.0,
          n.1,
          (
            e,
            (
              member,
              rw (n.2, n.3) there,
              and_true (is_first_common range.columns.first (column area e.bounds.low.x) (column_at range n.0))
                  (is_first_common range.rows.first (row area e.bounds.low.y) (row_at range n.0))
                  (rw n.2 (is_first range.columns.first (column area e.bounds.low.x)))
                  (rw n.3 (is_first range.rows.first (row area e.bounds.low.y))),
            ),
            is,
          ),
        )

    is_gathered : IsKeyBetween area low high entries key → Contains (gathered area range cells (cell_count range)) key
    is_gathered (e, member, is, (i, j, between, stands)) =
        let inside = between_in_grid area low high i j between in
        from_first e member is i j ((covers i j inside.0 inside.1).1 between) stands

    pub exactly : Contains (gathered area range cells (cell_count range)) key ↔ IsKeyBetween area low high entries key
    exactly = (stands_between, is_gathered)

-- ---- what is beside the cells
common_test : (f n a b : ℕ) → nat_lt (max f a) (min (f + n) (b + 1)) ≡ true → (i : ℕ) × ((f ≤ i) × (i < f + n))
    × ((a ≤ i) × (i ≤ b))
common_test f n a b t =
    let less : max f a < min (f + n) (b + 1) = grind (arith, nat_tests) in
    (max f a, (omega arith, omega (arith, less)), (omega arith, omega (arith, less)))

common_found : (f n a b i : ℕ) → f ≤ i → i < f + n → a ≤ i → i ≤ b → nat_lt (max f a) (min (f + n) (b + 1)) ≡ true
common_found f n a b i p q r s = let less : max f a < min (f + n) (b + 1) = omega (arith, p, q, r, s) in grind (arith, nat_tests)

module _ (area : Bounds) (range : CellRange) (low high : Corner)
    (covers : (i j : ℕ) → i < 64 → j < 64 → HasCell range i j ↔ IsCellBetween area low high i j) (box : Bounds) where
  some_stand : has_some_of area range box ≡ true → StandsBetween area low high box
  some_stand t =
      let both = both_true _ _ t in
      let i = common_test range.columns.first range.columns.count (column area box.low.x) (column area box.high.x) both.0 in
      let j = common_test range.rows.first range.rows.count (row area box.low.y) (row area box.high.y) both.1 in (
        i.0,
        j.0,
        (covers i.0 j.0 (omega (arith, i.1.1, range.columns.is_in_grid)) (omega (arith, j.1.1, range.rows.is_in_grid))).0
            (record { from_column = i.1.0; to_column = i.1.1; from_row = j.1.0; to_row = j.1.1 }),
        (Decides-stands area i.0 j.0 box).1 (i.2, j.2),
      )

  stand_in_some : StandsBetween area low high box → has_some_of area range box ≡ true
  stand_in_some (i, j, between, stands) =
      let inside = between_in_grid area low high i j between in
      let has : HasCell range i j = (covers i j inside.0 inside.1).1 between in
      let s : Stands area i j box = (Decides-stands area i j box).0 stands in
      and_true _ _
      (common_found range.columns.first range.columns.count (column area box.low.x) (column area box.high.x) i
      has.from_column has.to_column s.0.0 s.0.1)
      (common_found range.rows.first range.rows.count (row area box.low.y) (row area box.high.y) j has.from_row has.to_row s.1.0 s.1.1)

-- ---- what is in the cells and what is beside them
abbrev pub found_beside : Bounds → CellRange → List IndexEntry → List ℕ
found_beside area range beside = keys_of (filter (λ entry. has_some_of area range entry.bounds) beside)

module _ (grid : Grid) (range : CellRange) (entries : List IndexEntry) (index : Indexes grid entries) where
  abbrev IsWide : IndexEntry → Bool
  IsWide e = is_wide grid.area e.bounds

  abbrev all_found : List ℕ
  all_found = gathered grid.area range grid.cells (cell_count range) ++ found_beside grid.area range grid.beside

  -- an entry that is kept beside the cells, and stands in some of them
  from_beside : (key : ℕ) → Contains (found_beside grid.area range grid.beside) key
      → (e : IndexEntry) × Contains entries e × (e.key ≡ key) × (IsWide e ≡ true) × (has_some_of grid.area range e.bounds ≡ true)
  from_beside key h =
      let m = from_mapped (λ x. x.key) (filter (λ x. has_some_of grid.area range x.bounds) grid.beside) key h in
      let some = from_filtered (λ x. has_some_of grid.area range x.bounds) grid.beside m.0 m.1 in
      let is = from_filtered IsWide entries m.0 (subst (λ xs. Contains xs m.0) index.beside_cells some.0) in
      (m.0, is.0, m.2, is.1, some.1)

  pub all_exactly : (low high : Corner) → ((i j : ℕ) → i < 64 → j < 64 → HasCell range i j
      ↔ IsCellBetween grid.area low high i j) → (key : ℕ)
      → Contains all_found key ↔ IsKeyBetween grid.area low high entries key
  all_exactly low high covers key = (
    λ h. ⊎_elim
        (λ in_cells.
        let found = (exactly grid.area range grid.cells (narrow grid.area entries) index.in_cells low high covers key).0 in_cells in
        (found.0, (from_filtered (λ e. not (IsWide e)) entries found.0 found.1).0, found.2, found.3))
        (λ beside. let found = from_beside key beside in
        (found.0, found.1, found.2, some_stand grid.area range low high covers found.0.bounds found.4))
        (Contains-append_cases (gathered grid.area range grid.cells (cell_count range)) (found_beside grid.area range grid.beside) key h),
    λ k. by_test (IsWide k.0)
        (λ w. Contains-append_right (gathered grid.area range grid.cells (cell_count range)) (found_beside grid.area range grid.beside) key
        (subst (Contains (found_beside grid.area range grid.beside)) k.2
        (mapped (λ x. x.key) (filter (λ x. has_some_of grid.area range x.bounds) grid.beside) k.0
        (filtered (λ x. has_some_of grid.area range x.bounds) grid.beside k.0
        (subst (λ xs. Contains xs k.0) (sym index.beside_cells) (filtered IsWide entries k.0 k.1 w))
        (stand_in_some grid.area range low high covers k.0.bounds k.3)))))
        (λ f. Contains-append_left (gathered grid.area range grid.cells (cell_count range)) (found_beside grid.area range grid.beside) key
        ((exactly grid.area range grid.cells (narrow grid.area entries) index.in_cells low high covers key).1
        (k.0, filtered (λ e. not (IsWide e)) entries k.0 k.1 (ap not f), k.2, k.3))),
  )

  pub all_once : HaveOwnKeys entries → AllPairs (λ a b. a ≢ b) all_found
  all_once own =
      pairs_joined (λ a b. a ≢ b) (gathered grid.area range grid.cells (cell_count range)) (found_beside grid.area range grid.beside)
      (each_once grid.area range grid.cells (narrow grid.area entries) index.in_cells
      (AllPairs-filter (λ x y. x.key ≢ y.key) (λ e. not (IsWide e)) entries own) (cell_count range) (omega arith))
      (pairs_mapped (λ x. x.key) no_entry (filter (λ x. has_some_of grid.area range x.bounds) grid.beside)
      (AllPairs-filter (λ x y. x.key ≢ y.key) (λ x. has_some_of grid.area range x.bounds) grid.beside
      (subst (AllPairs (λ x y. x.key ≢ y.key)) (sym index.beside_cells) (AllPairs-filter (λ x y. x.key ≢ y.key) IsWide entries own))))
      (λ x y hx hy same.
      let m = from_gathered grid.area range grid.cells (narrow grid.area entries) index.in_cells (cell_count range) x (omega arith) hx in
      let n = from_beside y hy in
      let in_cells = from_filtered (λ e. not (IsWide e)) entries m.2.0 m.2.1.0 in
      let one : m.2.0 ≡ n.0 = same_member (λ z. z.key) entries m.2.0 n.0 own in_cells.0 n.1 (m.2.2 ∙ same ∙ sym n.2) in
      false≢true (ap not (sym n.3) ∙ sym (ap (λ e. not (IsWide e)) one) ∙ in_cells.1))
