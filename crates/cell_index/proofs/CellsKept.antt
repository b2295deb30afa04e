-- What changes of the cells make of an index.
use Rattle.std.proofs.Common.{◌≡◌, ◌↔◌, ◌∙◌, refl, sym, ap, subst, ℕ, ◌+◌, ◌*◌, ◌/◌, ◌%◌, ◌<◌}
use Rattle.std.proofs.Common.{◌≤◌, arith, Bool, true, false, not, ◌&&◌, ◌||◌, cond, List, [], ◌∷◌, ◌++◌, length}
use Rattle.std.proofs.Common.{get_or, take}
use Rattle.std.specs.Prelude.{IsTrue, nat_eq}
use Rattle.std.specs.List.{filter, list_any, count_by}
use Rattle.std.proofs.lemmas.Bool.{false≢true}
use Rattle.std.proofs.lemmas.List.{append-nil, get_or-map, get_or-take, length-map, length-take-le}
use Rattle.std.proofs.lemmas.List.Elements.{filter-append, filter_agree}
use Rattle.std.proofs.lemmas.List.Filters.{sum_by-filter_both}
use Rattle.std.proofs.lemmas.List.Sums.{sum_by-append}
use Rattle.std.proofs.lemmas.Nat.{div_below, mod_below}
use Rattle.geo_exact.specs.declared.bounds.Bounds.{Bounds}
use Rattle.geo_exact.specs.Order.{is_same}
use Rattle.geo_exact.proofs.corners_and_turns.CornerOrder.{same_from_test}
use Rattle.cell_index.specs.declared.entry.IndexEntry.{IndexEntry}
use Rattle.cell_index.specs.declared.places.Places.{Places}
use Rattle.cell_index.specs.Cells.{cell, stands_in, is_wide, narrow, Grid, standing, Indexes, is_same_entry, without}
use Rattle.cell_index.specs.own.Ranges.{is_kept_in, place_count, HasPlace, Cell, no_cell, cell_at, contents, shown}
use Rattle.cell_index.specs.own.Ranges.{Keeps, IsChanged, with_entry, passing}
use Rattle.cell_index.proofs.KeptPlaces.{by_lt, kept_in_cell, whole}
use Rattle.cell_index.proofs.Members.{by_test}

-- what is kept in a cell, as the code keeps it
pub item_at : (cells : List Cell) (k : ℕ) → k < length cells → get_or (contents cells) k [] ≡ (cell_at cells k).items
item_at cells k inside = get_or-map (λ c. c.items) cells k no_cell [] inside

-- ---- filters
taken : (p : IndexEntry → Bool) (x : IndexEntry) (xs : List IndexEntry) → p x ≡ true → filter p (x ∷ xs) ≡ x ∷ filter p xs
taken p x xs t = ap (λ b. cond b (x ∷ filter p xs) (filter p xs)) t

left_out : (p : IndexEntry → Bool) (x : IndexEntry) (xs : List IndexEntry) → p x ≡ false → filter p (x ∷ xs) ≡ filter p xs
left_out p x xs f = ap (λ b. cond b (x ∷ filter p xs) (filter p xs)) f

one_more : (p : IndexEntry → Bool) (entry : IndexEntry) (xs : List IndexEntry) → p entry ≡ true → filter p (xs ++ entry ∷ [])
    ≡ filter p xs ++ entry ∷ []
one_more p entry xs t = filter-append p xs (entry ∷ []) ∙ ap (λ b. filter p xs ++ cond b (entry ∷ []) []) t

no_more : (p : IndexEntry → Bool) (entry : IndexEntry) (xs : List IndexEntry) → p entry ≡ false → filter p (xs ++ entry ∷ []) ≡ filter p xs
no_more p entry xs f = filter-append p xs (entry ∷ []) ∙ ap (λ b. filter p xs ++ cond b (entry ∷ []) []) f
    ∙ append-nil (filter p xs)

-- one filter after another
pub filter_both : (p q : IndexEntry → Bool) (xs : List IndexEntry) → filter p (filter q xs) ≡ filter (λ x. q x && p x) xs
filter_both p q [] = refl
filter_both p q (x ∷ xs) =
    by_test (q x)
    (λ t. ap (filter p) (taken q x xs t)
    ∙ ap (λ ys. cond (p x) (x ∷ ys) ys) (filter_both p q xs)
    ∙ sym (ap (λ b. cond (b && p x) (x ∷ filter (λ y. q y && p y) xs) (filter (λ y. q y && p y) xs)) t))
    (λ f. ap (filter p) (left_out q x xs f)
    ∙ filter_both p q xs
    ∙ sym (ap (λ b. cond (b && p x) (x ∷ filter (λ y. q y && p y) xs) (filter (λ y. q y && p y) xs)) f))

and_swapped : (a b : Bool) → (a && b) ≡ (b && a)
and_swapped true true = refl
and_swapped true false = refl
and_swapped false true = refl
and_swapped false false = refl

in_either_order : (p q : IndexEntry → Bool) (xs : List IndexEntry) → filter q (filter p xs) ≡ filter p (filter q xs)
in_either_order p q xs = filter_both q p xs ∙ filter_agree _ _ (λ x. and_swapped (p x) (q x)) xs ∙ sym (filter_both p q xs)

unseen : (p q : IndexEntry → Bool) → ((x : IndexEntry) → p x ≡ true → q x ≡ true) → (xs : List IndexEntry) → filter p (filter q xs)
    ≡ filter p xs
unseen p q says xs = filter_both p q xs ∙ filter_agree _ _ (λ x. implied (p x) (q x) (says x)) xs
  where
    implied : (a b : Bool) → (a ≡ true → b ≡ true) → (b && a) ≡ a
    implied true true h = refl
    implied true false h = h refl
    implied false true h = refl
    implied false false h = refl

-- ---- what the cells show
pub shown_alike : (area : Bounds) (old new : List Cell) → contents old ≡ contents new → shown area old ≡ shown area new
shown_alike area old new e =
    ap (λ (xs : List (List IndexEntry)). record { area = area; cells = take 4096 xs; beside = get_or xs 4096 [] }) e

module _ (area : Bounds) (cells : List Cell) (all : length cells ≡ 4097) (entries : List IndexEntry) where
  pub items_shown : (k : ℕ) → k < 4096 → get_or (shown area cells).cells k [] ≡ (cell_at cells k).items
  items_shown k h = get_or-take 4096 (contents cells) k [] h ∙ item_at cells k (omega (arith, h, all))

  pub items_beside : (shown area cells).beside ≡ (cell_at cells 4096).items
  items_beside = item_at cells 4096 (omega (arith, all))

  kept_narrow : (i j : ℕ) → i < 64 → j < 64
      → filter (λ e. is_kept_in area (64 * i + j) e.bounds) entries ≡ filter (λ e. stands_in area i j e.bounds) (narrow area entries)
  kept_narrow i j h k =
      filter_agree (λ e. is_kept_in area (64 * i + j) e.bounds) (λ e. not (is_wide area e.bounds) && stands_in area i j e.bounds)
      (λ e. kept_in_cell area e.bounds i j h k) entries
      ∙ sym (filter_both (λ e. stands_in area i j e.bounds) (λ e. not (is_wide area e.bounds)) entries)

  pub shows : Keeps area cells entries → Indexes (shown area cells) entries
  shows keeps = record {
    all_cells = length-take-le 4096 (contents cells) (omega (arith, length-map cells (λ (c : Cell). c.items), all));
    in_cells = λ i j h k.
        let inside : 64 * i + j < 4096 = omega (arith, h, k) in
        items_shown (64 * i + j) inside ∙ keeps (64 * i + j) (omega (arith, inside)) ∙ kept_narrow i j h k;
    beside_cells = items_beside ∙ keeps 4096 (omega arith);
  }

  pub keeps : Indexes (shown area cells) entries → Keeps area cells entries
  keeps index k inside =
      by_lt k 4096
      (λ in_grid.
      let low : k % 64 < 64 = mod_below k 64 (omega arith) in
      let high : k / 64 < 64 = div_below k 64 64 (omega arith) (omega (arith, in_grid)) in
      subst (λ n. (cell_at cells n).items ≡ filter (λ e. is_kept_in area n e.bounds) entries) (whole k)
      (sym (items_shown (64 * (k / 64) + k % 64) (omega (arith, low, high)))
      ∙ index.in_cells (k / 64) (k % 64) high low
      ∙ sym (kept_narrow (k / 64) (k % 64) high low)))
      (λ behind.
      let last : k ≡ 4096 = omega (arith, inside, behind) in
      subst (λ n. (cell_at cells n).items ≡ filter (λ e. is_kept_in area n e.bounds) entries) (sym last)
      (sym items_beside ∙ index.beside_cells))

-- ---- one change
-- the places are the cells where an entry with this box is kept
abbrev pub AreWhereKept : Places → Bounds → Bounds → Type 0
AreWhereKept places area box = (k : ℕ) → k ≤ 4096 → HasPlace places k ↔ IsTrue (is_kept_in area k box)

module _ (places : Places) (area box : Bounds) (where_kept : AreWhereKept places area box) (change : Cell → Cell) (old new : List Cell)
    (h : IsChanged places (place_count places) change old new) (k : ℕ) (inside : k ≤ 4096) where
  pub changed_there : is_kept_in area k box ≡ true → cell_at new k ≡ change (cell_at old k)
  changed_there t = let n = (where_kept k inside).1 t in subst (λ m. cell_at new m ≡ change (cell_at old m)) n.2 (h.changed n.0 n.1)

  pub same_elsewhere : is_kept_in area k box ≡ false → cell_at new k ≡ cell_at old k
  same_elsewhere f = h.others k (λ m q e. false≢true (sym f ∙ (where_kept k inside).0 (m, q, e)))

-- ---- one entry more
pub added : (area : Bounds) (places : Places) (entry : IndexEntry) (old new : List Cell) → AreWhereKept places area entry.bounds
    → IsChanged places (place_count places) (with_entry entry) old new
    → (entries : List IndexEntry) → Keeps area old entries → Keeps area new (entries ++ entry ∷ [])
added area places entry old new where_kept h entries kept k inside =
    by_test (is_kept_in area k entry.bounds)
    (λ t. ap (λ c. c.items) (changed_there places area entry.bounds where_kept (with_entry entry) old new h k inside t)
    ∙ ap (λ xs. xs ++ entry ∷ []) (kept k inside)
    ∙ sym (one_more (λ e. is_kept_in area k e.bounds) entry entries t))
    (λ f. ap (λ c. c.items) (same_elsewhere places area entry.bounds where_kept (with_entry entry) old new h k inside f)
    ∙ kept k inside
    ∙ sym (no_more (λ e. is_kept_in area k e.bounds) entry entries f))

-- ---- an entry less
or_nothing : (b : Bool) → not b ≡ not (b || false)
or_nothing true = refl
or_nothing false = refl

second_and : (a b c : Bool) → (a && (b && c)) ≡ true → (b ≡ true) × (c ≡ true)
second_and true true true e = (refl, refl)
second_and true true false e = absurd (false≢true e)
second_and true false c e = absurd (false≢true e)
second_and false b c e = absurd (false≢true e)

-- the same entry is kept in the same cells
kept_alike : (area : Bounds) (k : ℕ) (a b : IndexEntry) → is_same_entry a b ≡ true → is_kept_in area k a.bounds
    ≡ is_kept_in area k b.bounds
kept_alike area k a b e =
    let corners = second_and (nat_eq a.key b.key) (is_same a.bounds.low b.bounds.low) (is_same a.bounds.high b.bounds.high) e in
    let low : a.bounds.low ≡ b.bounds.low = same_from_test a.bounds.low b.bounds.low corners.0 in
    let high : a.bounds.high ≡ b.bounds.high = same_from_test a.bounds.high b.bounds.high corners.1 in
    ap (λ c. is_kept_in area k (record { low = c; high = a.bounds.high })) low
    ∙ ap (λ c. is_kept_in area k (record { low = b.bounds.low; high = c })) high

pub removed : (area : Bounds) (places : Places) (gone : IndexEntry) (old new : List Cell) → AreWhereKept places area gone.bounds
    → IsChanged places (place_count places) (passing (λ e. not (is_same_entry e gone))) old new
    → (entries : List IndexEntry) → Keeps area old entries → Keeps area new (without (gone ∷ []) entries)
removed area places gone old new where_kept h entries kept k inside =
    by_test (is_kept_in area k gone.bounds)
    (λ t. ap (λ c. c.items) (changed_there places area gone.bounds where_kept (passing stays) old new h k inside t)
    ∙ ap (filter stays) (kept k inside)
    ∙ in_either_order here stays entries
    ∙ ap (filter here) (filter_agree stays left (λ e. or_nothing (is_same_entry e gone)) entries))
    (λ f. ap (λ c. c.items) (same_elsewhere places area gone.bounds where_kept (passing stays) old new h k inside f)
    ∙ kept k inside
    ∙ sym (unseen here left (λ e t. by_test (is_same_entry e gone)
    (λ s. absurd (false≢true (sym f ∙ sym (kept_alike area k e gone s) ∙ t)))
    (λ s. rw s refl)) entries))
  where
    here : IndexEntry → Bool
    here e = is_kept_in area k e.bounds

    stays : IndexEntry → Bool
    stays e = not (is_same_entry e gone)

    left : IndexEntry → Bool
    left e = not (list_any (is_same_entry e) (gone ∷ []))

-- ---- what stands in a cell, wherever it is kept
pub standing_counts : (grid : Grid) (entries : List IndexEntry) → Indexes grid entries → (i j : ℕ) → i < 64 → j < 64
    → (test : IndexEntry → Bool)
    → count_by test (standing grid i j) ≡ count_by test (filter (λ e. stands_in grid.area i j e.bounds) entries)
standing_counts grid entries index i j h k test =
    sum_by-append (λ e. cond (test e) 1 0) (cell grid i j) (filter stands grid.beside)
    ∙ ap (λ xs. count_by test xs + count_by test (filter stands grid.beside)) (index.in_cells i j h k
    ∙ in_either_order thin stands entries)
    ∙ ap (λ xs. count_by test (filter thin (filter stands entries)) + count_by test (filter stands xs)) index.beside_cells
    ∙ ap (λ xs. count_by test (filter thin (filter stands entries)) + count_by test xs) (in_either_order broad stands entries)
    ∙ sum_by-filter_both thin broad (λ e. twice (broad e)) (λ e. cond (test e) 1 0) (filter stands entries)
  where
    stands : IndexEntry → Bool
    stands e = stands_in grid.area i j e.bounds

    broad : IndexEntry → Bool
    broad e = is_wide grid.area e.bounds

    thin : IndexEntry → Bool
    thin e = not (is_wide grid.area e.bounds)

    twice : (b : Bool) → b ≡ not (not b)
    twice true = refl
    twice false = refl
