-- The three ways in which parcels are exchanged for others: one for two, two for one, and two for two.
use Rattle.std.proofs.Common.{◌≡◌, ◌≢◌, refl, sym, ◌∙◌, ap, subst, arith, ℕ, zero, suc, ◌+◌, ◌<◌, Bool, true}
use Rattle.std.proofs.Common.{false, not, ◌||◌, ◌&&◌, nat_eq, cond, List, [], ◌∷◌, ◌++◌, length, map, append_assoc}
use Rattle.std.proofs.Common.{Option, Some, None, slice_index_or, Result, Ok, Err}
use Rattle.std.specs.Result.{OnErr}
use Rattle.std.specs.List.{AllByRecursion, Contains, filter, list_any, slice_set}
use Rattle.std.specs.List.Sorted.{IsStrictlyIncreasing}
use Rattle.std.proofs.lemmas.Bool.Decides.{nat_tests}
use Rattle.std.proofs.lemmas.List.{map-append, length-append, get_or_append_left}
use Rattle.std.proofs.lemmas.List.Elements.{filter-append}
use Rattle.geo_exact.specs.declared.corner.Corner.{Corner}
use Rattle.geo_exact.specs.Layers.{numbered}
use Rattle.ring_core.specs.declared.shape.Shape.{Shape}
use Rattle.cell_index.specs.declared.entry.IndexEntry.{IndexEntry}
use Rattle.cell_index.specs.Cells.{Grid, Indexes, HaveOwnKeys, without}
use Rattle.cell_index.proofs.Members.{filtered, from_mapped}
use Rattle.parcel_table.specs.declared.parcels.Parcel.{Parcel}
use Rattle.parcel_table.specs.Table.{Table, IsKeyOf, HasId, ids_of, rows_of_keyed, entries_of, without_id}
use Rattle.parcel_table.proofs.Tables.{ids_of_rows}
use Rattle.fabric_core.specs.Limits.{AreWithinLimits}
use Rattle.fabric_core.specs.Rows.{numbers}
use Rattle.fabric_core.specs.Tiling.{corner_lists}
use Rattle.fabric_core.specs.Journal.{without_ids}
use Rattle.fabric_core.specs.own.Alike.{GoAlike}
use Rattle.fabric_core.specs.own.Kept.{Kept, IsKept, MayBeKept, ids_by_key, by_ids}
use Rattle.fabric_core.specs.own.Lists.{IsEntryAt}
use Rattle.fabric_core.proofs.edits.Exchanged.{entry_of, id_of, without_all, rows_without, filter_twice, exchanged}

-- ---- what has become of ids
pub fate_pushed : (fates : List (Option ℕ)) (id : ℕ) → slice_index_or (fates ++ None ∷ []) id None ≡ slice_index_or fates id None
fate_pushed [] zero = refl
fate_pushed [] (suc id) = refl
fate_pushed (fate ∷ fates) zero = refl
fate_pushed (fate ∷ fates) (suc id) = fate_pushed fates id

pub fate_set : (fates : List (Option ℕ)) (gone by id : ℕ) → gone < length fates
    → slice_index_or (slice_set fates gone (Some by)) id None ≡ cond (nat_eq id gone) (Some by) (slice_index_or fates id None)
fate_set [] gone by id h = absurd (omega (arith, h))
fate_set (fate ∷ fates) zero by zero h = refl
fate_set (fate ∷ fates) zero by (suc id) h = sym (ap (λ b. cond b (Some by) (slice_index_or fates id None)) (above id))
  where
    above : (n : ℕ) → nat_eq (suc n) 0 ≡ false
    above n = grind (arith, nat_tests)
fate_set (fate ∷ fates) (suc gone) by zero h = sym (ap (λ b. cond b (Some by) fate) (below gone))
  where
    below : (n : ℕ) → nat_eq 0 (suc n) ≡ false
    below n = grind (arith, nat_tests)
fate_set (fate ∷ fates) (suc gone) by (suc id) h =
    fate_set fates gone by id (omega (arith, h)) ∙ ap (λ b. cond b (Some by) (slice_index_or fates id None)) (both id gone)
  where
    both : (m n : ℕ) → nat_eq m n ≡ nat_eq (suc m) (suc n)
    both m n = grind (arith, nat_tests)

-- one id that goes, and two
pub fate_of_one : (fates : List (Option ℕ)) (gone by id : ℕ) → gone < length fates
    → slice_index_or (slice_set fates gone (Some by) ++ None ∷ []) id None
    ≡ cond (list_any (nat_eq id) (gone ∷ [])) (Some by) (slice_index_or fates id None)
fate_of_one fates gone by id h = fate_pushed (slice_set fates gone (Some by)) id ∙ fate_set fates gone by id h
    ∙ ap (λ b. cond b (Some by) (slice_index_or fates id None)) (or_none (nat_eq id gone))
  where
    or_none : (b : Bool) → b ≡ (b || false)
    or_none true = refl
    or_none false = refl

pub fate_of_two : (fates others : List (Option ℕ)) (a b by id : ℕ) → a < length fates → b < length others
    → others ≡ slice_set fates a (Some by) ++ None ∷ []
    → slice_index_or (slice_set others b (Some by)) id None
    ≡ cond (list_any (nat_eq id) (a ∷ b ∷ [])) (Some by) (slice_index_or fates id None)
fate_of_two fates others a b by id h k is =
    fate_set others b by id k
    ∙ ap (λ xs. cond (nat_eq id b) (Some by) (slice_index_or xs id None)) is
    ∙ ap (λ x. cond (nat_eq id b) (Some by) x) (fate_of_one fates a by id h)
    ∙ either (nat_eq id a) (nat_eq id b) (slice_index_or fates id None)
  where
    either : (x y : Bool) (z : Option ℕ) → cond y (Some by) (cond (x || false) (Some by) z) ≡ cond (x || (y || false)) (Some by) z
    either true true z = refl
    either true false z = refl
    either false true z = refl
    either false false z = refl

-- ---- the table
module _ {A : Type 0} where
  -- what is shown of a table and an index
  abbrev pub shown : List Corner → List Corner → Table A → Grid → Kept
  shown city refined table index = record {
    rows = rows_of_keyed table.parcels;
    city = city;
    refined = refined;
    index = by_ids (ids_by_key table.parcels) index;
    next = table.next;
    fates = table.fates;
  }

  -- where an allocation was refused, what is shown stays
  pub stays : {X E : Type 0} (result : Result X E) (city refined : List Corner) (table old : Table A) (index kept : Grid) (now : Kept)
      → table ≡ old → index ≡ kept → shown city refined old kept ≡ now → OnErr result (shown city refined table index ≡ now)
  stays (Ok x) city refined table old index kept now e f is = tt
  stays (Err x) city refined table old index kept now e f is =
      ap (λ t. shown city refined t index) e ∙ ap (λ i. shown city refined old i) f ∙ is

  pub has_id : (parcels : List (ℕ × Parcel A)) (id : ℕ) → Contains (numbers (rows_of_keyed parcels)) id → HasId parcels id
  has_id parcels id there =
      let w = from_mapped id_of parcels id (subst (λ ids. Contains ids id) (ids_of_rows parcels) there) in
      (w.0.0, record { parcel = w.0.1; is_here = w.1; has_id = w.2 })

  -- rows are below a number that all ids of parcels are below
  pub rows_below : (n : ℕ) (parcels : List (ℕ × Parcel A)) → ((id : ℕ) → HasId parcels id → id < n)
      → AllByRecursion (λ row. row.number < n) (rows_of_keyed parcels)
  rows_below n [] h = tt
  rows_below n (parcel ∷ parcels) h = (
    h parcel.1.id (parcel.0, record { parcel = parcel.1; is_here = (0, omega arith, refl); has_id = refl }),
    rows_below n parcels (λ id here. h id (
      here.0,
      record {
        parcel = here.1.parcel;
        is_here = (suc here.1.is_here.0, omega (arith, here.1.is_here.1), here.1.is_here.2);
        has_id = here.1.has_id;
      },
    )),
  )

  -- an entry of the index is that of its parcel
  pub entry_is : (parcels : List (ℕ × Parcel A)) (id : ℕ) (entry : IndexEntry) → (h : IsEntryAt parcels id entry)
      → entry ≡ entry_of (entry.key, h.parcel)
  entry_is parcels id entry h = ap (λ box. record { key = entry.key; bounds = box }) h.has_box

  not_named : (id : ℕ) (parcel : ℕ × Parcel A) → (not (nat_eq (id_of parcel) id) && true)
      ≡ not (list_any (nat_eq (id_of parcel)) (id ∷ []))
  not_named id parcel = by_test (nat_eq (id_of parcel) id)
    where
      by_test : (b : Bool) → (not b && true) ≡ not (b || false)
      by_test true = refl
      by_test false = refl

  all_kept : (parcels : List (ℕ × Parcel A)) → filter (λ parcel. true) parcels ≡ parcels
  all_kept [] = refl
  all_kept (parcel ∷ parcels) = ap (λ xs. parcel ∷ xs) (all_kept parcels)

  pub without_one : (id : ℕ) (parcels : List (ℕ × Parcel A)) → without_id id parcels ≡ without_all (id ∷ []) parcels
  without_one id parcels =
      sym (all_kept (without_id id parcels))
      ∙ filter_twice (λ parcel. not (nat_eq (id_of parcel) id)) (λ parcel. true) (λ parcel.
      not (list_any (nat_eq (id_of parcel)) (id ∷ [])))
      (λ parcel. sym (not_named id parcel)) parcels

  neither_named : (a b : ℕ) (parcel : ℕ × Parcel A)
      → not (list_any (nat_eq (id_of parcel)) (a ∷ b ∷ [])) ≡ (not (nat_eq (id_of parcel) a) && not (nat_eq (id_of parcel) b))
  neither_named a b parcel = by_tests (nat_eq (id_of parcel) a) (nat_eq (id_of parcel) b)
    where
      by_tests : (x y : Bool) → not (x || (y || false)) ≡ (not x && not y)
      by_tests true y = refl
      by_tests false true = refl
      by_tests false false = refl

  pub without_two : (a b : ℕ) (parcels : List (ℕ × Parcel A)) → without_id b (without_id a parcels)
      ≡ without_all (a ∷ b ∷ []) parcels
  without_two a b parcels = filter_twice (λ parcel. not (nat_eq (id_of parcel) a)) (λ parcel. not (nat_eq (id_of parcel) b))
      (λ parcel. not (list_any (nat_eq (id_of parcel)) (a ∷ b ∷ []))) (neither_named a b) parcels

  -- a parcel with another id stays
  pub without_behind : (id : ℕ) (parcels : List (ℕ × Parcel A)) (new : ℕ × Parcel A) → id_of new ≢ id
      → without_id id (parcels ++ new ∷ []) ≡ without_id id parcels ++ new ∷ []
  without_behind id parcels new other =
      filter-append (λ parcel. not (nat_eq (id_of parcel) id)) parcels (new ∷ [])
      ∙ ap (λ b. without_id id parcels ++ cond b (new ∷ []) []) (kept (id_of new) id other)
    where
      kept : (m n : ℕ) → m ≢ n → not (nat_eq m n) ≡ true
      kept m n h = grind (arith, nat_tests)

  -- and stays under its key
  pub still_key : (parcels news : List (ℕ × Parcel A)) (a b key : ℕ) → a ≢ b → IsKeyOf parcels b key
      → IsKeyOf (without_id a parcels ++ news) b key
  still_key parcels news a b key apart h =
      let kept : Contains (without_id a parcels) (key, h.parcel) =
      filtered (λ parcel. not (nat_eq (id_of parcel) a)) parcels (key, h.parcel) h.is_here
      (other h.parcel.id a (λ e. apart (sym e ∙ h.has_id))) in
      record {
        parcel = h.parcel;
        is_here = (
          kept.0,
          omega (arith, kept.1, length-append (without_id a parcels) news),
          get_or_append_left (without_id a parcels) news (key, h.parcel) kept.0 kept.1 ∙ kept.2,
        );
        has_id = h.has_id;
      }
    where
      other : (m n : ℕ) → m ≢ n → not (nat_eq m n) ≡ true
      other m n h = grind (arith, nat_tests)

  pub rows_after : (parcels news after : List (ℕ × Parcel A)) (ids : List ℕ) → after ≡ without_all ids parcels ++ news
      → rows_of_keyed after ≡ without_ids ids (rows_of_keyed parcels) ++ rows_of_keyed news
  rows_after parcels news after ids is =
      ap rows_of_keyed is ∙ map-append (λ parcel. numbered parcel.1.id parcel.1.shape.ring.corners) (without_all ids parcels) news
      ∙ ap (λ rows. rows ++ rows_of_keyed news) (rows_without ids parcels)

  -- what is kept, from what the steps of an exchange say
  pub kept_after : (parcels heres news after : List (ℕ × Parcel A)) (ids : List ℕ) (gone come : List IndexEntry)
      (city refined : List Corner)
      (index changed : Grid) → map id_of heres ≡ ids → IsKept parcels city refined index
      → IsStrictlyIncreasing (ids_of parcels) → HaveOwnKeys (entries_of parcels)
      → AllByRecursion (Contains parcels) heres → gone ≡ map entry_of heres → come ≡ entries_of news
      → after ≡ without_all ids parcels ++ news → IsStrictlyIncreasing (ids_of after)
      → MayBeKept (without_ids ids (rows_of_keyed parcels) ++ rows_of_keyed news) refined → changed.area ≡ index.area
      → ((entries : List IndexEntry) → Indexes index entries → Indexes changed (without gone entries ++ come))
      → IsKept after city refined changed
  kept_after parcels heres news after ids gone come city refined index changed named kept rise own all goes comes is
      rises may same indexed =
      let rows = rows_after parcels news after ids is in
      exchanged parcels heres news after city refined index changed kept rise own all
      (is ∙ ap (λ ns. without_all ns parcels ++ news) (sym named)) rises
      (subst (λ rows. GoAlike (corner_lists rows) refined) (sym rows) may.alike)
      (subst AreWithinLimits (sym rows) may.within) same
      (λ entries h. subst (λ xs. Indexes changed (without (map entry_of heres) entries ++ xs)) comes
      (subst (λ xs. Indexes changed (without xs entries ++ come)) goes (indexed entries h)))

  -- ---- one for two
  pub divided : (old reserved succeeded pushed : Table A) (id key second : ℕ) (left right : Shape A) → reserved.parcels ≡ old.parcels
      → reserved.next ≡ old.next → succeeded.parcels ≡ without_id id reserved.parcels
      ++ (key, record { id = reserved.next; shape = left }) ∷ []
      → succeeded.next ≡ reserved.next + 1 → pushed.parcels ≡ succeeded.parcels
      ++ (second, record { id = succeeded.next; shape = right }) ∷ []
      → pushed.parcels ≡ without_all (id ∷ []) old.parcels
      ++ (key, record { id = old.next; shape = left }) ∷ (second, record { id = old.next + 1; shape = right }) ∷ []
  divided old reserved succeeded pushed id key second left right same next first up more =
      more
      ∙ ap (λ xs. xs ++ (second, record { id = succeeded.next; shape = right }) ∷ []) first
      ∙ append_assoc (without_id id reserved.parcels) ((key, record { id = reserved.next; shape = left }) ∷ [])
      ((second, record { id = succeeded.next; shape = right }) ∷ [])
      ∙ ap (λ n. without_id id reserved.parcels ++ (key, record { id = n; shape = left })
      ∷ (second, record { id = succeeded.next; shape = right }) ∷ []) next
      ∙ ap (λ n. without_id id reserved.parcels ++ (key, record { id = old.next; shape = left })
      ∷ (second, record { id = n; shape = right }) ∷ [])
      (up ∙ ap (λ n. n + 1) next)
      ∙ ap (λ xs. xs ++ (key, record { id = old.next; shape = left }) ∷ (second, record { id = old.next + 1; shape = right }) ∷ [])
      (ap (without_id id) same ∙ without_one id old.parcels)

  -- ---- two for one
  pub united : (old reserved succeeded retired : Table A) (a b key : ℕ) (shape : Shape A) → reserved.parcels ≡ old.parcels
      → reserved.next ≡ old.next → old.next ≢ b
      → succeeded.parcels ≡ without_id a reserved.parcels ++ (key, record { id = reserved.next; shape = shape }) ∷ []
      → retired.parcels ≡ without_id b succeeded.parcels
      → retired.parcels ≡ without_all (a ∷ b ∷ []) old.parcels ++ (key, record { id = old.next; shape = shape }) ∷ []
  united old reserved succeeded retired a b key shape same next other first last =
      last
      ∙ ap (without_id b) (first ∙ ap (λ n. without_id a reserved.parcels ++ (key, record { id = n; shape = shape }) ∷ []) next
      ∙ ap (λ xs. without_id a xs ++ (key, record { id = old.next; shape = shape }) ∷ []) same)
      ∙ without_behind b (without_id a old.parcels) (key, record { id = old.next; shape = shape }) other
      ∙ ap (λ xs. xs ++ (key, record { id = old.next; shape = shape }) ∷ []) (without_two a b old.parcels)

  -- ---- two for two
  pub renewed : (old reserved first second : Table A) (a b key other : ℕ) (of_a of_b : Shape A) → reserved.parcels ≡ old.parcels
      → reserved.next ≡ old.next → old.next ≢ b
      → first.parcels ≡ without_id a reserved.parcels ++ (key, record { id = reserved.next; shape = of_a }) ∷ []
      → first.next ≡ reserved.next + 1
      → second.parcels ≡ without_id b first.parcels ++ (other, record { id = first.next; shape = of_b }) ∷ []
      → second.parcels ≡ without_all (a ∷ b ∷ []) old.parcels
      ++ (key, record { id = old.next; shape = of_a }) ∷ (other, record { id = old.next + 1; shape = of_b }) ∷ []
  renewed old reserved first second a b key other of_a of_b same next apart one up two =
      two
      ∙ ap (λ n. without_id b first.parcels ++ (other, record { id = n; shape = of_b }) ∷ []) (up ∙ ap (λ n. n + 1) next)
      ∙ ap (λ xs. xs ++ (other, record { id = old.next + 1; shape = of_b }) ∷ [])
      (united old reserved first (record first { parcels = without_id b first.parcels }) a b key of_a same next apart one refl)
      ∙ append_assoc (without_all (a ∷ b ∷ []) old.parcels) ((key, record { id = old.next; shape = of_a }) ∷ [])
      ((other, record { id = old.next + 1; shape = of_b }) ∷ [])
