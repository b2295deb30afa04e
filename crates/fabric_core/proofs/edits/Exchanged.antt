-- What is kept when parcels are exchanged for others: the rows, the entries of the index, and the tiling.
use Rattle.std.proofs.Common.{◌≡◌, ◌≢◌, refl, sym, ◌∙◌, ap, subst, arith, ℕ, suc, ◌<◌, Bool, true, false, not}
use Rattle.std.proofs.Common.{◌&&◌, nat_eq, cond, List, [], ◌∷◌, ◌++◌, map, get_or}
use Rattle.std.specs.List.{All, AllPairs, AllByRecursion, Contains, filter, list_any}
use Rattle.std.specs.List.Sorted.{IsStrictlyIncreasing}
use Rattle.std.proofs.lemmas.Bool.Decides.{nat_tests}
use Rattle.std.proofs.lemmas.List.{length-map, get_or-map, map-append}
use Rattle.std.proofs.lemmas.List.Kept.{AllPairs-from_increasing}
use Rattle.geo_exact.specs.declared.corner.Corner.{Corner}
use Rattle.geo_exact.specs.Bounds.{HoldsCorner, IsLeastBox}
use Rattle.geo_exact.specs.Layers.{numbered}
use Rattle.geo_exact.proofs.corners_and_turns.CornerOrder.{is_same_itself}
use Rattle.cell_index.specs.declared.entry.IndexEntry.{IndexEntry}
use Rattle.cell_index.specs.Cells.{Grid, Indexes, HaveOwnKeys, is_same_entry, without}
use Rattle.cell_index.proofs.Members.{by_test, same_member}
use Rattle.parcel_table.specs.declared.parcels.Parcel.{Parcel}
use Rattle.parcel_table.specs.Table.{ids_of, rows_of_keyed, entries_of}
use Rattle.parcel_table.proofs.Tables.{ids_of_rows}
use Rattle.fabric_core.specs.Limits.{AreWithinLimits}
use Rattle.fabric_core.specs.Faults.{AreSimple}
use Rattle.fabric_core.specs.Journal.{without_ids}
use Rattle.fabric_core.specs.Tiling.{corner_lists}
use Rattle.fabric_core.specs.own.Alike.{GoAlike}
use Rattle.fabric_core.specs.own.Kept.{IsKept}
use Rattle.fabric_core.proofs.tilings.InTheCity.{rows_in_box}

-- ---- lists that are mapped and filtered
module _ {X Y : Type 0} (f : X → Y) (p : Y → Bool) (q : X → Bool) where
  first_here : (x : X) (xs : List X) → Contains (x ∷ xs) x
  first_here x xs = (0, omega arith, refl)

  later_here : (x y : X) (xs : List X) → Contains xs y → Contains (x ∷ xs) y
  later_here x y xs h = (suc h.0, omega (arith, h.1), h.2)

  -- filtering what is mapped, where the two tests agree on the members
  pub filter_mapped : (xs : List X) → ((x : X) → Contains xs x → p (f x) ≡ q x) → filter p (map f xs) ≡ map f (filter q xs)
  filter_mapped [] same = refl
  filter_mapped (x ∷ xs) same =
      by_both (p (f x)) (q x) (same x (first_here x xs)) (filter_mapped xs (λ y h. same y (later_here x y xs h)))
    where
      by_both : (b c : Bool) → b ≡ c → filter p (map f xs) ≡ map f (filter q xs)
          → cond b (f x ∷ filter p (map f xs)) (filter p (map f xs)) ≡ map f (cond c (x ∷ filter q xs) (filter q xs))
      by_both true true e rest = ap (λ ys. f x ∷ ys) rest
      by_both false false e rest = rest
      by_both true false e rest = absurd (cc)
      by_both false true e rest = absurd (cc)

module _ {X : Type 0} (p q r : X → Bool) where
  -- filtering twice
  pub filter_twice : ((x : X) → r x ≡ (p x && q x)) → (xs : List X) → filter q (filter p xs) ≡ filter r xs
  filter_twice same [] = refl
  filter_twice same (x ∷ xs) = by_tests (p x) (q x) (r x) refl refl (same x) (filter_twice same xs)
    where
      by_tests : (b c d : Bool) → p x ≡ b → q x ≡ c → d ≡ (b && c) → filter q (filter p xs) ≡ filter r xs
          → filter q (cond b (x ∷ filter p xs) (filter p xs)) ≡ cond d (x ∷ filter r xs) (filter r xs)
      by_tests true true d i j e rest =
          ap (λ b. cond b (x ∷ filter q (filter p xs)) (filter q (filter p xs))) j ∙ ap (λ xs. x ∷ xs) rest
          ∙ sym (ap (λ b. cond b (x ∷ filter r xs) (filter r xs)) e)
      by_tests true false d i j e rest =
          ap (λ b. cond b (x ∷ filter q (filter p xs)) (filter q (filter p xs))) j ∙ rest
          ∙ sym (ap (λ b. cond b (x ∷ filter r xs) (filter r xs)) e)
      by_tests false c d i j e rest = rest ∙ sym (ap (λ b. cond b (x ∷ filter r xs) (filter r xs)) e)

-- ---- numbers and entries that are the same or not
equal_numbers : (m n : ℕ) → nat_eq m n ≡ true → m ≡ n
equal_numbers m n t = grind (arith, nat_tests)

other_numbers : (m n : ℕ) → nat_eq m n ≡ false → m ≢ n
other_numbers m n t e = grind (arith, nat_tests)

no_equal : (m n : ℕ) → m ≢ n → nat_eq m n ≡ false
no_equal m n h = grind (arith, nat_tests)

same_itself : (e : IndexEntry) → is_same_entry e e ≡ true
same_itself e = rw (nat_itself e.key, is_same_itself e.bounds.low, is_same_itself e.bounds.high) refl
  where
    nat_itself : (n : ℕ) → nat_eq n n ≡ true
    nat_itself n = grind (arith, nat_tests)

other_entry : (a b : IndexEntry) → a.key ≢ b.key → is_same_entry a b ≡ false
other_entry a b h = rw (no_equal a.key b.key h) refl

-- ---- parcels without those with some ids
module _ {A : Type 0} where
  -- a parcel as the entry of the index
  abbrev pub entry_of : ℕ × Parcel A → IndexEntry
  entry_of parcel = record { key = parcel.0; bounds = parcel.1.shape.bounds }

  abbrev pub id_of : ℕ × Parcel A → ℕ
  id_of parcel = parcel.1.id

  abbrev pub without_all : List ℕ → List (ℕ × Parcel A) → List (ℕ × Parcel A)
  without_all ids parcels = filter (λ parcel. not (list_any (nat_eq parcel.1.id) ids)) parcels

  pub rows_without : (ids : List ℕ) (parcels : List (ℕ × Parcel A)) → rows_of_keyed (without_all ids parcels)
      ≡ without_ids ids (rows_of_keyed parcels)
  rows_without ids parcels = sym (filter_mapped (λ parcel. numbered parcel.1.id parcel.1.shape.ring.corners)
      (λ row. not (list_any (nat_eq row.number) ids)) (λ parcel. not (list_any (nat_eq parcel.1.id) ids)) parcels (λ x h. refl))

  -- ids are apart where they ascend, and keys where the entries' are
  pub ids_apart : (parcels : List (ℕ × Parcel A)) → IsStrictlyIncreasing (ids_of parcels)
      → AllPairs (λ a b. id_of a ≢ id_of b) parcels
  ids_apart parcels rise i j d before below e =
      let r : get_or (ids_of parcels) i (id_of d) < get_or (ids_of parcels) j (id_of d) =
      AllPairs-from_increasing (ids_of parcels) rise i j (id_of d) before (omega (arith, below, length-map parcels id_of)) in
      omega (
        arith,
        r,
        get_or-map id_of parcels i d (id_of d) (omega (arith, before, below)),
        get_or-map id_of parcels j d (id_of d) below,
        e,
      )

  pub keys_apart : (parcels : List (ℕ × Parcel A)) → HaveOwnKeys (entries_of parcels)
      → AllPairs (λ (a b : ℕ × Parcel A). a.0 ≢ b.0) parcels
  keys_apart parcels own i j d before below e =
      own i j (entry_of d) before (omega (arith, below, length-map parcels entry_of))
      (ap (λ (entry : IndexEntry). entry.key) (get_or-map entry_of parcels i d (entry_of d) (omega (arith, before, below))) ∙ e
      ∙ sym (ap (λ (entry : IndexEntry). entry.key) (get_or-map entry_of parcels j d (entry_of d) below)))

  module _ (parcels : List (ℕ × Parcel A)) (rise : IsStrictlyIncreasing (ids_of parcels)) (own : HaveOwnKeys (entries_of parcels)) where
    -- a parcel has the entry of another exactly where it has its id
    same_entry : (x here : ℕ × Parcel A) → Contains parcels x → Contains parcels here
        → is_same_entry (entry_of x) (entry_of here) ≡ nat_eq (id_of x) (id_of here)
    same_entry x here h k =
        by_test (nat_eq (id_of x) (id_of here))
        (λ t.
        let e : x ≡ here = same_member id_of parcels x here (ids_apart parcels rise) h k (equal_numbers (id_of x) (id_of here) t) in
        subst (λ z. is_same_entry (entry_of x) (entry_of z) ≡ true) e (same_itself (entry_of x)) ∙ sym t)
        (λ t. other_entry (entry_of x) (entry_of here)
        (λ e. other_numbers (id_of x) (id_of here) t
        (ap id_of (same_member (λ (p : ℕ × Parcel A). p.0) parcels x here (keys_apart parcels own) h k e))) ∙ sym t)

    any_same : (heres : List (ℕ × Parcel A)) → AllByRecursion (Contains parcels) heres → (x : ℕ × Parcel A) → Contains parcels x
        → list_any (is_same_entry (entry_of x)) (map entry_of heres) ≡ list_any (nat_eq (id_of x)) (map id_of heres)
    any_same [] all x h = refl
    any_same (here ∷ heres) all x h = rw (same_entry x here h all.0, any_same heres all.1 x h) refl

    pub entries_without : (heres : List (ℕ × Parcel A)) → AllByRecursion (Contains parcels) heres
        → without (map entry_of heres) (entries_of parcels) ≡ entries_of (without_all (map id_of heres) parcels)
    entries_without heres all = filter_mapped entry_of (λ entry. not (list_any (is_same_entry entry) (map entry_of heres)))
        (λ parcel. not (list_any (nat_eq parcel.1.id) (map id_of heres))) parcels (λ x h. ap not (any_same heres all x h))

  pub simple_keyed : (parcels : List (ℕ × Parcel A)) → AreSimple (rows_of_keyed parcels)
  simple_keyed [] = tt
  simple_keyed (parcel ∷ parcels) = (parcel.1.shape.ring.is_simple, simple_keyed parcels)

  entries_joined : (xs ys : List (ℕ × Parcel A)) → entries_of (xs ++ ys) ≡ entries_of xs ++ entries_of ys
  entries_joined xs ys = map-append entry_of xs ys

  -- what is kept, of the new parcels: those that stay, and behind them those that come
  pub exchanged : (parcels heres news after : List (ℕ × Parcel A)) (city refined : List Corner) (index changed : Grid)
      → IsKept parcels city refined index
      → IsStrictlyIncreasing (ids_of parcels) → HaveOwnKeys (entries_of parcels) → AllByRecursion (Contains parcels) heres
      → after ≡ without_all (map id_of heres) parcels ++ news → IsStrictlyIncreasing (ids_of after)
      → GoAlike (corner_lists (rows_of_keyed after)) refined → AreWithinLimits (rows_of_keyed after)
      → changed.area ≡ index.area
      → ((entries : List IndexEntry) → Indexes index entries → Indexes changed (without (map entry_of heres) entries ++ entries_of news))
      → IsKept after city refined changed
  exchanged parcels heres news after city refined index changed kept rise own all is rises alike within same indexed = record {
    ids_rise = subst IsStrictlyIncreasing (sym (ids_of_rows after)) rises;
    within = within;
    alike = alike;
    simple_city = kept.simple_city;
    wound_once = kept.wound_once;
    ground = kept.ground;
    area = subst (λ box. IsLeastBox box city) (sym same) kept.area;
    in_area = rows_in_box (rows_of_keyed after) city refined changed.area (simple_keyed after) kept.ground alike
        (subst (λ box. All (HoldsCorner box) city) (sym same) kept.area.holds);
    indexed = subst (Indexes changed)
        (ap (λ entries. entries ++ entries_of news) (entries_without parcels rise own heres all)
        ∙ sym (entries_joined (without_all (map id_of heres) parcels) news) ∙ ap entries_of (sym is))
        (indexed (entries_of parcels) kept.indexed);
  }
