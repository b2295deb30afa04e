-- An index whose entries are under keys, with each under the id of the parcel that has the key.
use Rattle.std.proofs.Common.{◌≡◌, ◌≢◌, refl, sym, ◌∙◌, ap, subst, arith, ℕ, zero, suc, ◌+◌, ◌*◌, ◌<◌, Bool, true, false, not, cond, nat_eq}
use Rattle.std.proofs.Common.{List, [], ◌∷◌, map, length, get_or}
use Rattle.std.specs.List.{AllPairs, AllByRecursion, filter}
use Rattle.std.proofs.lemmas.Bool.Decides.{nat_tests}
use Rattle.std.proofs.lemmas.List.{length-map}
use Rattle.cell_index.specs.declared.entry.IndexEntry.{IndexEntry}
use Rattle.cell_index.specs.Cells.{Grid, Indexes, HaveOwnKeys, is_wide, stands_in}
use Rattle.parcel_table.specs.declared.parcels.Parcel.{Parcel}
use Rattle.parcel_table.specs.Table.{ids_of, entries_of}
use Rattle.fabric_core.specs.own.Kept.{ids_by_key, id_beside, under_id, by_ids}
use Rattle.fabric_core.proofs.edits.Exchanged.{entry_of, filter_mapped, keys_apart}

-- what is so of each place is so of all
each : {X : Type 0} (P : X → Type 0) (xs : List X) → ((i : ℕ) (d : X) → i < length xs → P (get_or xs i d)) → AllByRecursion P xs
each P [] h = tt
each P (x ∷ xs) h = (h 0 x (omega arith), each P xs (λ i d below. h (suc i) d (omega (arith, below))))

-- ---- entries
module _ {A : Type 0} where
  -- parcels as entries: each one's box under its id
  abbrev pub entries_by_id : List (ℕ × Parcel A) → List IndexEntry
  entries_by_id parcels = map (λ parcel. record { key = parcel.1.id; bounds = parcel.1.shape.bounds }) parcels

  -- a parcel whose key is none of theirs changes nothing for others
  passed_by : (parcel : ℕ × Parcel A) (parcels others : List (ℕ × Parcel A)) → AllByRecursion (λ other. parcel.0 ≢ other.0) others
      → map (under_id (ids_by_key (parcel ∷ parcels))) (entries_of others) ≡ map (under_id (ids_by_key parcels)) (entries_of others)
  passed_by parcel parcels [] h = refl
  passed_by parcel parcels (other ∷ others) h =
      ap (λ b. record { key = cond b parcel.1.id (id_beside (ids_by_key parcels) other.0); bounds = other.1.shape.bounds }
      ∷ map (under_id (ids_by_key (parcel ∷ parcels))) (entries_of others)) (differ parcel.0 other.0 h.0)
      ∙ ap (λ entries. under_id (ids_by_key parcels) (entry_of other) ∷ entries) (passed_by parcel parcels others h.1)
    where
      differ : (m n : ℕ) → m ≢ n → nat_eq m n ≡ false
      differ m n apart = grind (arith, nat_tests)

  -- the entries of parcels that have keys of their own, each under the id beside its key
  entries_under_ids : (parcels : List (ℕ × Parcel A)) → AllPairs (λ (a b : ℕ × Parcel A). a.0 ≢ b.0) parcels
      → map (under_id (ids_by_key parcels)) (entries_of parcels) ≡ entries_by_id parcels
  entries_under_ids [] apart = refl
  entries_under_ids (parcel ∷ parcels) apart =
      ap (λ b. record { key = cond b parcel.1.id (id_beside (ids_by_key parcels) parcel.0); bounds = parcel.1.shape.bounds }
      ∷ map (under_id (ids_by_key (parcel ∷ parcels))) (entries_of parcels)) (itself parcel.0)
      ∙ ap (λ entries. record { key = parcel.1.id; bounds = parcel.1.shape.bounds } ∷ entries)
      (passed_by parcel parcels parcels
      (each (λ other. parcel.0 ≢ other.0) parcels (λ i d below. apart 0 (suc i) d (omega arith) (omega (arith, below))))
      ∙ entries_under_ids parcels (λ i j d before below. apart (suc i) (suc j) d (omega (arith, before)) (omega (arith, below))))
    where
      itself : (n : ℕ) → nat_eq n n ≡ true
      itself n = grind (arith, nat_tests)

-- ---- cells
module _ (pairs : List (ℕ × ℕ)) where
  -- a cell of an index under ids
  cell_under_ids : (cells : List (List IndexEntry)) (place : ℕ)
      → get_or (map (map (under_id pairs)) cells) place [] ≡ map (under_id pairs) (get_or cells place [])
  cell_under_ids [] place = refl
  cell_under_ids (cell ∷ cells) zero = refl
  cell_under_ids (cell ∷ cells) (suc place) = cell_under_ids cells place

  -- what stands in the cells stays there
  stands_under_ids : (index : Grid) (entries : List IndexEntry) → Indexes index entries
      → Indexes (by_ids pairs index) (map (under_id pairs) entries)
  stands_under_ids index entries h = record {
    all_cells = length-map index.cells (map (under_id pairs)) ∙ h.all_cells;
    in_cells = λ i j column row.
        cell_under_ids index.cells (64 * i + j) ∙ ap (map (under_id pairs)) (h.in_cells i j column row)
        ∙ sym (filter_mapped (under_id pairs) (stands i j) (stands i j) (filter narrow entries) (λ entry there. refl))
        ∙ sym (ap (filter (stands i j)) (filter_mapped (under_id pairs) narrow narrow entries (λ entry there. refl)));
    beside_cells = ap (map (under_id pairs)) h.beside_cells
        ∙ sym (filter_mapped (under_id pairs) wide wide entries (λ entry there. refl));
  }
    where
      wide : IndexEntry → Bool
      wide entry = is_wide index.area entry.bounds

      narrow : IndexEntry → Bool
      narrow entry = not (is_wide index.area entry.bounds)

      stands : ℕ → ℕ → IndexEntry → Bool
      stands i j entry = stands_in index.area i j entry.bounds

-- ---- an index of parcels
module _ {A : Type 0} where
  pub stands_by_ids : (parcels : List (ℕ × Parcel A)) (index : Grid) → HaveOwnKeys (entries_of parcels) → Indexes index (entries_of parcels)
      → Indexes (by_ids (ids_by_key parcels) index) (entries_by_id parcels)
  stands_by_ids parcels index own h =
      subst (Indexes (by_ids (ids_by_key parcels) index)) (entries_under_ids parcels (keys_apart parcels own))
      (stands_under_ids (ids_by_key parcels) index (entries_of parcels) h)

  -- parcels with the same keys and ids, in this order
  pub same_ids_by_key : (parcels others : List (ℕ × Parcel A)) → ids_of parcels ≡ ids_of others → entries_of parcels ≡ entries_of others
      → ids_by_key parcels ≡ ids_by_key others
  same_ids_by_key [] [] ids entries = refl
  same_ids_by_key [] (other ∷ others) ids entries = absurd (cc)
  same_ids_by_key (parcel ∷ parcels) [] ids entries = absurd (cc)
  same_ids_by_key (parcel ∷ parcels) (other ∷ others) ids entries =
      ap (λ key. (key, parcel.1.id) ∷ ids_by_key parcels) (ap (λ (entry : IndexEntry). entry.key) (heads entries))
      ∙ ap (λ id. (other.0, id) ∷ ids_by_key parcels) (heads ids)
      ∙ ap (λ pairs. (other.0, other.1.id) ∷ pairs) (same_ids_by_key parcels others (tails ids) (tails entries))
    where
      heads : {X : Type 0} {x y : X} {xs ys : List X} → x ∷ xs ≡ y ∷ ys → x ≡ y
      heads e = cc

      tails : {X : Type 0} {x y : X} {xs ys : List X} → x ∷ xs ≡ y ∷ ys → xs ≡ ys
      tails e = cc
