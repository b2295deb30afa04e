-- Copies of parcels, and of tables of them.
use Rattle.std.specs.Prelude.{option_map}
use Rattle.std.proofs.Common.{◌≡◌, refl, ◌∙◌, ap, subst, arith, ℕ, zero, suc, ◌+◌, cond, List, [], ◌∷◌, get_or}
use Rattle.std.proofs.Common.{count_by, is_some, Option, Some, None}
use Rattle.std.specs.Prelude.{IsSomeAnd}
use Rattle.std.specs.List.{AllZip, cons_option}
use Rattle.std.proofs.lemmas.List.Elements.{length_all_zip}
use Rattle.std.proofs.lemmas.List.Sums.{sum_by-cons}
use Rattle.slab.specs.Slab.{Slab, get, IsSlotClone}
use Rattle.cell_index.specs.declared.entry.IndexEntry.{IndexEntry}
use Rattle.geo_exact.specs.declared.bounds.Bounds.{Bounds}
use Rattle.geo_exact.specs.Bounds.{IsLeastBox}
use Rattle.geo_exact.specs.Layers.{numbered}
use Rattle.parcel_table.specs.declared.parcels.Parcel.{Parcel}
use Rattle.parcel_table.specs.declared.place.Place.{Place}
use Rattle.parcel_table.specs.declared.place.Place.TheVariants.{Unused, Retired, Here}
use Rattle.parcel_table.specs.Table.{IsParcelClone, rows_of_keyed, entries_of}
use Rattle.parcel_table.specs.own.Places.{keyed, ArePlaced, IsTable}
use Rattle.parcel_table.proofs.Boxes.{one_least_box}

module _ {A : Type 0} where
  -- a copy of a shape has its box too, which is the least of its ring's corners
  pub parcel_clone : (parcel copy : Parcel A) → copy.id ≡ parcel.id → copy.shape.ring.corners ≡ parcel.shape.ring.corners
      → copy.shape.triangles ≡ parcel.shape.triangles → IsParcelClone parcel copy
  parcel_clone parcel copy i r t = record {
    id = i;
    ring = r;
    triangles = t;
    bounds = one_least_box copy.shape.bounds parcel.shape.bounds parcel.shape.ring.corners
        (subst (IsLeastBox copy.shape.bounds) r copy.shape.least_box) parcel.shape.least_box;
  }

  -- a parcel beside its key, and a copy under the same key
  abbrev pub IsKeyedClone : ℕ × Parcel A → ℕ × Parcel A → Type 0
  IsKeyedClone parcel copy = (copy.0 ≡ parcel.0) × IsParcelClone parcel.1 copy.1

  slot_at : (xs ys : List (Option (Parcel A))) (key : ℕ) → AllZip (IsSlotClone IsParcelClone) xs ys
      → IsSlotClone IsParcelClone (get_or xs key None) (get_or ys key None)
  slot_at [] [] key h = refl
  slot_at [] (y ∷ ys) key h = absurd h
  slot_at (x ∷ xs) [] key h = absurd h
  slot_at (x ∷ xs) (y ∷ ys) zero h = h.0
  slot_at (x ∷ xs) (y ∷ ys) (suc key) h = slot_at xs ys key h.1

  slots_count : (xs ys : List (Option (Parcel A))) → AllZip (IsSlotClone IsParcelClone) xs ys → count_by is_some ys
      ≡ count_by is_some xs
  slots_count [] [] h = refl
  slots_count [] (y ∷ ys) h = absurd h
  slots_count (x ∷ xs) [] h = absurd h
  slots_count (None ∷ xs) (None ∷ ys) h = slots_count xs ys h.1
  slots_count (None ∷ xs) (Some y ∷ ys) h = let no : Some y ≡ None = h.0 in cc
  slots_count (Some x ∷ xs) (None ∷ ys) h = absurd h.0
  slots_count (Some x ∷ xs) (Some y ∷ ys) h =
      omega (
        arith,
        slots_count xs ys h.1,
        sum_by-cons (λ o. cond (is_some o) 1 0) (Some x) xs,
        sum_by-cons (λ o. cond (is_some o) 1 0) (Some y) ys,
      )

  module _ (slab copy : Slab (Parcel A)) (zip : AllZip (IsSlotClone IsParcelClone) slab.slots copy.slots) where
    pub keyed_clones : (places : List Place) → AllZip IsKeyedClone (keyed slab places) (keyed copy places)
    keyed_clones [] = tt
    keyed_clones (Unused ∷ places) = keyed_clones places
    keyed_clones (Retired by ∷ places) = keyed_clones places
    keyed_clones (Here key ∷ places) = by_slots (get slab key) (get copy key) (slot_at slab.slots copy.slots key zip)
        (keyed_clones places)
      where
        by_slots : (x y : Option (Parcel A)) → IsSlotClone IsParcelClone x y
            → AllZip IsKeyedClone (keyed slab places) (keyed copy places)
            → AllZip IsKeyedClone (cons_option (option_map (λ parcel. (key, parcel)) x) (keyed slab places))
            (cons_option (option_map (λ parcel. (key, parcel)) y) (keyed copy places))
        by_slots None None h later = later
        by_slots None (Some y) h later = let no : Some y ≡ None = h in absurd (cc)
        by_slots (Some x) None h later = absurd h
        by_slots (Some x) (Some y) h later = ((refl, h), later)

    placed_clones : (first : ℕ) (places : List Place) → ArePlaced slab first places → ArePlaced copy first places
    placed_clones first [] h = tt
    placed_clones first (Unused ∷ places) h = placed_clones (first + 1) places h
    placed_clones first (Retired by ∷ places) h = placed_clones (first + 1) places h
    placed_clones first (Here key ∷ places) h = (
      by_slot (get copy key) (subst (λ o. IsSlotClone IsParcelClone o (get copy key)) h.0.1 (slot_at slab.slots copy.slots key zip)),
      placed_clones (first + 1) places h.1,
    )
      where
        by_slot : (y : Option (Parcel A)) → IsSomeAnd y (IsParcelClone h.0.0)
            → (parcel : Parcel A) × (y ≡ Some parcel) × (parcel.id ≡ first)
        by_slot None c = absurd c
        by_slot (Some y) c = (y, refl, c.id ∙ h.0.2)

    pub table_clone : (places : List Place) → IsTable slab places → IsTable copy places
    table_clone places h = record {
      are_placed = placed_clones 0 places h.are_placed;
      are_all = slots_count slab.slots copy.slots zip ∙ h.are_all
          ∙ length_all_zip IsKeyedClone (keyed slab places) (keyed copy places) (keyed_clones places);
    }

  -- ---- copies of parcels have the same rows and the same entries
  pub same_rows : (parcels copies : List (ℕ × Parcel A)) → AllZip IsKeyedClone parcels copies → rows_of_keyed copies
      ≡ rows_of_keyed parcels
  same_rows [] [] h = refl
  same_rows [] (y ∷ ys) h = absurd h
  same_rows (x ∷ xs) [] h = absurd h
  same_rows (x ∷ xs) (y ∷ ys) h =
      ap (λ n. numbered n y.1.shape.ring.corners ∷ rows_of_keyed ys) h.0.1.id
      ∙ ap (λ corners. numbered x.1.id corners ∷ rows_of_keyed ys) h.0.1.ring
      ∙ ap (λ rows. numbered x.1.id x.1.shape.ring.corners ∷ rows) (same_rows xs ys h.1)

  pub same_entries : (parcels copies : List (ℕ × Parcel A)) → AllZip IsKeyedClone parcels copies → entries_of copies
      ≡ entries_of parcels
  same_entries [] [] h = refl
  same_entries [] (y ∷ ys) h = absurd h
  same_entries (x ∷ xs) [] h = absurd h
  same_entries (x ∷ xs) (y ∷ ys) h =
      ap (λ key. entry key y.1.shape.bounds ∷ entries_of ys) h.0.0
      ∙ ap (λ bounds. entry x.0 bounds ∷ entries_of ys) h.0.1.bounds
      ∙ ap (λ entries. entry x.0 x.1.shape.bounds ∷ entries) (same_entries xs ys h.1)
    where
      entry : ℕ → Bounds → IndexEntry
      entry key bounds = record { key = key; bounds = bounds }

-- copies of places are the same places
pub same_places : (places copies : List Place) → AllZip (λ place copy. copy ≡ place) places copies → copies ≡ places
same_places [] [] h = refl
same_places [] (y ∷ ys) h = absurd h
same_places (x ∷ xs) [] h = absurd h
same_places (x ∷ xs) (y ∷ ys) h = ap (λ p. p ∷ ys) h.0 ∙ ap (λ ps. x ∷ ps) (same_places xs ys h.1)
