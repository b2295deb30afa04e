-- Parcels kept in a slab, and found by a table of ids.
use Rattle.std.specs.Prelude.{option_map}
use Rattle.std.proofs.Common.{◌≡◌, ◌≢◌, ⊎_elim, refl, sym, ◌∙◌, ap, subst, arith, ℕ, zero, suc, ◌+◌, ◌<◌}
use Rattle.std.proofs.Common.{List, [], ◌∷◌, ◌++◌, length, map, filter_map, replicate, get_or, Option, Some, None}
use Rattle.std.proofs.Common.{MatchOption, Bor, Result, Ok, Err}
use Rattle.std.specs.List.{Contains, cons_option}
use Rattle.std.specs.Result.{OnErr}
use Rattle.std.proofs.lemmas.List.{append-nil, length-append}
use Rattle.std.proofs.lemmas.List.Elements.{filter_map-append}
use Rattle.slab.specs.Slab.{Slab, get, slab_len, Updates}
use Rattle.slab.proofs.SlabLemmas.{Contains-cons, Contains-cons_cases}
use Rattle.geo_exact.specs.Layers.{NumberedRing, numbered}
use Rattle.ring_core.specs.declared.shape.Shape.{Shape}
use Rattle.parcel_table.specs.declared.parcels.Parcel.{Parcel}
use Rattle.parcel_table.specs.declared.place.Place.{Place}
use Rattle.parcel_table.specs.declared.place.Place.TheVariants.{Unused, Retired, Here}
use Rattle.parcel_table.specs.Table.{ids_of, shapes_of, rows_of, rows_of_keyed, entries_of}
use Rattle.parcel_table.specs.own.Places.{parcel_at, keyed_at, keyed, shapes_at, ArePlaced, IsTable}

none_in_nil : {X : Type 0} (x : X) → Contains [] x → ⊥
none_in_nil x h = omega (arith, h.1)

pub Contains-here : {X : Type 0} (x : X) (xs : List X) → Contains (x ∷ xs) x
Contains-here x xs = (0, omega arith, refl)

module _ {A : Type 0} where
  pub no_parcel : (parcel : Parcel A) → Some parcel ≡ None → ⊥
  no_parcel parcel e = absurd (cc)

  pub same_parcel : (p q : Parcel A) → Some p ≡ Some q → p ≡ q
  same_parcel p q e = cc

  -- ---- tables put together
  pub keyed-append : (slab : Slab (Parcel A)) (xs ys : List Place) → keyed slab (xs ++ ys) ≡ keyed slab xs ++ keyed slab ys
  keyed-append slab xs ys = filter_map-append (keyed_at slab) xs ys

  keyed-unused : (slab : Slab (Parcel A)) (n : ℕ) → keyed slab (replicate n Unused) ≡ []
  keyed-unused slab zero = refl
  keyed-unused slab (suc n) = keyed-unused slab n

  placed-unused : (slab : Slab (Parcel A)) (id n : ℕ) → ArePlaced slab id (replicate n Unused)
  placed-unused slab id zero = tt
  placed-unused slab id (suc n) = placed-unused slab (id + 1) n

  pub placed-append : (slab : Slab (Parcel A)) (id : ℕ) (xs ys : List Place) → ArePlaced slab id xs
      → ArePlaced slab (id + length xs) ys
      → ArePlaced slab id (xs ++ ys)
  placed-append slab id [] ys h k = subst (λ n. ArePlaced slab n ys) (omega arith) k
  placed-append slab id (Unused ∷ xs) ys h k =
      placed-append slab (id + 1) xs ys h (subst (λ n. ArePlaced slab n ys) (omega arith) k)
  placed-append slab id (Retired by ∷ xs) ys h k =
      placed-append slab (id + 1) xs ys h (subst (λ n. ArePlaced slab n ys) (omega arith) k)
  placed-append slab id (Here key ∷ xs) ys h k =
      (h.0, placed-append slab (id + 1) xs ys h.1 (subst (λ n. ArePlaced slab n ys) (omega arith) k))

  -- ---- a slab that has one parcel more
  module _ (old new : Slab (Parcel A)) (key : ℕ) (slot : Option (Parcel A)) (none : get old key ≡ None)
      (up : Updates old new key slot) where
    kept_at : (k : ℕ) (parcel : Parcel A) → get old k ≡ Some parcel → get new k ≡ get old k
    kept_at k parcel is = up.others k (λ e. no_parcel parcel (sym is ∙ ap (λ n. get old n) e ∙ none))

    pub keyed-kept : (id : ℕ) (places : List Place) → ArePlaced old id places → keyed new places ≡ keyed old places
    keyed-kept id [] h = refl
    keyed-kept id (Unused ∷ places) h = keyed-kept (id + 1) places h
    keyed-kept id (Retired by ∷ places) h = keyed-kept (id + 1) places h
    keyed-kept id (Here k ∷ places) h = rw (kept_at k h.0.0 h.0.1, keyed-kept (id + 1) places h.1) refl

    pub placed-kept : (id : ℕ) (places : List Place) → ArePlaced old id places → ArePlaced new id places
    placed-kept id [] h = tt
    placed-kept id (Unused ∷ places) h = placed-kept (id + 1) places h
    placed-kept id (Retired by ∷ places) h = placed-kept (id + 1) places h
    placed-kept id (Here k ∷ places) h =
        ((h.0.0, kept_at k h.0.0 h.0.1 ∙ h.0.1, h.0.2), placed-kept (id + 1) places h.1)

  -- a table with one parcel more, under an id that is not below the next one
  pub record IsPushed (old new : Slab (Parcel A)) (before after : List Place) (key : ℕ) (parcel : Parcel A) : Type 0 where
    pub is_table : IsTable new after
    pub one_more : keyed new after ≡ keyed old before ++ (key, parcel) ∷ []

  -- ids that were never given out change no parcel
  pub filled : (slab : Slab (Parcel A)) (places : List Place) (n : ℕ) → keyed slab (places ++ replicate n Unused) ≡ keyed slab places
  filled slab places n = keyed-append slab places (replicate n Unused) ∙ ap (λ xs. keyed slab places ++ xs) (keyed-unused slab n)
      ∙ append-nil (keyed slab places)

  pub filled_table : (slab : Slab (Parcel A)) (places : List Place) (n : ℕ) → IsTable slab places
      → IsTable slab (places ++ replicate n Unused)
  filled_table slab places n h = record {
    are_placed = placed-append slab 0 places (replicate n Unused) h.are_placed (placed-unused slab (0 + length places) n);
    are_all = h.are_all ∙ ap length (sym (filled slab places n));
  }

  -- only the slab's room has changed
  pub roomier : (old new : Slab (Parcel A)) (places : List Place) (n : ℕ) → new ≡ record old { capacity = n } → IsTable old places
      → IsTable new places
  roomier old new places n e h = subst (λ slab. IsTable slab places) (sym e) (record { are_placed = h.are_placed; are_all = h.are_all })

  pub pushed : (old new : Slab (Parcel A)) (places : List Place) (key : ℕ) (parcel : Parcel A) → IsTable old places
      → length places ≡ parcel.id
      → get old key ≡ None → Updates old new key (Some parcel) → slab_len new ≡ slab_len old + 1
      → IsPushed old new places (places ++ Here key ∷ []) key parcel
  pushed old new places key parcel h at none up more = record {
    is_table = record {
      are_placed = placed-append new 0 places (Here key ∷ []) (placed-kept old new key (Some parcel) none up 0 places h.are_placed)
          ((parcel, up.changed, omega (arith, at)), tt);
      are_all = more ∙ omega (arith, h.are_all, ap length one, length-append (keyed old places) ((key, parcel) ∷ []));
    };
    one_more = one;
  }
    where
      last : keyed new (Here key ∷ []) ≡ (key, parcel) ∷ []
      last = rw up.changed refl

      one : keyed new (places ++ Here key ∷ []) ≡ keyed old places ++ (key, parcel) ∷ []
      one = keyed-append new places (Here key ∷ [])
          ∙ ap (λ xs. xs ++ keyed new (Here key ∷ [])) (keyed-kept old new key (Some parcel) none up 0 places h.are_placed)
          ∙ ap (λ xs. keyed old places ++ xs) last

  -- ---- looking an id up
  pub found_at : (slab : Slab (Parcel A)) (first : ℕ) (places : List Place) (k : ℕ) (parcel : Parcel A) → ArePlaced slab first places
      → parcel_at slab (get_or places k Unused) ≡ Some parcel
      → (key : ℕ) × Contains (keyed slab places) (key, parcel) × (parcel.id ≡ first + k)
  found_at slab first [] k parcel h is = absurd (no_parcel parcel (sym is))
  found_at slab first (Unused ∷ places) zero parcel h is = absurd (no_parcel parcel (sym is))
  found_at slab first (Retired by ∷ places) zero parcel h is = absurd (no_parcel parcel (sym is))
  found_at slab first (Here other ∷ places) zero parcel h is =
      let this : h.0.0 ≡ parcel = same_parcel h.0.0 parcel (sym h.0.1 ∙ is) in
      let number : h.0.0.id ≡ parcel.id = ap (λ (p : Parcel A). p.id) this in
      (other, rw is (Contains-here (other, parcel) (keyed slab places)), sym number ∙ h.0.2 ∙ omega arith)
  found_at slab first (Unused ∷ places) (suc k) parcel h is =
      let w = found_at slab (first + 1) places k parcel h is in
      let number : parcel.id ≡ first + 1 + k = w.2 in (w.0, w.1, omega (arith, number))
  found_at slab first (Retired by ∷ places) (suc k) parcel h is =
      let w = found_at slab (first + 1) places k parcel h is in
      let number : parcel.id ≡ first + 1 + k = w.2 in (w.0, w.1, omega (arith, number))
  found_at slab first (Here other ∷ places) (suc k) parcel h is =
      let w = found_at slab (first + 1) places k parcel h.1 is in
      let number : parcel.id ≡ first + 1 + k = w.2 in
      (w.0, rw h.0.1 (Contains-cons (other, h.0.0) (w.0, parcel) (keyed slab places) w.1), omega (arith, number))

  -- each parcel that is here stands at its id
  pub record StandsAt (slab : Slab (Parcel A)) (first : ℕ) (places : List Place) (key : ℕ) (parcel : Parcel A) : Type 0 where
    pub place : ℕ
    pub below : place < length places
    pub is_id : parcel.id ≡ first + place
    pub leads : get_or places place Unused ≡ Here key
    pub is_there : get slab key ≡ Some parcel

  pub stands_at : (slab : Slab (Parcel A)) (first : ℕ) (places : List Place) (key : ℕ) (parcel : Parcel A)
      → ArePlaced slab first places
      → Contains (keyed slab places) (key, parcel) → StandsAt slab first places key parcel
  stands_at slab first [] key parcel h c = absurd (none_in_nil (key, parcel) c)
  stands_at slab first (Unused ∷ places) key parcel h c = later (stands_at slab (first + 1) places key parcel h c)
    where
      later : StandsAt slab (first + 1) places key parcel → StandsAt slab first (Unused ∷ places) key parcel
      later w = record {
        place = suc w.place;
        below = omega (arith, w.below);
        is_id = omega (arith, w.is_id);
        leads = w.leads;
        is_there = w.is_there;
      }
  stands_at slab first (Retired by ∷ places) key parcel h c = later (stands_at slab (first + 1) places key parcel h c)
    where
      later : StandsAt slab (first + 1) places key parcel → StandsAt slab first (Retired by ∷ places) key parcel
      later w = record {
        place = suc w.place;
        below = omega (arith, w.below);
        is_id = omega (arith, w.is_id);
        leads = w.leads;
        is_there = w.is_there;
      }
  stands_at slab first (Here other ∷ places) key parcel h c = ⊎_elim
      (λ e. here (ap (λ (p : ℕ × Parcel A). p.0) e) (ap (λ (p : ℕ × Parcel A). p.1) e))
      (λ c'. later (stands_at slab (first + 1) places key parcel h.1 c'))
      (Contains-cons_cases (other, h.0.0) (key, parcel) (keyed slab places)
      (subst (λ o. Contains (cons_option (with_key o) (keyed slab places)) (key, parcel)) h.0.1 c))
    where
      with_key : Option (Parcel A) → Option (ℕ × Parcel A)
      with_key o = option_map (λ p. (other, p)) o

      here : other ≡ key → h.0.0 ≡ parcel → StandsAt slab first (Here other ∷ places) key parcel
      here e f = record {
        place = 0;
        below = omega arith;
        is_id = sym (ap (λ (p : Parcel A). p.id) f) ∙ h.0.2 ∙ omega arith;
        leads = ap Here e;
        is_there = ap (λ n. get slab n) (sym e) ∙ h.0.1 ∙ ap (λ p. Some p) f;
      }

      later : StandsAt slab (first + 1) places key parcel → StandsAt slab first (Here other ∷ places) key parcel
      later w = record {
        place = suc w.place;
        below = omega (arith, w.below);
        is_id = omega (arith, w.is_id);
        leads = w.leads;
        is_there = w.is_there;
      }

  pub none_at : (slab : Slab (Parcel A)) (places : List Place) (id : ℕ) → ArePlaced slab 0 places
      → parcel_at slab (get_or places id Unused) ≡ None
      → (key : ℕ) (parcel : Parcel A) → Contains (keyed slab places) (key, parcel) → parcel.id ≢ id
  none_at slab places id h none key parcel c e =
      let w = stands_at slab 0 places key parcel h c in
      let there : w.place ≡ id = omega (arith, w.is_id, e) in
      no_parcel parcel (sym w.is_there ∙ ap (parcel_at slab) (sym w.leads)
      ∙ ap (λ k. parcel_at slab (get_or places k Unused)) there ∙ none)

  -- ---- parcels with and without their keys
  pub shapes_of_keyed : (slab : Slab (Parcel A)) (places : List Place) → shapes_of (keyed slab places) ≡ shapes_at slab places
  shapes_of_keyed slab [] = refl
  shapes_of_keyed slab (Unused ∷ places) = shapes_of_keyed slab places
  shapes_of_keyed slab (Retired by ∷ places) = shapes_of_keyed slab places
  shapes_of_keyed slab (Here key ∷ places) = by_slot (get slab key) (shapes_of_keyed slab places)
    where
      by_slot : (slot : Option (Parcel A)) → shapes_of (keyed slab places) ≡ shapes_at slab places
          → shapes_of (cons_option (option_map (λ parcel. (key, parcel)) slot) (keyed slab places))
          ≡ map {B = ℕ × Shape A} (λ parcel. (parcel.id, parcel.shape)) (cons_option slot (filter_map (parcel_at slab) places))
      by_slot None later = later
      by_slot (Some parcel) later = ap (λ xs. (parcel.id, parcel.shape) ∷ xs) later

  pub rows_of_shapes : (parcels : List (ℕ × Parcel A)) → rows_of (shapes_of parcels) ≡ rows_of_keyed parcels
  rows_of_shapes [] = refl
  rows_of_shapes (parcel ∷ parcels) = ap (λ rows. numbered parcel.1.id parcel.1.shape.ring.corners ∷ rows) (rows_of_shapes parcels)

  pub rows_of_keyed-push : (parcels : List (ℕ × Parcel A)) (key : ℕ) (parcel : Parcel A)
      → rows_of_keyed (parcels ++ (key, parcel) ∷ []) ≡ rows_of_keyed parcels ++ numbered parcel.id parcel.shape.ring.corners ∷ []
  rows_of_keyed-push [] key parcel = refl
  rows_of_keyed-push (first ∷ parcels) key parcel =
      ap (λ rows. numbered first.1.id first.1.shape.ring.corners ∷ rows) (rows_of_keyed-push parcels key parcel)

  pub entries_of-push : (parcels : List (ℕ × Parcel A)) (key : ℕ) (parcel : Parcel A)
      → entries_of (parcels ++ (key, parcel) ∷ []) ≡ entries_of parcels ++ record { key = key; bounds = parcel.shape.bounds } ∷ []
  entries_of-push [] key parcel = refl
  entries_of-push (first ∷ parcels) key parcel =
      ap (λ entries. record { key = first.0; bounds = first.1.shape.bounds } ∷ entries) (entries_of-push parcels key parcel)

  pub ids_of_shapes : (parcels : List (ℕ × Parcel A)) → map (λ shape. shape.0) (shapes_of parcels) ≡ ids_of parcels
  ids_of_shapes [] = refl
  ids_of_shapes (parcel ∷ parcels) = ap (λ ids. parcel.1.id ∷ ids) (ids_of_shapes parcels)

  pub ids_of_rows : (parcels : List (ℕ × Parcel A)) → map (λ row. row.number) (rows_of_keyed parcels) ≡ ids_of parcels
  ids_of_rows [] = refl
  ids_of_rows (parcel ∷ parcels) = ap (λ ids. parcel.1.id ∷ ids) (ids_of_rows parcels)

  -- a row is that of a parcel
  pub row_of_parcel : (parcels : List (ℕ × Parcel A)) (key : ℕ) (parcel : Parcel A) → Contains parcels (key, parcel)
      → Contains (rows_of_keyed parcels) (numbered parcel.id parcel.shape.ring.corners)
  row_of_parcel [] key parcel c = absurd (none_in_nil (key, parcel) c)
  row_of_parcel (first ∷ parcels) key parcel c = ⊎_elim
      (λ e. subst (λ (p : Parcel A). Contains (rows_of_keyed (first ∷ parcels)) (numbered p.id p.shape.ring.corners))
      (ap (λ (p : ℕ × Parcel A). p.1) e)
      (Contains-here (numbered first.1.id first.1.shape.ring.corners) (rows_of_keyed parcels)))
      (λ later. Contains-cons (numbered first.1.id first.1.shape.ring.corners) (numbered parcel.id parcel.shape.ring.corners)
      (rows_of_keyed parcels)
      (row_of_parcel parcels key parcel later))
      (Contains-cons_cases first (key, parcel) parcels c)

  pub no_row : (parcels : List (ℕ × Parcel A)) (id : ℕ)
      → ((key : ℕ) (parcel : Parcel A) → Contains parcels (key, parcel) → parcel.id ≢ id)
      → (row : NumberedRing) → Contains (rows_of_keyed parcels) row → row.number ≢ id
  no_row [] id none row c e = none_in_nil row c
  no_row (first ∷ parcels) id none row c e = ⊎_elim
      (λ here. none first.0 first.1 (Contains-here first parcels) (ap (λ (r : NumberedRing). r.number) here ∙ e))
      (λ later. no_row parcels id (λ key parcel h. none key parcel (Contains-cons first (key, parcel) parcels h)) row later e)
      (Contains-cons_cases (numbered first.1.id first.1.shape.ring.corners) row (rows_of_keyed parcels) c)

  -- what is found among the parcels is found among their rows
  pub shape_of_row : (parcels : List (ℕ × Parcel A)) (id : ℕ) (found : Option (Bor (Shape A)))
      → MatchOption found ((key : ℕ) (parcel : Parcel A) → Contains parcels (key, parcel) → parcel.id ≢ id)
      (λ shape. (key : ℕ) × Contains parcels (key, record { id = id; shape = shape.now }))
      → MatchOption found ((row : NumberedRing) → Contains (rows_of_keyed parcels) row → row.number ≢ id)
      (λ shape. Contains (rows_of_keyed parcels) (numbered id shape.now.ring.corners))
  shape_of_row parcels id None h = no_row parcels id h
  shape_of_row parcels id (Some shape) h = row_of_parcel parcels h.0 (record { id = id; shape = shape.now }) h.1

-- what holds either way holds at a refusal
pub OnErr-always : {T E : Type 0} (r : Result T E) (P : Type 0) → P → OnErr r P
OnErr-always (Ok x) P p = tt
OnErr-always (Err e) P p = p
