-- What each table keeps: keys of their own, ascending ids below the next, and one fate for each id.
use Rattle.std.proofs.Common.{◌≡◌, ◌≢◌, ◌⊎◌, inl, inr, refl, sym, ◌∙◌, ap, subst, arith, ℕ, zero, suc, ◌+◌}
use Rattle.std.proofs.Common.{◌<◌, List, [], ◌∷◌, ◌++◌, length, map, get_or, Option, None}
use Rattle.std.specs.List.{All, AllPairs, Contains}
use Rattle.std.specs.List.Sorted.{IsStrictlyIncreasing}
use Rattle.std.proofs.Math.ListN.{get_or-map}
use Rattle.std.proofs.lemmas.List.Elements.{Contains-get_or}
use Rattle.std.proofs.lemmas.List.Kept.{AllPairs-cons}
use Rattle.cell_index.specs.declared.entry.IndexEntry.{IndexEntry}
use Rattle.cell_index.specs.Cells.{HaveOwnKeys}
use Rattle.cell_index.proofs.Members.{from_mapped}
use Rattle.slab.specs.Slab.{Slab, get}
use Rattle.slab.proofs.SlabLemmas.{Contains-cons}
use Rattle.parcel_table.specs.declared.parcels.Parcel.{Parcel}
use Rattle.parcel_table.specs.declared.fate.Fate.{Fate}
use Rattle.parcel_table.specs.declared.fate.Fate.TheVariants.{Unknown, Retired as RetiredFate, Here as HereFate}
use Rattle.parcel_table.specs.declared.place.Place.{Place}
use Rattle.parcel_table.specs.declared.place.Place.TheVariants.{Unused, Retired, Here}
use Rattle.parcel_table.specs.Table.{Table, HasId, IsFateOf, IsKeyOf, entries_of, ids_of, retired_by}
use Rattle.parcel_table.specs.own.Places.{parcel_at, keyed, fate_at, ArePlaced}
use Rattle.parcel_table.proofs.Tables.{same_parcel, stands_at, none_at, Contains-here}

all_of : {X : Type 0} (P : X → Type 0) (xs : List X) → ((x : X) → Contains xs x → P x) → All P xs
all_of P xs h = λ k d l. h (get_or xs k d) (Contains-get_or xs k d l)

pub increasing : (xs : List ℕ) → AllPairs (λ x y. x < y) xs → IsStrictlyIncreasing xs
increasing xs h = λ k l. h k (k + 1) 0 (omega arith) l

-- what a place says of its id
abbrev pub fate_of : Place → Fate
fate_of Unused = Unknown
fate_of (Retired by) = RetiredFate by
fate_of (Here key) = HereFate key

module _ {A : Type 0} where
  pub ids_ascend : (slab : Slab (Parcel A)) (first : ℕ) (places : List Place) → ArePlaced slab first places
      → AllPairs (λ x y. x < y) (ids_of (keyed slab places))
  ids_ascend slab first [] h = λ i j d l m. absurd (omega (arith, m))
  ids_ascend slab first (Unused ∷ places) h = ids_ascend slab (first + 1) places h
  ids_ascend slab first (Retired by ∷ places) h = ids_ascend slab (first + 1) places h
  ids_ascend slab first (Here key ∷ places) h =
      rw h.0.1 (AllPairs-cons (λ x y. x < y) h.0.0.id (ids_of (keyed slab places))
      (all_of (λ y. h.0.0.id < y) (ids_of (keyed slab places)) later)
      (ids_ascend slab (first + 1) places h.1))
    where
      later : (y : ℕ) → Contains (ids_of (keyed slab places)) y → h.0.0.id < y
      later y c =
          let m = from_mapped (λ parcel. parcel.1.id) (keyed slab places) y c in
          let w = stands_at slab (first + 1) places m.0.0 m.0.1 h.1 m.1 in
          omega (arith, w.is_id, m.2, h.0.2)

  pub own_keys : (slab : Slab (Parcel A)) (first : ℕ) (places : List Place) → ArePlaced slab first places
      → HaveOwnKeys (entries_of (keyed slab places))
  own_keys slab first [] h = λ i j d l m. absurd (omega (arith, m))
  own_keys slab first (Unused ∷ places) h = own_keys slab (first + 1) places h
  own_keys slab first (Retired by ∷ places) h = own_keys slab (first + 1) places h
  own_keys slab first (Here key ∷ places) h =
      rw h.0.1 (AllPairs-cons (λ a b. a.key ≢ b.key) (record { key = key; bounds = h.0.0.shape.bounds }) (entries_of (keyed slab places))
      (all_of (λ b. key ≢ b.key) (entries_of (keyed slab places)) later) (own_keys slab (first + 1) places h.1))
    where
      later : (b : IndexEntry) → Contains (entries_of (keyed slab places)) b → key ≢ b.key
      later b c e =
          let m = from_mapped (λ parcel. record { key = parcel.0; bounds = parcel.1.shape.bounds }) (keyed slab places) b c in
          let w = stands_at slab (first + 1) places m.0.0 m.0.1 h.1 m.1 in
          let same : h.0.0 ≡ m.0.1 = same_parcel h.0.0 m.0.1
          (sym h.0.1 ∙ ap (get slab) (e ∙ sym (ap (λ (x : IndexEntry). x.key) m.2)) ∙ w.is_there) in
          let ids : h.0.0.id ≡ m.0.1.id = ap (λ (p : Parcel A). p.id) same in
          omega (arith, w.is_id, ids, h.0.2)

  -- ---- what became of an id
  pub record FoundHere (slab : Slab (Parcel A)) (first : ℕ) (places : List Place) (n key : ℕ) : Type 0 where
    pub parcel : Parcel A
    pub is_here : Contains (keyed slab places) (key, parcel)
    pub has_id : parcel.id ≡ first + n

  found_here : (slab : Slab (Parcel A)) (first : ℕ) (places : List Place) (n key : ℕ) → ArePlaced slab first places
      → get_or places n Unused ≡ Here key → FoundHere slab first places n key
  found_here slab first [] n key h leads = absurd (cc)
  found_here slab first (Unused ∷ places) zero key h leads = absurd (cc)
  found_here slab first (Retired by ∷ places) zero key h leads = absurd (cc)
  found_here slab first (Here k ∷ places) zero key h leads = record {
    parcel = h.0.0;
    is_here = subst (λ n. Contains (keyed slab (Here k ∷ places)) (n, h.0.0)) same
        (rw h.0.1 (Contains-here (k, h.0.0) (keyed slab places)));
    has_id = omega (arith, h.0.2);
  }
    where
      same : k ≡ key
      same = cc
  found_here slab first (Unused ∷ places) (suc n) key h leads =
      let w = found_here slab (first + 1) places n key h leads in
      record { parcel = w.parcel; is_here = w.is_here; has_id = omega (arith, w.has_id) }
  found_here slab first (Retired by ∷ places) (suc n) key h leads =
      let w = found_here slab (first + 1) places n key h leads in
      record { parcel = w.parcel; is_here = w.is_here; has_id = omega (arith, w.has_id) }
  found_here slab first (Here k ∷ places) (suc n) key h leads =
      let w = found_here slab (first + 1) places n key h.1 leads in
      record {
        parcel = w.parcel;
        is_here = rw h.0.1 (Contains-cons (k, h.0.0) (key, w.parcel) (keyed slab places) w.is_here);
        has_id = omega (arith, w.has_id);
      }

  pub retired_at : (t : Table A) (places : List Place) (id : ℕ) → map fate_at places ≡ t.fates
      → retired_by t id ≡ fate_at (get_or places id Unused)
  retired_at t places id e = sym (ap (λ fates. get_or fates id None) e) ∙ get_or-map fate_at places id Unused

  none_here : (t : Table A) (slab : Slab (Parcel A)) (places : List Place) (id : ℕ) → ArePlaced slab 0 places
      → keyed slab places ≡ t.parcels
      → parcel_at slab (get_or places id Unused) ≡ None → HasId t.parcels id → ⊥
  none_here t slab places id h e at (key, k) =
      none_at slab places id h at key k.parcel (subst (λ parcels. Contains parcels (key, k.parcel)) (sym e) k.is_here) k.has_id

  pub fate_of_place : (t : Table A) (slab : Slab (Parcel A)) (places : List Place) (id : ℕ) (place : Place) → ArePlaced slab 0 places
      → keyed slab places ≡ t.parcels → map fate_at places ≡ t.fates → get_or places id Unused ≡ place
      → IsFateOf t id (fate_of place)
  fate_of_place t slab places id Unused h e f at =
      (none_here t slab places id h e (ap (parcel_at slab) at), retired_at t places id f ∙ ap fate_at at)
  fate_of_place t slab places id (Retired by) h e f at =
      (none_here t slab places id h e (ap (parcel_at slab) at), retired_at t places id f ∙ ap fate_at at)
  fate_of_place t slab places id (Here key) h e f at =
      let w = found_here slab 0 places id key h at in (
        record {
          parcel = w.parcel;
          is_here = subst (λ parcels. Contains parcels (key, w.parcel)) e w.is_here;
          has_id = omega (arith, w.has_id);
        },
        retired_at t places id f ∙ ap fate_at at,
      )

  -- an id whose parcel is here has no other fate
  pub known : (t : Table A) (id key : ℕ) (fate : Fate) → IsKeyOf t.parcels id key → IsFateOf t id fate
      → (fate ≡ Unknown) ⊎ ((by : ℕ) × (fate ≡ RetiredFate by)) → ⊥
  known t id key Unknown k f is = f.0 (key, k)
  known t id key (RetiredFate by) k f is = f.0 (key, k)
  known t id key (HereFate other) k f is = elim is [ inl e ↦ cc | inr e ↦ let no : HereFate other ≡ RetiredFate e.0 = e.1 in cc ]

  -- a parcel that is here is below the next id, and is not retired
  pub here_below : (slab : Slab (Parcel A)) (places : List Place) (id key : ℕ) → ArePlaced slab 0 places
      → IsKeyOf (keyed slab places) id key
      → id < length places
  here_below slab places id key h k =
      let w = stands_at slab 0 places key k.parcel h k.is_here in omega (arith, w.below, w.is_id, k.has_id)

  pub here_stays : (t : Table A) (slab : Slab (Parcel A)) (places : List Place) (id key : ℕ) → ArePlaced slab 0 places
      → map fate_at places ≡ t.fates → IsKeyOf (keyed slab places) id key → retired_by t id ≡ None
  here_stays t slab places id key h f k =
      let w = stands_at slab 0 places key k.parcel h k.is_here in
      let same : w.place ≡ id = omega (arith, w.is_id, k.has_id) in
      retired_at t places id f ∙ ap fate_at (subst (λ n. get_or places n Unused ≡ Here key) same w.leads)

-- an id that is new has no fate yet, and the others keep theirs
pub none_behind : (fates : List (Option ℕ)) (id : ℕ) → get_or (fates ++ None ∷ []) id None ≡ get_or fates id None
none_behind [] zero = refl
none_behind [] (suc id) = refl
none_behind (fate ∷ fates) zero = refl
none_behind (fate ∷ fates) (suc id) = none_behind fates id
