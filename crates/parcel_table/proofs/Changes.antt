-- Parcels once one place of the table has changed, and the slot of the parcel that it led to.
use Rattle.std.specs.Prelude.{option_map}
use Rattle.std.proofs.Common.{◌≡◌, ◌≢◌, refl, sym, ◌∙◌, ap, subst, arith, ℕ, zero, suc, ◌+◌, ◌<◌, cond, not}
use Rattle.std.proofs.Common.{List, [], ◌∷◌, ◌++◌, length, set, replicate, get_or, is_some, if◌then◌else◌, Option}
use Rattle.std.proofs.Common.{Some, None}
use Rattle.std.specs.List.{cons_option}
use Rattle.std.proofs.lemmas.Bool.{eq-eqb, ne_eqb}
use Rattle.std.proofs.lemmas.List.{set-get_or, length-append, length-set}
use Rattle.std.proofs.lemmas.List.Sums.{sum_by-set}
use Rattle.slab.specs.Slab.{Slab, get, slab_len, Updates, with_value}
use Rattle.slab.proofs.SlabLemmas.{ContainsKey-within, Updates-with_value}
use Rattle.ring_core.specs.declared.shape.Shape.{Shape}
use Rattle.parcel_table.specs.declared.parcels.Parcel.{Parcel}
use Rattle.parcel_table.specs.declared.place.Place.{Place}
use Rattle.parcel_table.specs.declared.place.Place.TheVariants.{Unused, Retired, Here}
use Rattle.parcel_table.specs.Table.{IsKeyOf, with_shape, without_id}
use Rattle.parcel_table.specs.own.Places.{keyed_at, keyed, fate_at, ArePlaced, IsTable}
use Rattle.parcel_table.proofs.Tables.{same_parcel, StandsAt, stands_at, keyed-append, placed-append}

module _ {A : Type 0} where
  -- the place of a parcel's id leads to its key
  pub record LeadsTo (slab : Slab (Parcel A)) (places : List Place) (id key : ℕ) : Type 0 where
    pub parcel : Parcel A
    pub has_id : parcel.id ≡ id
    pub is_there : get slab key ≡ Some parcel
    pub below : id < length places
    pub leads : get_or places id Unused ≡ Here key

  pub leads_to : (slab : Slab (Parcel A)) (places : List Place) (id key : ℕ) → ArePlaced slab 0 places
      → IsKeyOf (keyed slab places) id key
      → LeadsTo slab places id key
  leads_to slab places id key h k = record {
    parcel = k.parcel;
    has_id = k.has_id;
    is_there = w.is_there;
    below = omega (arith, w.below, same);
    leads = subst (λ n. get_or places n Unused ≡ Here key) same w.leads;
  }
    where
      w : StandsAt slab 0 places key k.parcel
      w = stands_at slab 0 places key k.parcel h k.is_here

      same : w.place ≡ id
      same = omega (arith, w.is_id, k.has_id)

  pub one_key : (slab : Slab (Parcel A)) (places : List Place) (id key other : ℕ) → ArePlaced slab 0 places
      → IsKeyOf (keyed slab places) id key
      → IsKeyOf (keyed slab places) id other → key ≡ other
  one_key slab places id key other h k o =
      let v : get_or places id Unused ≡ Here key = (leads_to slab places id key h k).leads in
      let w : get_or places id Unused ≡ Here other = (leads_to slab places id other h o).leads in
      let both : Here key ≡ Here other = sym v ∙ w in cc

  -- ---- the parcel with an id is taken out of a list of parcels, or its shape is exchanged
  pub record Exchanges (id key : ℕ) (here : Parcel A) (to : Option (ℕ × Parcel A))
      (F : List (ℕ × Parcel A) → List (ℕ × Parcel A)) : Type 0 where
    pub nil : F [] ≡ []
    pub kept : (x : ℕ × Parcel A) (xs : List (ℕ × Parcel A)) → x.1.id ≢ id → F (x ∷ xs) ≡ x ∷ F xs
    pub changed : (xs : List (ℕ × Parcel A)) → F ((key, here) ∷ xs) ≡ cons_option to (F xs)

  pub takes_out : (id key : ℕ) (here : Parcel A) → here.id ≡ id → Exchanges id key here None (without_id id)
  takes_out id key here its = record {
    nil = refl;
    kept = λ x xs differs. ap (λ b. cond (not b) (x ∷ without_id id xs) (without_id id xs)) (ne_eqb x.1.id id differs);
    changed = λ xs. ap (λ b. cond (not b) ((key, here) ∷ without_id id xs) (without_id id xs)) (eq-eqb here.id id its);
  }

  pub gives_shape : (id key : ℕ) (here : Parcel A) (shape : Shape A) → here.id ≡ id
      → Exchanges id key here (Some (key, record { id = id; shape = shape })) (with_shape id shape)
  gives_shape id key here shape its = record {
    nil = refl;
    kept = λ x xs differs. ap (λ b. (if b then (x.0, record { id = x.1.id; shape = shape }) else x) ∷ with_shape id shape xs)
        (ne_eqb x.1.id id differs);
    changed = λ xs. ap (λ b. (if b then (key, record { id = here.id; shape = shape }) else (key, here)) ∷ with_shape id shape xs)
        (eq-eqb here.id id its) ∙ ap (λ n. (key, record { id = n; shape = shape }) ∷ with_shape id shape xs) its;
  }

  -- ---- the slab's slot under the key of an id's parcel has changed
  module _ (old new : Slab (Parcel A)) (id key : ℕ) (place : Place) (here : Parcel A) (slot : Option (Parcel A))
      (is : get old key ≡ Some here)
      (its : here.id ≡ id) (up : Updates old new key slot) where
    other_slot : (k : ℕ) (parcel : Parcel A) → get old k ≡ Some parcel → parcel.id ≢ id → get new k ≡ get old k
    other_slot k parcel there differs = up.others k (λ e. differs
        (ap (λ (p : Parcel A). p.id) (same_parcel parcel here (sym there ∙ ap (get old) e ∙ is)) ∙ its))

    keyed-after : (first : ℕ) (places : List Place) → ArePlaced old first places → id < first
        → keyed new places ≡ keyed old places
    keyed-after first [] h l = refl
    keyed-after first (Unused ∷ places) h l = keyed-after (first + 1) places h (omega arith)
    keyed-after first (Retired by ∷ places) h l = keyed-after (first + 1) places h (omega arith)
    keyed-after first (Here k ∷ places) h l =
        rw (other_slot k h.0.0 h.0.1 (λ e. omega (arith, e, h.0.2)), keyed-after (first + 1) places h.1 (omega arith)) refl

    placed-after : (first : ℕ) (places : List Place) → ArePlaced old first places → id < first → ArePlaced new first places
    placed-after first [] h l = tt
    placed-after first (Unused ∷ places) h l = placed-after (first + 1) places h (omega arith)
    placed-after first (Retired by ∷ places) h l = placed-after (first + 1) places h (omega arith)
    placed-after first (Here k ∷ places) h l = (
      (h.0.0, other_slot k h.0.0 h.0.1 (λ e. omega (arith, e, h.0.2)) ∙ h.0.1, h.0.2),
      placed-after (first + 1) places h.1 (omega arith),
    )

    pub length-at : (first n : ℕ) (places : List Place) → ArePlaced old first places → first + n ≡ id → n < length places
        → get_or places n Unused ≡ Here key
        → length (keyed new (set places n place)) + 1 ≡ length (keyed old places) + length (cons_option (keyed_at new place) [])
    length-at first n [] h at below leads = absurd (omega (arith, below))
    length-at first zero (Unused ∷ places) h at below leads = absurd (cc)
    length-at first zero (Retired by ∷ places) h at below leads = absurd (cc)
    length-at first zero (Here k ∷ places) h at below leads = by_slots (keyed_at new place) (keyed new places)
        (keyed-after (first + 1) places h.1 (omega (arith, at))) (ap (get old) same ∙ is)
      where
        same : k ≡ key
        same = cc

        by_slots : (to : Option (ℕ × Parcel A)) (rest : List (ℕ × Parcel A)) → rest ≡ keyed old places → get old k ≡ Some here
            → length (cons_option to rest) + 1 ≡ length (keyed old (Here k ∷ places)) + length (cons_option to [])
        by_slots None rest e f = rw f (omega (arith, ap length e))
        by_slots (Some x) rest e f = rw f (omega (arith, ap length e))
    length-at first (suc n) (Unused ∷ places) h at below leads =
        length-at (first + 1) n places h (omega (arith, at)) (omega (arith, below)) leads
    length-at first (suc n) (Retired by ∷ places) h at below leads =
        length-at (first + 1) n places h (omega (arith, at)) (omega (arith, below)) leads
    length-at first (suc n) (Here k ∷ places) h at below leads =
        let later = length-at (first + 1) n places h.1 (omega (arith, at)) (omega (arith, below)) leads in
        rw (other_slot k h.0.0 h.0.1 (λ e. omega (arith, e, h.0.2, at)), h.0.1) (omega (arith, later))

    pub placed-at : ((rest : List Place) → ArePlaced new (id + 1) rest → ArePlaced new id (place ∷ rest))
        → (first n : ℕ) (places : List Place) → ArePlaced old first places → first + n ≡ id → n < length places
        → get_or places n Unused ≡ Here key → ArePlaced new first (set places n place)
    placed-at put first n [] h at below leads = absurd (omega (arith, below))
    placed-at put first zero (Unused ∷ places) h at below leads = absurd (cc)
    placed-at put first zero (Retired by ∷ places) h at below leads = absurd (cc)
    placed-at put first zero (Here k ∷ places) h at below leads =
        let here_now : first ≡ id = omega (arith, at) in
        subst (λ n. ArePlaced new n (place ∷ places)) (sym here_now)
        (put places (subst (λ n. ArePlaced new (n + 1) places) here_now (placed-after (first + 1) places h.1 (omega (arith, at)))))
    placed-at put first (suc n) (Unused ∷ places) h at below leads =
        placed-at put (first + 1) n places h (omega (arith, at)) (omega (arith, below)) leads
    placed-at put first (suc n) (Retired by ∷ places) h at below leads =
        placed-at put (first + 1) n places h (omega (arith, at)) (omega (arith, below)) leads
    placed-at put first (suc n) (Here k ∷ places) h at below leads = (
      (h.0.0, other_slot k h.0.0 h.0.1 (λ e. omega (arith, e, h.0.2, at)) ∙ h.0.1, h.0.2),
      placed-at put (first + 1) n places h.1 (omega (arith, at)) (omega (arith, below)) leads,
    )

    module _ (F : List (ℕ × Parcel A) → List (ℕ × Parcel A)) (ex : Exchanges id key here (keyed_at new place) F) where
      same-after : (first : ℕ) (places : List Place) → ArePlaced old first places → id < first → F (keyed old places)
          ≡ keyed old places
      same-after first [] h l = ex.nil
      same-after first (Unused ∷ places) h l = same-after (first + 1) places h (omega arith)
      same-after first (Retired by ∷ places) h l = same-after (first + 1) places h (omega arith)
      same-after first (Here k ∷ places) h l =
          rw h.0.1 (ex.kept (k, h.0.0) (keyed old places) (λ e. omega (arith, e, h.0.2))
          ∙ ap (λ xs. (k, h.0.0) ∷ xs) (same-after (first + 1) places h.1 (omega arith)))

      pub keyed-at : (first n : ℕ) (places : List Place) → ArePlaced old first places → first + n ≡ id → n < length places
          → get_or places n Unused ≡ Here key → keyed new (set places n place) ≡ F (keyed old places)
      keyed-at first n [] h at below leads = absurd (omega (arith, below))
      keyed-at first zero (Unused ∷ places) h at below leads = absurd (cc)
      keyed-at first zero (Retired by ∷ places) h at below leads = absurd (cc)
      keyed-at first zero (Here k ∷ places) h at below leads =
          let same : k ≡ key = cc in
          let found : get old k ≡ Some here = ap (get old) same ∙ is in
          let whole : keyed old (Here k ∷ places) ≡ (key, here) ∷ keyed old places = rw (found, same) refl in
          ap (cons_option (keyed_at new place)) (keyed-after (first + 1) places h.1 (omega (arith, at))
          ∙ sym (same-after (first + 1) places h.1 (omega (arith, at)))) ∙ sym (ap F whole ∙ ex.changed (keyed old places))
      keyed-at first (suc n) (Unused ∷ places) h at below leads =
          keyed-at (first + 1) n places h (omega (arith, at)) (omega (arith, below)) leads
      keyed-at first (suc n) (Retired by ∷ places) h at below leads =
          keyed-at (first + 1) n places h (omega (arith, at)) (omega (arith, below)) leads
      keyed-at first (suc n) (Here k ∷ places) h at below leads =
          let differs : h.0.0.id ≢ id = λ e. omega (arith, e, h.0.2, at) in
          let later = keyed-at (first + 1) n places h.1 (omega (arith, at)) (omega (arith, below)) leads in
          rw (other_slot k h.0.0 h.0.1 differs, h.0.1)
          (ap (λ xs. (k, h.0.0) ∷ xs) later ∙ sym (ex.kept (k, h.0.0) (keyed old places) differs))

  -- ---- tables with one parcel less, one parcel in another's place, and another shape of one
  pub record IsRetired (old new : Slab (Parcel A)) (before after : List Place) (id : ℕ) : Type 0 where
    pub is_table : IsTable new after
    pub one_less : keyed new after ≡ without_id id (keyed old before)

  pub retired : (old new : Slab (Parcel A)) (places : List Place) (id key by : ℕ) → IsTable old places
      → IsKeyOf (keyed old places) id key
      → Updates old new key None → slab_len new + 1 ≡ slab_len old → IsRetired old new places (set places id (Retired by)) id
  retired old new places id key by h k up less = record {
    is_table = record {
      are_placed = placed-at old new id key (Retired by) w.parcel None w.is_there w.has_id up (λ rest m. m)
          0 id places h.are_placed (omega arith) w.below w.leads;
      are_all = omega (
        arith,
        less,
        h.are_all,
        length-at old new id key (Retired by) w.parcel None w.is_there w.has_id up
            0 id places h.are_placed (omega arith) w.below w.leads,
      );
    };
    one_less = keyed-at old new id key (Retired by) w.parcel None w.is_there w.has_id up (without_id id)
        (takes_out id key w.parcel w.has_id)
        0 id places h.are_placed (omega arith) w.below w.leads;
  }
    where
      w : LeadsTo old places id key
      w = leads_to old places id key h.are_placed k

  -- a write of a parcel in another's place leaves as many
  pub len_written : (slab : Slab (Parcel A)) (key : ℕ) (here parcel : Parcel A) → get slab key ≡ Some here
      → slab_len (with_value slab key parcel) ≡ slab_len slab
  len_written slab key here parcel is =
      let within : key < length slab.slots = ContainsKey-within slab key (ap is_some is) in
      let one : ℕ = cond (is_some (get slab key)) 1 0 in
      let was : one ≡ 1 = ap (λ o. cond (is_some o) 1 0) is in
      omega (arith, was, sum_by-set (λ o. cond (is_some o) 1 0) slab.slots key (Some parcel) None within)

  pub record IsSucceeded (old : Slab (Parcel A)) (before after : List Place) (id key : ℕ) (parcel : Parcel A) : Type 0 where
    pub is_table : IsTable (with_value old key parcel) after
    pub one_for_one : keyed (with_value old key parcel) after ≡ without_id id (keyed old before) ++ (key, parcel) ∷ []

  pub succeeded : (old : Slab (Parcel A)) (places : List Place) (id key by : ℕ) (parcel : Parcel A) → IsTable old places
      → IsKeyOf (keyed old places) id key → parcel.id ≡ length places
      → IsSucceeded old places (set places id (Retired by) ++ Here key ∷ []) id key parcel
  succeeded old places id key by parcel h k next = record {
    is_table = record {
      are_placed = placed-append new 0 (set places id (Retired by)) (Here key ∷ [])
          (placed-at old new id key (Retired by) w.parcel (Some parcel) w.is_there w.has_id up (λ rest m. m)
          0 id places h.are_placed (omega arith) w.below w.leads)
          ((parcel, up.changed, omega (arith, next, length-set places id (Retired by))), tt);
      are_all = omega (
        arith,
        len_written old key w.parcel parcel w.is_there,
        h.are_all,
        ap length both,
        length-append (keyed new (set places id (Retired by))) ((key, parcel) ∷ []),
        length-at old new id key (Retired by) w.parcel (Some parcel) w.is_there w.has_id up 0 id places h.are_placed
            (omega arith) w.below w.leads,
      );
    };
    one_for_one = both ∙ ap (λ xs. xs ++ (key, parcel) ∷ [])
        (keyed-at old new id key (Retired by) w.parcel (Some parcel) w.is_there w.has_id up (without_id id)
        (takes_out id key w.parcel w.has_id)
        0 id places h.are_placed (omega arith) w.below w.leads);
  }
    where
      new : Slab (Parcel A)
      new = with_value old key parcel

      w : LeadsTo old places id key
      w = leads_to old places id key h.are_placed k

      up : Updates old new key (Some parcel)
      up = Updates-with_value old key parcel (ap is_some w.is_there)

      both : keyed new (set places id (Retired by) ++ Here key ∷ []) ≡ keyed new (set places id (Retired by)) ++ (key, parcel) ∷ []
      both = keyed-append new (set places id (Retired by)) (Here key ∷ [])
          ∙ ap (λ xs. keyed new (set places id (Retired by)) ++ xs) last
        where
          last : keyed new (Here key ∷ []) ≡ (key, parcel) ∷ []
          last = rw up.changed refl

  pub record IsReplaced (old : Slab (Parcel A)) (places : List Place) (id key : ℕ) (shape : Shape A) : Type 0 where
    pub is_table : IsTable (with_value old key (record { id = id; shape = shape })) places
    pub other_shape : keyed (with_value old key (record { id = id; shape = shape })) places ≡ with_shape id shape (keyed old places)

  pub replaced : (old : Slab (Parcel A)) (places : List Place) (id key : ℕ) (shape : Shape A) → IsTable old places
      → IsKeyOf (keyed old places) id key → IsReplaced old places id key shape
  replaced old places id key shape h k = record {
    is_table = record {
      are_placed = subst (ArePlaced new 0) same (placed-at old new id key (Here key) w.parcel (Some parcel) w.is_there w.has_id up
          (λ rest m. ((parcel, up.changed, refl), m)) 0 id places h.are_placed (omega arith) w.below w.leads);
      are_all = omega (
        arith,
        len_written old key w.parcel parcel w.is_there,
        h.are_all,
        ap (λ xs. length (keyed new xs)) same,
        as_many,
        length-at old new id key (Here key) w.parcel (Some parcel) w.is_there w.has_id up 0 id places h.are_placed
            (omega arith) w.below w.leads,
      );
    };
    other_shape = ap (keyed new) (sym same)
        ∙ keyed-at old new id key (Here key) w.parcel (Some parcel) w.is_there w.has_id up (with_shape id shape)
        (subst (λ to. Exchanges id key w.parcel to (with_shape id shape)) (sym to_is) (gives_shape id key w.parcel shape w.has_id))
        0 id places h.are_placed (omega arith) w.below w.leads;
  }
    where
      parcel : Parcel A
      parcel = record { id = id; shape = shape }

      new : Slab (Parcel A)
      new = with_value old key parcel

      w : LeadsTo old places id key
      w = leads_to old places id key h.are_placed k

      up : Updates old new key (Some parcel)
      up = Updates-with_value old key parcel (ap is_some w.is_there)

      same : set places id (Here key) ≡ places
      same = ap (set places id) (sym w.leads) ∙ set-get_or places id Unused

      to_is : keyed_at new (Here key) ≡ Some (key, parcel)
      to_is = ap (option_map (λ p. (key, p))) up.changed

      as_many : length (cons_option (keyed_at new (Here key)) []) ≡ 1
      as_many = ap (λ to. length (cons_option to [])) to_is

-- ---- what became of ids stays as it was where places are put behind
pub fates_filled : (xs ys : List Place) → ((j : ℕ) → fate_at (get_or ys j Unused) ≡ None) → (k : ℕ)
    → fate_at (get_or (xs ++ ys) k Unused) ≡ fate_at (get_or xs k Unused)
fates_filled [] ys h k = h k
fates_filled (x ∷ xs) ys h zero = refl
fates_filled (x ∷ xs) ys h (suc k) = fates_filled xs ys h k

pub none_replicated : (n j : ℕ) → fate_at (get_or (replicate n Unused) j Unused) ≡ None
none_replicated zero j = refl
none_replicated (suc n) zero = refl
none_replicated (suc n) (suc j) = none_replicated n j

pub none_here : (key j : ℕ) → fate_at (get_or (Here key ∷ []) j Unused) ≡ None
none_here key zero = refl
none_here key (suc j) = refl
