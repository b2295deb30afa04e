-- Each parcel of a slab is one of the table that belongs to it: as many are found by their ids as there are.
use Rattle.std.proofs.Common.{◌≡◌, ◌⊎◌, inl, inr, ⊎_elim, refl, sym, ◌∙◌, ap, subst, arith, ℕ, ◌+◌, ◌<◌}
use Rattle.std.proofs.Common.{◌≤◌}
use Rattle.std.proofs.Common.{List, [], ◌∷◌, length, set, Option, Some, None, is_some, cond, MatchOption, Bor}
use Rattle.std.specs.Prelude.{option_copied}
use Rattle.std.specs.List.{Contains}
use Rattle.std.proofs.lemmas.Bool.{cases_eq}
use Rattle.std.proofs.lemmas.List.Sums.{sum_by-set}
use Rattle.slab.specs.Slab.{Slab, get, slab_len, Updates}
use Rattle.slab.proofs.SlabLemmas.{Contains-cons, Contains-cons_cases, ContainsKey-within, Updates-set}
use Rattle.parcel_table.specs.declared.parcels.Parcel.{Parcel}
use Rattle.parcel_table.specs.declared.place.Place.{Place}
use Rattle.parcel_table.specs.declared.place.Place.TheVariants.{Unused, Retired, Here}
use Rattle.parcel_table.specs.own.Places.{keyed, ArePlaced, IsTable}
use Rattle.parcel_table.proofs.Tables.{Contains-here, no_parcel, same_parcel, stands_at}

-- whether a list of pairs has one with this key
under : {X : Type 0} (key : ℕ) (pairs : List (ℕ × X))
    → ((x : X) × Contains pairs (key, x)) ⊎ ((x : X) → Contains pairs (key, x) → ⊥)
under key [] = inr (λ x c. absurd (omega (arith, c.1)))
under {X} key (pair ∷ pairs) =
    elim (cases_eq pair.0 key) [
      | inl same ↦ inl (pair.1, subst (λ k. Contains (pair ∷ pairs) (k, pair.1)) same (Contains-here pair pairs))
      | inr differs ↦ elim (under key pairs) [
        | inl found ↦ inl (found.0, Contains-cons pair (key, found.0) pairs found.1)
        | inr none ↦ inr (λ x c. ⊎_elim (λ e. differs (ap (λ (p : ℕ × X). p.0) e)) (λ later. none x later)
            (Contains-cons_cases pair (key, x) pairs c))
      ]
    ]

module _ {A : Type 0} where
  -- the slab without what it has under a key
  abbrev cleared : Slab (Parcel A) → ℕ → Slab (Parcel A)
  cleared slab key = record slab { slots = set slab.slots key None }

  one_less : (slab : Slab (Parcel A)) (key : ℕ) (here : Parcel A) → get slab key ≡ Some here
      → slab_len (cleared slab key) + 1 ≡ slab_len slab
  one_less slab key here is =
      let within : key < length slab.slots = ContainsKey-within slab key (ap is_some is) in
      let one : ℕ = cond (is_some (get slab key)) 1 0 in
      let was : one ≡ 1 = ap (λ o. cond (is_some o) 1 0) is in
      omega (arith, was, sum_by-set (λ o. cond (is_some o) 1 0) slab.slots key None None within)

  -- places that do not lead to the key lead where they led
  module _ (slab : Slab (Parcel A)) (key : ℕ) (here : Parcel A) (is : get slab key ≡ Some here) where
    clears : Updates slab (cleared slab key) key None
    clears = Updates-set slab (cleared slab key) key None (ContainsKey-within slab key (ap is_some is)) refl

    -- such places, and what they lead to
    record StayPut (first : ℕ) (places : List Place) : Type 0 where
      are_placed : ArePlaced (cleared slab key) first places
      same : keyed (cleared slab key) places ≡ keyed slab places

    stay_put : (first : ℕ) (places : List Place) → ArePlaced slab first places
        → ((x : Parcel A) → Contains (keyed slab places) (key, x) → ⊥) → StayPut first places
    stay_put first [] h none = record { are_placed = tt; same = refl }
    stay_put first (Unused ∷ places) h none =
        let w = stay_put (first + 1) places h none in record { are_placed = w.are_placed; same = w.same }
    stay_put first (Retired by ∷ places) h none =
        let w = stay_put (first + 1) places h none in record { are_placed = w.are_placed; same = w.same }
    stay_put first (Here other ∷ places) h none =
        let head : keyed slab (Here other ∷ places) ≡ (other, h.0.0) ∷ keyed slab places = rw h.0.1 refl in
        let differs : other ≡ key → ⊥ = λ e.
        none h.0.0 (subst (λ k. Contains (keyed slab (Here other ∷ places)) (k, h.0.0)) e
        (rw head (Contains-here (other, h.0.0) (keyed slab places)))) in
        let kept : get (cleared slab key) other ≡ Some h.0.0 = clears.others other differs ∙ h.0.1 in
        let w = stay_put (first + 1) places h.1
        (λ x c. none x (rw head (Contains-cons (other, h.0.0) (key, x) (keyed slab places) c))) in
        record { are_placed = ((h.0.0, kept, h.0.2), w.are_placed); same = rw (kept, w.same, h.0.1) refl }

  -- places lead to no more parcels than the slab has
  at_most_all : (slab : Slab (Parcel A)) (first : ℕ) (places : List Place) → ArePlaced slab first places
      → length (keyed slab places) ≤ slab_len slab
  at_most_all slab first [] h = omega arith
  at_most_all slab first (Unused ∷ places) h = at_most_all slab (first + 1) places h
  at_most_all slab first (Retired by ∷ places) h = at_most_all slab (first + 1) places h
  at_most_all slab first (Here key ∷ places) h =
      let head : keyed slab (Here key ∷ places) ≡ (key, h.0.0) ∷ keyed slab places = rw h.0.1 refl in
      let w = stay_put slab key h.0.0 h.0.1 (first + 1) places h.1 once in
      omega (
        arith,
        ap length head,
        ap length w.same,
        one_less slab key h.0.0 h.0.1,
        at_most_all (cleared slab key) (first + 1) places w.are_placed,
      )
    where
      once : (x : Parcel A) → Contains (keyed slab places) (key, x) → ⊥
      once x c =
          let w = stands_at slab (first + 1) places key x h.1 c in
          let ids : h.0.0.id ≡ x.id = ap (λ (p : Parcel A). p.id) (same_parcel h.0.0 x (sym h.0.1 ∙ w.is_there)) in
          omega (arith, w.is_id, ids, h.0.2)

  -- what the slab has under a key is one of the table's parcels, under this key
  pub all_keyed : (slab : Slab (Parcel A)) (places : List Place) (key : ℕ) (parcel : Parcel A) → IsTable slab places
      → get slab key ≡ Some parcel → Contains (keyed slab places) (key, parcel)
  all_keyed slab places key parcel h is =
      elim (under key (keyed slab places)) [
        | inl found ↦
            let w = stands_at slab 0 places key found.0 h.are_placed found.1 in
            subst (λ p. Contains (keyed slab places) (key, p)) (same_parcel found.0 parcel (sym w.is_there ∙ is)) found.1
        | inr none ↦
            let w = stay_put slab key parcel is 0 places h.are_placed none in
            absurd (omega (
              arith,
              h.are_all,
              ap length w.same,
              one_less slab key parcel is,
              at_most_all (cleared slab key) 0 places w.are_placed,
            ))
      ]

  -- what is found under a key
  pub found_under : (slab : Slab (Parcel A)) (places : List Place) (key : ℕ) (found : Option (Bor (Parcel A))) → IsTable slab places
      → option_copied found ≡ get slab key
      → MatchOption found ((parcel : Parcel A) → ¬ Contains (keyed slab places) (key, parcel))
      (λ parcel. Contains (keyed slab places) (key, parcel.now))
  found_under slab places key None h is = λ parcel c.
      let w = stands_at slab 0 places key parcel h.are_placed c in no_parcel parcel (sym w.is_there ∙ sym is)
  found_under slab places key (Some parcel) h is = all_keyed slab places key parcel.now h (sym is)
