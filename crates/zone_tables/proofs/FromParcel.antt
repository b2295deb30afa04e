-- The pairs from those of a parcel on, found by halving.
use Rattle.std.proofs.Common.{◌≡◌, ⊎_elim, refl, sym, ◌∙◌, ap, subst, arith, Bool, true, false}
use Rattle.std.proofs.Common.{ℕ, zero, suc, ◌<◌, ◌≤◌, List, [], ◌∷◌, ◌++◌, length, take, drop, get_or}
use Rattle.std.specs.Prelude.{nat_lt, ◌↔◌, Option, Some}
use Rattle.std.specs.Bool.{then_some}
use Rattle.std.specs.List.{AllByRecursion, Contains}
use Rattle.std.specs.List.Sorted.{IsNonDecreasingBy, IsPartitionPoint}
use Rattle.std.proofs.lemmas.Bool.{ltb-true, ltb-false, false≢true}
use Rattle.std.proofs.lemmas.List.{take-append-drop}
use Rattle.std.proofs.lemmas.List.Elements.{Contains-append_right, Contains-append_cases}
use Rattle.edge_chains.proofs.nodings.NodedEdges.{none_in_nil, Contains-here, Contains-cases}
use Rattle.fabric_core.proofs.tilings.OneParcel.{of_each}
use Rattle.zone_tables.specs.declared.zoning.Zoning.{Zoning}
use Rattle.zone_tables.specs.Overlap.{IsPairBefore, AreInPairOrder}
use Rattle.zone_tables.specs.own.Zonings.{zonings, IsFrom, IsOnlyZone}
use Rattle.zone_tables.proofs.Zonings.{AreTold, zonings_told, one_zone, single_of_one}

-- ascending pairs have ascending ids
not_falling : (pair : ℕ × ℕ) (pairs : List (ℕ × ℕ)) → AllByRecursion (IsPairBefore pair) pairs
    → AllByRecursion (λ later. pair.0 ≤ later.0) pairs
not_falling pair [] h = tt
not_falling pair (later ∷ rest) h =
    (⊎_elim (λ l. omega (arith, l)) (λ l. omega (arith, l.0)) h.0, not_falling pair rest h.1)

all_at : {X : Type 0} (P : X → Type 0) (xs : List X) → AllByRecursion P xs → (k : ℕ) (d : X) → k < length xs → P (get_or xs k d)
all_at P [] h k d l = absurd (omega (arith, l))
all_at P (x ∷ xs) h zero d l = h.0
all_at P (x ∷ xs) h (suc k) d l = all_at P xs h.1 k d (omega (arith, l))

pub ids_do_not_fall : (pairs : List (ℕ × ℕ)) → AreInPairOrder pairs → IsNonDecreasingBy (λ (pair : ℕ × ℕ). pair.0) pairs
ids_do_not_fall [] up i j d h l = absurd (omega (arith, l))
ids_do_not_fall (pair ∷ rest) up zero zero d h l = omega arith
ids_do_not_fall (pair ∷ rest) up zero (suc j) d h l =
    all_at (λ (later : ℕ × ℕ). pair.0 ≤ later.0) rest (not_falling pair rest up.0) j d (omega (arith, l))
ids_do_not_fall (pair ∷ rest) up (suc i) zero d h l = absurd (omega (arith, h))
ids_do_not_fall (pair ∷ rest) up (suc i) (suc j) d h l = ids_do_not_fall rest up.1 i j d (omega (arith, h)) (omega (arith, l))

-- ---- the pairs on both sides of a place
all_taken : {X : Type 0} (P : X → Type 0) (xs : List X) (i : ℕ) → ((k : ℕ) (d : X) → k < i → P (get_or xs k d))
    → AllByRecursion P (take i xs)
all_taken P [] zero h = tt
all_taken P [] (suc i) h = tt
all_taken P (x ∷ xs) zero h = tt
all_taken P (x ∷ xs) (suc i) h = (h 0 x (omega arith), all_taken P xs i (λ k d l. h (suc k) d (omega (arith, l))))

all_listed : {X : Type 0} (P : X → Type 0) (xs : List X) → ((k : ℕ) (d : X) → k < length xs → P (get_or xs k d))
    → AllByRecursion P xs
all_listed P [] h = tt
all_listed P (x ∷ xs) h = (h 0 x (omega arith), all_listed P xs (λ k d l. h (suc k) d (omega (arith, l))))

all_dropped : {X : Type 0} (P : X → Type 0) (xs : List X) (i : ℕ) → ((k : ℕ) (d : X) → i ≤ k → k < length xs
    → P (get_or xs k d)) → AllByRecursion P (drop i xs)
all_dropped P [] zero h = tt
all_dropped P [] (suc i) h = tt
all_dropped P (x ∷ xs) zero h = all_listed P (x ∷ xs) (λ k d l. h k d (omega arith) l)
all_dropped P (x ∷ xs) (suc i) h = all_dropped P xs i (λ k d m l. h (suc k) d (omega (arith, m)) (omega (arith, l)))

pub is_from : (id : ℕ) (pairs : List (ℕ × ℕ)) (start : ℕ)
    → IsPartitionPoint (λ (pair : ℕ × ℕ). nat_lt pair.0 id ≡ true) (λ (pair : ℕ × ℕ). nat_lt pair.0 id
    ≡ false) pairs start
    → IsFrom id pairs (drop start pairs)
is_from id pairs start h = record {
  before = take start pairs;
  are_all = sym (take-append-drop start pairs);
  lower = all_taken (λ (pair : ℕ × ℕ). pair.0 < id) pairs start (λ k d l. ltb-true _ _ (h.0 k d (omega arith) l));
  not_lower = all_dropped (λ (pair : ℕ × ℕ). id ≤ pair.0) pairs start (λ k d m l. ltb-false _ _ (h.1 k d m l));
}

-- ---- the parcel is the first of those pairs, or has none
order_behind : (before rest : List (ℕ × ℕ)) → AreInPairOrder (before ++ rest) → AreInPairOrder rest
order_behind [] rest up = up
order_behind (pair ∷ before) rest up = order_behind before rest up.1

module _ (id : ℕ) (pairs rest : List (ℕ × ℕ)) (from : IsFrom id pairs rest) where
  stands_there : (zone : ℕ) → Contains pairs (id, zone) → Contains rest (id, zone)
  stands_there zone c = ⊎_elim
      (λ l. absurd (let low : id < id = of_each (λ (pair : ℕ × ℕ). pair.0 < id) from.before (id, zone) from.lower l in
      omega (arith, low)))
      (λ l. l)
      (Contains-append_cases from.before rest (id, zone) (subst (λ all. Contains all (id, zone)) from.are_all c))

  stands_here : (zone : ℕ) → Contains rest (id, zone) → Contains pairs (id, zone)
  stands_here zone c = subst (λ all. Contains all (id, zone)) (sym from.are_all) (Contains-append_right from.before rest (id, zone) c)

  same_only : (zone : ℕ) → IsOnlyZone pairs id zone ↔ IsOnlyZone rest id zone
  same_only zone = (
    (λ h. (stands_there zone h.0, λ other c. h.1 other (stands_here other c))),
    (λ h. (stands_here zone h.0, λ other c. h.1 other (stands_there other c))),
  )

  module _ (up : AreInPairOrder pairs) where
    told : AreTold rest (zonings rest)
    told = zonings_told rest (order_behind from.before rest (subst AreInPairOrder from.are_all up))

    -- where no pair is left, the parcel has none
    pub none_is_only : (zone : ℕ) → zonings rest ≡ [] → ¬ IsOnlyZone pairs id zone
    none_is_only zone none h =
        let w = told.all id zone (stands_there zone h.0) in none_in_nil w.0 (subst (λ all. Contains all w.0) none w.1)

    module _ (parcel : Zoning) (others : List Zoning) (are : zonings rest ≡ parcel ∷ others) where
      -- a parcel of those pairs is the first, or a later one than the parcel with this id
      first_of_id : (found : Zoning) → Contains (parcel ∷ others) found → found.id ≡ id → parcel ≡ found
      first_of_id found c e = ⊎_elim (λ same. same)
          (λ later. absurd
          (let ascend = subst (λ all. AreTold rest all) are told in
          let above : parcel.id < found.id = of_each (λ (p : Zoning). parcel.id < p.id) others found ascend.up.0 later in
          let not_below : id ≤ parcel.id = of_each (λ (pair : ℕ × ℕ). id ≤ pair.0) rest (parcel.id, parcel.zone) from.not_lower
          (ascend.each parcel (Contains-here parcel others)).here in omega (arith, above, not_below, e)))
          (Contains-cases parcel others found c)

      pub first_is_only : (zone : ℕ) → IsOnlyZone pairs id zone ↔ ((parcel.id ≡ id) × (parcel.is_split ≡ false)
          × (parcel.zone ≡ zone))
      first_is_only zone =
          let each = (subst (λ all. AreTold rest all) are told).each parcel (Contains-here parcel others) in (
            (λ h. let only = (same_only zone).0 h in
                let w = told.all id zone only.0 in
                let same : parcel ≡ w.0 = first_of_id w.0 (subst (λ all. Contains all w.0) are w.1) w.2 in
                let e : parcel.id ≡ id = ap (λ (p : Zoning). p.id) same ∙ w.2 in
                let one = single_of_one rest parcel id zone each e only in (e, one.0, one.1)),
            (λ h. (same_only zone).1 (subst (IsOnlyZone rest id) h.2 (one_zone rest parcel id each h.0 h.1))),
          )

-- what is answered: the first parcel's zone where it is the one with this id, and not split
pub answers_zone : (b : Bool) (parcel : Zoning) (id zone : ℕ) (answer : Option ℕ) → answer ≡ then_some b parcel.zone
    → (b ≡ true → (parcel.id ≡ id) × (parcel.is_split ≡ false)) → (parcel.id ≡ id → parcel.is_split ≡ false
    → b ≡ true)
    → (answer ≡ Some zone) ↔ ((parcel.id ≡ id) × (parcel.is_split ≡ false) × (parcel.zone ≡ zone))
answers_zone true parcel id zone answer e h k = (
  (λ some. let both = h refl in let same : parcel.zone ≡ zone = cc in (both.0, both.1, same)),
  (λ p. e ∙ ap (λ z. Some z) p.2),
)
answers_zone false parcel id zone answer e h k = (
  (λ some. absurd (cc)),
  (λ p. absurd (false≢true (k p.0 p.1))),
)
