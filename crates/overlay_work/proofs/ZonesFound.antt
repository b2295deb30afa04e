-- The zones that a ring's interior meets are found among the tested.
use Rattle.std.proofs.Common.{◌≡◌, inr, ⊎_elim, refl, sym, ◌∙◌, ap, subst, arith, ℕ, zero, suc, ◌+◌, ◌<◌, List, []}
use Rattle.std.proofs.Common.{◌∷◌, ◌++◌, length, take, get_or, append_assoc}
use Rattle.std.specs.List.{AllByRecursion, Contains}
use Rattle.std.proofs.lemmas.List.Elements.{Contains-append_left, Contains-append_right, Contains-append_cases}
use Rattle.geo_exact.specs.declared.corner.Corner.{Corner}
use Rattle.geo_exact.specs.Layers.{NumberedRing, numbered}
use Rattle.zone_tables.specs.Overlap.{IsPairBefore, AreInPairOrder}
use Rattle.overlay_work.specs.own.Kept.{MeetsZone, AreFoundAmong, KeepsFound}
use Rattle.std.specs.List.Sorted.{IsStrictlyIncreasing}
use Rattle.std.proofs.lemmas.List.{take_more}
use Rattle.geo_exact.specs.Interiors.{InteriorsMeet}
use Rattle.fabric_core.specs.Rows.{numbers}
use Rattle.fabric_core.proofs.rows.RowLists.{ascending, same_row}
use Rattle.fabric_core.proofs.edits.Renewed.{above_before}

-- the only element
pub only : {X : Type 0} (x y : X) → Contains (x ∷ []) y → x ≡ y
only x y (zero, b, e) = e
only x y (suc k, b, e) = absurd (omega (arith, b))

pub nothing_in : {X : Type 0} (y : X) → Contains {X = X} [] y → ⊥
nothing_in y (k, b, e) = omega (arith, b)

pub its_own : {X : Type 0} (x : X) → Contains (x ∷ []) x
its_own x = (0, omega arith, refl)

pub all_snoc : {X : Type 0} (P : X → Type 0) (xs : List X) (x : X) → AllByRecursion P xs → P x → AllByRecursion P (xs ++ x ∷ [])
all_snoc P [] x all last = (last, tt)
all_snoc P (y ∷ xs) x all last = (all.0, all_snoc P xs x all.1 last)

pub all_member : {X : Type 0} (P : X → Type 0) (xs : List X) → ((x : X) → Contains xs x → P x) → AllByRecursion P xs
all_member P [] h = tt
all_member P (x ∷ xs) h = (h x (0, omega arith, refl), all_member P xs (λ y c. h y (suc c.0, omega (arith, c.1), c.2)))

pub member_of_all : {X : Type 0} (P : X → Type 0) (xs : List X) (x : X) → AllByRecursion P xs → Contains xs x → P x
member_of_all P [] x all c = absurd (nothing_in x c)
member_of_all P (y ∷ xs) x all (zero, b, e) = subst P e all.0
member_of_all P (y ∷ xs) x all (suc k, b, e) = member_of_all P xs x all.1 (k, omega (arith, b), e)

in_order_snoc : (pairs : List (ℕ × ℕ)) (pair : ℕ × ℕ) → AreInPairOrder pairs → ((p : ℕ × ℕ) → Contains pairs p
    → IsPairBefore p pair)
    → AreInPairOrder (pairs ++ pair ∷ [])
in_order_snoc [] pair order before = (tt, tt)
in_order_snoc (p ∷ pairs) pair order before = (
  all_snoc (IsPairBefore p) pairs pair order.0 (before p (0, omega arith, refl)),
  in_order_snoc pairs pair order.1 (λ q c. before q (suc c.0, omega (arith, c.1), c.2)),
)

pub none_found : (zones : List NumberedRing) (ring : List Corner) (id : ℕ) → AreFoundAmong zones ring id [] []
none_found zones ring id = record {
  of_parcel = tt;
  ascend = tt;
  exactly =
      λ zone. ((λ c. absurd (nothing_in (id, zone) c)), (λ h. absurd (nothing_in zone h.0)));
}

pub found_more : (zones : List NumberedRing) (ring : List Corner) (id : ℕ) (tested : List ℕ) (zone : ℕ) (pairs : List (ℕ × ℕ))
    → AreFoundAmong zones ring id tested pairs → ((m : ℕ) → Contains tested m → m < zone) → MeetsZone zones ring zone
    → AreFoundAmong zones ring id (tested ++ zone ∷ []) (pairs ++ (id, zone) ∷ [])
found_more zones ring id tested zone pairs found above meets = record {
  of_parcel = all_snoc (λ pair. pair.0 ≡ id) pairs (id, zone) found.of_parcel refl;
  ascend = in_order_snoc pairs (id, zone) found.ascend (λ p c.
      let same : p.0 ≡ id = member_of_all (λ pair. pair.0 ≡ id) pairs p found.of_parcel c in
      let here : Contains {X = ℕ × ℕ} pairs (id, p.1) = subst (λ (q : ℕ × ℕ). Contains pairs q) (λ i. (same i, p.1)) c in
      inr (same, above p.1 ((found.exactly p.1).0 here).0));
  exactly = λ other. (
    (λ c. ⊎_elim
        (λ (old : Contains {X = ℕ × ℕ} pairs (id, other)). let was = (found.exactly other).0 old in
        (Contains-append_left tested (zone ∷ []) other was.0, was.1))
        (λ (new : Contains {X = ℕ × ℕ} ((id, zone) ∷ []) (id, other)).
        let same : zone ≡ other = ap (λ (p : ℕ × ℕ). p.1) (only (id, zone) (id, other) new) in (
          Contains-append_right tested (zone ∷ []) other (subst (Contains (zone ∷ [])) same (its_own zone)),
          subst (MeetsZone zones ring) same meets,
        ))
        (Contains-append_cases pairs ((id, zone) ∷ []) (id, other) c)),
    (λ h. ⊎_elim
        (λ (old : Contains tested other). Contains-append_left pairs ((id, zone) ∷ []) (id, other) ((found.exactly other).1 (old, h.1)))
        (λ (new : Contains (zone ∷ []) other).
        let same : zone ≡ other = only zone other new in
        Contains-append_right pairs ((id, zone) ∷ []) (id, other)
        (subst (λ n. Contains {X = ℕ × ℕ} ((id, zone) ∷ []) (id, n)) same (its_own {X = ℕ × ℕ} (id, zone))))
        (Contains-append_cases tested (zone ∷ []) other h.0)),
  );
}

pub found_no_more : (zones : List NumberedRing) (ring : List Corner) (id : ℕ) (tested : List ℕ) (zone : ℕ) (pairs : List (ℕ × ℕ))
    → AreFoundAmong zones ring id tested pairs → (MeetsZone zones ring zone → ⊥)
    → AreFoundAmong zones ring id (tested ++ zone ∷ []) pairs
found_no_more zones ring id tested zone pairs found apart = record {
  of_parcel = found.of_parcel;
  ascend = found.ascend;
  exactly = λ other. (
    (λ c. let was = (found.exactly other).0 c in (Contains-append_left tested (zone ∷ []) other was.0, was.1)),
    (λ h. ⊎_elim
        (λ (old : Contains tested other). (found.exactly other).1 (old, h.1))
        (λ (new : Contains (zone ∷ []) other). absurd (apart (subst (MeetsZone zones ring) (sym (only zone other new)) h.1)))
        (Contains-append_cases tested (zone ∷ []) other h.0)),
  );
}

-- one candidate more is tested
module _ (zones : List NumberedRing) (ring : List Corner) (id : ℕ) (candidates : List ℕ) (k : ℕ) (old kept : List (ℕ × ℕ)) where
  pub keeps_more : IsStrictlyIncreasing candidates → k < length candidates → KeepsFound zones ring id (take k candidates) old kept
      → MeetsZone zones ring (get_or candidates k 0) → KeepsFound zones ring id (take (k + 1) candidates) old
      (kept ++ (id, get_or candidates k 0) ∷ [])
  keeps_more up less found meets =
      let zone = get_or candidates k 0 in
      let more = found_more zones ring id (take k candidates) zone found.pairs found.are_found (λ m c.
      above_before candidates k zone m up less refl c) meets in
      record {
        pairs = found.pairs ++ (id, zone) ∷ [];
        kept = ap (λ l. l ++ (id, zone) ∷ []) found.kept ∙ append_assoc old found.pairs ((id, zone) ∷ []);
        are_found = subst (λ l. AreFoundAmong zones ring id l (found.pairs ++ (id, zone) ∷ []))
            (sym (take_more candidates k 0 less)) more;
      }

  pub keeps_no_more : k < length candidates → KeepsFound zones ring id (take k candidates) old kept
      → (MeetsZone zones ring (get_or candidates k 0) → ⊥) → KeepsFound zones ring id (take (k + 1) candidates) old kept
  keeps_no_more less found apart = record {
    pairs = found.pairs;
    kept = found.kept;
    are_found = subst (λ l. AreFoundAmong zones ring id l found.pairs) (sym (take_more candidates k 0 less))
        (found_no_more zones ring id (take k candidates) (get_or candidates k 0) found.pairs found.are_found apart);
  }

-- where a zone's ring is not met, no zone with its number is
pub not_met : (zones : List NumberedRing) (ring : List Corner) (zone : ℕ) (region : List Corner) → IsStrictlyIncreasing (numbers zones)
    → Contains zones (numbered zone region) → (InteriorsMeet ring region → ⊥) → MeetsZone zones ring zone → ⊥
not_met zones ring zone region up here apart meets =
    let same = same_row zones meets.region (numbered zone region) (ascending zones up) meets.is_zone here meets.has_number in
    apart (subst (λ (r : NumberedRing). InteriorsMeet ring r.corners) same meets.interiors_meet)
