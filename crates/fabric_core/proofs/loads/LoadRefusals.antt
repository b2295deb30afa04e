-- The refusal of a layer: its first fault, and what is asked for beside it.
use Rattle.std.proofs.Common.{◌≡◌, ◌⊎◌, inl, inr, refl, sym, ◌∙◌, subst, ℕ, ℤ, List, [], ◌∷◌, None, Some, Vec, Result, Ok, Err}
use Rattle.std.specs.Result.{IfOk, IfErr, IsErrAnd}
use Rattle.geo_exact.specs.declared.corner.Corner.{Corner}
use Rattle.geo_exact.specs.Layers.{NumberedRing}
use Rattle.ring_core.specs.declared.ring.RingFault.{RingFault}
use Rattle.edge_chains.specs.Counts.{Counts, AreNetOf, IsFirstUnbalanced}
use Rattle.edge_chains.specs.Unbalanced.{AreUnbalanced}
use Rattle.fabric_core.specs.declared.all_faults.AllFaults.TheVariants.{Rings, Gaps}
use Rattle.fabric_core.specs.declared.all_faults.Asked.{Asked}
use Rattle.fabric_core.specs.declared.all_faults.LoadRefusal.{LoadRefusal}
use Rattle.fabric_core.specs.declared.layer.LoadFault.{LoadFault}
use Rattle.fabric_core.specs.declared.layer.LoadFault.TheVariants.{TooMany, Ring, Gap, NoMemory}
use Rattle.std.specs.List.Sorted.{IsStrictlyIncreasing}
use Rattle.fabric_core.specs.Rows.{numbers}
use Rattle.fabric_core.specs.Limits.{AreWithinLimits, IsFirstTooMany}
use Rattle.fabric_core.specs.Faults.{IsFirstFaulty, IsFirstFault, IsLoadFault, AreAllFaults, AreAsked, IsLoadRefusal, IsOutOfMemory}
use Rattle.fabric_core.specs.own.Checks.{IsTold, IsToldOfRings, IsToldOfNets}
use Rattle.fabric_core.proofs.loads.OneLoadFault.{AreFaultless, faultless, one_load_fault}
use Rattle.fabric_core.proofs.loads.ToldGaps.{first_counted, all_counted, begun_by_first}
use Rattle.fabric_core.proofs.loads.ToldRings.{AreToldRings, are_ring_faults, first_faulty}

-- ---- of rows
pub tells_too_many : {A : Type 0} (asked : Asked) (rows : List NumberedRing) (refined : List Corner) (n : ℕ) (refusal : LoadRefusal A)
    → refusal.first ≡ TooMany n → refusal.all ≡ None → IsFirstTooMany rows n → IsTold asked rows refined refusal
tells_too_many asked rows refined n refusal first none h = record {
  is_first = subst (IsFirstFault rows refined) (sym first) h;
  are_asked = by_asked asked;
}
  where
    by_asked : (asked : Asked) → AreAsked asked rows refined refusal.first refusal.all
    by_asked Asked.First = none
    by_asked Asked.All = subst (λ f. AreAllFaults rows refined f refusal.all) (sym first) none

-- what is asked for is one of both
pub asked_apart : Asked.First ≡ Asked.All → ⊥
asked_apart e = cc

pub tells_first_ring : {A : Type 0} (asked : Asked) (rows : List NumberedRing) (n : ℕ) (f : RingFault) (refusal : LoadRefusal A)
    → asked ≡ Asked.First → refusal.first ≡ Ring n f → refusal.all ≡ None → IsFirstFaulty rows n f → IsToldOfRings asked rows refusal
tells_first_ring asked rows n f refusal e first none h = record {
  number = n;
  fault = f;
  is_first = first;
  is_faulty = h;
  is_alone = λ one. none;
  has_all = λ all. absurd (asked_apart (sym e ∙ all));
}

pub tells_all_rings : {A : Type 0} (asked : Asked) (rows : List NumberedRing) (n : ℕ) (f : RingFault) (rest : List (ℕ × RingFault))
    (faults : Vec (ℕ × RingFault) A) → (asked ≡ Asked.First → faults.items ≡ []) → AreToldRings rows faults.items
    → faults.items ≡ (n, f) ∷ rest → IsToldOfRings asked rows (record { first = Ring n f; all = Some (Rings faults) })
tells_all_rings asked rows n f rest faults none h e = record {
  number = n;
  fault = f;
  is_first = refl;
  is_faulty = first_faulty rows faults.items (n, f) rest h e;
  is_alone = λ one. absurd (never (sym (none one) ∙ e));
  has_all = λ all rise refined. (faults, rest, refl, e, are_ring_faults rows faults.items h rise);
}
  where
    never : [] ≡ (n, f) ∷ rest → ⊥
    never k = cc

-- within the limits, whatever the city, it is the refusal of the rows
pub told_of_rings : {A : Type 0} (asked : Asked) (rows : List NumberedRing) (refined : List Corner) (refusal : LoadRefusal A)
    → IsToldOfRings asked rows refusal → AreWithinLimits rows → IsStrictlyIncreasing (numbers rows) → IsTold asked rows refined refusal
told_of_rings asked rows refined refusal h within rise = record {
  is_first = subst (IsFirstFault rows refined) (sym h.is_first) (within, h.is_faulty);
  are_asked = by_asked asked h;
}
  where
    by_asked : (asked : Asked) → IsToldOfRings asked rows refusal → AreAsked asked rows refined refusal.first refusal.all
    by_asked Asked.First k = k.is_alone refl
    by_asked Asked.All k = k.has_all refl rise refined

pub tells_first_gap : {A : Type 0} (asked : Asked) (rings : List (List Corner)) (refined : List Corner) (sum : Counts)
    (a b : Corner) (n : ℤ) (refusal : LoadRefusal A) → asked ≡ Asked.First → refusal.first ≡ Gap a b n → refusal.all ≡ None
    → AreNetOf sum rings (refined ∷ [])
    → IsFirstUnbalanced sum a b n → IsToldOfNets asked rings refined refusal
tells_first_gap asked rings refined sum a b n refusal e first none net h = λ rows same within simple. record {
  is_first = subst (IsFirstFault rows refined) (sym first) (within, simple, first_counted sum rings refined a b n net h rows same);
  are_asked = subst (λ q. AreAsked q rows refined refusal.first refusal.all) (sym e) none;
}

pub tells_all_gaps : {A : Type 0} (asked : Asked) (rings : List (List Corner)) (refined : List Corner) (sum : Counts) (a b : Corner) (n : ℤ)
    (gaps : Vec (Corner × Corner × ℤ) A) → asked ≡ Asked.All → AreNetOf sum rings (refined ∷ []) → IsFirstUnbalanced sum a b n
    → AreUnbalanced sum gaps.items → IsToldOfNets asked rings refined (record { first = Gap a b n; all = Some (Gaps gaps) })
tells_all_gaps asked rings refined sum a b n gaps e net h all = λ rows same within simple.
    let first = first_counted sum rings refined a b n net h rows same in
    let told = all_counted sum rings refined gaps.items net all rows same in
    let w = begun_by_first rows refined a b n gaps.items told first in record {
      is_first = (within, simple, first);
      are_asked = subst (λ q. AreAsked q rows refined (Gap a b n) (Some (Gaps gaps))) (sym e) (gaps, w.0, refl, w.1, told);
    }

-- ---- of a layer
pub its_first : {A : Type 0} (asked : Asked) (records : List NumberedRing) (city : List Corner) (refusal : LoadRefusal A)
    → IsLoadRefusal asked records city refusal → IsLoadFault records city refusal.first
its_first asked records city refusal h = record { rows = h.rows; refined = h.refined; are_refined = h.are_refined; is_first = h.is_first }

pub first_or_memory : {A : Type 0} (asked : Asked) (records : List NumberedRing) (city : List Corner) (refusal : LoadRefusal A)
    → IsLoadRefusal asked records city refusal ⊎ IsOutOfMemory refusal
    → IsLoadFault records city refusal.first ⊎ (refusal.first ≡ NoMemory)
first_or_memory asked records city refusal (inl h) = inl (its_first asked records city refusal h)
first_or_memory asked records city refusal (inr e) = inr e.0

-- an answer that is a layer only without faults, and else a refusal with the first fault or want of memory
pub refused_by : {T A : Type 0} (r : Result T (LoadRefusal A)) (asked : Asked) (records : List NumberedRing) (city : List Corner)
    → IfOk r (λ x. AreFaultless records city) → IfErr r (λ refusal. IsLoadRefusal asked records city refusal ⊎ IsOutOfMemory refusal)
    → (fault : LoadFault) → IsLoadFault records city fault
    → IsErrAnd r (λ refusal. (refusal.first ≡ fault) ⊎ (refusal.first ≡ NoMemory))
refused_by (Ok x) asked records city none told fault h = absurd (faultless records city fault none h)
refused_by (Err refusal) asked records city none (inl k) fault h =
    inl (one_load_fault records city refusal.first fault (its_first asked records city refusal k) h)
refused_by (Err refusal) asked records city none (inr e) fault h = inr e.0
