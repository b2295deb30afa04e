-- The one hand of a round, which has all parcels as its list.
use Rattle.std.proofs.Common.{◌≡◌, ◌⊎◌, ◌≢◌, inl, inr, refl, sym, subst, true≢false, arith, ℕ, ◌<◌, List, [], ◌∷◌}
use Rattle.std.proofs.Common.{length, slice_set, get_or, append-nil}
use Rattle.std.specs.Prelude.{IsPermutation, IsSome}
use Rattle.std.specs.List.{AllByRecursion}
use Rattle.std.specs.List.Sorted.{IsStrictlyIncreasing}
use Rattle.std.proofs.lemmas.List.Sorted.{IsPermutation-refl}
use Rattle.geo_exact.specs.declared.corner.Corner.{Corner}
use Rattle.overlay_work.specs.declared.round.RoundFault.{RoundFault}
use Rattle.overlay_work.specs.declared.round.RoundFault.TheVariants.{HandCount, OtherCity, NotASharing, NoMemory}
use Rattle.overlay_work.specs.declared.close.CloseFault.{CloseFault}
use Rattle.overlay_work.specs.declared.close.CloseFault.TheVariants.{NoThread, HandsMissing, Holding, NotDone, NoMemory as CloseMemory}
use Rattle.overlay_work.specs.Faults.{AreAllIn, HoldNothing, IsRoundFault, IsCloseFault}
use Rattle.overlay_work.specs.Rounds.{Task, Progress, AreHandsOf, HasAllEnds, IsAtEnd}
use Rattle.overlay_work.specs.Sharing.{HasHands, IsSharing}
use Rattle.overlay_work.proofs.Starts.{no_fault}
use Rattle.register_sessions.specs.own.Overlays.{IsWantOfMemory}

-- the first hand is of the round
pub first_of : (task : Task) (hands : List Progress) (d : Progress) → 0 < length hands → AreHandsOf task hands
    → (get_or hands 0 d).task ≡ task
first_of task [] d some are = absurd (omega (arith, some))
first_of task (hand ∷ hands) d some are = are.0

-- and once it has worked they all still are
pub first_worked : (task : Task) (hands : List Progress) (new : Progress) → AreHandsOf task hands → new.task ≡ task
    → AreHandsOf task (slice_set hands 0 new)
first_worked task [] new are same = tt
first_worked task (hand ∷ hands) new are same = (same, are.1)

-- one list of all ids shares them
one_list : (ids : List ℕ) → IsSharing ids (ids ∷ [])
one_list ids = record {
  has_hands = (omega arith, omega arith);
  each_once = subst (λ l. IsPermutation l ids) (sym (append-nil ids)) (IsPermutation-refl ids);
}

-- so the round begins, unless the zones are another city's
pub city_alone : (ids : List ℕ) (city zones_city : List Corner) (lists : List (List ℕ)) (fault : RoundFault) → lists ≡ ids ∷ []
    → IsStrictlyIncreasing ids → IsRoundFault ids city zones_city lists fault → (fault ≡ OtherCity) × (zones_city ≢ city)
city_alone ids city zones_city lists (HandCount count) is rises has =
    absurd (has.0 (subst HasHands (sym is) (one_list ids).has_hands))
city_alone ids city zones_city lists OtherCity is rises has = (refl, has.1)
city_alone ids city zones_city lists (NotASharing id) is rises has =
    absurd (no_fault ids city zones_city lists (NotASharing id) (record {
      ascending = rises;
      sharing = subst (IsSharing ids) (sym is) (one_list ids);
      same_city = has.1;
    }) has)
city_alone ids city zones_city lists NoMemory is rises has = absurd has

-- where the first hand has worked and none holds a parcel, it has found each list at its end
none_undone : (hands : List Progress) (new : Progress) → 0 < length hands → IsAtEnd new ⊎ IsSome new.holds
    → HoldNothing (slice_set hands 0 new) → AllByRecursion (λ hand. HasAllEnds hand → ⊥) (slice_set hands 0 new) → ⊥
none_undone [] new some stops nothing undone = omega (arith, some)
none_undone (hand ∷ hands) new some (inl at_end) nothing undone = undone.0 at_end.all_ends
none_undone (hand ∷ hands) new some (inr holds) nothing undone = true≢false (sym (subst IsSome nothing.0 holds))

-- so the round is closed then, unless memory is wanting
pub wants_memory : (task : Task) (hands : List Progress) (new : Progress) (fault : CloseFault)
    → AreAllIn task (slice_set hands 0 new) → 0 < length hands → IsAtEnd new ⊎ IsSome new.holds
    → IsCloseFault task (slice_set hands 0 new) fault ⊎ (fault ≡ CloseMemory) → IsWantOfMemory fault
wants_memory task hands new fault all some stops (inr e) = subst IsWantOfMemory (sym e) tt
wants_memory task hands new (NoThread number) all some stops (inl is) = absurd is
wants_memory task hands new (HandsMissing made here) all some stops (inl is) = absurd (is.0 all)
wants_memory task hands new (Holding number) all some stops (inl is) = tt
wants_memory task hands new NotDone all some stops (inl is) = absurd (none_undone hands new some stops is.1 is.2)
wants_memory task hands new CloseMemory all some stops (inl is) = absurd is
