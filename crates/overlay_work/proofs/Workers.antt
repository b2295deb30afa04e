-- Hands that are stepped until they stop.
use Rattle.std.proofs.Common.{◌≡◌, inl, inr, ⊎_elim, refl, sym, ◌∙◌, ap, subst, ℕ, suc, ◌≤◌, Bool, true, false, List, []}
use Rattle.std.proofs.Common.{◌∷◌, ◌++◌, length, append_assoc, append-nil}
use Rattle.std.specs.List.{AllByRecursion, AllZip}
use Rattle.job_threads.specs.Jobs.{HadThreads, HasRefused, IsLeastRank}
use Rattle.overlay_work.specs.Rounds.{Task, Progress, GoesOn, HasParcel, DoesParcel, IsDone, WaitsForMemory}
use Rattle.overlay_work.specs.Rounds.{HasGoneOn, WorksOff, AreHandsOf}
use Rattle.overlay_work.specs.own.Gathered.{HaveStopped}

-- ---- one hand
nothing_more : {X : Type 0} (xs ys : List X) → ys ≡ xs → GoesOn xs ys
nothing_more xs ys same = ([], same ∙ sym (append-nil xs))

goes_further : {X : Type 0} (xs ys zs : List X) → GoesOn xs ys → GoesOn ys zs → GoesOn xs zs
goes_further xs ys zs a b = (a.0 ++ b.0, b.1 ∙ ap (λ l. l ++ b.0) a.1 ∙ append_assoc xs a.0 b.0)

pub stands_still : (hand : Progress) → HasGoneOn hand hand
stands_still hand = record {
  same_task = refl;
  same_number = refl;
  claimed = nothing_more hand.claimed hand.claimed refl;
  did = nothing_more hand.did hand.did refl;
  kept = nothing_more hand.kept hand.kept refl;
  ends = nothing_more hand.ended hand.ended refl;
}

pub goes_on_from : (a b c : Progress) → HasGoneOn a b → HasGoneOn b c → HasGoneOn a c
goes_on_from a b c first then = record {
  same_task = then.same_task ∙ first.same_task;
  same_number = then.same_number ∙ first.same_number;
  claimed = goes_further a.claimed b.claimed c.claimed first.claimed then.claimed;
  did = goes_further a.did b.did c.did first.did then.did;
  kept = goes_further a.kept b.kept c.kept first.kept then.kept;
  ends = goes_further a.ended b.ended c.ended first.ends then.ends;
}

claims_go_on : (old new : Progress) (id : ℕ) → HasParcel old new id → GoesOn old.claimed new.claimed
claims_go_on old new id has = ⊎_elim (λ held. nothing_more old.claimed new.claimed held.same_claims) (λ claims.
    (claims.place ∷ [], claims.claims.claims)) has

ends_go_on : (old new : Progress) (id : ℕ) → HasParcel old new id → GoesOn old.ended new.ended
ends_go_on old new id has = ⊎_elim (λ held. nothing_more old.ended new.ended held.same_ends) (λ claims.
    (claims.claims.more, claims.claims.ends)) has

pub doing_goes_on : (old new : Progress) (id : ℕ) → new.task ≡ old.task → new.number ≡ old.number
    → DoesParcel old new id → HasGoneOn old new
doing_goes_on old new id task number does = record {
  same_task = task;
  same_number = number;
  claimed = claims_go_on old new id does.has_parcel;
  did = (id ∷ [], does.did);
  kept = (does.pairs, does.kept);
  ends = ends_go_on old new id does.has_parcel;
}

pub done_goes_on : (old new : Progress) → new.task ≡ old.task → new.number ≡ old.number → IsDone old new → HasGoneOn old new
done_goes_on old new task number done = record {
  same_task = task;
  same_number = number;
  claimed = nothing_more old.claimed new.claimed done.same_claims;
  did = nothing_more old.did new.did done.did;
  kept = nothing_more old.kept new.kept done.kept;
  ends = done.ends;
}

pub waiting_goes_on : (old new : Progress) → new.task ≡ old.task → new.number ≡ old.number → WaitsForMemory old new
    → HasGoneOn old new
waiting_goes_on old new task number waits = record {
  same_task = task;
  same_number = number;
  claimed = claims_go_on old new waits.parcel waits.has_parcel;
  did = nothing_more old.did new.did waits.did;
  kept = nothing_more old.kept new.kept waits.kept;
  ends = ends_go_on old new waits.parcel waits.has_parcel;
}

-- ---- all hands
-- what is so of each that has worked
pub all_worked : (passed : ℕ → Type 0) (xs ys : List Progress)
    → AllZip (λ old new. WorksOff old new × passed old.number) xs ys → AllZip WorksOff xs ys
all_worked passed [] [] zip = tt
all_worked passed [] (y ∷ ys) zip = absurd zip
all_worked passed (x ∷ xs) [] zip = absurd zip
all_worked passed (x ∷ xs) (y ∷ ys) zip = (zip.0.0, all_worked passed xs ys zip.1)

pub all_passed : (passed : ℕ → Type 0) (xs ys : List Progress)
    → AllZip (λ old new. WorksOff old new × passed old.number) xs ys → AllByRecursion (λ hand. passed hand.number) xs
all_passed passed [] ys zip = tt
all_passed passed (x ∷ xs) [] zip = absurd zip
all_passed passed (x ∷ xs) (y ∷ ys) zip = (zip.0.1, all_passed passed xs ys zip.1)

pub hands_stay : (task : Task) (xs ys : List Progress) → AreHandsOf task xs → AllZip WorksOff xs ys → AreHandsOf task ys
hands_stay task [] [] are zip = tt
hands_stay task [] (y ∷ ys) are zip = absurd zip
hands_stay task (x ∷ xs) [] are zip = absurd zip
hands_stay task (x ∷ xs) (y ∷ ys) are zip = (zip.0.goes_on.same_task ∙ are.0, hands_stay task xs ys are.1 zip.1)

pub as_many_stay : (xs ys : List Progress) → AllZip WorksOff xs ys → length ys ≡ length xs
as_many_stay [] [] zip = refl
as_many_stay [] (y ∷ ys) zip = absurd zip
as_many_stay (x ∷ xs) [] zip = absurd zip
as_many_stay (x ∷ xs) (y ∷ ys) zip = ap suc (as_many_stay xs ys zip.1)

pub all_go_on : (xs ys : List Progress) → AllZip WorksOff xs ys → AllZip HasGoneOn xs ys
all_go_on [] [] zip = tt
all_go_on [] (y ∷ ys) zip = absurd zip
all_go_on (x ∷ xs) [] zip = absurd zip
all_go_on (x ∷ xs) (y ∷ ys) zip = (zip.0.goes_on, all_go_on xs ys zip.1)

pub all_stand_still : (xs : List Progress) → AllZip HasGoneOn xs xs
all_stand_still [] = tt
all_stand_still (x ∷ xs) = (stands_still x, all_stand_still xs)

pub all_stop : (xs ys : List Progress) → AllZip WorksOff xs ys → HaveStopped ys
all_stop [] [] zip = tt
all_stop [] (y ∷ ys) zip = absurd zip
all_stop (x ∷ xs) [] zip = absurd zip
all_stop (x ∷ xs) (y ∷ ys) zip = (zip.0.stops, all_stop xs ys zip.1)

-- what is so of each hand and whether it had a thread stays so while the hands work
pub threads_stay : (P : Progress → Bool → Type 0) → ((old new : Progress) (had : Bool) → WorksOff old new → P old had → P new had)
    → (xs ys : List Progress) (threads : List Bool) → AllZip WorksOff xs ys → AllZip P xs threads → AllZip P ys threads
threads_stay P keeps [] [] [] zip are = tt
threads_stay P keeps [] [] (t ∷ threads) zip are = absurd are
threads_stay P keeps [] (y ∷ ys) threads zip are = absurd zip
threads_stay P keeps (x ∷ xs) [] threads zip are = absurd zip
threads_stay P keeps (x ∷ xs) (y ∷ ys) [] zip are = absurd are
threads_stay P keeps (x ∷ xs) (y ∷ ys) (t ∷ threads) zip are =
    (keeps x y t zip.0 are.0, threads_stay P keeps xs ys threads zip.1 are.1)

pub threads_had : (xs ys : List Progress) (threads : List Bool) → AllZip WorksOff xs ys → HadThreads xs threads → HadThreads ys threads
threads_had xs ys threads zip had = threads_stay (λ hand had. had ≡ true) (λ old new had works is. is) xs ys threads zip had

-- the rank of one is its number, which stays
refused_stays : (xs ys : List Progress) (threads : List Bool) (number : ℕ) → AllZip WorksOff xs ys
    → HasRefused (λ (hand : Progress). hand.number) xs threads number
    → HasRefused (λ (hand : Progress). hand.number) ys threads number
refused_stays [] ys threads number zip is = absurd is
refused_stays (x ∷ xs) [] threads number zip is = absurd zip
refused_stays (x ∷ xs) (y ∷ ys) [] number zip is = absurd is
refused_stays (x ∷ xs) (y ∷ ys) (t ∷ threads) number zip (inl here) = inl (here.0, zip.0.goes_on.same_number ∙ here.1)
refused_stays (x ∷ xs) (y ∷ ys) (t ∷ threads) number zip (inr behind) = inr (refused_stays xs ys threads number zip.1 behind)

pub least_stays : (xs ys : List Progress) (threads : List Bool) (number : ℕ) → AllZip WorksOff xs ys
    → IsLeastRank (λ (hand : Progress). hand.number) xs threads number
    → IsLeastRank (λ (hand : Progress). hand.number) ys threads number
least_stays xs ys threads number zip is = record {
  has_rank = refused_stays xs ys threads number zip is.has_rank;
  is_least = threads_stay (λ hand had. had ≡ false → number ≤ hand.number)
      (λ old new had works less none. subst (λ n. number ≤ n) (sym works.goes_on.same_number) (less none)) xs ys threads zip is.is_least;
}
