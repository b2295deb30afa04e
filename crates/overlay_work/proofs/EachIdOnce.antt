-- What hands did together: each id of a sharing, once.
use Rattle.std.proofs.Common.{◌≡◌, refl, sym, ◌∙◌, ap, subst, arith, ℕ, zero, suc, ◌+◌, ◌<◌, ◌≤◌, List, []}
use Rattle.std.proofs.Common.{◌∷◌, ◌++◌, map, length, take, append_assoc, length-append, add-one}
use Rattle.std.specs.Prelude.{slice_index, slice_index_or, IsPermutation}
use Rattle.std.specs.List.{Contains}
use Rattle.std.proofs.lemmas.List.{map-append, take_more, take_all}
use Rattle.std.proofs.lemmas.List.Sums.{sum_by-append}
use Rattle.std.proofs.lemmas.List.Sorted.{IsPermutation-refl, IsPermutation-sym, IsPermutation-trans}
use Rattle.std.proofs.lemmas.List.Sorted.{IsPermutation-cons, IsPermutation-append, IsPermutation-to_front}
use Rattle.std.proofs.lemmas.List.Sorted.{IsPermutation-map}
use Rattle.overlay_claims.specs.Claims.{places_below, all_places, times}
use Rattle.overlay_work.specs.Sharing.{joined, IsSharing}
use Rattle.overlay_work.specs.Rounds.{Task, Progress, HasAllEnds, AreHandsOf, id_at}
use Rattle.overlay_work.specs.Faults.{HoldNothing}
use Rattle.overlay_work.specs.own.Kept.{ids_at}
use Rattle.overlay_work.specs.own.Gathered.{ended_by, AreReady}
use Rattle.overlay_work.proofs.ZonesFound.{nothing_in}

-- ---- the ids at all places
list_at : (before : List (List ℕ)) (list : List ℕ) (lists : List (List ℕ))
    → slice_index_or (before ++ list ∷ lists) (length before) [] ≡ list
list_at [] list lists = refl
list_at (x ∷ before) list lists = list_at before list lists

ids_below : (lists : List (List ℕ)) (number : ℕ) (list : List ℕ) (n : ℕ) → slice_index_or lists number [] ≡ list
    → n ≤ length list
    → IsPermutation (ids_at lists (places_below number n)) (take n list)
ids_below lists number list zero at few = IsPermutation-refl []
ids_below lists number list (suc n) at few =
    let rest = ids_below lists number list n at (omega (arith, few)) in
    let here : id_at lists (number, n) ≡ slice_index list n = ap (λ l. slice_index l n) at in
    let more : take (suc n) list ≡ take n list ++ slice_index list n ∷ [] = ap (λ k. take k list) (sym (add-one n))
    ∙ take_more list n 0 (omega (arith, few)) in
    subst (IsPermutation (id_at lists (number, n) ∷ ids_at lists (places_below number n))) (sym more)
    (subst (λ x. IsPermutation (x ∷ ids_at lists (places_below number n)) (take n list ++ slice_index list n ∷ [])) (sym here)
    (IsPermutation-trans _ _ _ (IsPermutation-cons (slice_index list n) _ _ rest)
    (IsPermutation-sym _ _ (IsPermutation-to_front (take n list) (slice_index list n)))))

ids_from : (before lists : List (List ℕ))
    → IsPermutation (ids_at (before ++ lists) (all_places (length before) (map (λ list. length list) lists))) (joined lists)
ids_from before [] = IsPermutation-refl []
ids_from before (list ∷ lists) =
    let all = before ++ list ∷ lists in
    let number = length before in
    let here = subst (IsPermutation (ids_at all (places_below number (length list)))) (take_all (length list) list (omega arith))
    (ids_below all number list (length list) (list_at before list lists) (omega arith)) in
    let behind : IsPermutation (ids_at all (all_places (suc number) (map (λ l. length l) lists))) (joined lists) =
    subst (λ l. IsPermutation (ids_at l (all_places (suc number) (map (λ l. length l) lists))) (joined lists))
    (append_assoc before (list ∷ []) lists)
    (subst (λ n. IsPermutation (ids_at ((before ++ list ∷ []) ++ lists) (all_places n (map (λ l. length l) lists))) (joined lists))
    (length-append before (list ∷ []) ∙ omega arith) (ids_from (before ++ list ∷ []) lists)) in
    subst (λ l. IsPermutation l (list ++ joined lists))
    (sym (map-append (id_at all) (places_below number (length list)) (all_places (suc number) (map (λ l. length l) lists))))
    (IsPermutation-append _ _ _ _ here behind)

pub all_ids : (lists : List (List ℕ)) → IsPermutation (ids_at lists (all_places 0 (map (λ list. length list) lists))) (joined lists)
all_ids lists = ids_from [] lists

-- where all places were claimed, the ids at them are those that are shared
pub all_claimed_once : (ids : List ℕ) (lists : List (List ℕ)) (lengths : List ℕ) (places : List (ℕ × ℕ)) → IsSharing ids lists
    → lengths ≡ map (λ list. length list) lists → IsPermutation places (all_places 0 lengths)
    → IsPermutation (ids_at lists places) ids
all_claimed_once ids lists lengths places shares are once =
    IsPermutation-trans _ _ _ (IsPermutation-map (id_at lists) places (all_places 0 lengths) once)
    (IsPermutation-trans _ _ _ (subst (λ l. IsPermutation (ids_at lists (all_places 0 l)) (joined lists)) (sym are)
    (all_ids lists)) shares.each_once)

-- ---- the hands
pub are_ready : (task : Task) (hands : List Progress) → AreHandsOf task hands → HoldNothing hands → AreReady task hands
are_ready task [] at_work none = tt
are_ready task (hand ∷ hands) at_work none = (at_work.0, none.0, are_ready task hands at_work.1 none.1)

times_of_one : (list : ℕ) (hands : List Progress) (hand : Progress) → Contains hands hand
    → times list hand.ended ≤ times list (ended_by hands)
times_of_one list [] hand c = absurd (nothing_in hand c)
times_of_one list (x ∷ hands) hand (zero, less, is) =
    let both = sum_by-append _ x.ended (ended_by hands) in
    let same : times list x.ended ≡ times list hand.ended = ap (λ (h : Progress). times list h.ended) is in
    let sum : times list (x.ended ++ ended_by hands) ≡ times list x.ended + times list (ended_by hands) = both in
    omega (arith, sum, same)
times_of_one list (x ∷ hands) hand (suc k, less, is) =
    let rest = times_of_one list hands hand (k, omega (arith, less), is) in
    let sum : times list (x.ended ++ ended_by hands) ≡ times list x.ended + times list (ended_by hands) =
    sum_by-append _ x.ended (ended_by hands) in
    omega (arith, sum, rest)

-- one has found each list at its end, so all have
pub all_ended : (task : Task) (hands : List Progress) (hand : Progress) → Contains hands hand → hand.task ≡ task → HasAllEnds hand
    → (list : ℕ) → list < length task.lists → 0 < times list (ended_by hands)
all_ended task hands hand c same all list less =
    let one = all list (subst (λ (t : Task). list < length t.lists) (sym same) less) in
    let more = times_of_one list hands hand c in
    omega (arith, one, more)
