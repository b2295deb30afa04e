-- What a hand keeps, after each of its steps.
use Rattle.std.proofs.Common.{◌≡◌, ⊎_elim, refl, sym, ◌∙◌, ap, subst, arith, ℕ, zero, suc, ◌+◌, ◌-◌, ◌*◌}
use Rattle.std.proofs.Common.{◌^◌, ◌<◌, ◌≤◌, List, [], ◌∷◌, ◌++◌, map, length, get_or, take, append_assoc}
use Rattle.std.proofs.Common.{append-nil, length-append}
use Rattle.std.specs.Prelude.{sum_by, Option, Some, None}
use Rattle.std.specs.List.{AllByRecursion, Contains}
use Rattle.std.specs.List.Sorted.{IsStrictlyIncreasing}
use Rattle.std.proofs.lemmas.List.{length-map}
use Rattle.std.proofs.lemmas.List.Elements.{Contains-append_cases, Contains-append_left, Contains-append_right}
use Rattle.std.proofs.lemmas.List.Kept.{AllPairs-from_increasing}
use Rattle.std.proofs.lemmas.List.Sums.{sum_by-cons}
use Rattle.std.proofs.lemmas.List.Sorted.{length_permutation}
use Rattle.geo_exact.specs.Layers.{NumberedRing, corner_count}
use Rattle.geo_exact.specs.declared.limits.TheConstants.{LAYER_CORNERS}
use Rattle.fabric_core.specs.Rows.{numbers}
use Rattle.fabric_core.specs.Faults.{AreSimple}
use Rattle.fabric_core.proofs.rows.RowLists.{has_number}
use Rattle.overlay_claims.specs.Claimants.{Standing, AreAllEnded}
use Rattle.overlay_work.specs.Sharing.{joined, IsSharing}
use Rattle.overlay_work.specs.Rounds.{Task, ArePairsOf, AreCandidatesFor, id_at}
use Rattle.overlay_work.specs.own.Kept.{IsTask, IsHand, HoldsLast, done_of, ids_at, ArePairsOfAll, KeepsPairs}
use Rattle.overlay_work.proofs.Places.{one_more_id, before_last, length_joined}
use Rattle.overlay_work.proofs.Boxes.{some_corner}
use Rattle.overlay_work.proofs.ZonesFound.{all_snoc, all_member, member_of_all, nothing_in}
use Rattle.overlay_work.proofs.HandsIn.{nothing_held}

-- ---- a rising list within another is no longer
abbrev pub Rising : List ℕ → Type 0
Rising [] = Unit {0}
Rising (x ∷ xs) = AllByRecursion (λ y. x < y) xs × Rising xs

pub rising_of : (xs : List ℕ) → ((i j : ℕ) (d : ℕ) → i < j → j < length xs → get_or xs i d < get_or xs j d) → Rising xs
rising_of [] up = tt
rising_of (x ∷ xs) up = (
  all_member (λ y. x < y) xs (λ y c. subst (λ z. x < z) c.2 (up 0 (suc c.0) y (omega arith) (omega (arith, c.1)))),
  rising_of xs (λ i j d less here. up (suc i) (suc j) d (omega arith) (omega arith)),
)

pub parted : (x : ℕ) (ys : List ℕ) → Contains ys x → (b : List ℕ) × (c : List ℕ) × (ys ≡ b ++ x ∷ c)
parted x [] c = absurd (nothing_in x c)
parted x (y ∷ ys) (zero, less, is) = ([], ys, ap (λ z. z ∷ ys) is)
parted x (y ∷ ys) (suc k, less, is) = let p = parted x ys (k, omega (arith, less), is) in (y ∷ p.0, p.1, ap (λ l. y ∷ l) p.2)

rising_within : (xs ys : List ℕ) → Rising xs → ((x : ℕ) → Contains xs x → Contains ys x) → length xs ≤ length ys
rising_within [] ys up within = omega arith
rising_within (x ∷ xs) ys up within =
    let p = parted x ys (within x (0, omega arith, refl)) in
    let rest = rising_within xs (p.0 ++ p.1) up.1 (λ z c.
    let above : x < z = member_of_all (λ y. x < y) xs z up.0 c in
    let whole : Contains (p.0 ++ x ∷ p.1) z = subst (λ l. Contains l z) p.2 (within z (suc c.0, omega (arith, c.1), c.2)) in
    ⊎_elim
    (λ front. Contains-append_left p.0 p.1 z front)
    (λ back. Contains-append_right p.0 p.1 z (behind x z p.1 above back))
    (Contains-append_cases p.0 (x ∷ p.1) z whole)) in
    let long = ap length p.2 in
    let both = length-append p.0 (x ∷ p.1) in
    let less = length-append p.0 p.1 in
    omega (arith, rest, long, both, less)
  where
    behind : (x z : ℕ) (c : List ℕ) → x < z → Contains (x ∷ c) z → Contains c z
    behind x z c above (zero, b, e) = absurd (omega (arith, e, above))
    behind x z c above (suc k, b, e) = (k, omega (arith, b), e)

pub increasing_within : (xs ys : List ℕ) → IsStrictlyIncreasing xs → ((x : ℕ) → Contains xs x → Contains ys x)
    → length xs ≤ length ys
increasing_within xs ys up within =
    rising_within xs ys (rising_of xs (λ i j d less here. AllPairs-from_increasing xs up i j d less here)) within

-- ---- few rows
pub rows_few : (rows : List NumberedRing) → AreSimple rows → length rows ≤ corner_count rows
rows_few [] simple = omega arith
rows_few (row ∷ rows) simple =
    let here = some_corner row.corners simple.0 in
    let rest = rows_few rows simple.1 in
    omega (arith, here, rest)

-- ---- pairs
pub pairs_of_one_more : (rows zones : List NumberedRing) (ids : List ℕ) (id : ℕ) (kept pairs : List (ℕ × ℕ))
    → ArePairsOfAll rows zones ids kept
    → ArePairsOf rows zones id pairs → ArePairsOfAll rows zones (ids ++ id ∷ []) (kept ++ pairs)
pairs_of_one_more rows zones [] id kept pairs all one = (pairs, [], ap (λ l. l ++ pairs) all ∙ sym (append-nil pairs), one, refl)
pairs_of_one_more rows zones (x ∷ ids) id kept pairs all one = (
  all.0,
  all.1 ++ pairs,
  ap (λ l. l ++ pairs) all.2 ∙ append_assoc all.0 all.1 pairs,
  all.3,
  pairs_of_one_more rows zones ids id all.1 pairs all.4 one,
)

-- ---- the hand
pub done_all : (id : ℕ) (ids : List ℕ) → HoldsLast (Some id) ids → done_of (Some id) ids ++ id ∷ [] ≡ ids
done_all id ids last = ap (λ l. l ++ id ∷ []) (ap (λ l. take (length l - 1) l) last.1 ∙ before_last last.0 id) ∙ sym last.1

pub hand_claims : (task : Task) (old new : Standing) (kept : List (ℕ × ℕ)) (tests : ℕ) (place : ℕ × ℕ) (id : ℕ)
    → IsHand task old None kept tests
    → new.lists ≡ old.lists → new.places ≡ old.places ++ place ∷ []
    → length new.places ≤ sum_by (λ n. n) task.claims.lengths → id ≡ id_at task.lists place
    → Contains (numbers task.rows) id → (AreAllEnded (length task.lists) new.ended → ⊥) → IsHand task new (Some id) kept tests
hand_claims task old new kept tests place id hand same claims few is here left =
    let ids = ids_at task.lists old.places in
    let more : ids_at task.lists new.places ≡ ids ++ id ∷ [] =
    ap (ids_at task.lists) claims ∙ one_more_id task.lists old.places place ∙ ap (λ x. ids ++ x ∷ []) (sym is) in
    let done : done_of (Some id) (ids_at task.lists new.places) ≡ ids = ap (λ l. take (length l - 1) l) more ∙ before_last ids id in
    record {
      claims = same ∙ hand.claims;
      here = subst (AllByRecursion (Contains (numbers task.rows))) (sym more)
          (all_snoc (Contains (numbers task.rows)) ids id hand.here here);
      holds_last = (ids, more);
      pairs = subst (λ l. ArePairsOfAll task.rows task.zones l kept) (sym done) hand.pairs;
      few = few;
      few_tests = subst (λ l. tests ≤ LAYER_CORNERS * length l) (sym done) hand.few_tests;
      is_not_done = λ some. left;
    }

pub hand_ends : (task : Task) (old new : Standing) (kept : List (ℕ × ℕ)) (tests : ℕ) → IsHand task old None kept tests
    → new.lists ≡ old.lists
    → new.places ≡ old.places → IsHand task new None kept tests
hand_ends task old new kept tests hand same places = record {
  claims = same ∙ hand.claims;
  here = subst (λ l. AllByRecursion (Contains (numbers task.rows)) (ids_at task.lists l)) (sym places) hand.here;
  holds_last = tt;
  pairs = subst (λ l. ArePairsOfAll task.rows task.zones (ids_at task.lists l) kept) (sym places) hand.pairs;
  few = subst (λ l. length l ≤ sum_by (λ n. n) task.claims.lengths) (sym places) hand.few;
  few_tests = subst (λ l. tests ≤ LAYER_CORNERS * length (ids_at task.lists l)) (sym places) hand.few_tests;
  is_not_done = λ some. absurd (nothing_held None refl some);
}

few_candidates : (task : Task) (id : ℕ) (candidates : List ℕ) → IsTask task
    → AreCandidatesFor task.rows task.zones task.city id candidates → length candidates ≤ LAYER_CORNERS
few_candidates task id candidates kept are =
    let within = increasing_within candidates (numbers task.zones) are.ascend (λ zone c.
    let it = (are.exactly zone).0 c in
    subst (Contains (numbers task.zones)) it.has_id (has_number task.zones it.row it.is_row)) in
    let count = length-map task.zones (λ (row : NumberedRing). row.number) in
    let few = kept.few_zones in
    omega (arith, within, count, few)

pub hand_does : (task : Task) (hand : Standing) (kept new : List (ℕ × ℕ)) (tests more : ℕ) (id : ℕ) → IsTask task
    → IsHand task hand (Some id) kept tests
    → KeepsPairs task id kept new more → IsHand task hand None new (tests + more)
hand_does task hand kept new tests more id stands is keeps =
    let ids = ids_at task.lists hand.places in
    let done = done_of (Some id) ids in
    let all : done ++ id ∷ [] ≡ ids = done_all id ids is.holds_last in
    let few = few_candidates task id keeps.candidates stands keeps.are_candidates in
    let count : length ids ≡ length done + 1 = (let e = ap length all in let f = length-append done (id ∷ []) in omega (arith, e, f)) in
    record {
      claims = is.claims;
      here = is.here;
      holds_last = tt;
      pairs = subst (λ l. ArePairsOfAll task.rows task.zones ids l) (sym keeps.kept)
          (subst (λ l. ArePairsOfAll task.rows task.zones l (kept ++ keeps.pairs)) all
          (pairs_of_one_more task.rows task.zones done id kept keeps.pairs is.pairs keeps.are_pairs));
      few = is.few;
      few_tests =
          (let old : tests ≤ LAYER_CORNERS * length done = is.few_tests in
          let new : more ≤ LAYER_CORNERS = subst (λ n. n ≤ LAYER_CORNERS) (sym keeps.tests) few in
          subst (λ n. tests + more ≤ LAYER_CORNERS * n) (sym count) (omega (arith, old, new)));
      is_not_done = λ some. absurd (nothing_held None refl some);
    }

-- a hand claims no more parcels than a layer may have
few_claimed : (task : Task) (hand : Standing) (holds : Option ℕ) (kept : List (ℕ × ℕ)) (tests : ℕ) → IsTask task
    → IsHand task hand holds kept tests
    → length (ids_at task.lists hand.places) ≤ LAYER_CORNERS
few_claimed task hand holds kept tests stands is =
    let places = length-map hand.places (id_at task.lists) in
    let few : length hand.places ≤ sum_by (λ n. n) task.claims.lengths = is.few in
    let lengths = ap (sum_by (λ (n : ℕ). n)) stands.lengths in
    let all = length_joined task.lists in
    let ids = length_permutation (joined task.lists) (numbers task.rows) stands.sharing.each_once in
    let rows = length-map task.rows (λ (row : NumberedRing). row.number) in
    let few_rows = stands.few_rows in
    omega (arith, places, few, lengths, all, ids, rows, few_rows)

-- nor does it do more
pub few_done : (task : Task) (hand : Standing) (holds : Option ℕ) (kept : List (ℕ × ℕ)) (tests : ℕ) → IsTask task
    → IsHand task hand holds kept tests
    → length (done_of holds (ids_at task.lists hand.places)) ≤ LAYER_CORNERS
few_done task hand None kept tests stands is = few_claimed task hand None kept tests stands is
few_done task hand (Some id) kept tests stands is =
    let ids = ids_at task.lists hand.places in
    let few = few_claimed task hand (Some id) kept tests stands is in
    let all = ap length (done_all id ids is.holds_last) in
    let one = length-append (done_of (Some id) ids) (id ∷ []) in
    omega (arith, few, all, one)

-- so few tests are made that their number fits
pub tests_fit : (task : Task) (hand : Standing) (kept new : List (ℕ × ℕ)) (tests more : ℕ) (id : ℕ) → IsTask task
    → IsHand task hand (Some id) kept tests
    → KeepsPairs task id kept new more → tests + more ≤ LAYER_CORNERS * LAYER_CORNERS
tests_fit task hand kept new tests more id stands is keeps =
    let after = hand_does task hand kept new tests more id stands is keeps in
    let long = few_claimed task hand (Some id) kept tests stands is in
    let bound = after.few_tests in
    omega (arith, bound, long)

-- ---- the lists' lengths
at_most_sum : (ns : List ℕ) (m k : ℕ) → sum_by (λ n. n) ns ≤ m → m + k < 2 ^ 64 → AllByRecursion (λ n. n + k < 2 ^ 64) ns
at_most_sum [] m k few fits = tt
at_most_sum (n ∷ ns) m k few fits =
    let sum = sum_by-cons (λ (x : ℕ). x) n ns in
    (omega (arith, sum, few, fits), at_most_sum ns m k (omega (arith, sum, few)) fits)

-- no addition to a word of lists that share few ids wraps
pub short_lists : (rows : List NumberedRing) (lists : List (List ℕ)) (lengths : List ℕ)
    → IsSharing (numbers rows) lists → lengths ≡ map (λ list. length list) lists
    → length rows ≤ LAYER_CORNERS → AllByRecursion (λ n. n + length lengths < 2 ^ 64) lengths
short_lists rows lists lengths shares are few =
    let all = length_joined lists in
    let sum = ap (sum_by (λ (n : ℕ). n)) are in
    let ids = length_permutation (joined lists) (numbers rows) shares.each_once in
    let count = length-map rows (λ (row : NumberedRing). row.number) in
    let lists_count = length-map lists (λ (l : List ℕ). length l) in
    let hands = shares.has_hands.1 in
    let many = ap length are in
    at_most_sum lengths LAYER_CORNERS (length lengths) (omega (arith, all, sum, ids, count, few)) (omega (arith, many, lists_count, hands))
