-- The pairs that hands kept, put in order, are the table of all that overlap.
use Rattle.std.proofs.Common.{◌≡◌, ◌⊎◌, inl, ⊎_elim, refl, sym, ◌∙◌, ap, subst, arith, ℕ, zero, suc, ◌<◌, nat_eq}
use Rattle.std.proofs.Common.{List, [], ◌∷◌, ◌++◌, append_assoc}
use Rattle.std.specs.Prelude.{IsPermutation}
use Rattle.std.specs.List.{AllByRecursion, Contains}
use Rattle.std.specs.List.Sorted.{IsStrictlyIncreasing}
use Rattle.std.proofs.lemmas.Bool.{eqb-true, eq-eqb}
use Rattle.std.proofs.lemmas.List.Elements.{Contains-append_cases, Contains-append_left, Contains-append_right}
use Rattle.std.proofs.lemmas.List.Kept.{AllPairs-from_increasing}
use Rattle.std.proofs.lemmas.List.Sorted.{IsPermutation-refl, IsPermutation-sym, IsPermutation-trans}
use Rattle.std.proofs.lemmas.List.Sorted.{IsPermutation-append_right, IsPermutation-middle, Contains-permutation}
use Rattle.std.proofs.lemmas.List.Sorted.{length_permutation}
use Rattle.geo_exact.specs.Layers.{NumberedRing}
use Rattle.fabric_core.specs.Rows.{numbers}
use Rattle.fabric_core.proofs.rows.RowLists.{has_number}
use Rattle.overlay_claims.proofs.Counts.{IsPermutation-cancel}
use Rattle.overlay_claims.proofs.Steps.{cancel}
use Rattle.overlay_claims.proofs.Views.{IsPermutation-swap_parts}
use Rattle.zone_tables.specs.Overlap.{Overlaps, IsPairBefore, AreInPairOrder, IsOverlapTable}
use Rattle.overlay_work.specs.Rounds.{Task, Progress, ArePairsOf, AreHandsOf}
use Rattle.overlay_work.specs.own.Kept.{ArePairsOfAll}
use Rattle.overlay_work.specs.own.Gathered.{ArePairsOfHands, AreOrdered, did_by}
use Rattle.overlay_work.proofs.ZonesFound.{nothing_in, member_of_all, all_member}
use Rattle.overlay_work.proofs.Hands.{Rising, rising_of, parted}
use Rattle.overlay_work.proofs.Starts.{no_items}

-- ---- pairs of lists of ids
pairs_of_both : (rows zones : List NumberedRing) (ids more : List ℕ) (kept rest : List (ℕ × ℕ)) → ArePairsOfAll rows zones ids kept
    → ArePairsOfAll rows zones more rest → ArePairsOfAll rows zones (ids ++ more) (kept ++ rest)
pairs_of_both rows zones [] more kept rest none all = subst (λ l. ArePairsOfAll rows zones more (l ++ rest)) (sym none) all
pairs_of_both rows zones (id ∷ ids) more kept rest one all = (
  one.0,
  one.1 ++ rest,
  ap (λ l. l ++ rest) one.2 ∙ append_assoc one.0 one.1 rest,
  one.3,
  pairs_of_both rows zones ids more one.1 rest one.4 all,
)

pub pairs_of_hands : (task : Task) (hands : List Progress) (kept : List (ℕ × ℕ)) → AreHandsOf task hands
    → ArePairsOfHands hands kept
    → ArePairsOfAll task.rows task.zones (did_by hands) kept
pairs_of_hands task [] kept at_work none = none
pairs_of_hands task (hand ∷ hands) kept at_work all =
    subst (ArePairsOfAll task.rows task.zones (hand.did ++ did_by hands)) (sym all.1)
    (pairs_of_both task.rows task.zones hand.did (did_by hands) hand.kept all.0
    (subst (λ (t : Task). ArePairsOfAll t.rows t.zones hand.did hand.kept) at_work.0 all.2)
    (pairs_of_hands task hands all.0 at_work.1 all.3))

-- the pairs of one id, among those of others
record AreParted (rows zones : List NumberedRing) (b : List ℕ) (id : ℕ) (c : List ℕ) (kept : List (ℕ × ℕ)) : Type 0 where
  before : List (ℕ × ℕ)
  pairs : List (ℕ × ℕ)
  behind : List (ℕ × ℕ)
  are_all : kept ≡ before ++ (pairs ++ behind)
  are_before : ArePairsOfAll rows zones b before
  are_pairs : ArePairsOf rows zones id pairs
  are_behind : ArePairsOfAll rows zones c behind

part_pairs : (rows zones : List NumberedRing) (b : List ℕ) (id : ℕ) (c : List ℕ) (kept : List (ℕ × ℕ))
    → ArePairsOfAll rows zones (b ++ id ∷ c) kept
    → AreParted rows zones b id c kept
part_pairs rows zones [] id c kept all = record {
  before = [];
  pairs = all.0;
  behind = all.1;
  are_all = all.2;
  are_before = refl;
  are_pairs = all.3;
  are_behind = all.4;
}
part_pairs rows zones (x ∷ b) id c kept all =
    let rest = part_pairs rows zones b id c all.1 all.4 in
    record {
      before = all.0 ++ rest.before;
      pairs = rest.pairs;
      behind = rest.behind;
      are_all = all.2 ∙ ap (λ l. all.0 ++ l) rest.are_all ∙ sym (append_assoc all.0 rest.before (rest.pairs ++ rest.behind));
      are_before = (all.0, rest.before, refl, all.3, rest.are_before);
      are_pairs = rest.are_pairs;
      are_behind = rest.are_behind;
    }

-- in another order of the ids the pairs are the same, in another order
pub pairs_in_order : (rows zones : List NumberedRing) (ids others : List ℕ) (kept : List (ℕ × ℕ))
    → ArePairsOfAll rows zones ids kept
    → IsPermutation ids others → (pairs : List (ℕ × ℕ)) × ArePairsOfAll rows zones others pairs × IsPermutation kept pairs
pairs_in_order rows zones ids [] kept all moved =
    let none = no_items ids (let e = length_permutation ids [] moved in omega (arith, e)) in
    let nothing : kept ≡ [] = subst (λ l. ArePairsOfAll rows zones l kept) none all in
    ([], refl, subst (λ l. IsPermutation l []) (sym nothing) (IsPermutation-refl []))
pairs_in_order rows zones ids (x ∷ others) kept all moved =
    let p = parted x ids (Contains-permutation (x ∷ others) ids x (IsPermutation-sym ids (x ∷ others) moved) (0, omega arith, refl)) in
    let b = p.0 in
    let c = p.1 in
    let moved' : IsPermutation (b ++ x ∷ c) (x ∷ others) = subst (λ l. IsPermutation l (x ∷ others)) p.2 moved in
    let fewer : IsPermutation (b ++ c) others =
    IsPermutation-cancel nat_eq eqb-true (λ y. eq-eqb y y refl) (x ∷ []) (b ++ c) others
    (IsPermutation-trans _ _ _ (IsPermutation-sym _ _ (IsPermutation-middle b x c)) moved') in
    let part = part_pairs rows zones b x c kept (subst (λ l. ArePairsOfAll rows zones l kept) p.2 all) in
    let rest = pairs_in_order rows zones (b ++ c) others (part.before ++ part.behind)
    (pairs_of_both rows zones b c part.before part.behind part.are_before part.are_behind) fewer in (
      part.pairs ++ rest.0,
      (part.pairs, rest.0, refl, part.are_pairs, rest.1),
      subst (λ l. IsPermutation l (part.pairs ++ rest.0)) (sym part.are_all)
          (IsPermutation-trans _ _ _ (IsPermutation-swap_parts part.before part.pairs part.behind)
          (IsPermutation-append_right part.pairs (part.before ++ part.behind) rest.0 rest.2)),
    )

-- ---- the pairs of rising ids are in order, and all
ids_of_pairs : (rows zones : List NumberedRing) (ids : List ℕ) (pairs : List (ℕ × ℕ)) (pair : ℕ × ℕ)
    → ArePairsOfAll rows zones ids pairs → Contains pairs pair
    → Contains ids pair.0 × Overlaps rows zones pair.0 pair.1
ids_of_pairs rows zones [] pairs pair none c = absurd (nothing_in pair (subst (λ l. Contains l pair) none c))
ids_of_pairs rows zones (id ∷ ids) pairs pair all c = ⊎_elim
    (λ here.
    let same : pair.0 ≡ id = member_of_all (λ p. p.0 ≡ id) all.0 pair all.3.of_parcel here in
    let at : Contains {X = ℕ × ℕ} all.0 (id, pair.1) = subst (λ (q : ℕ × ℕ). Contains all.0 q) (λ i. (same i, pair.1)) here in
    ((0, omega arith, sym same), subst (λ n. Overlaps rows zones n pair.1) (sym same) ((all.3.exactly pair.1).0 at)))
    (λ there. let rest = ids_of_pairs rows zones ids all.1 pair all.4 there in ((suc rest.0.0, omega (arith, rest.0.1), rest.0.2), rest.1))
    (Contains-append_cases all.0 all.1 pair (subst (λ l. Contains l pair) all.2 c))

pairs_of_ids : (rows zones : List NumberedRing) (ids : List ℕ) (pairs : List (ℕ × ℕ)) (id zone : ℕ)
    → ArePairsOfAll rows zones ids pairs → Contains ids id
    → Overlaps rows zones id zone → Contains pairs (id, zone)
pairs_of_ids rows zones [] pairs id zone none c overlaps = absurd (nothing_in id c)
pairs_of_ids rows zones (x ∷ ids) pairs id zone all (zero, less, is) overlaps =
    subst (λ l. Contains l (id, zone)) (sym all.2) (Contains-append_left all.0 all.1 (id, zone)
    (subst (λ n. Contains {X = ℕ × ℕ} all.0 (n, zone)) is
    ((all.3.exactly zone).1 (subst (λ n. Overlaps rows zones n zone) (sym is) overlaps))))
pairs_of_ids rows zones (x ∷ ids) pairs id zone all (suc k, less, is) overlaps =
    subst (λ l. Contains l (id, zone)) (sym all.2) (Contains-append_right all.0 all.1 (id, zone)
    (pairs_of_ids rows zones ids all.1 id zone all.4 (k, omega (arith, less), is) overlaps))

all_both : (P : ℕ × ℕ → Type 0) (xs ys : List (ℕ × ℕ)) → AllByRecursion P xs → AllByRecursion P ys
    → AllByRecursion P (xs ++ ys)
all_both P [] ys a b = b
all_both P (x ∷ xs) ys a b = (a.0, all_both P xs ys a.1 b)

in_order_both : (xs ys : List (ℕ × ℕ)) → AreInPairOrder xs → AreInPairOrder ys
    → ((p q : ℕ × ℕ) → Contains xs p → Contains ys q → IsPairBefore p q)
    → AreInPairOrder (xs ++ ys)
in_order_both [] ys a b before = b
in_order_both (x ∷ xs) ys a b before = (
  all_both (IsPairBefore x) xs ys a.0 (all_member (IsPairBefore x) ys (λ q c. before x q (0, omega arith, refl) c)),
  in_order_both xs ys a.1 b (λ p q c d. before p q (suc c.0, omega (arith, c.1), c.2) d),
)

in_order : (rows zones : List NumberedRing) (ids : List ℕ) (pairs : List (ℕ × ℕ)) → Rising ids
    → ArePairsOfAll rows zones ids pairs → AreInPairOrder pairs
in_order rows zones [] pairs up none = subst AreInPairOrder (sym none) tt
in_order rows zones (id ∷ ids) pairs up all =
    subst AreInPairOrder (sym all.2) (in_order_both all.0 all.1 all.3.ascend (in_order rows zones ids all.1 up.1 all.4) (λ p q c d.
    let same : p.0 ≡ id = member_of_all (λ r. r.0 ≡ id) all.0 p all.3.of_parcel c in
    let later = ids_of_pairs rows zones ids all.1 q all.4 d in
    let above : id < q.0 = member_of_all (λ n. id < n) ids q.0 up.0 later.0 in
    inl (omega (arith, same, above))))

-- ---- one order
-- lists in order that have the same pairs are one
pub one_order : (pairs sorted : List (ℕ × ℕ)) → AreInPairOrder pairs → AreOrdered sorted → IsPermutation pairs sorted
    → sorted ≡ pairs
one_order [] sorted order up moved = no_items sorted (let e = length_permutation [] sorted moved in omega (arith, e))
one_order (p ∷ pairs) [] order up moved = absurd (let e = length_permutation (p ∷ pairs) [] moved in omega (arith, e))
one_order (p ∷ pairs) (q ∷ sorted) order up moved =
    let here = Contains-permutation (p ∷ pairs) (q ∷ sorted) p moved (0, omega arith, refl) in
    let there = Contains-permutation (q ∷ sorted) (p ∷ pairs) q (IsPermutation-sym _ _ moved) (0, omega arith, refl) in
    let same : q ≡ p = heads p q pairs sorted order.0 up.0 here there in
    let rest = one_order pairs sorted order.1 up.1
    (cancel (p ∷ []) pairs sorted (subst (λ x. IsPermutation (p ∷ pairs) (x ∷ sorted)) same moved)) in
    λ i. same i ∷ rest i
  where
    not_both : (p q : ℕ × ℕ) → IsPairBefore p q → IsPairBefore q p → ⊥
    not_both p q a b = ⊎_elim
        (λ less. ⊎_elim (λ more. omega (arith, less, more)) (λ same. omega (arith, less, same.0)) b)
        (λ less. ⊎_elim (λ more. omega (arith, less.0, more)) (λ more. omega (arith, less.1, more.1)) b)
        a

    heads : (p q : ℕ × ℕ) (pairs sorted : List (ℕ × ℕ)) → AllByRecursion (IsPairBefore p) pairs
        → AllByRecursion (λ other. IsPairBefore q other ⊎ (q ≡ other)) sorted
        → Contains (q ∷ sorted) p → Contains (p ∷ pairs) q → q ≡ p
    heads p q pairs sorted order up (zero, less, is) there = is
    heads p q pairs sorted order up (suc k, less, is) (zero, less', is') = sym is'
    heads p q pairs sorted order up (suc k, less, is) (suc j, less', is') = ⊎_elim
        (λ before. absurd (not_both p q (member_of_all (IsPairBefore p) pairs q order (j, omega (arith, less'), is')) before))
        (λ same. same)
        (member_of_all (λ other. IsPairBefore q other ⊎ (q ≡ other)) sorted p up (k, omega (arith, less), is))

-- ---- the table
pub is_table : (task : Task) (hands : List Progress) (kept pairs : List (ℕ × ℕ))
    → IsStrictlyIncreasing (numbers task.rows) → AreHandsOf task hands
    → ArePairsOfHands hands kept → IsPermutation (did_by hands) (numbers task.rows) → IsPermutation kept pairs → AreOrdered pairs
    → IsOverlapTable task.rows task.zones pairs
is_table task hands kept pairs up at_work are once moved ordered =
    let rows = task.rows in
    let zones = task.zones in
    let ids = numbers rows in
    let all = pairs_in_order rows zones (did_by hands) ids kept (pairs_of_hands task hands kept at_work are) once in
    let rise = rising_of ids (λ i j d less here. AllPairs-from_increasing ids up i j d less here) in
    let order = in_order rows zones ids all.0 rise all.1 in
    let same = one_order all.0 pairs order ordered (IsPermutation-trans _ _ _ (IsPermutation-sym _ _ all.2) moved) in
    subst (IsOverlapTable rows zones) (sym same) (record {
      ascend = order;
      exactly = λ id zone. (
        (λ c. (ids_of_pairs rows zones ids all.0 (id, zone) all.1 c).1),
        (λ overlaps. pairs_of_ids rows zones ids all.0 id zone all.1 (subst (Contains ids) overlaps.has_id
            (has_number rows overlaps.parcel overlaps.is_row)) overlaps),
      );
    })
