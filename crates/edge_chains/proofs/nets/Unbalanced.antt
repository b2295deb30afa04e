-- All edges of a sum, in order.
use Rattle.std.proofs.Common.{◌≡◌, ◌≢◌, ◌↔◌, inl, inr, arith, suc, refl, sym, ◌∙◌, ap, subst, Bool, true, false}
use Rattle.std.proofs.Common.{IsTrue, ℕ, ◌<◌, ℤ, pos}
use Rattle.std.proofs.Common.{if◌then◌else◌, neg_ℤ, List, [], ◌∷◌, ◌++◌, append-nil, map, Some, IsSome, length, get_or}
use Rattle.std.specs.List.{AllByRecursion, Contains, IsDistinct}
use Rattle.std.specs.List.Sorted.{IsSorted, IsPermutation}
use Rattle.std.specs.declared.cmp.Ordering.{Ordering}
use Rattle.std.specs.declared.cmp.Ordering.TheVariants.{Less, Equal, Greater}
use Rattle.std.specs.Ordering.{int_cmp, is_lt, is_eq, ordering_then, ordering_reverse}
use Rattle.std.specs.Ordering.{int_eq}
use Rattle.std.specs.Bool.{Decides}
use Rattle.std.proofs.lemmas.Bool.Decides.{Decides-int_eq}
use Rattle.std.specs.Map.{lookup, keys_of}
use Rattle.std.proofs.lemmas.Map.Views.{Contains-from_lookup, lookup-from_Contains}
use Rattle.std.proofs.lemmas.Map.Keys.{IsDistinct-IsPermutation}
use Rattle.std.proofs.lemmas.List.Sorted.{Contains-permutation, IsPermutation-sym, IsPermutation-map, sorted_far, ranks_by}
use Rattle.std.proofs.lemmas.Cmp.{int_cmp_total, on_total, then_total}
use Rattle.std.specs.Cmp.{IsTotalOrder, IsEquivalence, and_equiv, on_equiv}
use Rattle.std.specs.Option.{unwrap_or}
use Rattle.geo_exact.specs.declared.corner.Corner.{Corner}
use Rattle.geo_exact.specs.Order.{is_before, is_same_equivalence}
use Rattle.geo_exact.specs.own.Sorted.{corner_cmp}
use Rattle.geo_exact.proofs.corners_and_turns.CornerOrder.{corner_cmp_total, corner_ties, same_from_test, before_from_less}
use Rattle.edge_chains.specs.Counts.{Counts, is_edge_before, is_same_edge, number_at, net_at, AreCounts}
use Rattle.edge_chains.specs.Unbalanced.{AreInEdgeOrder, AreUnbalanced}
use Rattle.edge_chains.proofs.edges.Corners.{Decides-is_edge_before}
use Rattle.edge_chains.proofs.nets.Changes.{Decides-is_same_edge}
use Rattle.edge_chains.proofs.nets.Firsts.{net_in_order, found_where_not_zero, is_true}
use Rattle.edge_chains.proofs.nodings.NodedEdges.{none_in_nil, Contains-here, Contains-there, Contains-cases}

-- an edge with its number, as it is told
abbrev pub told : (Corner × Corner) × ℤ → Corner × Corner × ℤ
told e = (e.0.0, e.0.1, e.1)

abbrev pub key : Corner × Corner × ℤ → Corner × Corner
key t = (t.0, t.1)

-- told edges by their corners, and then by their numbers
abbrev pub told_cmp : Corner × Corner × ℤ → Corner × Corner × ℤ → Ordering
told_cmp x y = ordering_then (ordering_then (corner_cmp x.0 y.0) (corner_cmp x.1 y.1)) (int_cmp x.2 y.2)

told_cmp_total : IsTotalOrder told_cmp
told_cmp_total = then_total (then_total (on_total (λ (t : Corner × Corner × ℤ). t.0) corner_cmp_total) (on_total (λ
    (t : Corner × Corner × ℤ). t.1) corner_cmp_total))
    (on_total (λ (t : Corner × Corner × ℤ). t.2) int_cmp_total)

equal_corners : (a b : Corner) → corner_cmp a b ≡ Equal → a ≡ b
equal_corners a b h = same_from_test a b (corner_ties a b ∙ ap is_eq h)

true_from : (t : Bool) → t ≡ true → IsTrue t
true_from true h = refl
true_from false h = cc

-- of two edges that differ, the one that is not told later comes before the other
before_from_apart : (x y : Corner × Corner × ℤ) → is_lt (told_cmp y x) ≡ false → is_same_edge (key x) (key y) ≡ false
    → IsTrue (is_edge_before (key x) (key y))
before_from_apart x y h apart = read (corner_cmp x.0 y.0) (corner_cmp x.1 y.1) refl refl (not_greater (told_cmp x y) (told_cmp y x)
    (told_cmp_total.antisymm y x) h)
  where
    not_greater : (p q : Ordering) → q ≡ ordering_reverse p → is_lt q ≡ false → p ≢ Greater
    not_greater p q e n g = cc

    read : (p q : Ordering) → corner_cmp x.0 y.0 ≡ p → corner_cmp x.1 y.1 ≡ q
        → ordering_then (ordering_then p q) (int_cmp x.2 y.2) ≢ Greater
        → IsTrue (is_edge_before (key x) (key y))
    read Less q a b n = true_from _ ((Decides-is_edge_before (key x) (key y)).1 (inl (before_from_less x.0 y.0 a)))
    read Equal Less a b n = true_from _ ((Decides-is_edge_before (key x) (key y)).1 (inr
        (equal_corners x.0 y.0 a, before_from_less x.1 y.1 b)))
    read Equal Equal a b n = absurd (differ (is_same_edge (key x) (key y)) apart ((Decides-is_same_edge (key x) (key y)).1
        (equal_corners x.0 y.0 a, equal_corners x.1 y.1 b)))
      where
        differ : (t : Bool) → t ≡ false → t ≡ true → ⊥
        differ t f g = cc
    read Equal Greater a b n = absurd (n refl)
    read Greater q a b n = absurd (n refl)

same_edge_equivalence : IsEquivalence is_same_edge
same_edge_equivalence = and_equiv (on_equiv (λ (p : Corner × Corner). p.0) is_same_equivalence) (on_equiv (λ
    (p : Corner × Corner). p.1) is_same_equivalence)

same_edge : (p q : Corner × Corner) → is_same_edge p q ≡ true → p ≡ q
same_edge p q h = let e = (Decides-is_same_edge p q).0 h in ap (λ x. (x, p.1)) e.0 ∙ ap (λ y. (q.0, y)) e.1

-- ---- in order
-- each edge and those behind it
ordered : (ts : List (Corner × Corner × ℤ)) → ((i j : ℕ) (d : Corner × Corner × ℤ) → i < j → j < length ts
    → is_lt (told_cmp (get_or ts j d) (get_or ts i d)) ≡ false)
    → IsDistinct is_same_edge (map key ts) → AreInEdgeOrder ts
unfolding IsDistinct
ordered [] h d = tt
ordered (t ∷ ts) h d = (
  behind ts (λ j e k. h 0 (suc j) e (omega arith) (omega (arith, k))) d.0,
  ordered ts (λ i j e k l. h (suc i) (suc j) e (omega (arith, k)) (omega (arith, l))) d.1,
)
  where
    behind : (us : List (Corner × Corner × ℤ)) → ((j : ℕ) (e : Corner × Corner × ℤ) → j < length us
        → is_lt (told_cmp (get_or us j e) t) ≡ false)
        → AllByRecursion (λ y. is_same_edge (key t) y ≡ false) (map key us)
        → AllByRecursion (λ later. IsTrue (is_edge_before (t.0, t.1) (later.0, later.1))) us
    behind [] h k = tt
    behind (u ∷ us) h k = (before_from_apart t u (h 0 u (omega arith)) k.0, behind us (λ j e l. h (suc j) e (omega (arith, l))) k.1)

keys_told : (entries : List ((Corner × Corner) × ℤ)) → map key (map told entries) ≡ keys_of entries
keys_told [] = refl
keys_told (e ∷ entries) = ap (λ ks. e.0 ∷ ks) (keys_told entries)

same_edge_flips : (p q : Corner × Corner) → is_same_edge p q ≡ is_same_edge q p
same_edge_flips p q = same_edge_equivalence.symm p q

-- ---- exactly
contains_told : (entries : List ((Corner × Corner) × ℤ)) (a b : Corner) (n : ℤ) → Contains entries ((a, b), n)
    → Contains (map told entries) (a, b, n)
contains_told [] a b n h = absurd (none_in_nil ((a, b), n) h)
contains_told (e ∷ entries) a b n h = elim (Contains-cases e entries ((a, b), n) h) [
  | inl x ↦ subst (λ y. Contains (told y ∷ map told entries) (a, b, n)) (sym x) (Contains-here (a, b, n) (map told entries))
  | inr k ↦ Contains-there (told e) (map told entries) (a, b, n) (contains_told entries a b n k)
]

contained_told : (entries : List ((Corner × Corner) × ℤ)) (a b : Corner) (n : ℤ) → Contains (map told entries) (a, b, n)
    → Contains entries ((a, b), n)
contained_told [] a b n h = absurd (none_in_nil (a, b, n) h)
contained_told (e ∷ entries) a b n h = elim (Contains-cases (told e) (map told entries) (a, b, n) h) [
  | inl x ↦ subst (λ y. Contains (y ∷ entries) ((a, b), n))
      (sym (ap (λ (t : Corner × Corner × ℤ). ((t.0, t.1), t.2)) x)) (Contains-here
      ((a, b), n) entries)
  | inr k ↦ Contains-there e entries ((a, b), n) (contained_told entries a b n k)
]

-- the numbers of a sum that are not 0 are those that its map has
has_entry : (sum : Counts) (k : ℕ) → AreCounts sum.counts k → (a b : Corner) (n : ℤ)
    → lookup (is_same_edge (a, b)) sum.counts ≡ Some n ↔ (IsTrue (is_before a b) × (net_at sum.counts a b ≡ n) × (n ≢ pos 0))
has_entry sum k h a b n = (forth, back)
  where
    forth : lookup (is_same_edge (a, b)) sum.counts ≡ Some n → IsTrue (is_before a b) × (net_at sum.counts a b ≡ n) × (n ≢ pos 0)
    forth e =
        let before : IsTrue (is_before a b) = h.in_order (a, b) (subst IsSome (sym e) refl) in (
          before,
          net_in_order sum.counts a b (is_true (is_before a b) before) ∙ ap (λ o. unwrap_or o (pos 0)) e,
          λ z. h.no_zero (a, b) (e ∙ ap Some z),
        )

    back : IsTrue (is_before a b) × (net_at sum.counts a b ≡ n) × (n ≢ pos 0) → lookup (is_same_edge (a, b)) sum.counts ≡ Some n
    back c =
        let same : number_at sum.counts a b ≡ n = sym (net_in_order sum.counts a b (is_true (is_before a b) c.0)) ∙ c.1 in
        let found = found_where_not_zero (lookup (is_same_edge (a, b)) sum.counts) (λ z. c.2 (sym same ∙ z)) in
        found.1 ∙ ap Some (sym (ap (λ o. unwrap_or o (pos 0)) found.1) ∙ same)

pub are_unbalanced : (sum : Counts) (k : ℕ) (edges : List (Corner × Corner × ℤ)) → AreCounts sum.counts k
    → IsDistinct is_same_edge (keys_of sum.counts)
    → IsPermutation (map told sum.counts) edges → IsSorted told_cmp edges → AreUnbalanced sum edges
are_unbalanced sum k edges h apart moved sorted = record {
  ascend = ordered edges (λ i j d l m. sorted_far (λ x y. is_lt (told_cmp x y)) (ranks_by told_cmp_total (λ x. x)) edges sorted i j d
      (omega (arith, l)) m)
      (IsDistinct-IsPermutation is_same_edge same_edge_flips (map key (map told sum.counts)) (map key edges)
      (IsPermutation-map key (map told sum.counts) edges moved) (subst (IsDistinct is_same_edge) (sym (keys_told sum.counts)) apart));
  exactly = λ a b n. (
    λ c. (has_entry sum k h a b n).0 (lookup-from_Contains same_edge_equivalence (a, b) n sum.counts apart
        (contained_told sum.counts a b n (Contains-permutation edges (map told sum.counts) (a, b, n) (IsPermutation-sym
        (map told sum.counts) edges moved) c))),
    λ c. Contains-permutation (map told sum.counts) edges (a, b, n) moved
        (contains_told sum.counts a b n (Contains-from_lookup (λ x y e. same_edge x y e) (a, b) n sum.counts
        ((has_entry sum k h a b n).1 c))),
  );
}

-- what was told is all of it, where nothing is left
pub told_whole : (items : List (Corner × Corner × ℤ)) (rest counts : List ((Corner × Corner) × ℤ)) → rest ≡ []
    → items ++ map told rest ≡ map told counts
    → items ≡ map told counts
told_whole items rest counts h e = sym (append-nil items) ∙ ap (λ r. items ++ map told r) (sym h) ∙ e

-- a sum that has no such edge is 0 everywhere
pub all_balanced : (sum : Counts) → AreUnbalanced sum [] → (a b : Corner) → net_at sum.counts a b ≡ pos 0
all_balanced sum h a b = read (is_before a b) (is_before b a) refl refl (in_order a b) (in_order b a)
  where
    in_order : (a b : Corner) → is_before a b ≡ true → number_at sum.counts a b ≡ pos 0
    in_order a b before =
        is_zero (number_at sum.counts a b)
        (λ other. none_in_nil (a, b, number_at sum.counts a b)
        ((h.exactly a b (number_at sum.counts a b)).1 (true_from (is_before a b) before, net_in_order sum.counts a b before, other)))
      where
        is_zero : (n : ℤ) → (n ≢ pos 0 → ⊥) → n ≡ pos 0
        is_zero n not = zero_or n (int_eq n (pos 0)) (Decides-int_eq n (pos 0)) not
          where
            zero_or : (n : ℤ) (t : Bool) → Decides t (n ≡ pos 0) → (n ≢ pos 0 → ⊥) → n ≡ pos 0
            zero_or n true d not = d.0 refl
            zero_or n false d not = absurd (not (λ e. true_is_not_false (d.1 e)))
              where
                true_is_not_false : false ≡ true → ⊥
                true_is_not_false e = cc

    read : (x y : Bool) → is_before a b ≡ x → is_before b a ≡ y → (is_before a b ≡ true → number_at sum.counts a b ≡ pos 0)
        → (is_before b a ≡ true → number_at sum.counts b a ≡ pos 0)
        → (if x then number_at sum.counts a b else (if y then neg_ℤ (number_at sum.counts b a) else pos 0)) ≡ pos 0
    read true y e f first second = first e
    read false true e f first second = ap neg_ℤ (second f)
    read false false e f first second = refl
