-- The run of edges that two simple rings share is, walked back, a run of the other.
use Rattle.std.proofs.Common.{◌≡◌, ◌≢◌, ⊎_elim, refl, sym, ◌∙◌, ap, subst, arith, ℕ}
use Rattle.std.proofs.Common.{suc, ◌+◌, ◌-◌, ◌<◌, List, [], ◌∷◌, ◌++◌, length, reverse, Some}
use Rattle.std.specs.Prelude.{slice_get}
use Rattle.std.specs.List.{AllByRecursion, Contains}
use Rattle.std.proofs.lemmas.Option.{slice_get_within}
use Rattle.std.proofs.lemmas.Bool.Decides.{nat_tests}
use Rattle.std.proofs.lemmas.List.{get_or_default, get_or_append_left, get_or-append_right, length-append, reverse-append}
use Rattle.std.proofs.lemmas.List.Sorted.{Contains-permutation, IsPermutation-reverse, IsPermutation-sym}
use Rattle.geo_exact.specs.declared.corner.Corner.{Corner}
use Rattle.geo_exact.specs.Places.{corner_at, origin, after}
use Rattle.geo_exact.specs.Rings.{Edge, path, edges, begun_at}
use Rattle.geo_exact.proofs.rings.EdgeSums.{turned_edge, path-join}
use Rattle.geo_exact.proofs.rings.Begun.{ring_count}
use Rattle.ring_core.specs.Simple.{IsSimpleRing}
use Rattle.ring_core.proofs.ears.LeftSimple.{same_or, after_same}
use Rattle.ring_core.proofs.ears.LeastCorners.{AreApart}
use Rattle.ring_core.proofs.edges.RoundNumbers.{after_in}
use Rattle.ring_core.proofs.ears.BegunElsewhere.{number_from, is_begun, begun_length}
use Rattle.ring_edits.specs.Round.{GoesRound, HasEdge}
use Rattle.ring_edits.specs.Edits.{IsSharedWith, IsShared}
use Rattle.ring_edits.proofs.Apart.{simple_apart}
use Rattle.ring_edits.proofs.Borders.{all_of_both, edge_there, edges_round, from_in}

-- ---- a simple ring has one edge to each corner
pub same_number : (ring : List Corner) → AreApart ring → (i j : ℕ) → i < length ring → j < length ring
    → corner_at ring i ≡ corner_at ring j → i ≡ j
same_number ring h i j k l e = ⊎_elim (λ s. s) (λ off. absurd (h i j k l off e)) (same_or i j)

pub one_before : (ring : List Corner) → AreApart ring → (u v w : Corner) → HasEdge ring u w → HasEdge ring v w → u ≡ v
one_before ring h u v w x y =
    let n = length ring in
    let e : after n x.0 ≡ after n y.0 = same_number ring h (after n x.0) (after n y.0) (after_in n x.0 x.1.in_ring)
    (after_in n y.0 y.1.in_ring)
    (x.1.to ∙ sym y.1.to) in
    let f : y.0 ≡ x.0 = after_same n x.0 y.0 y.1.in_ring x.1.in_ring (sym e) in
    sym x.1.from ∙ sym (ap (corner_at ring) f) ∙ y.1.from

-- ---- a corner at which two runs meet is on neither
pub split_apart : (v : Corner) (front back : List Corner) → AreApart (front ++ v ∷ back) → (Contains front v → ⊥)
    × (Contains back v → ⊥)
split_apart v front back h =
    let whole = front ++ v ∷ back in
    let n : length whole ≡ length front + (length back + 1) = length-append front (v ∷ back) ∙ omega arith in
    let middle : corner_at whole (length front) ≡ v =
    get_or-append_right front (v ∷ back) (length front) (length front) origin refl (omega arith)
    ∙ ap (corner_at (v ∷ back)) (itself (length front)) in (
      λ c. h c.0 (length front) (omega (arith, n, c.1)) (omega (arith, n)) (λ e. omega (arith, c.1))
          (get_or_append_left front (v ∷ back) origin c.0 c.1 ∙ get_or_default front c.0 origin v c.1 ∙ c.2 ∙ sym middle),
      λ c. h (length front) (length front + 1 + c.0) (omega (arith, n)) (omega (arith, n, c.1)) (λ e. omega arith)
          (middle ∙ sym (get_or-append_right front (v ∷ back) (length front) (length front + 1 + c.0) origin refl (omega arith)
          ∙ ap (corner_at (v ∷ back)) (next_to (length front) c.0) ∙ get_or_default back c.0 origin v c.1 ∙ c.2)),
    )
  where
    itself : (m : ℕ) → m - m ≡ 0
    itself m = omega arith

    next_to : (m k : ℕ) → m + 1 + k - m ≡ suc k
    next_to m k = omega arith

number_apart : (n k i j : ℕ) → k < n → i < n → j < n → i ≢ j → number_from n k i ≢ number_from n k j
number_apart n k i j h b c off e = grind (arith, nat_tests)

pub begun_apart : (ring : List Corner) (k : ℕ) → k < length ring → AreApart ring → AreApart (begun_at k ring)
begun_apart ring k h apart i j bi bj off e =
    let n = begun_length ring k h in
    let ci : i < length ring = omega (arith, n, bi) in
    let cj : j < length ring = omega (arith, n, bj) in
    let begun = is_begun ring k h in
    apart (number_from (length ring) k i) (number_from (length ring) k j) (from_in (length ring) k i h ci) (from_in (length ring) k j h cj)
    (number_apart (length ring) k i j h ci cj off)
    (sym (begun.same.corners i ci) ∙ e ∙ begun.same.corners j cj)

runs_apart : (ring : List Corner) (u v : Corner) (onward back : List Corner) → IsSimpleRing ring → GoesRound ring u onward v back
    → (Contains onward v → ⊥) × (Contains back v → ⊥)
runs_apart ring u v onward back simple h =
    let r = split_apart v (u ∷ onward) back (subst AreApart h.round (begun_apart ring h.start h.within (simple_apart ring simple))) in
    (λ c. r.0 (there u onward v c), r.1)
  where
    there : (u : Corner) (xs : List Corner) (v : Corner) → Contains xs v → Contains (u ∷ xs) v
    there u xs v c = (suc c.0, omega (arith, c.1), c.2)

-- ---- the edges of a run are the ring's
edges_of_runs : (ring : List Corner) (u v : Corner) (onward back : List Corner) → GoesRound ring u onward v back
    → AllByRecursion (λ e. HasEdge ring e.from e.to) (path u onward v) × AllByRecursion (λ e. HasEdge ring e.from e.to) (path v back u)
edges_of_runs ring u v onward back h =
    let n = length ring in
    let es : edges (begun_at h.start ring) ≡ path u onward v ++ path v back u = ap edges h.round ∙ edges_round u v onward back in
    all_of_both (λ e. HasEdge ring e.from e.to) (λ e. HasEdge ring e.from e.to) (path u onward v) (path v back u)
    (λ t e x.
    let y : slice_get (edges (begun_at h.start ring)) t ≡ Some e = ap (λ xs. slice_get xs t) es ∙ x in
    let b : t < n = omega (
      arith,
      slice_get_within (edges (begun_at h.start ring)) t e y,
      ring_count (begun_at h.start ring),
      begun_length ring h.start h.within,
    ) in
    let r = edge_there ring h.start t e h.within b y in
    let has : HasEdge ring e.from e.to =
    (number_from n h.start t, record { in_ring = from_in n h.start t h.within b; from = sym r.0; to = sym r.1 }) in
    (λ _. has, λ _. has))

all_append : (P : Edge → Type 0) (xs ys : List Edge) → AllByRecursion P xs → AllByRecursion P ys → AllByRecursion P (xs ++ ys)
all_append P [] ys h k = k
all_append P (x ∷ xs) ys h k = (h.0, all_append P xs ys h.1 k)

-- and walked back they are shared
all_back : (P : Edge → Type 0) (from to : Corner) (xs : List Corner) → AllByRecursion P (path from xs to)
    → AllByRecursion (λ e. P (turned_edge e)) (path to (reverse xs) from)
all_back P from to [] h = h
all_back P from to (x ∷ xs) h =
    subst (λ ys. AllByRecursion (λ e. P (turned_edge e)) (path to ys from)) (sym (reverse-append (x ∷ []) xs))
    (subst (AllByRecursion (λ e. P (turned_edge e))) (sym (path-join to x from (reverse xs) []))
    (all_append (λ e. P (turned_edge e)) (path to (reverse xs) x) (path x [] from) (all_back P x to xs h.1) (h.0, tt)))

-- two walks from one corner to another, both along edges that the ring has the other way, are the same
same_walk : (ring : List Corner) → AreApart ring → (u v : Corner) (xs ys : List Corner)
    → AllByRecursion (IsSharedWith ring) (path u xs v) → AllByRecursion (IsSharedWith ring) (path u ys v)
    → (Contains xs v → ⊥) → (Contains ys v → ⊥) → xs ≡ ys
same_walk ring h u v [] [] k l x y = refl
same_walk ring h u v [] (b ∷ ys) k l x y = absurd (y (0, omega arith, one_before ring h b v u l.0 k.0))
same_walk ring h u v (a ∷ xs) [] k l x y = absurd (x (0, omega arith, one_before ring h a v u k.0 l.0))
same_walk ring h u v (a ∷ xs) (b ∷ ys) k l x y =
    let e : a ≡ b = one_before ring h a b u k.0 l.0 in
    let f : xs ≡ ys = same_walk ring h a v xs ys k.1 (subst (λ c. AllByRecursion (IsSharedWith ring) (path c ys v)) (sym e) l.1)
    (λ c. x (suc c.0, omega (arith, c.1), c.2)) (λ c. y (suc c.0, omega (arith, c.1), c.2)) in
    ap (λ c. c ∷ xs) e ∙ ap (λ zs. b ∷ zs) f

pub shared_back : (a b : List Corner) (u v : Corner) (run of_a of_b back : List Corner) → IsSimpleRing a → IsSimpleRing b
    → IsShared a b u run v of_a → GoesRound b u of_b v back → run ≡ reverse back
shared_back a b u v run of_a of_b back simple_a simple_b h k =
    same_walk b (simple_apart b simple_b) u v run (reverse back) h.shared
    (all_back (λ e. HasEdge b e.from e.to) v u back (edges_of_runs b u v of_b back k).1)
    (runs_apart a u v run of_a simple_a h.round).0
    (λ c. (runs_apart b u v of_b back simple_b k).1
    (Contains-permutation (reverse back) back v (IsPermutation-sym back (reverse back) (IsPermutation-reverse back)) c))
