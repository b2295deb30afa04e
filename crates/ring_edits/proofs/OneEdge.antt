-- A ring whose corners are apart has an edge between two corners once, and in one direction; so one corner is put into it.
use Rattle.std.proofs.Common.{◌≡◌, ◌≢◌, ⊎_elim, refl, sym, ◌∙◌, ap, subst, arith, Bool, true, false, ◌&&◌, ◌||◌}
use Rattle.std.proofs.Common.{if◌then◌else◌, ℕ, suc, ◌+◌, ◌<◌, ◌≤◌, List, [], ◌∷◌, ◌++◌, length, take, drop}
use Rattle.std.proofs.Common.{Some}
use Rattle.std.specs.List.{Contains, list_any}
use Rattle.std.specs.Prelude.{slice_get}
use Rattle.std.proofs.lemmas.Bool.{cases_lt, false≢true}
use Rattle.std.proofs.lemmas.Bool.Decides.{nat_tests}
use Rattle.std.proofs.lemmas.List.{length-append, length-take-le, length-drop, take-append-drop}
use Rattle.std.proofs.lemmas.Option.{slice_get_within}
use Rattle.geo_exact.specs.declared.corner.Corner.{Corner}
use Rattle.geo_exact.specs.Order.{is_same}
use Rattle.geo_exact.specs.Places.{corner_at, after}
use Rattle.geo_exact.specs.Rings.{Edge, path, edges, begun_at}
use Rattle.geo_exact.proofs.rings.Begun.{edges_begun, ring_count}
use Rattle.geo_exact.proofs.corners_and_turns.CornerOrder.{is_same_itself, same_from_test}
use Rattle.geo_exact.proofs.rings.EdgeSums.{edge_of}
use Rattle.edge_chains.specs.Net.{runs_from_to, edge_count}
use Rattle.edge_chains.proofs.nets.Balance.{find_edge}
use Rattle.edge_chains.proofs.nets.Nets.{edge_count-append}
use Rattle.ring_core.proofs.ears.BegunElsewhere.{number_from, is_begun, begun_length}
use Rattle.ring_core.proofs.edges.EdgeNumbers.{ring_joins}
use Rattle.ring_core.proofs.ears.LeastCorners.{AreApart}
use Rattle.ring_edits.specs.Edits.{joins, has_edge_between, put_along, put_between}
use Rattle.ring_edits.specs.Round.{HasEdge, HasEdgeAt, HasApartCorners}
use Rattle.ring_edits.proofs.Rounds.{from_corner}
use Rattle.ring_edits.proofs.SameRuns.{begun_apart, split_apart}

-- ---- a ring begun at an edge of it
record BeginsWith (ring : List Corner) (k : ℕ) (u v : Corner) : Type 0 where
  pub others : List Corner
  pub is : drop (k + 1) ring ++ take k ring ≡ v ∷ others

next_number : (n k : ℕ) → k < n → 1 < n → number_from n k 1 ≡ after n k
next_number n k h l = grind (arith, nat_tests)

alone : (n k : ℕ) → k < n → n ≤ 1 → after n k ≡ k
alone n k h l = grind (arith, nat_tests)

begun_there : (ring : List Corner) (k : ℕ) → k < length ring → begun_at k ring ≡ corner_at ring k ∷ drop (k + 1) ring
    ++ take k ring
begun_there ring k h = ap (λ xs. xs ++ take k ring) (from_corner ring k h)

others_length : (ring : List Corner) (k : ℕ) → k < length ring → length (drop (k + 1) ring ++ take k ring) + 1 ≡ length ring
others_length ring k h =
    omega (arith, length-append (drop (k + 1) ring) (take k ring), length-drop (k + 1) ring, length-take-le k ring (omega arith))

head_is : (xs : List Corner) (v : Corner) → 0 < length xs → corner_at xs 0 ≡ v → (rest : List Corner) × (xs ≡ v ∷ rest)
head_is [] v h e = absurd (omega arith)
head_is (x ∷ xs) v h e = (xs, ap (λ c. c ∷ xs) e)

begins_with : (ring : List Corner) (k : ℕ) (u v : Corner) → u ≢ v → HasEdgeAt ring u v k → BeginsWith ring k u v
begins_with ring k u v off h =
    let n = length ring in
    let big : 1 < n = ⊎_elim (λ l. l)
    (λ l. absurd (off (sym h.from ∙ sym (ap (corner_at ring) (alone n k h.in_ring l)) ∙ h.to))) (cases_lt 1 n) in
    let second : corner_at (begun_at k ring) 1 ≡ v =
    (is_begun ring k h.in_ring).same.corners 1 big ∙ ap (corner_at ring) (next_number n k h.in_ring big) ∙ h.to in
    let w = head_is (drop (k + 1) ring ++ take k ring) v (omega (arith, others_length ring k h.in_ring))
    (ap (λ xs. corner_at xs 1) (sym (begun_there ring k h.in_ring)) ∙ second) in
    record { others = w.0; is = w.1 }

-- ---- edges that are not there are not counted
other_edge : (u v a b : Corner) → (a ≡ u → b ≡ v → ⊥) → runs_from_to u v (edge_of a b) ≡ false
other_edge u v a b h = both (is_same a u) (is_same b v) (λ e f. h (same_from_test a u e) (same_from_test b v f))
  where
    both : (p q : Bool) → (p ≡ true → q ≡ true → ⊥) → (p && q) ≡ false
    both true true h = absurd (h refl refl)
    both true false h = refl
    both false q h = refl

not_counted : (e : Edge) (es : List Edge) (u v : Corner) → runs_from_to u v e ≡ false → edge_count es u v ≡ 0
    → edge_count (e ∷ es) u v ≡ 0
not_counted e es u v h k = counted (runs_from_to u v e) (edge_count es u v) h k
  where
    counted : (b : Bool) (n : ℕ) → b ≡ false → n ≡ 0 → (if b then 1 else 0) + n ≡ 0
    counted true n x y = absurd (false≢true (sym x))
    counted false n x y = omega arith

none_from : (from to : Corner) (xs : List Corner) (u v : Corner) → from ≢ u → (Contains xs u → ⊥)
    → edge_count (path from xs to) u v ≡ 0
none_from from to [] u v h k = not_counted (edge_of from to) [] u v (other_edge u v from to (λ e f. h e)) refl
none_from from to (x ∷ xs) u v h k =
    not_counted (edge_of from x) (path x xs to) u v (other_edge u v from x (λ e f. h e))
    (none_from x to xs u v (λ e. k (0, omega arith, e)) (λ c. k (suc c.0, omega (arith, c.1), c.2)))

-- ---- an edge of a ring is counted once
itself_counted : (u v : Corner) (es : List Edge) → edge_count (edge_of u v ∷ es) u v ≡ 1 + edge_count es u v
itself_counted u v es = once (is_same u u) (is_same v v) (is_same_itself u) (is_same_itself v)
  where
    once : (p q : Bool) → p ≡ true → q ≡ true → (if p && q then 1 else 0) + edge_count es u v ≡ 1 + edge_count es u v
    once true true x y = refl
    once true false x y = absurd (false≢true y)
    once false q x y = absurd (false≢true x)

-- the edges behind that from u to v: none goes between them
rest_none : (u v : Corner) (others : List Corner) → u ≢ v → (Contains (v ∷ others) u → ⊥) → (Contains others v → ⊥)
    → 0 < length others
    → (edge_count (path v others u) u v ≡ 0) × (edge_count (path v others u) v u ≡ 0)
rest_none u v [] h k l b = absurd (omega arith)
rest_none u v (o ∷ others) h k l b = (
  none_from v u (o ∷ others) u v (λ e. h (sym e)) (λ c. k (suc c.0, omega (arith, c.1), c.2)),
  not_counted (edge_of v o) (path o others u) v u (other_edge v u v o (λ e f. k (1, omega arith, f)))
      (none_from o u others v u (λ e. l (0, omega arith, e)) (λ c. l (suc c.0, omega (arith, c.1), c.2))),
)

count_begun : (k : ℕ) (ring : List Corner) (u v : Corner) → k ≤ length ring
    → edge_count (edges (begun_at k ring)) u v ≡ edge_count (edges ring) u v
count_begun k ring u v h =
    let es = edges ring in
    ap (λ xs. edge_count xs u v) (edges_begun k ring h)
    ∙ omega (
      arith,
      edge_count-append (drop k es) (take k es) u v,
      edge_count-append (take k es) (drop k es) u v,
      ap (λ xs. edge_count xs u v) (take-append-drop k es),
    )

edge_once : (ring : List Corner) (u v : Corner) → HasApartCorners ring → HasEdge ring u v → u ≢ v
    → (edge_count (edges ring) u v ≡ 1) × (edge_count (edges ring) v u ≡ 0)
edge_once ring u v h e off =
    let k = e.0 in
    let w = begins_with ring k u v off e.1 in
    let is : begun_at k ring ≡ u ∷ v ∷ w.others =
    begun_there ring k e.1.in_ring ∙ ap (λ xs. corner_at ring k ∷ xs) w.is ∙ ap (λ x. x ∷ v ∷ w.others) e.1.from in
    let apart : AreApart (u ∷ v ∷ w.others) = subst AreApart is (begun_apart ring k e.1.in_ring h.apart) in
    let n : length (u ∷ v ∷ w.others) ≡ length ring = sym (ap length is) ∙ begun_length ring k e.1.in_ring in
    let rest = rest_none u v w.others off (split_apart u [] (v ∷ w.others) apart).1 (split_apart v (u ∷ []) w.others apart).1
    (omega (arith, n, h.three)) in
    let low : k ≤ length ring = omega (arith, e.1.in_ring) in (
      sym (count_begun k ring u v low) ∙ ap (λ xs. edge_count (edges xs) u v) is ∙ itself_counted u v (path v w.others u)
          ∙ ap (λ m. 1 + m) rest.0,
      sym (count_begun k ring v u low) ∙ ap (λ xs. edge_count (edges xs) v u) is
          ∙ not_counted (edge_of u v) (path v w.others u) v u (other_edge v u u v (λ x y. off x)) rest.1,
    )

-- ---- from counts to edges, and to corners that are put in
counted_edge : (ring : List Corner) (u v : Corner) → 0 < edge_count (edges ring) u v → HasEdge ring u v
counted_edge ring u v l =
    let w = find_edge (edges ring) u v l in
    let here : slice_get (edges ring) (length w.front) ≡ Some (edge_of u v) = ap (λ es. slice_get es (length w.front)) w.is
    ∙ seam w.front w.back (edge_of u v) in
    let j = ring_joins ring (length w.front) (edge_of u v) here in (
      length w.front,
      record {
        in_ring = omega (arith, slice_get_within (edges ring) (length w.front) (edge_of u v) here, ring_count ring);
        from = sym j.0;
        to = sym j.1;
      },
    )
  where
    seam : (xs ys : List Edge) (e : Edge) → slice_get (xs ++ e ∷ ys) (length xs) ≡ Some e
    seam [] ys e = refl
    seam (x ∷ xs) ys e = seam xs ys e

joined_counted : (u v : Corner) (es : List Edge) → list_any (joins u v) es ≡ true → 0 < edge_count es u v + edge_count es v u
joined_counted u v [] h = absurd (false≢true h)
joined_counted u v (e ∷ es) h =
    counted (runs_from_to u v e) (runs_from_to v u e) (list_any (joins u v) es) (edge_count es u v) (edge_count es v u) h
    (joined_counted u v es)
  where
    counted : (p q r : Bool) (m n : ℕ) → ((p || q) || r) ≡ true → (r ≡ true → 0 < m + n)
        → 0 < ((if p then 1 else 0) + m) + ((if q then 1 else 0) + n)
    counted true q r m n h k = omega arith
    counted false true r m n h k = omega arith
    counted false false r m n h k = omega (arith, k h)

has_edge_once : (ring : List Corner) (u v : Corner) → HasApartCorners ring → u ≢ v → has_edge_between u v ring ≡ true
    → edge_count (edges ring) u v + edge_count (edges ring) v u ≡ 1
has_edge_once ring u v h off e = ⊎_elim
    (λ l. let w = edge_once ring u v h (counted_edge ring u v l) off in omega (arith, w.0, w.1))
    (λ l. let w = edge_once ring v u h (counted_edge ring v u (omega (arith, l, joined_counted u v (edges ring) e))) (λ f. off (sym f)) in
    omega (arith, w.0, w.1))
    (cases_lt 0 (edge_count (edges ring) u v))

-- how long what is put along edges is
along_length : (u v at : Corner) (es : List Edge) → u ≢ v
    → length (put_along u v at es) ≡ length es + (edge_count es u v + edge_count es v u)
along_length u v at [] off = refl
along_length u v at (e ∷ es) off =
    longer (runs_from_to u v e) (runs_from_to v u e) (put_along u v at es) (length es) (edge_count es u v) (edge_count es v u)
    (both (is_same e.from u) (is_same e.to v) (is_same e.from v) (is_same e.to u)
    (λ x y. off (sym (same_from_test e.from u x) ∙ same_from_test e.from v y)))
    (along_length u v at es off)
  where
    both : (p q r s : Bool) → (p ≡ true → r ≡ true → ⊥) → ((p && q) && (r && s)) ≡ false
    both true true true s h = absurd (h refl refl)
    both true true false s h = refl
    both true false r s h = refl
    both false q r s h = refl

    longer : (p q : Bool) (xs : List Corner) (k m n : ℕ) → (p && q) ≡ false → length xs ≡ k + (m + n)
        → suc (length (if (p || q) then at ∷ xs else xs)) ≡ suc k + (((if p then 1 else 0) + m) + ((if q then 1 else 0) + n))
    longer true true xs k m n h l = absurd (false≢true (sym h))
    longer true false xs k m n h l = omega (arith, l)
    longer false true xs k m n h l = omega (arith, l)
    longer false false xs k m n h l = omega (arith, l)

pub put_length : (ring : List Corner) (u v at : Corner) → HasApartCorners ring → u ≢ v → has_edge_between u v ring ≡ true
    → length (put_between u v at ring) ≡ length ring + 1
put_length ring u v at h off e = omega (arith, along_length u v at (edges ring) off, ring_count ring, has_edge_once ring u v h off e)

along_not_shorter : (u v at : Corner) (es : List Edge) → length es ≤ length (put_along u v at es)
along_not_shorter u v at [] = omega arith
along_not_shorter u v at (e ∷ es) = either (joins u v e) (put_along u v at es) (along_not_shorter u v at es)
  where
    either : (b : Bool) (xs : List Corner) → length es ≤ length xs → suc (length es) ≤ suc (length (if b then at ∷ xs else xs))
    either true xs h = omega arith
    either false xs h = omega arith

pub put_not_shorter : (ring : List Corner) (u v at : Corner) → length ring ≤ length (put_between u v at ring)
put_not_shorter ring u v at = omega (arith, along_not_shorter u v at (edges ring), ring_count ring)
