-- Which edges two rings share, by their numbers and as paths.
use Rattle.std.proofs.Common.{◌≡◌, ◌≢◌, ⊎_elim, ◌↔◌, refl, sym, ◌∙◌, ap, subst, arith, zero, ℕ}
use Rattle.std.proofs.Common.{suc, ◌+◌, ◌-◌, ◌<◌, ◌≤◌, List, [], ◌∷◌, ◌++◌, length, take, drop}
use Rattle.std.proofs.Common.{Bool, true, false, Some}
use Rattle.std.specs.Prelude.{nat_lt, slice_get}
use Rattle.std.specs.List.{AllByRecursion}
use Rattle.std.proofs.lemmas.Bool.{cases_lt, false≢true}
use Rattle.std.proofs.lemmas.Bool.Decides.{nat_tests}
use Rattle.std.proofs.lemmas.List.{length-append, length-take-le, length-drop}
use Rattle.geo_exact.specs.declared.corner.Corner.{Corner}
use Rattle.geo_exact.specs.Places.{corner_at, after}
use Rattle.geo_exact.specs.Rings.{Edge, path, edges, begun_at}
use Rattle.geo_exact.proofs.rings.EdgeSums.{path-join}
use Rattle.geo_exact.proofs.rings.Begun.{path_count, ring_count}
use Rattle.ring_core.proofs.edges.EdgeNumbers.{ring_joins}
use Rattle.ring_core.proofs.ears.BegunElsewhere.{number_from, is_begun, begun_length}
use Rattle.ring_core.proofs.edges.RoundNumbers.{after_in}
use Rattle.std.proofs.lemmas.Option.{slice_get_within}
use Rattle.ring_edits.specs.Round.{HasEdge}
use Rattle.ring_edits.specs.Edits.{IsSharedAt, IsSharedWith, IsShared, IsSharedRun, ShareOneRun, AreNeighbours, IsBorderFault}
use Rattle.ring_edits.specs.declared.fault.EditFault.TheVariants.{NotNeighbours, SharedTwice}
use Rattle.ring_edits.specs.own.Between.{between}
use Rattle.ring_edits.specs.own.Borders.{IsAlikeUpTo, is_on_run, IsSharedFromTo}
use Rattle.ring_edits.proofs.Rounds.{goes_round, round_of, between_up, between_down}
use Rattle.ring_edits.proofs.Alternations.{IsOneRun, one_has_not, AreThree, has_some, not_one_run}

-- an item of one of two lists, with what holds for the items of each
pub record HasItem (P Q : Edge → Type 0) (first second : List Edge) (t : ℕ) : Type 0 where
  pub item : Edge
  pub is : slice_get (first ++ second) t ≡ Some item
  pub in_first : t < length first → P item
  pub in_second : length first ≤ t → Q item

item_of : (P Q : Edge → Type 0) (first second : List Edge) → AllByRecursion P first → AllByRecursion Q second
    → (t : ℕ) → t < length first + length second → HasItem P Q first second t
item_of P Q [] [] h k t b = absurd (omega arith)
item_of P Q [] (y ∷ ys) h k zero b = record { item = y; is = refl; in_first = λ l. absurd (omega arith); in_second = λ l. k.0 }
item_of P Q [] (y ∷ ys) h k (suc t) b =
    let r = item_of P Q [] ys h k.1 t (omega arith) in
    record { item = r.item; is = r.is; in_first = λ l. absurd (omega arith); in_second = λ l. r.in_second (omega arith) }
item_of P Q (x ∷ xs) ys h k zero b = record { item = x; is = refl; in_first = λ l. h.0; in_second = λ l. absurd (omega arith) }
item_of P Q (x ∷ xs) ys h k (suc t) b =
    let r = item_of P Q xs ys h.1 k t (omega arith) in
    record { item = r.item; is = r.is; in_first = λ l. r.in_first (omega arith); in_second = λ l. r.in_second (omega arith) }

-- and what holds for all items, by their numbers
pub all_of : (P : Edge → Type 0) (xs : List Edge) → ((t : ℕ) (e : Edge) → slice_get xs t ≡ Some e → P e) → AllByRecursion P xs
all_of P [] h = tt
all_of P (x ∷ xs) h = (h 0 x refl, all_of P xs (λ t e i. h (suc t) e i))

pub all_of_both : (P Q : Edge → Type 0) (first second : List Edge)
    → ((t : ℕ) (e : Edge) → slice_get (first ++ second) t ≡ Some e → (t < length first → P e) × (length first ≤ t → Q e))
    → AllByRecursion P first × AllByRecursion Q second
all_of_both P Q [] ys h = (tt, all_of Q ys (λ t e i. (h t e i).1 (omega arith)))
all_of_both P Q (x ∷ xs) ys h =
    let r = all_of_both P Q xs ys (λ t e i. (
      λ l. (h (suc t) e i).0 (omega arith),
      λ l. (h (suc t) e i).1 (omega arith),
    )) in
    (((h 0 x refl).0 (omega arith), r.0), r.1)

-- the edges of a ring that is gone round from u by v
pub edges_round : (u v : Corner) (onward back : List Corner) → edges (u ∷ onward ++ v ∷ back) ≡ path u onward v ++ path v back u
edges_round u v onward back = path-join u v u onward back

-- edge t of the ring begun at a corner, as an edge of the ring
pub edge_there : (ring : List Corner) (s t : ℕ) (e : Edge) → s < length ring → t < length ring
    → slice_get (edges (begun_at s ring)) t ≡ Some e
    → (e.from ≡ corner_at ring (number_from (length ring) s t))
    × (e.to ≡ corner_at ring (after (length ring) (number_from (length ring) s t)))
edge_there ring s t e h b i =
    let begun = is_begun ring s h in
    let j = ring_joins (begun_at s ring) t e i in
    let n : length (begun_at s ring) ≡ length ring = begun_length ring s h in (
      j.0 ∙ begun.same.corners t b,
      j.1 ∙ ap (λ m. corner_at (begun_at s ring) (after m t)) n ∙ begun.same.corners (after (length ring) t)
          (after_in (length ring) t b)
          ∙ ap (corner_at ring) (begun.follows t b),
    )

-- so it is shared where that edge is
shared_there : (a b : List Corner) (s t : ℕ) (e : Edge) → s < length a → t < length a
    → slice_get (edges (begun_at s a)) t ≡ Some e
    → IsSharedWith b e ↔ IsSharedAt a b (number_from (length a) s t)
shared_there a b s t e h k i =
    let r = edge_there a s t e h k i in (
      λ x. subst (λ c. HasEdge b c (corner_at a (number_from (length a) s t))) r.1 (subst (λ c. HasEdge b e.to c) r.0 x),
      λ x. subst (λ c. HasEdge b e.to c) (sym r.0) (subst (λ c. HasEdge b c (corner_at a (number_from (length a) s t))) (sym r.1) x),
    )

-- ---- from paths to numbers
pub one_run : (a b : List Corner) → ShareOneRun a b → IsOneRun (IsSharedAt a b) (length a)
one_run a b h =
    let u = h.0 in let v = h.1 in let onward = h.2.0 in let back = h.2.1 in let x = h.2.2 in
    let n : length a ≡ length onward + length back + 2 =
    sym (begun_length a x.round.start x.round.within) ∙ ap length x.round.round ∙ omega (arith, length-append onward (v ∷ back)) in
    let es : edges (begun_at x.round.start a) ≡ path u onward v ++ path v back u = ap edges x.round.round
    ∙ edges_round u v onward back in
    record {
      s = x.round.start;
      m = length (path u onward v);
      s_below = x.round.within;
      m_some = omega (arith, path_count u v onward);
      m_below = omega (arith, path_count u v onward);
      exactly = λ t k.
          let r = item_of (IsSharedWith b) (λ e. ¬ IsSharedWith b e) (path u onward v) (path v back u) x.shared x.others_not t
          (omega (arith, path_count u v onward, path_count v u back)) in
          let w = shared_there a b x.round.start t r.item x.round.within k (ap (λ xs. slice_get xs t) es ∙ r.is) in (
            λ y. ⊎_elim (λ l. l) (λ l. absurd (r.in_second l (w.1 y))) (cases_lt t (length (path u onward v))),
            λ l. w.0 (r.in_first l),
          );
    }

-- it begins where the path does, and has as many edges
pub run_begins : (a b : List Corner) (h : ShareOneRun a b)
    → ((one_run a b h).s ≡ h.2.2.round.start) × ((one_run a b h).m ≡ length (path h.0 h.2.0 h.1))
unfolding one_run
run_begins a b h = (refl, refl)

-- ---- from numbers to paths
run_length_up : (i j : ℕ) (a : List Corner) → i < j → j < length a → length (between a i j) + i + 1 ≡ j
run_length_up i j a h k = ap (λ xs. length xs + i + 1) (between_up a i j h) ∙ omega (
  arith,
  length-take-le (j - (i + 1)) (drop (i + 1) a)
      (omega (arith, length-drop (i + 1) a)),
)

run_length_down : (i j : ℕ) (a : List Corner) → j < i → i < length a → length (between a i j) + i + 1 ≡ length a + j
run_length_down i j a h k = ap (λ xs. length xs + i + 1) (between_down a i j (omega arith)) ∙ omega (
  arith,
  length-append (drop (i + 1) a) (take j a),
  length-drop (i + 1) a,
  length-take-le j a (omega arith),
)

on_up : (n i j m t : ℕ) → i < j → j < n → m + i ≡ j → t < n → is_on_run i j (number_from n i t) ≡ nat_lt t m
on_up n i j m t a b c d = grind (arith, nat_tests)

on_down : (n i j m t : ℕ) → j < i → i < n → m + i ≡ n + j → t < n → is_on_run i j (number_from n i t) ≡ nat_lt t m
on_down n i j m t a b c d = grind (arith, nat_tests)

on_run_from : (a : List Corner) (i j t : ℕ) → i < length a → j < length a → i ≢ j → t < length a
    → is_on_run i j (number_from (length a) i t) ≡ nat_lt t (length (between a i j) + 1)
on_run_from a i j t h k off b =
    ⊎_elim
    (λ l. on_up (length a) i j (length (between a i j) + 1) t l k (omega (arith, run_length_up i j a l k)) b)
    (λ l. let o : j < i = omega (arith, off) in
    on_down (length a) i j (length (between a i j) + 1) t o h (omega (arith, run_length_down i j a o h)) b)
    (cases_lt i j)

below : (t m : ℕ) → t < m → nat_lt t m ≡ true
below t m h = grind (arith, nat_tests)

not_below : (t m : ℕ) → m ≤ t → nat_lt t m ≡ false
not_below t m h = grind (arith, nat_tests)

pub from_in : (n s t : ℕ) → s < n → t < n → number_from n s t < n
from_in n s t h b = grind (arith, nat_tests)

pub is_shared : (a b : List Corner) (i j : ℕ) → IsSharedFromTo a b i j
    → IsShared a b (corner_at a i) (between a i j) (corner_at a j) (between a j i)
is_shared a b i j h =
    let u = corner_at a i in let v = corner_at a j in
    let es : edges (begun_at i a) ≡ path u (between a i j) v ++ path v (between a j i) u =
    ap edges (round_of a i j h.i_in_ring h.j_in_ring h.apart) ∙ edges_round u v (between a i j) (between a j i) in
    let both = all_of_both (IsSharedWith b) (λ e. ¬ IsSharedWith b e) (path u (between a i j) v) (path v (between a j i) u)
    (λ t e x.
    let y : slice_get (edges (begun_at i a)) t ≡ Some e = ap (λ xs. slice_get xs t) es ∙ x in
    let k : t < length a = omega
    (arith, slice_get_within (edges (begun_at i a)) t e y, ring_count (begun_at i a), begun_length a i h.i_in_ring) in
    let w = shared_there a b i t e h.i_in_ring k y in
    let z = h.exactly (number_from (length a) i t) (from_in (length a) i t h.i_in_ring k) in
    let o = on_run_from a i j t h.i_in_ring h.j_in_ring h.apart k in
    let c = path_count u v (between a i j) in (
      λ l. w.1 (z.1 (o ∙ below t (length (between a i j) + 1) (omega (arith, c)))),
      λ l s. false≢true (sym (o ∙ not_below t (length (between a i j) + 1) (omega (arith, c))) ∙ z.0 (w.0 s)),
    )) in
    record { round = goes_round a i j h.i_in_ring h.j_in_ring h.apart; shared = both.0; others_not = both.1 }

-- ---- what is answered
pub on_its_run : (i j : ℕ) → i ≢ j → is_on_run i j i ≡ true
on_its_run i j h = grind (arith, nat_tests)

pub neighbours_of : (a b : List Corner) (i j : ℕ) → IsSharedFromTo a b i j → AreNeighbours a b
neighbours_of a b i j h = (i, h.i_in_ring, (h.exactly i h.i_in_ring).1 (on_its_run i j h.apart))

pub shared_ends : (a b : List Corner) (i j : ℕ) (u v : Corner) → IsSharedFromTo a b i j → u ≡ corner_at a i → v ≡ corner_at a j
    → IsSharedRun a b u v
shared_ends a b i j u v h e f = (between a i j, between a j i, rw (e, f) (is_shared a b i j h))

pub all_are_shared : (a b : List Corner) → 0 < length a → IsAlikeUpTo (IsSharedAt a b) (length a) 0 true (length a)
    → IsBorderFault a b SharedTwice
all_are_shared a b h k = (
  (0, h, (k.until 0 (omega arith) h).1 refl),
  λ x. one_has_not (IsSharedAt a b) (length a) (one_run a b x) (λ i c. (k.until i (omega arith) c).1 refl),
)

pub none_is_shared : (a b : List Corner) → IsAlikeUpTo (IsSharedAt a b) (length a) 0 false (length a) → IsBorderFault a b NotNeighbours
none_is_shared a b k x = false≢true ((k.until x.0 (omega arith) x.1).0 x.2)

pub not_one : (a b : List Corner) (first : Bool) (p q r : ℕ) → AreThree (IsSharedAt a b) (length a) first p q r → r < length a
    → IsBorderFault a b SharedTwice
not_one a b first p q r h c = (
  has_some (IsSharedAt a b) (length a) first p q r h,
  λ x. not_one_run (IsSharedAt a b) (length a) first p q r h c (one_run a b x),
)
