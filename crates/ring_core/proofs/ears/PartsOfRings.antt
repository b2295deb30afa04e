-- Rings made of a ring's corners, with at most one edge that is not the ring's: the two parts on the sides of a diagonal.
use Rattle.std.proofs.Common.{◌≡◌, ◌≢◌, inl, inr, ⊎_elim, ℕ, zero, suc, ◌+◌, ◌-◌, ◌<◌, ◌∙◌, sym, ap}
use Rattle.std.proofs.Common.{subst, refl, arith}
use Rattle.std.proofs.Common.{List, ◌∷◌, length, take, drop}
use Rattle.std.proofs.lemmas.Bool.{cases_lt}
use Rattle.std.proofs.lemmas.Bool.Decides.{nat_tests}
use Rattle.geo_exact.specs.declared.corner.Corner.{Corner}
use Rattle.geo_exact.specs.Point.{Point, IsPlaceOf}
use Rattle.geo_exact.specs.Turn.{IsOnEdge}
use Rattle.geo_exact.specs.Places.{corner_at, after}
use Rattle.ring_core.specs.Simple.{IsOnEdgeAt, IsSharedCorner, MeetOnlyAsNeighbours}
use Rattle.std.proofs.lemmas.List.{get_or-take, get_or-drop, length-take-le, length-drop}
use Rattle.geo_exact.specs.Places.{origin}
use Rattle.geo_exact.proofs.corners_and_turns.OnEdge.{on_edge_back}
use Rattle.geo_exact.proofs.corners_and_turns.Means.{segment_of_edge, edge_of_segment, place_on_segment}
use Rattle.ring_core.specs.Diagonals.{IsDiagonal}
use Rattle.ring_core.proofs.edges.RoundNumbers.{after_in}
use Rattle.ring_core.proofs.ears.LeftSimple.{same_or, apart_meet}

-- corner i of the part is corner `number i` of the ring, and so are the edges, but for edge g
pub record IsPart (part ring : List Corner) (number : ℕ → ℕ) (g : ℕ) : Type 0 where
  pub inside : (i : ℕ) → i < length part → number i < length ring
  pub corners : (i : ℕ) → i < length part → corner_at part i ≡ corner_at ring (number i)
  pub apart : (i j : ℕ) → i < length part → j < length part → number i ≡ number j → i ≡ j
  pub follows : (i : ℕ) → i < length part → i ≢ g → number (after (length part) i) ≡ after (length ring) (number i)

module _ (part ring : List Corner) (number : ℕ → ℕ) (g : ℕ) (h : IsPart part ring number g) where
  -- an edge that is the ring's
  pub ring_edge : (q : Point) (i : ℕ) → i < length part → i ≢ g → IsOnEdgeAt q part i → IsOnEdgeAt q ring (number i)
  ring_edge q i b off on =
      subst (λ z. IsOnEdge q (corner_at ring (number i)) (corner_at ring z)) (h.follows i b off)
      (subst (λ z. IsOnEdge q (corner_at ring (number i)) z) (h.corners (after (length part) i) (after_in (length part) i b))
      (subst (λ z. IsOnEdge q z (corner_at part (after (length part) i))) (h.corners i b) on))

module _ (part ring : List Corner) (number : ℕ → ℕ) (g : ℕ) (h : IsPart part ring number g) (simple : MeetOnlyAsNeighbours ring)
    (free : (f : ℕ) → f < length part → f ≢ g → g < length part → (q : Point) → IsOnEdgeAt q part g
    → IsOnEdgeAt q ring (number f)
    → ¬ IsSharedCorner q part g f → ⊥) where
  back_back : (q : Point) (i j : ℕ) → IsSharedCorner q part i j → IsSharedCorner q part j i
  back_back q i j (inl s) = inr s
  back_back q i j (inr s) = inl s

  shared_in_part : (q : Point) (i j : ℕ) → i < length part → j < length part → i ≢ g → j ≢ g
      → IsSharedCorner q ring (number i) (number j) → IsSharedCorner q part i j
  shared_in_part q i j bi bj off_i off_j (inl s) =
      inl (
        h.apart j (after (length part) i) bj (after_in (length part) i bi) (s.0 ∙ sym (h.follows i bi off_i)),
        subst (IsPlaceOf q) (sym (h.corners j bj)) s.1,
      )
  shared_in_part q i j bi bj off_i off_j (inr s) =
      inr (
        h.apart i (after (length part) j) bi (after_in (length part) j bj) (s.0 ∙ sym (h.follows j bj off_j)),
        subst (IsPlaceOf q) (sym (h.corners i bi)) s.1,
      )

  pub part_simple : MeetOnlyAsNeighbours part
  part_simple i j o b m =
      ⊎_elim
      (λ e. free j b (λ f. absurd (let s : i ≡ j = e ∙ sym f in omega arith)) (subst (λ z. z < length part) e (omega arith)) m.0
      (subst (λ z. IsOnEdgeAt m.0 part z) e m.1)
      (ring_edge part ring number g h m.0 j b (λ f. absurd (let s : i ≡ j = e ∙ sym f in omega arith)) m.2)
      (λ s. m.3 (subst (λ z. IsSharedCorner m.0 part z j) (sym e) s)))
      (λ off_i. ⊎_elim
      (λ e. free i (omega arith) off_i (subst (λ z. z < length part) e b) m.0 (subst (λ z. IsOnEdgeAt m.0 part z) e m.2)
      (ring_edge part ring number g h m.0 i (omega arith) off_i m.1)
      (λ s. m.3 (back_back m.0 j i (subst (λ z. IsSharedCorner m.0 part z i) (sym e) s))))
      (λ off_j. apart_meet ring simple (number i) (number j) (h.inside i (omega arith)) (h.inside j b)
      (λ e. absurd (let s : i ≡ j = h.apart i j (omega arith) b e in omega arith)) m.0
      (ring_edge part ring number g h m.0 i (omega arith) off_i m.1) (ring_edge part ring number g h m.0 j b off_j m.2)
      (λ s. m.3 (shared_in_part m.0 i j (omega arith) b off_i off_j s)))
      (same_or j g))
      (same_or i g)

-- ---- the place of an end is on the edge
pub on_place_start : (u w : Corner) (q : Point) → IsPlaceOf q u → IsOnEdge q u w
on_place_start u w q h = edge_of_segment u w q (place_on_segment u w q h.same_x h.same_y)

pub on_place_end : (u w : Corner) (q : Point) → IsPlaceOf q w → IsOnEdge q u w
on_place_end u w q h = on_edge_back w u q (on_place_start w u q h)

-- ---- the part from corner 0 to corner z, beside the diagonal between the two
first_follows : (n m z i : ℕ) → m ≡ z + 1 → z < n → i < m → i ≢ z → after m i ≡ after n i
first_follows n m z i e h k off = grind (arith, nat_tests)

pub closes : (m z : ℕ) → m ≡ z + 1 → after m z ≡ 0
closes m z e = grind (arith, nat_tests)

before_z : (n m z f : ℕ) → m ≡ z + 1 → z < n → f < m → f ≢ z → z ≡ after n f → z ≡ after m f
before_z n m z f e h k off i = grind (arith, nat_tests)

not_behind_z : (n m z f : ℕ) → m ≡ z + 1 → z + 1 < n → f < m → f ≢ z → f ≡ after n z → ⊥
not_behind_z n m z f e h k off i = grind (arith, nat_tests)

from_last : (n f : ℕ) → 1 < n → f ≡ after n (n - 1) → f ≡ 0
from_last n f h e = grind (arith, nat_tests)

pub not_to_last : (n m z f : ℕ) → m ≡ z + 1 → z + 1 < n → f < m → f ≢ z → n - 1 ≡ after n f → ⊥
not_to_last n m z f e h k off i = grind (arith, nat_tests)

pub last_follows : (n : ℕ) → 1 < n → after n (n - 1) ≡ 0
last_follows n h = grind (arith, nat_tests)

module _ (ring : List Corner) (z : ℕ) (within : z + 1 < length ring) (simple : MeetOnlyAsNeighbours ring)
    (diagonal : IsDiagonal ring 0 z) where
  pub first_length : length (take (z + 1) ring) ≡ z + 1
  first_length = length-take-le (z + 1) ring (omega arith)

  pub first_corner : (i : ℕ) → i < length (take (z + 1) ring) → corner_at (take (z + 1) ring) i ≡ corner_at ring i
  first_corner i b = get_or-take (z + 1) ring i origin (omega (arith, first_length))

  pub first_is_part : IsPart (take (z + 1) ring) ring (λ i. i) z
  first_is_part = record {
    inside = λ i b. omega (arith, first_length);
    corners = first_corner;
    apart = λ i j b k e. e;
    follows = λ i b off. first_follows (length ring) (length (take (z + 1) ring)) z i first_length (omega arith) b off;
  }

  -- the diagonal, as the edge that closes the part
  across : (q : Point) → IsOnEdgeAt q (take (z + 1) ring) z → IsOnEdge q (corner_at ring z) (corner_at ring 0)
  across q on =
      subst (λ c. IsOnEdge q c (corner_at ring 0)) (first_corner z (omega (arith, first_length)))
      (subst (λ c. IsOnEdge q (corner_at (take (z + 1) ring) z) c) (first_corner 0 (omega (arith, first_length)))
      (subst (λ k. IsOnEdge q (corner_at (take (z + 1) ring) z) (corner_at (take (z + 1) ring) k))
      (closes (length (take (z + 1) ring)) z first_length) on))

  -- an edge of the part that starts or ends where the diagonal does
  at_start_corner : (f : ℕ) → f < length (take (z + 1) ring) → f ≢ z → (q : Point) → IsOnEdgeAt q ring f
      → IsPlaceOf q (corner_at ring 0)
      → ¬ IsSharedCorner q (take (z + 1) ring) z f → ⊥
  at_start_corner f b off q on at not =
      apart_meet ring simple f (length ring - 1) (omega (arith, first_length)) (omega arith) (λ e. omega (arith, first_length)) q on
      (subst (λ k. IsOnEdge q (corner_at ring (length ring - 1)) (corner_at ring k)) (sym (last_follows (length ring) (omega arith)))
      (on_place_end (corner_at ring (length ring - 1)) (corner_at ring 0) q at))
      (λ s. ⊎_elim
      (λ e. not_to_last (length ring) (length (take (z + 1) ring)) z f first_length within b off e.0)
      (λ e. not (inl (
        from_last (length ring) f (omega arith) e.0 ∙ sym (closes (length (take (z + 1) ring)) z first_length),
        subst (IsPlaceOf q) (ap (corner_at ring) (sym (from_last (length ring) f (omega arith) e.0)) ∙ sym (first_corner f b)) at,
      ))) s)

  at_end_corner : (f : ℕ) → f < length (take (z + 1) ring) → f ≢ z → (q : Point) → IsOnEdgeAt q ring f
      → IsPlaceOf q (corner_at ring z)
      → ¬ IsSharedCorner q (take (z + 1) ring) z f → ⊥
  at_end_corner f b off q on at not =
      apart_meet ring simple f z (omega (arith, first_length)) (omega arith) off q on
      (on_place_start (corner_at ring z) (corner_at ring (after (length ring) z)) q at)
      (λ s. ⊎_elim
      (λ e. not (inr (
        before_z (length ring) (length (take (z + 1) ring)) z f first_length (omega arith) b off e.0,
        subst (IsPlaceOf q) (sym (first_corner z (omega (arith, first_length)))) at,
      )))
      (λ e. not_behind_z (length ring) (length (take (z + 1) ring)) z f first_length within b off e.0) s)

  -- the edges of the part meet only as neighbours
  first_simple : MeetOnlyAsNeighbours (take (z + 1) ring)
  first_simple =
      part_simple (take (z + 1) ring) ring (λ i. i) z first_is_part simple
      (λ f b off c q on old not. ⊎_elim
      (λ at. at_start_corner f b off q old at not)
      (λ at. at_end_corner f b off q old at not)
      (diagonal f q (omega (arith, first_length)) old
      (segment_of_edge (corner_at ring 0) (corner_at ring z) q (on_edge_back (corner_at ring z) (corner_at ring 0) q (across q on)))))

-- ---- the part from corner z on round to corner 0
pub second_number : ℕ → ℕ → ℕ
second_number z zero = 0
second_number z (suc i) = z + i

pub number_of_first : (z : ℕ) → second_number z 0 ≡ 0
unfolding second_number
number_of_first z = refl

pub number_of_later : (z i : ℕ) → second_number z (suc i) ≡ z + i
unfolding second_number
number_of_later z i = refl

past_end : (n i : ℕ) → n ≡ suc i → after n i ≡ 0
past_end n i h = grind (arith, nat_tests)

next_number : (n i : ℕ) → suc i < n → after n i ≡ suc i
next_number n i h = grind (arith, nat_tests)

second_follows : (n m z i : ℕ) → m + z ≡ n + 1 → 1 < z → z + 1 < n → suc i + 1 < m → after n (z + i) ≡ z + (i + 1)
second_follows n m z i e h k b = grind (arith, nat_tests)

second_closes : (n m z i : ℕ) → m + z ≡ n + 1 → 1 < z → z + 1 < n → suc i + 1 ≡ m → after n (z + i) ≡ 0
second_closes n m z i e h k b = grind (arith, nat_tests)

pub after_zero : (m : ℕ) → 1 < m → after m 0 ≡ 1
after_zero m h = grind (arith, nat_tests)

to_zero : (n m z i : ℕ) → m + z ≡ n + 1 → z + 1 < n → suc i < m → 0 ≡ after n (z + i) → 0 ≡ after m (suc i)
to_zero n m z i e h b k = grind (arith, nat_tests)

not_one : (n z i : ℕ) → 1 < z → z + 1 < n → z + i ≡ after n 0 → ⊥
not_one n z i h k e = grind (arith, nat_tests)

not_before_z : (n z i : ℕ) → 1 < z → z + 1 < n → z + i < n → z - 1 ≡ after n (z + i) → ⊥
not_before_z n z i h k b e = grind (arith, nat_tests)

at_z : (n z : ℕ) → 1 < z → z + 1 < n → after n (z - 1) ≡ z
at_z n z h k = grind (arith, nat_tests)

module _ (ring : List Corner) (z : ℕ) (late : 1 < z) (within : z + 1 < length ring) (simple : MeetOnlyAsNeighbours ring)
    (diagonal : IsDiagonal ring 0 z) where
  pub second_length : length (corner_at ring 0 ∷ drop z ring) + z ≡ length ring + 1
  second_length = omega (arith, length-drop z ring)

  pub second_corner : (i : ℕ) → corner_at (corner_at ring 0 ∷ drop z ring) i ≡ corner_at ring (second_number z i)
  unfolding second_number
  second_corner zero = refl
  second_corner (suc i) = get_or-drop z ring i origin

  second_inside : (i : ℕ) → i < length (corner_at ring 0 ∷ drop z ring) → second_number z i < length ring
  unfolding second_number
  second_inside zero b = omega arith
  second_inside (suc i) b = omega (arith, second_length)

  second_apart : (i j : ℕ) → second_number z i ≡ second_number z j → i ≡ j
  unfolding second_number
  second_apart zero zero e = refl
  second_apart zero (suc j) e = absurd (omega arith)
  second_apart (suc i) zero e = absurd (omega arith)
  second_apart (suc i) (suc j) e = omega arith

  second_next : (i : ℕ) → i < length (corner_at ring 0 ∷ drop z ring) → i ≢ 0
      → second_number z (after (length (corner_at ring 0 ∷ drop z ring)) i) ≡ after (length ring) (second_number z i)
  unfolding second_number
  second_next zero b off = absurd (off refl)
  second_next (suc i) b off =
      ⊎_elim
      (λ l. ap (second_number z) (next_number (length (corner_at ring 0 ∷ drop z ring)) (suc i) l)
      ∙ sym (second_follows (length ring) (length (corner_at ring 0 ∷ drop z ring)) z i second_length late within (omega arith) ∙ ap
      (λ k. z + k) (omega arith)))
      (λ l. ap (second_number z) (past_end (length (corner_at ring 0 ∷ drop z ring)) (suc i) (omega arith))
      ∙ sym (second_closes (length ring) (length (corner_at ring 0 ∷ drop z ring)) z i second_length late within (omega arith)))
      (cases_lt (suc (suc i)) (length (corner_at ring 0 ∷ drop z ring)))

  pub second_is_part : IsPart (corner_at ring 0 ∷ drop z ring) ring (second_number z) 0
  second_is_part = record {
    inside = second_inside;
    corners = λ i b. second_corner i;
    apart = λ i j b k e. second_apart i j e;
    follows = second_next;
  }

  over : (q : Point) → IsOnEdgeAt q (corner_at ring 0 ∷ drop z ring) 0 → IsOnEdge q (corner_at ring 0) (corner_at ring z)
  unfolding second_number
  over q on =
      subst (λ c. IsOnEdge q (corner_at ring 0) c) (second_corner 1 ∙ ap (corner_at ring) (omega arith))
      (subst (λ k. IsOnEdge q (corner_at ring 0) (corner_at (corner_at ring 0 ∷ drop z ring) k))
      (after_zero (length (corner_at ring 0 ∷ drop z ring)) (omega (arith, second_length))) on)

  second_free : (f : ℕ) → f < length (corner_at ring 0 ∷ drop z ring) → f ≢ 0 → (q : Point) → IsOnEdgeAt q
      (corner_at ring 0 ∷ drop z ring) 0
      → IsOnEdgeAt q ring (second_number z f) → ¬ IsSharedCorner q (corner_at ring 0 ∷ drop z ring) 0 f → ⊥
  unfolding second_number
  second_free zero b off q on old not = off refl
  second_free (suc i) b off q on old not =
      ⊎_elim
      (λ at. apart_meet ring simple (z + i) 0 (omega (arith, second_length)) (omega arith) (λ e. omega arith) q old
      (on_place_start (corner_at ring 0) (corner_at ring (after (length ring) 0)) q at)
      (λ s. ⊎_elim
      (λ e. not (inr (to_zero (length ring) (length (corner_at ring 0 ∷ drop z ring)) z i second_length within b e.0, at)))
      (λ e. not_one (length ring) z i late within e.0) s))
      (λ at. apart_meet ring simple (z + i) (z - 1) (omega (arith, second_length)) (omega arith) (λ e. omega arith) q old
      (subst (λ k. IsOnEdge q (corner_at ring (z - 1)) (corner_at ring k)) (sym (at_z (length ring) z late within))
      (on_place_end (corner_at ring (z - 1)) (corner_at ring z) q at))
      (λ s. ⊎_elim
      (λ e. not_before_z (length ring) z i late within (omega (arith, second_length)) e.0)
      (λ e. let none : i ≡ 0 = (let w : z + i ≡ z = e.0 ∙ at_z (length ring) z late within in omega arith) in
      not (inl (
        ap suc none ∙ sym (after_zero (length (corner_at ring 0 ∷ drop z ring)) (omega (arith, second_length))),
        subst (IsPlaceOf q) (sym (second_corner (suc i) ∙ ap (corner_at ring) (e.0 ∙ at_z (length ring) z late within))) at,
      ))) s))
      (diagonal (z + i) q (omega (arith, second_length)) old (segment_of_edge (corner_at ring 0) (corner_at ring z) q (over q on)))

  second_simple : MeetOnlyAsNeighbours (corner_at ring 0 ∷ drop z ring)
  second_simple =
      part_simple (corner_at ring 0 ∷ drop z ring) ring (second_number z) 0 second_is_part simple
      (λ f b off c q on old not. second_free f b off q on old not)

pub parts_simple : (ring : List Corner) (z : ℕ) → 1 < z → z + 1 < length ring → MeetOnlyAsNeighbours ring → IsDiagonal ring 0 z
    → MeetOnlyAsNeighbours (take (z + 1) ring) × MeetOnlyAsNeighbours (corner_at ring 0 ∷ drop z ring)
parts_simple ring z late within simple diagonal =
    (first_simple ring z within simple diagonal, second_simple ring z late within simple diagonal)
