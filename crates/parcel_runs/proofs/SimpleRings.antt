-- A simple ring is in normal form: it has three corners, and no two neighbours are equal.
use Rattle.std.proofs.Common.{◌≡◌, refl, ◌≢◌, ℕ, suc, ◌<◌, ◌≤◌, ◌∙◌, sym, subst, arith, inl, inr, List, []}
use Rattle.std.proofs.Common.{◌∷◌, length, Some, slice_get}
use Rattle.std.proofs.lemmas.Int.{ints}
use Rattle.std.proofs.lemmas.Option.{slice_get_within}
use Rattle.std.proofs.lemmas.Bool.Decides.{nat_tests}
use Rattle.std.specs.List.{AllByRecursion}
use lib.IntN.{pos}
use lib.Signed.{◌<ℤ◌, ◌≤ℤ◌}
use Rattle.geo_exact.specs.declared.corner.Corner.{Corner}
use Rattle.geo_exact.specs.Point.{corner_point}
use Rattle.geo_exact.specs.Places.{corner_at, after, before}
use Rattle.geo_exact.specs.Rings.{edges, HasNoRepeats}
use Rattle.geo_exact.specs.Area.{area2}
use Rattle.geo_exact.specs.Turn.{IsOnEdge}
use Rattle.geo_exact.proofs.rings.Begun.{ring_count}
use Rattle.geo_exact.proofs.corners_and_turns.OnEdge.{on_edge_start, on_edge_end}
use Rattle.ring_core.specs.Simple.{IsSimpleRing, MeetOnlyAsNeighbours}
use Rattle.ring_core.proofs.edges.Corners.{three_corners}
use Rattle.ring_core.proofs.edges.EdgeNumbers.{ring_joins}
use Rattle.ring_core.proofs.ears.LeftSimple.{apart_meet}
use Rattle.ring_core.proofs.edges.RoundNumbers.{after_in, before_in, neighbours_apart}

-- what holds of each item by its place holds of all
each_of : {X : Type 0} (P : X → Type 0) (xs : List X) → ((i : ℕ) (x : X) → slice_get xs i ≡ Some x → P x)
    → AllByRecursion P xs
each_of P [] h = tt
each_of P (x ∷ xs) h = (h 0 x refl, each_of P xs (λ i y e. h (suc i) y e))

-- ---- three corners
flat : (a b : Corner) → pos 0 <ℤ area2 (a ∷ a ∷ b ∷ []) → ⊥
flat a b h = absurd (omega (arith, ints, h))

flat_behind : (a b : Corner) → pos 0 <ℤ area2 (a ∷ b ∷ b ∷ []) → ⊥
flat_behind a b h = absurd (omega (arith, ints, h))

flat_around : (a b : Corner) → pos 0 <ℤ area2 (a ∷ b ∷ a ∷ []) → ⊥
flat_around a b h = absurd (omega (arith, ints, h))

triangle_apart : (a b c : Corner) → pos 0 <ℤ area2 (a ∷ b ∷ c ∷ []) → HasNoRepeats (a ∷ b ∷ c ∷ [])
triangle_apart a b c h = (
  λ e. flat a c (subst (λ x. pos 0 <ℤ area2 (a ∷ x ∷ c ∷ [])) (sym e) h),
  (
    λ e. flat_behind a b (subst (λ x. pos 0 <ℤ area2 (a ∷ b ∷ x ∷ [])) (sym e) h),
    (λ e. flat_around a b (subst (λ x. pos 0 <ℤ area2 (a ∷ b ∷ x ∷ [])) e h), tt),
  ),
)

-- ---- four corners and more: the edges before and behind an edge of no length meet there, and are no neighbours
after_before : (n i : ℕ) → 3 < n → i < n → after n (before n i) ≡ i
after_before n i h k = grind (arith, nat_tests)

not_round : (n i : ℕ) → 3 < n → i < n → before n i ≡ after n (after n i) → ⊥
not_round n i h k e = grind (arith, nat_tests)

not_itself : (n i : ℕ) → 3 < n → i < n → after n i ≡ i → ⊥
not_itself n i h k e = grind (arith, nat_tests)

apart_at : (ring : List Corner) → 3 < length ring → MeetOnlyAsNeighbours ring → (i : ℕ) → i < length ring
    → corner_at ring i ≡ corner_at ring (after (length ring) i) → ⊥
apart_at ring long simple i below e =
    let n = length ring in
    let b = before n i in
    let a = after n i in
    let back : after n b ≡ i = after_before n i long below in
    let ends : IsOnEdge (corner_point (corner_at ring i)) (corner_at ring b) (corner_at ring (after n b)) =
    subst (λ k. IsOnEdge (corner_point (corner_at ring i)) (corner_at ring b) (corner_at ring k)) (sym back)
    (on_edge_end (corner_at ring b) (corner_at ring i)) in
    let starts : IsOnEdge (corner_point (corner_at ring i)) (corner_at ring a) (corner_at ring (after n a)) =
    subst (λ c. IsOnEdge (corner_point c) (corner_at ring a) (corner_at ring (after n a))) (sym e)
    (on_edge_start (corner_at ring a) (corner_at ring (after n a))) in
    apart_meet ring simple b a (before_in n i below) (after_in n i below) (λ f. neighbours_apart n i (omega (arith, long)) below (sym f))
    (corner_point (corner_at ring i)) ends starts
    (λ s. elim s [ inl q ↦ not_itself n i long below (q.0 ∙ back) | inr q ↦ not_round n i long below q.0 ])

long_apart : (ring : List Corner) → 3 < length ring → MeetOnlyAsNeighbours ring → HasNoRepeats ring
long_apart ring long simple = each_of (λ edge. edge.from ≢ edge.to) (edges ring)
    (λ i edge here. λ e.
    let below : i < length ring = subst (λ n. i < n) (ring_count ring) (slice_get_within (edges ring) i edge here) in
    let joins = ring_joins ring i edge here in
    apart_at ring long simple i below (sym joins.0 ∙ e ∙ joins.1))

-- ---- all simple rings
pub enough_corners : (ring : List Corner) → IsSimpleRing ring → 3 ≤ length ring
enough_corners ring h = three_corners ring h.counterclockwise

pub no_repeats : (ring : List Corner) → IsSimpleRing ring → HasNoRepeats ring
no_repeats [] h = absurd (omega (arith, enough_corners [] h))
no_repeats (a ∷ []) h = absurd (omega (arith, enough_corners (a ∷ []) h))
no_repeats (a ∷ b ∷ []) h = absurd (omega (arith, enough_corners (a ∷ b ∷ []) h))
no_repeats (a ∷ b ∷ c ∷ []) h = triangle_apart a b c h.counterclockwise
no_repeats (a ∷ b ∷ c ∷ d ∷ rest) h = long_apart (a ∷ b ∷ c ∷ d ∷ rest) (omega arith) h.simple

pub not_clockwise : (ring : List Corner) → IsSimpleRing ring → pos 0 ≤ℤ area2 ring
not_clockwise ring h = let k : pos 0 <ℤ area2 ring = h.counterclockwise in omega (arith, ints, k)
