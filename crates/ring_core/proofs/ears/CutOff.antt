-- The part that a diagonal from corner 0 cuts off a ring, and the ring's corners and edges beyond it.
use Rattle.std.proofs.Common.{◌≡◌, ◌≢◌, ◌⊎◌, ⊎_elim, ℕ, ◌<◌, ◌∙◌, sym, ap, subst, arith, List, length}
use Rattle.std.proofs.lemmas.Bool.Decides.{nat_tests}
use Rattle.std.proofs.lemmas.Int.{ints}
use lib.IntN.{ℤ, pos, ◌*ℤ◌}
use Rattle.geo_exact.specs.declared.corner.Corner.{Corner}
use Rattle.geo_exact.specs.Point.{Point, IsPlaceOf, corner_point}
use Rattle.geo_exact.specs.Segments.{IsOnSegment}
use Rattle.geo_exact.specs.Turn.{IsOnEdge, IsOnRing}
use Rattle.geo_exact.specs.Winding.{winding}
use Rattle.geo_exact.specs.Places.{corner_at, after, before}
use Rattle.geo_exact.proofs.corners_and_turns.OnEdge.{on_edge_back, on_edge_start}
use Rattle.geo_exact.proofs.corners_and_turns.Means.{segment_of_edge, edge_of_segment}
use Rattle.geo_exact.proofs.rings.Ways.{winding_along}
use Rattle.ring_core.specs.Simple.{IsOnEdgeAt, MeetOnlyAsNeighbours}
use Rattle.ring_core.specs.Diagonals.{IsDiagonal}
use Rattle.ring_core.proofs.edges.EdgeNumbers.{on_ring_by_number}
use Rattle.ring_core.proofs.ears.LeastCorners.{are_apart, place_of}
use Rattle.ring_core.proofs.ears.LeftSimple.{same_or, apart_meet, after_before}
use Rattle.ring_core.proofs.ears.PartsOfRings.{IsPart, ring_edge, on_place_start, on_place_end}
use Rattle.ring_core.proofs.edges.RoundNumbers.{before_in, after_in}

-- ---- corners and edges of a ring whose edges meet only as neighbours
not_in_a_row : (n c j : ℕ) → 3 < n → c < n → j ≡ after n c → before n c ≢ after n j
not_in_a_row n c j h i e = grind (arith, nat_tests)

place_itself : (c : Corner) → IsPlaceOf (corner_point c) c
place_itself c = record { same_x = once c.x; same_y = once c.y }
  where
    once : (x : ℤ) → x ≡ x *ℤ pos 1
    once x = omega (arith, ints)

module _ (ring : List Corner) (big : 3 < length ring) (simple : MeetOnlyAsNeighbours ring) where
  -- a corner is on no edge but its own two
  pub off_other_edges : (c j : ℕ) → c < length ring → j < length ring → j ≢ c → after (length ring) j ≢ c
      → (q : Point) → IsOnEdgeAt q ring j → IsPlaceOf q (corner_at ring c) → ⊥
  off_other_edges c j bc bj not_from not_to q on at =
      ⊎_elim
      (λ e. apart_meet ring simple j (before (length ring) c) bj (before_in (length ring) c bc)
      (λ f. not_to (ap (after (length ring)) f ∙ after_before (length ring) c bc)) q on
      (subst (λ k. IsOnEdge q (corner_at ring (before (length ring) c)) (corner_at ring k)) (sym (after_before (length ring) c bc))
      (on_place_end (corner_at ring (before (length ring) c)) (corner_at ring c) q at))
      (λ s. ⊎_elim (λ x. not_in_a_row (length ring) c j big bc e x.0)
      (λ x. not_from (x.0 ∙ after_before (length ring) c bc)) s))
      (λ off. apart_meet ring simple j c bj bc not_from q on
      (on_place_start (corner_at ring c) (corner_at ring (after (length ring) c)) q at)
      (λ s. ⊎_elim (λ x. not_to (sym x.0)) (λ x. off x.0) s))
      (same_or j (after (length ring) c))

-- ---- parts
-- corner j of the ring is none of the part, whose corner i is corner `number i` of the ring
abbrev pub IsBeyond : List Corner → (ℕ → ℕ) → ℕ → Type 0
IsBeyond part number j = (i : ℕ) → i < length part → number i ≢ j

-- the part that the diagonal from corner 0 to corner z cuts off: its edge g is the diagonal
pub record IsCutOff (part ring : List Corner) (number : ℕ → ℕ) (g z : ℕ) : Type 0 where
  pub is_part : IsPart part ring number g
  pub has_gap : g < length part
  pub gap : ((number g ≡ z) × (number (after (length part) g) ≡ 0)) ⊎ ((number g ≡ 0) × (number (after (length part) g) ≡ z))
  pub diagonal : IsDiagonal ring 0 z

module _ (part ring : List Corner) (number : ℕ → ℕ) (g z : ℕ) (big : 3 < length ring) (simple : MeetOnlyAsNeighbours ring)
    (h : IsCutOff part ring number g z) where
  pub has_next : after (length part) g < length part
  has_next = after_in (length part) g h.has_gap

  has_start : (i : ℕ) × (i < length part) × (number i ≡ 0)
  has_start = ⊎_elim (λ e. (after (length part) g, has_next, e.1)) (λ e. (g, h.has_gap, e.0)) h.gap

  has_end : (i : ℕ) × (i < length part) × (number i ≡ z)
  has_end = ⊎_elim (λ e. (g, h.has_gap, e.0)) (λ e. (after (length part) g, has_next, e.1)) h.gap

  end_below : z < length ring
  end_below = subst (λ k. k < length ring) has_end.2 (h.is_part.inside has_end.0 has_end.1)

  -- the part's edge g is the diagonal
  gap_between : (a b : ℕ) → number g ≡ a → number (after (length part) g) ≡ b → (q : Point) → IsOnEdgeAt q part g
      → IsOnEdge q (corner_at ring a) (corner_at ring b)
  gap_between a b e f q on =
      subst (λ c. IsOnEdge q (corner_at ring a) c) (h.is_part.corners (after (length part) g) has_next ∙ ap (corner_at ring) f)
      (subst (λ c. IsOnEdge q c (corner_at part (after (length part) g))) (h.is_part.corners g h.has_gap ∙ ap (corner_at ring) e) on)

  across : (q : Point) → IsOnEdgeAt q part g → IsOnSegment q (corner_point (corner_at ring 0)) (corner_point (corner_at ring z))
  across q on =
      ⊎_elim
      (λ e. segment_of_edge (corner_at ring 0) (corner_at ring z) q
      (on_edge_back (corner_at ring z) (corner_at ring 0) q (gap_between z 0 e.0 e.1 q on)))
      (λ e. segment_of_edge (corner_at ring 0) (corner_at ring z) q (gap_between 0 z e.0 e.1 q on))
      h.gap

  -- an edge between two corners beyond the part does not meet it
  edge_beyond : (j : ℕ) → j < length ring → IsBeyond part number j → IsBeyond part number (after (length ring) j)
      → (q : Point) → IsOnEdgeAt q ring j → ¬ IsOnRing q part
  edge_beyond j b from to q on on_part =
      let r = (on_ring_by_number q part).0 on_part in
      ⊎_elim
      (λ e. ⊎_elim
      (λ at. off_other_edges ring big simple 0 j (subst (λ k. k < length ring) has_start.2 (h.is_part.inside has_start.0 has_start.1)) b
      (λ f. from has_start.0 has_start.1 (has_start.2 ∙ sym f)) (λ f. to has_start.0 has_start.1 (has_start.2 ∙ sym f)) q on at)
      (λ at. off_other_edges ring big simple z j end_below b
      (λ f. from has_end.0 has_end.1 (has_end.2 ∙ sym f)) (λ f. to has_end.0 has_end.1 (has_end.2 ∙ sym f)) q on at)
      (h.diagonal j q b on (across q (subst (λ i. IsOnEdgeAt q part i) e r.2))))
      (λ off. apart_meet ring simple j (number r.0) b (h.is_part.inside r.0 r.1) (λ e. from r.0 r.1 (sym e)) q on
      (ring_edge part ring number g h.is_part q r.0 r.1 off r.2)
      (λ s. ⊎_elim (λ x. to r.0 r.1 x.0)
      (λ x. from (after (length part) r.0) (after_in (length part) r.0 r.1) (h.is_part.follows r.0 r.1 off ∙ sym x.0)) s))
      (same_or r.0 g)

  -- nor is a corner beyond the part on it
  pub corner_beyond : (d : ℕ) → d < length ring → IsBeyond part number d → ¬ IsOnRing (corner_point (corner_at ring d)) part
  corner_beyond d b beyond on_part =
      let r = (on_ring_by_number (corner_point (corner_at ring d)) part).0 on_part in
      ⊎_elim
      (λ e. ⊎_elim
      (λ at. are_apart ring big simple d 0 b (subst (λ k. k < length ring) has_start.2 (h.is_part.inside has_start.0 has_start.1))
      (λ f. beyond has_start.0 has_start.1 (has_start.2 ∙ sym f)) (place_of (corner_at ring d) (corner_at ring 0) at))
      (λ at. are_apart ring big simple d z b end_below
      (λ f. beyond has_end.0 has_end.1 (has_end.2 ∙ sym f)) (place_of (corner_at ring d) (corner_at ring z) at))
      (h.diagonal d (corner_point (corner_at ring d)) b (on_edge_start (corner_at ring d) (corner_at ring (after (length ring) d)))
      (across (corner_point (corner_at ring d)) (subst (λ i. IsOnEdgeAt (corner_point (corner_at ring d)) part i) e r.2))))
      (λ off. off_other_edges ring big simple d (number r.0) b (h.is_part.inside r.0 r.1) (beyond r.0 r.1)
      (λ e. beyond (after (length part) r.0) (after_in (length part) r.0 r.1) (h.is_part.follows r.0 r.1 off ∙ e))
      (corner_point (corner_at ring d)) (ring_edge part ring number g h.is_part (corner_point (corner_at ring d)) r.0 r.1 off r.2)
      (place_itself (corner_at ring d)))
      (same_or r.0 g)

  -- so the part goes round both ends of such an edge alike
  pub winding_beyond : (j : ℕ) → j < length ring → IsBeyond part number j → IsBeyond part number (after (length ring) j)
      → winding (corner_point (corner_at ring j)) part ≡ winding (corner_point (corner_at ring (after (length ring) j))) part
  winding_beyond j b from to =
      winding_along (corner_point (corner_at ring j)) (corner_point (corner_at ring (after (length ring) j))) part
      (λ q way. edge_beyond j b from to q (edge_of_segment (corner_at ring j) (corner_at ring (after (length ring) j)) q way))
