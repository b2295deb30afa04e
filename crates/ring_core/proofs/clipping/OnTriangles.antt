-- Each point of a simple ring lies on an edge of a triangle that the ring is clipped to.
use Rattle.std.proofs.Common.{◌≡◌, ◌≢◌, ◌⊎◌, inl, inr, ⊎_elim, refl, sym, subst, ℕ, ◌<◌, arith, List}
use Rattle.std.proofs.Common.{[], ◌∷◌, ◌++◌, length}
use Rattle.std.specs.List.{remove}
use Rattle.std.proofs.lemmas.Bool.{cases_eq}
use Rattle.std.proofs.lemmas.Bool.Decides.{nat_tests}
use Rattle.geo_exact.specs.declared.corner.Corner.{Corner}
use Rattle.geo_exact.specs.Places.{corner_at, after, before}
use Rattle.geo_exact.specs.Point.{Point, corner_point}
use Rattle.geo_exact.specs.Turn.{IsOnEdge, IsOnRing}
use Rattle.geo_exact.proofs.corners_and_turns.Means.{edge_of_segment, segment_of_edge, segment_part}
use Rattle.geo_exact.proofs.corners_and_turns.OnEdge.{on_edge_back}
use Rattle.geo_exact.proofs.rings.Ways.{segment_back}
use Rattle.ring_core.specs.declared.triangle.Tri.{Tri}
use Rattle.ring_core.specs.Simple.{IsOnEdgeAt, IsSimpleRing}
use Rattle.ring_core.specs.Sums.{triangle_ring}
use Rattle.ring_core.specs.Clipping.{previous, next, IsFlat, IsTriangleAt, Clips, untouched, flat, ear, IsClippedTo}
use Rattle.ring_core.proofs.edges.Corners.{three_corners}
use Rattle.ring_core.proofs.clipping.CornersInBoxes.{not_flat}
use Rattle.ring_core.proofs.edges.EdgeNumbers.{on_ring_by_number}
use Rattle.ring_core.proofs.ears.LeftSimple.{after_before}
use Rattle.ring_core.proofs.clipping.NeverStuck.{still_left}
use Rattle.ring_core.proofs.edges.RoundNumbers.{before_in, before_other}
use Rattle.ring_core.proofs.ears.WithoutCorner.{number_left, one_fewer, left_within, corner_left, next_kept, next_over}

-- a part of an edge lies on it
first_part : (p : Point) (a c b : Corner) → IsOnEdge (corner_point c) a b → IsOnEdge p a c → IsOnEdge p a b
first_part p a c b on h =
    edge_of_segment a b p
    (segment_part p (corner_point c) (corner_point a) (corner_point b)
    (segment_back p (corner_point a) (corner_point c) (segment_of_edge a c p h)) (segment_of_edge a b (corner_point c) on))

second_part : (p : Point) (a c b : Corner) → IsOnEdge (corner_point c) a b → IsOnEdge p c b → IsOnEdge p a b
second_part p a c b on h = on_edge_back b a p (first_part p b c a (on_edge_back a b (corner_point c) on) (on_edge_back c b p h))

-- the third edge of three
third_number : (k i : ℕ) → k < 3 → i < 3 → i ≢ k → i ≢ before 3 k → (i ≡ after 3 k) × (after 3 i ≡ before 3 k)
third_number k i h b off far = (grind (arith, nat_tests), grind (arith, nat_tests))

module _ (p : Point) where
  -- p lies on an edge of one of the triangles
  abbrev pub IsOnTriangles : List Tri → Type 0
  IsOnTriangles [] = ⊥
  IsOnTriangles (t ∷ ts) = IsOnRing p (triangle_ring t) ⊎ IsOnTriangles ts

  on_earlier : (ts : List Tri) (t : Tri) → IsOnTriangles ts → IsOnTriangles (ts ++ t ∷ [])
  on_earlier [] t h = absurd h
  on_earlier (u ∷ ts) t (inl h) = inl h
  on_earlier (u ∷ ts) t (inr h) = inr (on_earlier ts t h)

  on_last : (ts : List Tri) (t : Tri) → IsOnRing p (triangle_ring t) → IsOnTriangles (ts ++ t ∷ [])
  on_last [] t h = inl h
  on_last (u ∷ ts) t h = inr (on_last ts t h)

  -- p lies on an edge of the ring, by its number
  abbrev IsAt : List Corner → Type 0
  IsAt ring = (i : ℕ) × (i < length ring) × IsOnEdgeAt p ring i

  module _ (rest : List Corner) (k : ℕ) (below : k < length rest) (big : 2 < length rest) where
    -- an edge away from corner k is left without it
    still_at : (i : ℕ) → i < length rest → i ≢ k → i ≢ before (length rest) k → IsOnEdgeAt p rest i → IsAt (remove rest k)
    still_at i b off far on =
        let j = number_left k i in (
          j,
          left_within rest k below i b off,
          subst (λ a. IsOnEdge p a (next (remove rest k) j)) (sym (corner_left rest k below i off))
              (subst (λ e. IsOnEdge p (corner_at rest i) e) (sym (next_kept rest k below i b off far)) on),
        )

    -- the edge that closes the gap is one without it
    at_gap : IsOnEdge p (previous rest k) (next rest k) → IsAt (remove rest k)
    at_gap on =
        let i = before (length rest) k in
        let b = before_in (length rest) k below in
        let off : i ≢ k = λ e. before_other (length rest) k big below (sym e) in
        let j = number_left k i in (
          j,
          left_within rest k below i b off,
          subst (λ a. IsOnEdge p a (next (remove rest k) j)) (sym (corner_left rest k below i off))
              (subst (λ e. IsOnEdge p (corner_at rest i) e) (sym (next_over rest k below i big b off refl)) on),
        )

    -- an edge is one of the two at corner k, or away from it
    by_edge : {X : Type 0} → (IsOnEdge p (previous rest k) (corner_at rest k) → X)
        → (IsOnEdge p (corner_at rest k) (next rest k) → X)
        → (IsAt (remove rest k) → X) → IsAt rest → X
    by_edge into out away at = ⊎_elim
        (λ same. out (subst (IsOnEdgeAt p rest) same at.2))
        (λ off. ⊎_elim
        (λ prior. into (subst (λ c. IsOnEdge p (previous rest k) (corner_at rest c)) (after_before (length rest) k below)
        (subst (IsOnEdgeAt p rest) prior at.2)))
        (λ far. away (still_at at.0 at.1 off far at.2))
        (cases_eq at.0 (before (length rest) k)))
        (cases_eq at.0 k)

    flat_at : IsFlat rest k → IsAt rest → IsAt (remove rest k)
    flat_at on =
        by_edge
        (λ h. at_gap (first_part p (previous rest k) (corner_at rest k) (next rest k) on h))
        (λ h. at_gap (second_part p (previous rest k) (corner_at rest k) (next rest k) on h))
        (λ at. at)

    module _ (t : Tri) (is : IsTriangleAt rest k t) where
      on_first : IsOnEdge p (previous rest k) (corner_at rest k) → IsOnRing p (triangle_ring t)
      on_first h = inl (subst (λ a. IsOnEdge p a t.b) (sym is.a) (subst (λ b. IsOnEdge p (previous rest k) b) (sym is.b) h))

      on_second : IsOnEdge p (corner_at rest k) (next rest k) → IsOnRing p (triangle_ring t)
      on_second h = inr (inl (subst (λ b. IsOnEdge p b t.c) (sym is.b) (subst (λ c. IsOnEdge p (corner_at rest k) c) (sym is.c) h)))

      on_third : IsOnEdge p (next rest k) (previous rest k) → IsOnRing p (triangle_ring t)
      on_third h = inr (inr (inl (subst (λ c. IsOnEdge p c t.a) (sym is.c) (subst (λ a. IsOnEdge p (next rest k) a) (sym is.a) h))))

      ear_at : IsAt rest → IsOnRing p (triangle_ring t) ⊎ IsAt (remove rest k)
      ear_at = by_edge (λ h. inl (on_first h)) (λ h. inl (on_second h)) (λ at. inr at)

      -- of three corners all edges are the triangle's
      three_at : length rest ≡ 3 → IsAt rest → IsOnRing p (triangle_ring t)
      three_at three at = ⊎_elim
          (λ same. on_second (subst (IsOnEdgeAt p rest) same at.2))
          (λ off. ⊎_elim
          (λ prior. on_first (subst (λ c. IsOnEdge p (previous rest k) (corner_at rest c)) (after_before (length rest) k below)
          (subst (IsOnEdgeAt p rest) prior at.2)))
          (λ far.
          let n = third_number k at.0 (subst (λ n. k < n) three below) (subst (λ n. at.0 < n) three at.1) off
          (subst (λ n. at.0 ≢ before n k) three far) in
          let start : at.0 ≡ after (length rest) k = subst (λ n. at.0 ≡ after n k) (sym three) n.0 in
          let end : after (length rest) at.0 ≡ before (length rest) k = subst (λ n. after n at.0 ≡ before n k) (sym three) n.1 in
          on_third (subst (λ a. IsOnEdge p (corner_at rest a) (previous rest k)) start
          (subst (λ b. IsOnEdge p (corner_at rest at.0) (corner_at rest b)) end at.2)))
          (cases_eq at.0 (before (length rest) k)))
          (cases_eq at.0 k)

  covered : (ring : List Corner) (ts : List Tri) (rest : List Corner) → Clips ring ts rest → IsAt ring
      → IsOnTriangles ts ⊎ IsAt rest
  covered ring _ _ untouched at = inr at
  covered ring ts _ (flat {rest = rest} k c l f) at =
      ⊎_elim (λ h. inl h) (λ h. inr (flat_at rest k f.below l f.has h)) (covered ring ts rest c at)
  covered ring _ _ (ear {ts = ts} {rest = rest} k t c l none f s) at =
      ⊎_elim (λ h. inl (on_earlier ts t h))
      (λ h. ⊎_elim (λ on. inl (on_last ts t on)) (λ left. inr left) (ear_at rest k f.below l t s h))
      (covered ring ts rest c at)

  all_covered : (ring : List Corner) → IsSimpleRing ring → (ts : List Tri) (rest : List Corner) → Clips ring ts rest
      → length rest ≡ 2 → IsAt ring
      → IsOnTriangles ts
  all_covered ring simple _ _ untouched two at = absurd (omega (arith, three_corners ring simple.counterclockwise))
  all_covered ring simple ts _ (flat {rest = rest} k c l f) two at =
      let s = still_left ring simple ts rest c l in
      absurd (not_flat rest s.1.0 k (omega (arith, one_fewer rest k f.below)) s.1.1 f.below f.has)
  all_covered ring simple _ _ (ear {ts = ts} {rest = rest} k t c l none f s) two at =
      ⊎_elim (λ h. on_earlier ts t h)
      (λ h. on_last ts t (three_at rest k f.below l t s (omega (arith, one_fewer rest k f.below)) h))
      (covered ring ts rest c at)

  -- a point of a simple ring lies on an edge of one of its triangles
  pub on_triangles : (ring : List Corner) (ts : List Tri) → IsSimpleRing ring → IsClippedTo ring ts → IsOnRing p ring
      → IsOnTriangles ts
  on_triangles ring ts simple clipped on =
      all_covered ring simple ts clipped.0 clipped.1 clipped.2 ((on_ring_by_number p ring).0 on)
