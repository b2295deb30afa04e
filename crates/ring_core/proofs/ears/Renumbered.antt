-- Rings of the same corners in the same order, begun elsewhere: what is flat, an ear, simple or least in the one is so in the other.
use Rattle.std.proofs.Common.{◌≡◌, ◌≢◌, inl, inr, ℕ, ◌<◌, ◌∙◌, sym, ap, subst, arith, List, length}
use Rattle.std.proofs.Common.{IsTrue}
use lib.IntN.{pos}
use lib.Signed.{◌<ℤ◌}
use Rattle.geo_exact.specs.declared.corner.Corner.{Corner}
use Rattle.geo_exact.specs.Point.{corner_point}
use Rattle.geo_exact.specs.Turn.{turn, IsOnEdge}
use Rattle.geo_exact.specs.Order.{is_before}
use Rattle.geo_exact.specs.Places.{corner_at, after, before}
use Rattle.ring_core.specs.Simple.{MeetOnlyAsNeighbours}
use Rattle.ring_core.specs.Clipping.{IsInTriangle, previous, next, IsFlat, Blocks, IsEar}
use Rattle.ring_core.proofs.edges.RoundNumbers.{before_in, after_in}
use Rattle.ring_core.proofs.ears.LeftSimple.{after_before, before_of_after}
use Rattle.ring_core.proofs.ears.PartsOfRings.{part_simple}
use Rattle.ring_core.proofs.ears.EarWords.{IsLeftAtLeast, IsFlatOrEar}

-- corner i of `other` is corner `to i` of the ring, and corner i of the ring is corner `back i` of `other`
pub record AreSameCorners (other ring : List Corner) (to back : ℕ → ℕ) : Type 0 where
  pub as_many : length other ≡ length ring
  pub inside : (i : ℕ) → i < length ring → to i < length ring
  pub back_inside : (i : ℕ) → i < length ring → back i < length ring
  pub corners : (i : ℕ) → i < length ring → corner_at other i ≡ corner_at ring (to i)
  pub and_back : (i : ℕ) → i < length ring → back (to i) ≡ i
  pub and_forth : (i : ℕ) → i < length ring → to (back i) ≡ i

-- and they follow one another in the same order
pub record IsBegunElsewhere (other ring : List Corner) (to back : ℕ → ℕ) : Type 0 where
  pub same : AreSameCorners other ring to back
  pub follows : (i : ℕ) → i < length ring → to (after (length ring) i) ≡ after (length ring) (to i)

-- ---- one corner, and its neighbours
pub flat_like : (p c n u v w : Corner) → u ≡ p → v ≡ c → w ≡ n → IsOnEdge (corner_point c) p n
    → IsOnEdge (corner_point v) u w
flat_like p c n u v w e f g h = rw (e, f, g) h

pub left_like : (p c n u v w : Corner) → u ≡ p → v ≡ c → w ≡ n → pos 0 <ℤ turn p c n → pos 0 <ℤ turn u v w
left_like p c n u v w e f g h = rw (e, f, g) h

pub inside_like : (q p c n z u v w : Corner) → z ≡ q → u ≡ p → v ≡ c → w ≡ n → IsInTriangle q p c n
    → IsInTriangle z u v w
inside_like q p c n z u v w d e f g h = rw (d, e, f, g) h

-- ---- the same, the other way
pub same_back : (other ring : List Corner) (to back : ℕ → ℕ) → AreSameCorners other ring to back
    → AreSameCorners ring other back to
same_back other ring to back h = record {
  as_many = sym h.as_many;
  inside = λ i b. subst (λ n. back i < n) (sym h.as_many) (h.back_inside i (subst (λ n. i < n) h.as_many b));
  back_inside = λ i b. subst (λ n. to i < n) (sym h.as_many) (h.inside i (subst (λ n. i < n) h.as_many b));
  corners = λ i b.
      let c : i < length ring = subst (λ n. i < n) h.as_many b in
      sym (h.corners (back i) (h.back_inside i c) ∙ ap (corner_at ring) (h.and_forth i c));
  and_back = λ i b. h.and_forth i (subst (λ n. i < n) h.as_many b);
  and_forth = λ i b. h.and_back i (subst (λ n. i < n) h.as_many b);
}

pub begun_back : (other ring : List Corner) (to back : ℕ → ℕ) → IsBegunElsewhere other ring to back
    → IsBegunElsewhere ring other back to
begun_back other ring to back h = record {
  same = same_back other ring to back h.same;
  follows = λ i b. subst (λ n. back (after n i) ≡ after n (back i)) (sym h.same.as_many)
      (let c : i < length ring = subst (λ n. i < n) h.same.as_many b in
      ap (λ z. back (after (length ring) z)) (sym (h.same.and_forth i c))
      ∙ ap back (sym (h.follows (back i) (h.same.back_inside i c)))
      ∙ h.same.and_back (after (length ring) (back i)) (after_in (length ring) (back i) (h.same.back_inside i c)));
}

pub same_number : (other ring : List Corner) (to back : ℕ → ℕ) → AreSameCorners other ring to back
    → (i j : ℕ) → i < length ring → j < length ring → to i ≡ to j → i ≡ j
same_number other ring to back h i j bi bj e = sym (h.and_back i bi) ∙ ap back e ∙ h.and_back j bj

-- corner v comes before all the others
pub record IsLeast (ring : List Corner) (v : ℕ) : Type 0 where
  pub below : v < length ring
  pub least : (i : ℕ) → i < length ring → i ≢ v → IsTrue (is_before (corner_at ring v) (corner_at ring i))

pub is_least_there : (other ring : List Corner) (to back : ℕ → ℕ) → AreSameCorners other ring to back → (v : ℕ)
    → IsLeast other v → IsLeast ring (to v)
is_least_there other ring to back h v l =
    let b : v < length ring = subst (λ n. v < n) h.as_many l.below in
    record {
      below = h.inside v b;
      least = λ i c off.
          let d : back i < length ring = h.back_inside i c in
          subst (λ z. IsTrue (is_before z (corner_at ring i))) (h.corners v b)
          (subst (λ z. IsTrue (is_before (corner_at other v) z)) (h.corners (back i) d ∙ ap (corner_at ring) (h.and_forth i c))
          (l.least (back i) (subst (λ n. back i < n) (sym h.as_many) d)
          (λ e. off (sym (h.and_forth i c) ∙ ap to e))));
    }

module _ (other ring : List Corner) (to back : ℕ → ℕ) (h : IsBegunElsewhere other ring to back) where
  precedes : (i : ℕ) → i < length ring → to (before (length ring) i) ≡ before (length ring) (to i)
  precedes i b = before_of_after (length ring) (to i) (to (before (length ring) i))
      (h.same.inside (before (length ring) i) (before_in (length ring) i b))
      (sym (ap to (after_before (length ring) i b)) ∙ h.follows (before (length ring) i) (before_in (length ring) i b))

  pub next_is : (i : ℕ) → i < length ring → next other i ≡ next ring (to i)
  next_is i b =
      ap (λ n. corner_at other (after n i)) h.same.as_many
      ∙ h.same.corners (after (length ring) i) (after_in (length ring) i b)
      ∙ ap (corner_at ring) (h.follows i b)

  pub previous_is : (i : ℕ) → i < length ring → previous other i ≡ previous ring (to i)
  previous_is i b =
      ap (λ n. corner_at other (before n i)) h.same.as_many
      ∙ h.same.corners (before (length ring) i) (before_in (length ring) i b)
      ∙ ap (corner_at ring) (precedes i b)

  pub flat_there : (i : ℕ) → i < length ring → IsFlat other i → IsFlat ring (to i)
  flat_there i b f =
      flat_like (previous other i) (corner_at other i) (next other i) (previous ring (to i)) (corner_at ring (to i)) (next ring (to i))
      (sym (previous_is i b)) (sym (h.same.corners i b)) (sym (next_is i b)) f

  pub blocks_there : (i j : ℕ) → i < length ring → j < length ring → Blocks other i j → Blocks ring (to i) (to j)
  blocks_there i j bi bj x = record {
    not_before = λ e. x.not_before (same_number other ring to back h.same j (before (length ring) i) bj (before_in (length ring) i bi)
        (e ∙ sym (precedes i bi)) ∙ ap (λ n. before n i) (sym h.same.as_many));
    not_same = λ e. x.not_same (same_number other ring to back h.same j i bj bi e);
    not_after = λ e. x.not_after (same_number other ring to back h.same j (after (length ring) i) bj (after_in (length ring) i bi)
        (e ∙ sym (h.follows i bi)) ∙ ap (λ n. after n i) (sym h.same.as_many));
    is_inside = inside_like (corner_at other j) (previous other i) (corner_at other i) (next other i)
        (corner_at ring (to j)) (previous ring (to i)) (corner_at ring (to i)) (next ring (to i))
        (sym (h.same.corners j bj)) (sym (previous_is i bi)) (sym (h.same.corners i bi)) (sym (next_is i bi)) x.is_inside;
  }

  pub left_there : (i : ℕ) → i < length ring → pos 0 <ℤ turn (previous other i) (corner_at other i) (next other i)
      → pos 0 <ℤ turn (previous ring (to i)) (corner_at ring (to i)) (next ring (to i))
  left_there i b l =
      left_like (previous other i) (corner_at other i) (next other i) (previous ring (to i)) (corner_at ring (to i)) (next ring (to i))
      (sym (previous_is i b)) (sym (h.same.corners i b)) (sym (next_is i b)) l

  pub least_there : (v : ℕ) → IsLeftAtLeast other v → IsLeftAtLeast ring (to v)
  least_there v l =
      let m : IsLeast ring (to v) = is_least_there other ring to back h.same v (record { below = l.below; least = l.least }) in
      record {
        below = m.below;
        least = m.least;
        turns_left = left_there v (subst (λ n. v < n) h.same.as_many l.below) l.turns_left;
      }

  -- the edges of the ring meet only as neighbours, and so do those of `other`
  pub simple_here : MeetOnlyAsNeighbours ring → MeetOnlyAsNeighbours other
  simple_here simple =
      part_simple other ring to (length other) (record {
        inside = λ i b. h.same.inside i (subst (λ n. i < n) h.same.as_many b);
        corners = λ i b. h.same.corners i (subst (λ n. i < n) h.same.as_many b);
        apart = λ i j bi bj e. same_number other ring to back h.same i j
            (subst (λ n. i < n) h.same.as_many bi) (subst (λ n. j < n) h.same.as_many bj) e;
        follows = λ i b off. subst (λ n. to (after n i) ≡ after (length ring) (to i)) (sym h.same.as_many)
            (h.follows i (subst (λ n. i < n) h.same.as_many b));
      }) simple
      (λ f b off g q on old not. absurd (omega arith))

module _ (other ring : List Corner) (to back : ℕ → ℕ) (h : IsBegunElsewhere other ring to back) where
  pub ear_there : (i : ℕ) → i < length ring → IsEar other i → IsEar ring (to i)
  ear_there i b x = record {
    turns_left = left_there other ring to back h i b x.turns_left;
    is_empty = λ j c blocks. x.is_empty (back j) (subst (λ n. back j < n) (sym h.same.as_many) (h.same.back_inside j c))
        (subst (λ z. Blocks other z (back j)) (h.same.and_back i b)
        (blocks_there ring other back to (begun_back other ring to back h) (to i) j
        (subst (λ n. to i < n) (sym h.same.as_many) (h.same.inside i b)) (subst (λ n. j < n) (sym h.same.as_many) c) blocks));
  }

  pub flat_or_ear_there : (i : ℕ) → i < length ring → IsFlatOrEar other i → IsFlatOrEar ring (to i)
  flat_or_ear_there i b (inl f) = inl (flat_there other ring to back h i b f)
  flat_or_ear_there i b (inr e) = inr (ear_there i b e)

  -- an ear off an edge of `other` is one of the ring
  pub off_edge_there : (i : ℕ) → i < length ring
      → (k : ℕ) × (k < length ring) × (k ≢ i) × (k ≢ after (length ring) i) × IsFlatOrEar other k
      → (k : ℕ) × (k < length ring) × (k ≢ to i) × (k ≢ after (length ring) (to i)) × IsFlatOrEar ring k
  off_edge_there i b x = (
    to x.0,
    h.same.inside x.0 x.1,
    λ e. x.2 (same_number other ring to back h.same x.0 i x.1 b e),
    λ e. x.3 (same_number other ring to back h.same x.0 (after (length ring) i) x.1 (after_in (length ring) i b) (e
        ∙ sym (h.follows i b))),
    flat_or_ear_there x.0 x.1 x.4,
  )
