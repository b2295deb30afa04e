-- A ring whose edges meet only as neighbours, with one more corner that lies strictly inside the edge between its two neighbours:
-- its edges meet only as neighbours, too.
use Rattle.std.proofs.Common.{◌≡◌, ◌≢◌, ◌⊎◌, inl, inr, ⊎_elim, refl, sym, ◌∙◌, ap, subst, arith, ℕ, ◌<◌}
use Rattle.std.proofs.Common.{ℤ, pos, ◌*ℤ◌, List, length}
use Rattle.std.specs.Int.{int_min, int_max}
use Rattle.std.specs.List.{remove}
use Rattle.std.proofs.lemmas.Int.{ints, clamps, by_lt_z}
use lib.Signed.{◌<ℤ◌, ◌≤ℤ◌}
use Rattle.geo_exact.specs.declared.corner.Corner.{Corner}
use Rattle.geo_exact.specs.Point.{Point, IsPlaceOf}
use Rattle.geo_exact.specs.Places.{corner_at, after, before}
use Rattle.geo_exact.specs.Segments.{IsStrictlyInside}
use Rattle.geo_exact.specs.Turn.{IsOnEdge}
use Rattle.geo_exact.proofs.corners_and_turns.OnEdge.{on_edge_back}
use Rattle.geo_exact.proofs.corners_and_turns.SameCorner.{corner_same}
use Rattle.geo_exact.proofs.numbers.Signs.{mul_lt}
use Rattle.ring_core.specs.Simple.{IsOnEdgeAt, IsSharedCorner, MeetOnlyAsNeighbours}
use Rattle.ring_core.specs.Clipping.{previous, next}
use Rattle.ring_core.specs.own.Kinds.{number_before}
use Rattle.ring_core.proofs.edges.RoundNumbers.{before_in, before_other, after_other}
use Rattle.ring_core.proofs.ears.LeftSimple.{same_or, after_before, apart_meet}
use Rattle.ring_core.proofs.ears.WithoutCorner.{number_left, before_left, left_within, corner_left}
use Rattle.ring_core.proofs.ears.WithoutCorner.{number_next, next_kept, next_over, gap_closes}
use Rattle.edge_chains.proofs.edges.Inside.{inside_from_strictly}
use Rattle.edge_chains.proofs.edges.Parts.{on_whole_first, on_whole_second, strictly_back}

-- ---- an edge from a to b, cut at c
-- the two parts have that corner in common, and nothing else
met_in : (a b c d x : ℤ) → (int_min a b ≤ℤ c) × (c ≤ℤ int_max a b) → x ≤ℤ (int_max a c *ℤ d) → (int_min a c *ℤ d) ≤ℤ x
    → (int_min c b *ℤ d) ≤ℤ x → x ≤ℤ (int_max c b *ℤ d) → x ≡ c *ℤ d
met_in a b c d x i high low low' high' = by_lt_z a b
    (λ l. let u : int_max a c ≡ c = omega (arith, ints, clamps, i.0, i.1) in
    let v : int_min c b ≡ c = omega (arith, ints, clamps, i.0, i.1) in
    let m : x ≤ℤ (c *ℤ d) = subst (λ z. x ≤ℤ (z *ℤ d)) u high in
    let n : (c *ℤ d) ≤ℤ x = subst (λ z. (z *ℤ d) ≤ℤ x) v low' in omega (arith, ints, m, n))
    (λ l. let u : int_min a c ≡ c = omega (arith, ints, clamps, i.0, i.1) in
    let v : int_max c b ≡ c = omega (arith, ints, clamps, i.0, i.1) in
    let m : (c *ℤ d) ≤ℤ x = subst (λ z. (z *ℤ d) ≤ℤ x) u low in
    let n : x ≤ℤ (c *ℤ d) = subst (λ z. x ≤ℤ (z *ℤ d)) v high' in omega (arith, ints, m, n))

parts_meet : (q : Point) (a b c : Corner) → IsStrictlyInside c a b → IsOnEdge q a c → IsOnEdge q c b → IsPlaceOf q c
parts_meet q a b c h k l =
    let i = inside_from_strictly c a b h in record {
      same_x = met_in a.x b.x c.x q.d q.x i.0.0 k.to_x k.from_x l.from_x l.to_x;
      same_y = met_in a.y b.y c.y q.d q.y i.0.1 k.to_y k.from_y l.from_y l.to_y;
    }

-- the first part does not reach b
reached_in : (a b c d x : ℤ) → pos 0 <ℤ d → (int_min a b ≤ℤ c) × (c ≤ℤ int_max a b) → (int_min a c *ℤ d) ≤ℤ x
    → x ≤ℤ (int_max a c *ℤ d) → x ≡ b *ℤ d → c ≡ b
reached_in a b c d x h i low high e = by_lt_z a b
    (λ l. let u : int_max a c ≡ c = omega (arith, ints, clamps, i.0, i.1) in
    let m : x ≤ℤ (c *ℤ d) = subst (λ z. x ≤ℤ (z *ℤ d)) u high in
    by_lt_z c b (λ k. absurd (omega (arith, ints, e, m, mul_lt c b d h k))) (λ k. omega (arith, ints, clamps, i.0, i.1, k, l)))
    (λ l. let u : int_min a c ≡ c = omega (arith, ints, clamps, i.0, i.1) in
    let m : (c *ℤ d) ≤ℤ x = subst (λ z. (z *ℤ d) ≤ℤ x) u low in
    by_lt_z b c (λ k. absurd (omega (arith, ints, e, m, mul_lt b c d h k))) (λ k. omega (arith, ints, clamps, i.0, i.1, k, l)))

not_at_end : (q : Point) (a b c : Corner) → IsStrictlyInside c a b → IsOnEdge q a c → IsPlaceOf q b → ⊥
not_at_end q a b c h k e =
    let i = inside_from_strictly c a b h in
    h.not_end (corner_same c b
    (reached_in a.x b.x c.x q.d q.x q.d_positive i.0.0 k.from_x k.to_x e.same_x)
    (reached_in a.y b.y c.y q.d q.y q.d_positive i.0.1 k.from_y k.to_y e.same_y))

-- nor the second part a
not_at_start : (q : Point) (a b c : Corner) → IsStrictlyInside c a b → IsOnEdge q c b → IsPlaceOf q a → ⊥
not_at_start q a b c h k e = not_at_end q b a c (strictly_back c a b h) (on_edge_back c b q k) e

-- ---- corner k lies strictly inside the edge between its neighbours; without it the edges meet only as neighbours
module _ (ring : List Corner) (k : ℕ) (big : 3 < length ring) (below : k < length ring)
    (simple : MeetOnlyAsNeighbours (remove ring k))
    (inside : IsStrictlyInside (corner_at ring k) (previous ring k) (next ring k)) where
  abbrev n : ℕ
  n = length ring

  -- the number of the edge that is cut, in the ring without k
  abbrev whole : ℕ
  whole = number_left k (before n k)

  before_off : before n k ≢ k
  before_off e = before_other n k (omega arith) below (sym e)

  after_off : after n k ≢ k
  after_off = after_other n k (omega arith) below

  whole_in : whole < length (remove ring k)
  whole_in = left_within ring k below (before n k) (before_in n k below) before_off

  -- what is on either part is on the whole
  on_gap : (q : Point) → IsOnEdge q (previous ring k) (next ring k) → IsOnEdgeAt q (remove ring k) whole
  on_gap q h =
      subst (λ c. IsOnEdge q c (next (remove ring k) whole)) (sym (corner_left ring k below (before n k) before_off))
      (subst (IsOnEdge q (previous ring k))
      (sym (next_over ring k below (before n k) (omega arith) (before_in n k below) before_off refl)) h)

  part_first : (q : Point) → IsOnEdgeAt q ring (before n k) → IsOnEdge q (previous ring k) (corner_at ring k)
  part_first q h = subst (λ j. IsOnEdge q (previous ring k) (corner_at ring j)) (after_before n k below) h

  -- the other edges are there without k, too
  record IsOther (f : ℕ) : Type 0 where
    in_ring : f < n
    not_second : f ≢ k
    not_first : f ≢ before n k

  other_in : (f : ℕ) → IsOther f → number_left k f < length (remove ring k)
  other_in f o = left_within ring k below f o.in_ring o.not_second

  on_other : (q : Point) (f : ℕ) → IsOther f → IsOnEdgeAt q ring f → IsOnEdgeAt q (remove ring k) (number_left k f)
  on_other q f o h =
      subst (λ c. IsOnEdge q c (next (remove ring k) (number_left k f))) (sym (corner_left ring k below f o.not_second))
      (subst (IsOnEdge q (corner_at ring f)) (sym (next_kept ring k below f o.in_ring o.not_second o.not_first)) h)

  place_other : (q : Point) (f : ℕ) → f ≢ k → IsPlaceOf q (corner_at (remove ring k) (number_left k f))
      → IsPlaceOf q (corner_at ring f)
  place_other q f off h = subst (IsPlaceOf q) (corner_left ring k below f off) h

  numbers_same : (i j : ℕ) → i ≢ k → j ≢ k → number_left k i ≡ number_left k j → i ≡ j
  numbers_same i j a b e = sym (before_left k i a) ∙ ap (number_before k) e ∙ before_left k j b

  -- the number that follows another edge's
  follows_other : (f g : ℕ) → IsOther f → g ≢ k → number_left k g ≡ after (length (remove ring k)) (number_left k f) → g ≡ after n f
  follows_other f g o off e =
      sym (before_left k g off) ∙ ap (number_before k) e ∙ number_next ring k below f o.in_ring o.not_second o.not_first

  follows_whole : (f : ℕ) → f ≢ k → number_left k f ≡ after (length (remove ring k)) whole → f ≡ after n k
  follows_whole f off e = numbers_same f (after n k) off after_off (e ∙ gap_closes ring k below (omega arith))

  -- ---- two edges with a point in common
  -- of another edge and the whole, it is where the other follows it or leads to it
  meets_whole : (q : Point) (f : ℕ) → IsOther f → IsOnEdgeAt q ring f → IsOnEdge q (previous ring k) (next ring k)
      → ¬ ((f ≡ after n k) × IsPlaceOf q (next ring k)) → ¬ ((before n k ≡ after n f) × IsPlaceOf q (previous ring k)) → ⊥
  meets_whole q f o on gap not_next not_previous =
      apart_meet (remove ring k) simple whole (number_left k f) whole_in (other_in f o)
      (λ e. o.not_first (sym (numbers_same (before n k) f before_off o.not_second e)))
      q (on_gap q gap) (on_other q f o on)
      (λ s. ⊎_elim
      (λ z. let e = follows_whole f o.not_second z.0 in
      not_next (e, subst (λ j. IsPlaceOf q (corner_at ring j)) e (place_other q f o.not_second z.1)))
      (λ z. not_previous (follows_other f (before n k) o before_off z.0, place_other q (before n k) before_off z.1))
      s)

  first_and_other : (q : Point) (f : ℕ) → IsOther f → IsOnEdgeAt q ring (before n k) → IsOnEdgeAt q ring f
      → ¬ IsSharedCorner q ring (before n k) f → ⊥
  first_and_other q f o on on_f not =
      let part = part_first q on in
      meets_whole q f o on_f (on_whole_first q (previous ring k) (next ring k) (corner_at ring k) inside part)
      (λ z. not_at_end q (previous ring k) (next ring k) (corner_at ring k) inside part z.1)
      (λ z. not (inr z))

  second_and_other : (q : Point) (f : ℕ) → IsOther f → IsOnEdgeAt q ring k → IsOnEdgeAt q ring f → ¬ IsSharedCorner q ring k f → ⊥
  second_and_other q f o on on_f not =
      meets_whole q f o on_f (on_whole_second q (previous ring k) (next ring k) (corner_at ring k) inside on)
      (λ z. not (inl (z.0, subst (λ j. IsPlaceOf q (corner_at ring j)) (sym z.0) z.1)))
      (λ z. not_at_start q (previous ring k) (next ring k) (corner_at ring k) inside on z.1)

  first_and_second : (q : Point) → IsOnEdgeAt q ring (before n k) → IsOnEdgeAt q ring k → ¬ IsSharedCorner q ring (before n k) k → ⊥
  first_and_second q on on_k not =
      not (inl (
        sym (after_before n k below),
        parts_meet q (previous ring k) (next ring k) (corner_at ring k) inside (part_first q on) on_k,
      ))

  both_other : (q : Point) (i j : ℕ) → IsOther i → IsOther j → i ≢ j → IsOnEdgeAt q ring i → IsOnEdgeAt q ring j
      → ¬ IsSharedCorner q ring i j → ⊥
  both_other q i j o p off on_i on_j not =
      apart_meet (remove ring k) simple (number_left k i) (number_left k j) (other_in i o) (other_in j p)
      (λ e. off (numbers_same i j o.not_second p.not_second e)) q (on_other q i o on_i) (on_other q j p on_j)
      (λ s. ⊎_elim
      (λ z. not (inl (follows_other i j o p.not_second z.0, place_other q j p.not_second z.1)))
      (λ z. not (inr (follows_other j i p o.not_second z.0, place_other q i o.not_second z.1)))
      s)

  -- which edge it is
  abbrev Kind : ℕ → Type 0
  Kind f = (f ≡ before n k) ⊎ ((f ≡ k) ⊎ IsOther f)

  kind_of : (f : ℕ) → f < n → Kind f
  kind_of f b =
      ⊎_elim (λ e. inl e)
      (λ off. ⊎_elim (λ e. inr (inl e)) (λ far. inr (inr (record { in_ring = b; not_second = far; not_first = off }))) (same_or f k))
      (same_or f (before n k))

  turned : (q : Point) (i j : ℕ) → ¬ IsSharedCorner q ring i j → ¬ IsSharedCorner q ring j i
  turned q i j not (inl z) = not (inr z)
  turned q i j not (inr z) = not (inl z)

  met : (q : Point) (i j : ℕ) → i ≢ j → Kind i → Kind j → IsOnEdgeAt q ring i → IsOnEdgeAt q ring j → ¬ IsSharedCorner q ring i j → ⊥
  met q i j off (inl a) (inl b) on_i on_j not = off (a ∙ sym b)
  met q i j off (inl a) (inr (inl b)) on_i on_j not =
      first_and_second q (subst (IsOnEdgeAt q ring) a on_i) (subst (IsOnEdgeAt q ring) b on_j)
      (λ s. not (subst (λ x. IsSharedCorner q ring x j) (sym a) (subst (IsSharedCorner q ring (before n k)) (sym b) s)))
  met q i j off (inl a) (inr (inr p)) on_i on_j not =
      first_and_other q j p (subst (IsOnEdgeAt q ring) a on_i) on_j (λ s. not (subst (λ x. IsSharedCorner q ring x j) (sym a) s))
  met q i j off (inr (inl a)) (inl b) on_i on_j not =
      first_and_second q (subst (IsOnEdgeAt q ring) b on_j) (subst (IsOnEdgeAt q ring) a on_i)
      (λ s. turned q i j not (subst (λ x. IsSharedCorner q ring x i) (sym b) (subst (IsSharedCorner q ring (before n k)) (sym a) s)))
  met q i j off (inr (inl a)) (inr (inl b)) on_i on_j not = off (a ∙ sym b)
  met q i j off (inr (inl a)) (inr (inr p)) on_i on_j not =
      second_and_other q j p (subst (IsOnEdgeAt q ring) a on_i) on_j (λ s. not (subst (λ x. IsSharedCorner q ring x j) (sym a) s))
  met q i j off (inr (inr o)) (inl b) on_i on_j not =
      first_and_other q i o (subst (IsOnEdgeAt q ring) b on_j) on_i
      (λ s. turned q i j not (subst (λ x. IsSharedCorner q ring x i) (sym b) s))
  met q i j off (inr (inr o)) (inr (inl b)) on_i on_j not =
      second_and_other q i o (subst (IsOnEdgeAt q ring) b on_j) on_i
      (λ s. turned q i j not (subst (λ x. IsSharedCorner q ring x i) (sym b) s))
  met q i j off (inr (inr o)) (inr (inr p)) on_i on_j not = both_other q i j o p off on_i on_j not

  pub one_more : MeetOnlyAsNeighbours ring
  one_more i j o b m = met m.0 i j (λ e. omega arith) (kind_of i (omega arith)) (kind_of j b) m.1 m.2 m.3
