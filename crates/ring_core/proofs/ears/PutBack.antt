-- Corners that are no neighbours of one that is taken out: the same are flat, and the same are ears where that one is the ring's least.
use Rattle.std.proofs.Common.{◌≡◌, ◌≢◌, ◌⊎◌, inl, inr, ⊎_elim, ℕ, ◌<◌, ◌∙◌, sym, ap, subst, refl, arith}
use Rattle.std.proofs.Common.{List, [], ◌∷◌, length}
use Rattle.std.specs.List.{remove}
use Rattle.std.proofs.lemmas.Int.{ints, by_lt_z}
use lib.IntN.{ℤ, pos, ◌+ℤ◌, ◌-ℤ◌, ◌*ℤ◌}
use lib.Signed.{◌<ℤ◌, ◌≤ℤ◌}
use Rattle.geo_exact.specs.declared.corner.Corner.{Corner}
use Rattle.geo_exact.specs.Turn.{turn}
use Rattle.geo_exact.specs.Order.{IsBefore}
use Rattle.geo_exact.specs.Places.{corner_at, after, before}
use Rattle.geo_exact.proofs.numbers.Orders.{le_both, positive_not_zero}
use Rattle.geo_exact.proofs.numbers.Signs.{mul_pos, mul_not_neg}
use Rattle.geo_exact.proofs.numbers.Polynomials.{var, lit, add, mul, sub, same_by}
use Rattle.geo_exact.proofs.corners_and_turns.TurnLaws.{turn_expr}
use Rattle.geo_exact.proofs.rings.Wedges.{IsAhead, ahead, not_behind}
use Rattle.ring_core.specs.Clipping.{IsInTriangle, previous, next, IsFlat, Blocks, IsEar}
use Rattle.ring_core.specs.own.Kinds.{number_before}
use Rattle.ring_core.proofs.edges.RoundNumbers.{before_in, after_in}
use Rattle.ring_core.proofs.ears.LeftSimple.{same_or, after_before, before_of_after, number_same, number_not}
use Rattle.ring_core.proofs.clipping.TakenOut.{corner_kept}
use Rattle.ring_core.proofs.ears.EarWords.{IsFlatOrEar}
use Rattle.ring_core.proofs.ears.Renumbered.{IsLeast, flat_like, left_like, inside_like}
use Rattle.ring_core.proofs.ears.WithoutCorner.{number_left, before_left, left_before, number_within, left_within, corner_left}
use Rattle.ring_core.proofs.ears.WithoutCorner.{gap_closes, number_next, number_previous, next_kept, previous_kept}
use Rattle.ring_core.proofs.ears.LeastCorners.{is_before_of}

-- ---- a corner before the three of a left turn is not in their closed triangle
no_times : (k y : ℤ) → k ≡ pos 0 → k *ℤ y ≡ pos 0
no_times k y e = ap (λ z. z *ℤ y) e ∙ zero y
  where
    zero : (y : ℤ) → pos 0 *ℤ y ≡ pos 0
    zero y = omega (arith, ints)

-- what a weight that adds nothing in x adds in y
weighs_up : (k x y : ℤ) → pos 0 ≤ℤ k → IsAhead x y → k *ℤ x ≡ pos 0 → (k ≡ pos 0) ⊎ (pos 0 <ℤ (k *ℤ y))
weighs_up k x y hk (inl h) e =
    by_lt_z (pos 0) k (λ l. absurd (positive_not_zero (k *ℤ x) (mul_pos k x l h) e)) (λ l. inl (le_both k (pos 0) l hk))
weighs_up k x y hk (inr h) e = by_lt_z (pos 0) k (λ l. inr (mul_pos k y l h.1)) (λ l. inl (le_both k (pos 0) l hk))

not_down : (k y : ℤ) → (k ≡ pos 0) ⊎ (pos 0 <ℤ (k *ℤ y)) → pos 0 ≤ℤ (k *ℤ y)
not_down k y (inl e) = let f : k *ℤ y ≡ pos 0 = no_times k y e in omega (arith, ints)
not_down k y (inr h) = omega (arith, ints)

no_weight : (k y s : ℤ) → (k ≡ pos 0) ⊎ (pos 0 <ℤ (k *ℤ y)) → s +ℤ k *ℤ y ≡ pos 0 → pos 0 ≤ℤ s → k ≡ pos 0
no_weight k y s (inl e) f h = e
no_weight k y s (inr l) f h = absurd (never (k *ℤ y) s f l h)
  where
    never : (x s : ℤ) → s +ℤ x ≡ pos 0 → pos 0 <ℤ x → pos 0 ≤ℤ s → ⊥
    never x s e h i = omega (arith, ints)

-- the weights of a mean of three that are ahead
weightless : (k l m a b c u v w : ℤ) → pos 0 ≤ℤ k → pos 0 ≤ℤ l → pos 0 ≤ℤ m → IsAhead a u → IsAhead b v
    → IsAhead c w
    → k *ℤ a +ℤ l *ℤ b +ℤ m *ℤ c ≡ pos 0 → k *ℤ u +ℤ l *ℤ v +ℤ m *ℤ w ≡ pos 0 → (k ≡ pos 0) × (l ≡ pos 0)
    × (m ≡ pos 0)
weightless k l m a b c u v w hk hl hm ha hb hc e f =
    let x = mul_not_neg k a hk (not_behind a u ha) in
    let y = mul_not_neg l b hl (not_behind b v hb) in
    let z = mul_not_neg m c hm (not_behind c w hc) in
    let s = weighs_up k a u hk ha (first (k *ℤ a) (l *ℤ b) (m *ℤ c) e x y z) in
    let t = weighs_up l b v hl hb (second (k *ℤ a) (l *ℤ b) (m *ℤ c) e x y z) in
    let r = weighs_up m c w hm hc (third (k *ℤ a) (l *ℤ b) (m *ℤ c) e x y z) in (
      no_weight k u (l *ℤ v +ℤ m *ℤ w) s (last (k *ℤ u) (l *ℤ v) (m *ℤ w) f)
          (both (l *ℤ v) (m *ℤ w) (not_down l v t) (not_down m w r)),
      no_weight l v (k *ℤ u +ℤ m *ℤ w) t (middle (k *ℤ u) (l *ℤ v) (m *ℤ w) f)
          (both (k *ℤ u) (m *ℤ w) (not_down k u s) (not_down m w r)),
      no_weight m w (k *ℤ u +ℤ l *ℤ v) r f (both (k *ℤ u) (l *ℤ v) (not_down k u s) (not_down l v t)),
    )
  where
    first : (x y z : ℤ) → x +ℤ y +ℤ z ≡ pos 0 → pos 0 ≤ℤ x → pos 0 ≤ℤ y → pos 0 ≤ℤ z → x ≡ pos 0
    first x y z e h i j = omega (arith, ints)

    second : (x y z : ℤ) → x +ℤ y +ℤ z ≡ pos 0 → pos 0 ≤ℤ x → pos 0 ≤ℤ y → pos 0 ≤ℤ z → y ≡ pos 0
    second x y z e h i j = omega (arith, ints)

    third : (x y z : ℤ) → x +ℤ y +ℤ z ≡ pos 0 → pos 0 ≤ℤ x → pos 0 ≤ℤ y → pos 0 ≤ℤ z → z ≡ pos 0
    third x y z e h i j = omega (arith, ints)

    last : (x y z : ℤ) → x +ℤ y +ℤ z ≡ pos 0 → (y +ℤ z) +ℤ x ≡ pos 0
    last x y z e = omega (arith, ints)

    middle : (x y z : ℤ) → x +ℤ y +ℤ z ≡ pos 0 → (x +ℤ z) +ℤ y ≡ pos 0
    middle x y z e = omega (arith, ints)

    both : (x y : ℤ) → pos 0 ≤ℤ x → pos 0 ≤ℤ y → pos 0 ≤ℤ (x +ℤ y)
    both x y h i = omega (arith, ints)

pub weighed_x : (a b c q : Corner)
    → turn b c q *ℤ (a.x -ℤ q.x) +ℤ turn c a q *ℤ (b.x -ℤ q.x) +ℤ turn a b q *ℤ (c.x -ℤ q.x) ≡ pos 0
weighed_x a b c q =
    same_by (a.x ∷ a.y ∷ b.x ∷ b.y ∷ c.x ∷ c.y ∷ q.x ∷ q.y ∷ [])
    (add
    (add
    (mul (turn_expr (var 2) (var 3) (var 4) (var 5) (var 6) (var 7)) (sub (var 0) (var 6)))
    (mul (turn_expr (var 4) (var 5) (var 0) (var 1) (var 6) (var 7)) (sub (var 2) (var 6))))
    (mul (turn_expr (var 0) (var 1) (var 2) (var 3) (var 6) (var 7)) (sub (var 4) (var 6))))
    (lit (pos 0))
    refl

pub weighed_y : (a b c q : Corner)
    → turn b c q *ℤ (a.y -ℤ q.y) +ℤ turn c a q *ℤ (b.y -ℤ q.y) +ℤ turn a b q *ℤ (c.y -ℤ q.y) ≡ pos 0
weighed_y a b c q =
    same_by (a.x ∷ a.y ∷ b.x ∷ b.y ∷ c.x ∷ c.y ∷ q.x ∷ q.y ∷ [])
    (add
    (add
    (mul (turn_expr (var 2) (var 3) (var 4) (var 5) (var 6) (var 7)) (sub (var 1) (var 7)))
    (mul (turn_expr (var 4) (var 5) (var 0) (var 1) (var 6) (var 7)) (sub (var 3) (var 7))))
    (mul (turn_expr (var 0) (var 1) (var 2) (var 3) (var 6) (var 7)) (sub (var 5) (var 7))))
    (lit (pos 0))
    refl

pub turn_parts : (a b c q : Corner) → turn b c q +ℤ turn c a q +ℤ turn a b q ≡ turn a b c
turn_parts a b c q =
    same_by (a.x ∷ a.y ∷ b.x ∷ b.y ∷ c.x ∷ c.y ∷ q.x ∷ q.y ∷ [])
    (add
    (add (turn_expr (var 2) (var 3) (var 4) (var 5) (var 6) (var 7)) (turn_expr (var 4) (var 5) (var 0) (var 1) (var 6) (var 7)))
    (turn_expr (var 0) (var 1) (var 2) (var 3) (var 6) (var 7)))
    (turn_expr (var 0) (var 1) (var 2) (var 3) (var 4) (var 5))
    refl

pub before_is_outside : (q a b c : Corner) → IsBefore q a → IsBefore q b → IsBefore q c → pos 0 <ℤ turn a b c
    → ¬ IsInTriangle q a b c
before_is_outside q a b c ha hb hc left i =
    let w =
    weightless (turn b c q) (turn c a q) (turn a b q) (a.x -ℤ q.x) (b.x -ℤ q.x) (c.x -ℤ q.x) (a.y -ℤ q.y) (b.y -ℤ q.y)
    (c.y -ℤ q.y)
    i.along_bc i.along_ca i.along_ab (ahead q a ha) (ahead q b hb) (ahead q c hc) (weighed_x a b c q) (weighed_y a b c q) in
    nothing (turn b c q) (turn c a q) (turn a b q) (turn a b c) (turn_parts a b c q) w.0 w.1 w.2 left
  where
    nothing : (x y z t : ℤ) → x +ℤ y +ℤ z ≡ t → x ≡ pos 0 → y ≡ pos 0 → z ≡ pos 0 → pos 0 <ℤ t → ⊥
    nothing x y z t e f g h i = omega (arith, ints)

-- ---- corner g is taken out, and k is another corner, and no neighbour of g
module _ (ring : List Corner) (g k : ℕ) (below : g < length ring) (b : k < length ring) (off : k ≢ g)
    (not_before : k ≢ before (length ring) g) (not_after : k ≢ after (length ring) g) where
  pub flat_put_back : IsFlat (remove ring g) (number_left g k) → IsFlat ring k
  flat_put_back =
      flat_like (previous (remove ring g) (number_left g k)) (corner_at (remove ring g) (number_left g k))
      (next (remove ring g) (number_left g k)) (previous ring k) (corner_at ring k) (next ring k)
      (sym (previous_kept ring g below k b off not_after)) (sym (corner_left ring g below k off))
      (sym (next_kept ring g below k b off not_before))

  left_put_back : pos 0 <ℤ turn (previous (remove ring g) (number_left g k)) (corner_at (remove ring g) (number_left g k))
      (next (remove ring g) (number_left g k)) → pos 0 <ℤ turn (previous ring k) (corner_at ring k) (next ring k)
  left_put_back =
      left_like (previous (remove ring g) (number_left g k)) (corner_at (remove ring g) (number_left g k))
      (next (remove ring g) (number_left g k)) (previous ring k) (corner_at ring k) (next ring k)
      (sym (previous_kept ring g below k b off not_after)) (sym (corner_left ring g below k off))
      (sym (next_kept ring g below k b off not_before))

  pub left_left : pos 0 <ℤ turn (previous ring k) (corner_at ring k) (next ring k)
      → pos 0 <ℤ turn (previous (remove ring g) (number_left g k)) (corner_at (remove ring g) (number_left g k))
      (next (remove ring g) (number_left g k))
  left_left =
      left_like (previous ring k) (corner_at ring k) (next ring k) (previous (remove ring g) (number_left g k))
      (corner_at (remove ring g) (number_left g k)) (next (remove ring g) (number_left g k))
      (previous_kept ring g below k b off not_after) (corner_left ring g below k off) (next_kept ring g below k b off not_before)

  -- what blocks k without g blocks it in the ring
  blocks_put_back : (j : ℕ) → j < length (remove ring g) → Blocks (remove ring g) (number_left g k) j
      → Blocks ring k (number_before g j)
  blocks_put_back j c x = record {
    not_before = λ e. x.not_before (number_same g j (before (length (remove ring g)) (number_left g k))
        (e ∙ sym (number_previous ring g below k b off not_after)));
    not_same = λ e. x.not_same (sym (left_before g j) ∙ ap (number_left g) e);
    not_after = λ e. x.not_after (number_same g j (after (length (remove ring g)) (number_left g k))
        (e ∙ sym (number_next ring g below k b off not_before)));
    is_inside = inside_like (corner_at (remove ring g) j) (previous (remove ring g) (number_left g k))
        (corner_at (remove ring g) (number_left g k)) (next (remove ring g) (number_left g k))
        (corner_at ring (number_before g j)) (previous ring k) (corner_at ring k) (next ring k)
        (sym (corner_kept ring g j below)) (sym (previous_kept ring g below k b off not_after)) (sym (corner_left ring g below k off))
        (sym (next_kept ring g below k b off not_before)) x.is_inside;
  }

  -- and what blocks it in the ring, but g, blocks it without g
  pub blocks_left : (j : ℕ) → j < length ring → j ≢ g → Blocks ring k j
      → Blocks (remove ring g) (number_left g k) (number_left g j)
  blocks_left j c far x = record {
    not_before = λ e. x.not_before (sym (before_left g j far) ∙ ap (number_before g) e
        ∙ number_previous ring g below k b off not_after);
    not_same = λ e. x.not_same (sym (before_left g j far) ∙ ap (number_before g) e ∙ before_left g k off);
    not_after = λ e. x.not_after (sym (before_left g j far) ∙ ap (number_before g) e ∙ number_next ring g below k b off not_before);
    is_inside = inside_like (corner_at ring j) (previous ring k) (corner_at ring k) (next ring k)
        (corner_at (remove ring g) (number_left g j)) (previous (remove ring g) (number_left g k))
        (corner_at (remove ring g) (number_left g k)) (next (remove ring g) (number_left g k))
        (corner_left ring g below j far) (previous_kept ring g below k b off not_after) (corner_left ring g below k off)
        (next_kept ring g below k b off not_before) x.is_inside;
  }

  -- an ear stays one
  pub ear_left : IsEar ring k → IsEar (remove ring g) (number_left g k)
  ear_left x = record {
    turns_left = left_left x.turns_left;
    is_empty = λ j c blocks. x.is_empty (number_before g j) (number_within ring g below j c) (blocks_put_back j c blocks);
  }

  -- the least corner is in no such triangle
  least_outside : IsLeast ring g → pos 0 <ℤ turn (previous ring k) (corner_at ring k) (next ring k)
      → ¬ IsInTriangle (corner_at ring g) (previous ring k) (corner_at ring k) (next ring k)
  least_outside l left =
      before_is_outside (corner_at ring g) (previous ring k) (corner_at ring k) (next ring k)
      (is_before_of (corner_at ring g) (previous ring k) (l.least (before (length ring) k) (before_in (length ring) k b)
      (λ e. not_after (sym (after_before (length ring) k b) ∙ ap (after (length ring)) e))))
      (is_before_of (corner_at ring g) (corner_at ring k) (l.least k b off))
      (is_before_of (corner_at ring g) (next ring k) (l.least (after (length ring) k) (after_in (length ring) k b)
      (λ e. not_before (before_of_after (length ring) g k b (sym e)))))
      left

  ear_put_back : IsLeast ring g → IsEar (remove ring g) (number_left g k) → IsEar ring k
  ear_put_back l x =
      let left : pos 0 <ℤ turn (previous ring k) (corner_at ring k) (next ring k) = left_put_back x.turns_left in
      record {
        turns_left = left;
        is_empty = λ j c blocks. ⊎_elim
            (λ e. least_outside l left
            (subst (λ z. IsInTriangle (corner_at ring z) (previous ring k) (corner_at ring k) (next ring k)) e blocks.is_inside))
            (λ far. x.is_empty (number_left g j) (left_within ring g below j c far) (blocks_left j c far blocks))
            (same_or j g);
      }

  -- so what may be clipped without the least corner may be clipped with it
  pub put_back : IsLeast ring g → IsFlatOrEar (remove ring g) (number_left g k) → IsFlatOrEar ring k
  put_back l (inl f) = inl (flat_put_back f)
  put_back l (inr x) = inr (ear_put_back l x)

-- corner k is neither g nor a neighbour of it, and is flat or an ear
pub record IsFarEar (ring : List Corner) (g k : ℕ) : Type 0 where
  pub below : k < length ring
  pub not_same : k ≢ g
  pub not_before : k ≢ before (length ring) g
  pub not_after : k ≢ after (length ring) g
  pub flat_or_ear : IsFlatOrEar ring k

-- what may be clipped off the edge that closes the gap may be clipped with the least corner, and is no neighbour of it
pub far_ear : (ring : List Corner) (g k : ℕ) → 2 < length ring → IsLeast ring g → k < length (remove ring g)
    → k ≢ number_left g (before (length ring) g) → k ≢ after (length (remove ring g)) (number_left g (before (length ring) g))
    → IsFlatOrEar (remove ring g) k → IsFarEar ring g (number_before g k)
far_ear ring g k big l b off_start off_end x =
    let c : number_before g k < length ring = number_within ring g l.below k b in
    let not_before : number_before g k ≢ before (length ring) g = λ e. off_start (sym (left_before g k) ∙ ap (number_left g) e) in
    let not_after : number_before g k ≢ after (length ring) g = λ e. off_end
    (sym (left_before g k) ∙ ap (number_left g) e ∙ sym (gap_closes ring g l.below big)) in
    record {
      below = c;
      not_same = number_not g k;
      not_before = not_before;
      not_after = not_after;
      flat_or_ear = put_back ring g (number_before g k) l.below c (number_not g k) not_before not_after l
          (subst (IsFlatOrEar (remove ring g)) (sym (left_before g k)) x);
    }
