-- A left turn that is no ear: the corner of its triangle that is farthest from the side opposite is at the end of a diagonal.
use Rattle.std.proofs.Common.{◌≡◌, ◌≢◌, ◌⊎◌, inl, inr, ⊎_elim, ℕ, zero, suc, ◌<◌, ◌∙◌, sym, ap, subst, refl}
use Rattle.std.proofs.Common.{arith, List, [], ◌∷◌, length}
use Rattle.std.proofs.lemmas.Bool.{cases_lt}
use Rattle.std.proofs.lemmas.Bool.Decides.{nat_tests}
use Rattle.std.proofs.lemmas.Int.{ints, by_lt_z}
use lib.IntN.{ℤ, pos, ◌+ℤ◌, ◌-ℤ◌, ◌*ℤ◌}
use lib.Signed.{◌<ℤ◌, ◌≤ℤ◌}
use Rattle.geo_exact.specs.declared.corner.Corner.{Corner}
use Rattle.geo_exact.specs.Point.{Point, corner_point}
use Rattle.geo_exact.specs.Turn.{turn, turn_at, IsOnEdge}
use Rattle.geo_exact.specs.Places.{corner_at, after, before}
use Rattle.geo_exact.specs.Segments.{IsOnSegment}
use Rattle.geo_exact.proofs.numbers.Orders.{le_of_lt, le_both, positive_not_zero}
use Rattle.geo_exact.proofs.numbers.Signs.{mul_pos, mul_not_neg, pos_of_mul, mul_zero}
use Rattle.geo_exact.proofs.numbers.Polynomials.{var, lit, add, mul, sub, same_by}
use Rattle.geo_exact.proofs.corners_and_turns.TurnLaws.{turn_at_corner, turn_cycle, turn_at_cycle}
use Rattle.geo_exact.proofs.corners_and_turns.OnEdge.{starts_on, ends_on, on_edge_start, on_edge_end}
use Rattle.geo_exact.proofs.rings.Triangles.{on_triangle_edge}
use Rattle.geo_exact.proofs.rings.Ways.{segment_back}
use Rattle.geo_exact.proofs.corners_and_turns.Means.{segment_of_edge}
use Rattle.ring_core.specs.Simple.{IsOnEdgeAt, MeetOnlyAsNeighbours}
use Rattle.ring_core.specs.Clipping.{IsInTriangle, previous, next, Blocks}
use Rattle.ring_core.specs.Diagonals.{IsDiagonal}
use Rattle.ring_core.proofs.edges.RoundNumbers.{before_in, after_in}
use Rattle.ring_core.proofs.clipping.Gaps.{IsBeside, start_beyond, end_beyond, at_first, corner_mean}
use Rattle.ring_core.proofs.ears.LeftSimple.{same_or, apart_meet, after_before, before_of_after, beside}

-- ---- the greatest of the numbers with a property, by a measure
record IsGreatest (P : ℕ → Type 0) (g : ℕ → ℤ) (n z : ℕ) : Type 0 where
  below : z < n
  has : P z
  greatest : (i : ℕ) → i < n → P i → g i ≤ℤ g z

le_next : (i n : ℕ) → i < suc n → (i < n) ⊎ (i ≡ n)
le_next i n h = ⊎_elim (λ p. inl p) (λ q. inr (omega arith)) (cases_lt i n)

greatest_of : (P : ℕ → Type 0) (g : ℕ → ℤ) → ((j : ℕ) → P j ⊎ (¬ P j)) → (n : ℕ) → ((j : ℕ) → j < n → ¬ P j)
    ⊎
    ((z : ℕ) × IsGreatest P g n z)
greatest_of P g or zero = inl (λ j h. absurd (omega arith))
greatest_of P g or (suc n) = ⊎_elim (λ none. first none (or n)) (λ z. later z (or n)) (greatest_of P g or n)
  where
    first : ((j : ℕ) → j < n → ¬ P j) → P n ⊎ (¬ P n) → ((j : ℕ) → j < suc n → ¬ P j)
        ⊎ ((z : ℕ) × IsGreatest P g (suc n) z)
    first none (inl h) = inr (
      n,
      record {
        below = omega arith;
        has = h;
        greatest = λ i b k. ⊎_elim (λ p. absurd (none i p k)) (λ (e : i ≡ n). subst (λ j. g j ≤ℤ g n) (sym e) (itself (g n)))
            (le_next i n b);
      },
    )
      where
        itself : (x : ℤ) → x ≤ℤ x
        itself x = omega (arith, ints)
    first none (inr h) = inl (λ j b k. ⊎_elim (λ p. none j p k) (λ (e : j ≡ n). h (subst P e k)) (le_next j n b))

    later : ((z : ℕ) × IsGreatest P g n z) → P n ⊎ (¬ P n) → ((j : ℕ) → j < suc n → ¬ P j)
        ⊎ ((z : ℕ) × IsGreatest P g (suc n) z)
    later z (inr h) = inr (
      z.0,
      record {
        below = let b = z.1.below in omega arith;
        has = z.1.has;
        greatest = λ i b k. ⊎_elim (λ p. z.1.greatest i p k) (λ (e : i ≡ n). absurd (h (subst P e k))) (le_next i n b);
      },
    )
    later z (inl h) = by_lt_z (g z.0) (g n)
        (λ o. inr (
          n,
          record {
            below = omega arith;
            has = h;
            greatest = λ i b k. ⊎_elim (λ p. both (g i) (g z.0) (g n) (z.1.greatest i p k) o)
                (λ (e : i ≡ n). subst (λ j. g j ≤ℤ g n) (sym e) (itself (g n)))
                (le_next i n b);
          },
        ))
        (λ o. inr (
          z.0,
          record {
            below = let b = z.1.below in omega arith;
            has = z.1.has;
            greatest = λ i b k. ⊎_elim (λ p. z.1.greatest i p k) (λ (e : i ≡ n). subst (λ j. g j ≤ℤ g z.0) (sym e) o)
                (le_next i n b);
          },
        ))
      where
        itself : (x : ℤ) → x ≤ℤ x
        itself x = omega (arith, ints)

        both : (x y z : ℤ) → x ≤ℤ y → y <ℤ z → x ≤ℤ z
        both x y z h k = omega (arith, ints)

-- ---- which corners are in the triangle
in_triangle_or : (q a b c : Corner) → IsInTriangle q a b c ⊎ (¬ IsInTriangle q a b c)
in_triangle_or q a b c =
    by_lt_z (turn a b q) (pos 0) (λ h. inr (λ i. never (turn a b q) h i.along_ab))
    (λ h. by_lt_z (turn b c q) (pos 0) (λ k. inr (λ i. never (turn b c q) k i.along_bc))
    (λ k. by_lt_z (turn c a q) (pos 0) (λ l. inr (λ i. never (turn c a q) l i.along_ca))
    (λ l. inl (record { along_ab = h; along_bc = k; along_ca = l }))))
  where
    never : (t : ℤ) → t <ℤ pos 0 → pos 0 ≤ℤ t → ⊥
    never t h i = omega (arith, ints)

pub blocks_or : (ring : List Corner) (k j : ℕ) → Blocks ring k j ⊎ (¬ Blocks ring k j)
blocks_or ring k j =
    ⊎_elim (λ e. inr (λ b. b.not_before e)) (λ p. ⊎_elim (λ e. inr (λ b. b.not_same e))
    (λ q. ⊎_elim (λ e. inr (λ b. b.not_after e))
    (λ r. ⊎_elim (λ i. inl (record { not_before = p; not_same = q; not_after = r; is_inside = i })) (λ i. inr (λ b. i b.is_inside))
    (in_triangle_or (corner_at ring j) (previous ring k) (corner_at ring k) (next ring k)))
    (same_or j (after (length ring) k))) (same_or j k)) (same_or j (before (length ring) k))

-- ---- signs, over plain numbers
pub four_numbers : (n k z : ℕ) → z < n → k < n → z ≢ before n k → z ≢ k → z ≢ after n k → 3 < n
four_numbers n k z h i a b c = grind (arith, nat_tests)

before_same : (n k z : ℕ) → k < n → z < n → before n k ≡ before n z → k ≡ z
before_same n k z h i e = grind (arith, nat_tests)

after_of_before : (n k z : ℕ) → z < n → before n z ≡ k → z ≡ after n k
after_of_before n k z h e = grind (arith, nat_tests)

-- a mean of t and g, with some of t above g, is above g
above_low : (k m n t g z d : ℤ) → pos 0 <ℤ k → pos 0 <ℤ m → k *ℤ z ≡ m *ℤ t +ℤ n *ℤ g
    → k *ℤ d ≡ m *ℤ pos 1 +ℤ n *ℤ pos 1 → g <ℤ t →
    (g *ℤ d) <ℤ z
above_low k m n t g z d hk hm e f h =
    less (g *ℤ d) z (pos_of_mul k (z -ℤ g *ℤ d) hk
    (subst (λ x. pos 0 <ℤ x) (sym (by_parts k m n t g z d e f)) (mul_pos m (t -ℤ g) hm (apart g t h))))
  where
    less : (x y : ℤ) → pos 0 <ℤ (y -ℤ x) → x <ℤ y
    less x y h = omega (arith, ints)

    apart : (x y : ℤ) → x <ℤ y → pos 0 <ℤ (y -ℤ x)
    apart x y h = omega (arith, ints)

    by_parts : (k m n t g z d : ℤ) → k *ℤ z ≡ m *ℤ t +ℤ n *ℤ g → k *ℤ d ≡ m *ℤ pos 1 +ℤ n *ℤ pos 1
        → k *ℤ (z -ℤ g *ℤ d) ≡ m *ℤ (t -ℤ g)
    by_parts k m n t g z d e f =
        same_by (k ∷ z ∷ g ∷ d ∷ []) (mul (var 0) (sub (var 1) (mul (var 2) (var 3))))
        (sub (mul (var 0) (var 1)) (mul (var 2) (mul (var 0) (var 3)))) refl
        ∙ ap (λ x. x -ℤ g *ℤ (k *ℤ d)) e
        ∙ ap (λ x. (m *ℤ t +ℤ n *ℤ g) -ℤ g *ℤ x) f
        ∙ same_by (m ∷ n ∷ t ∷ g ∷ [])
        (sub (add (mul (var 0) (var 2)) (mul (var 1) (var 3)))
        (mul (var 3) (add (mul (var 0) (lit (pos 1))) (mul (var 1) (lit (pos 1))))))
        (mul (var 0) (sub (var 2) (var 3)))
        refl

-- a mean of numbers that are at most g is at most g
mean_low : (k m n s t g z d : ℤ) → pos 0 <ℤ k → pos 0 ≤ℤ m → pos 0 ≤ℤ n → k *ℤ z ≡ m *ℤ s +ℤ n *ℤ t
    → k *ℤ d ≡ m *ℤ pos 1 +ℤ n *ℤ pos 1
    → s ≤ℤ g → t ≤ℤ g → (g *ℤ d) <ℤ z → ⊥
mean_low k m n s t g z d hk hm hn e f hs ht h =
    never (k *ℤ (z -ℤ g *ℤ d)) (m *ℤ (g -ℤ s)) (n *ℤ (g -ℤ t)) (by_parts k m n s t g z d e f)
    (mul_pos k (z -ℤ g *ℤ d) hk (apart (g *ℤ d) z h)) (mul_not_neg m (g -ℤ s) hm (rest s g hs))
    (mul_not_neg n (g -ℤ t) hn (rest t g ht))
  where
    never : (x y z : ℤ) → x +ℤ (y +ℤ z) ≡ pos 0 → pos 0 <ℤ x → pos 0 ≤ℤ y → pos 0 ≤ℤ z → ⊥
    never x y z e h i j = omega (arith, ints)

    apart : (x y : ℤ) → x <ℤ y → pos 0 <ℤ (y -ℤ x)
    apart x y h = omega (arith, ints)

    rest : (x y : ℤ) → x ≤ℤ y → pos 0 ≤ℤ (y -ℤ x)
    rest x y h = omega (arith, ints)

    nothing : (z : ℤ) → z -ℤ z ≡ pos 0
    nothing z = omega (arith, ints)

    by_parts : (k m n s t g z d : ℤ) → k *ℤ z ≡ m *ℤ s +ℤ n *ℤ t → k *ℤ d ≡ m *ℤ pos 1 +ℤ n *ℤ pos 1
        → k *ℤ (z -ℤ g *ℤ d) +ℤ (m *ℤ (g -ℤ s) +ℤ n *ℤ (g -ℤ t)) ≡ pos 0
    by_parts k m n s t g z d e f =
        same_by (k ∷ z ∷ g ∷ d ∷ (m *ℤ (g -ℤ s) +ℤ n *ℤ (g -ℤ t)) ∷ [])
        (add (mul (var 0) (sub (var 1) (mul (var 2) (var 3)))) (var 4))
        (add (sub (mul (var 0) (var 1)) (mul (var 2) (mul (var 0) (var 3)))) (var 4)) refl
        ∙ ap (λ x. (x -ℤ g *ℤ (k *ℤ d)) +ℤ (m *ℤ (g -ℤ s) +ℤ n *ℤ (g -ℤ t))) e
        ∙ ap (λ x. ((m *ℤ s +ℤ n *ℤ t) -ℤ g *ℤ x) +ℤ (m *ℤ (g -ℤ s) +ℤ n *ℤ (g -ℤ t))) f
        ∙ same_by (m ∷ n ∷ s ∷ t ∷ g ∷ [])
        (add
        (sub (add (mul (var 0) (var 2)) (mul (var 1) (var 3)))
        (mul (var 4) (add (mul (var 0) (lit (pos 1))) (mul (var 1) (lit (pos 1))))))
        (add (mul (var 0) (sub (var 4) (var 2))) (mul (var 1) (sub (var 4) (var 3)))))
        (sub (var 0) (var 0))
        refl
        ∙ nothing m

level_start : (m n t : ℤ) → pos 0 <ℤ n → pos 0 <ℤ t → pos 0 <ℤ (m *ℤ pos 0 +ℤ n *ℤ t)
level_start m n t h i = omega (arith, ints, mul_pos n t h i, mul_zero m)

-- ---- a corner d in the triangle p c n, off the sides at c, and the way from c to d
pub inside_off : (p c n d : Corner) → pos 0 <ℤ turn p c n → IsInTriangle d p c n → ¬ IsOnEdge (corner_point d) p c
    → pos 0 <ℤ turn p c d
inside_off p c n d left i off =
    by_lt_z (pos 0) (turn p c d) (λ h. h)
    (λ h. absurd (off (on_triangle_edge p c n (corner_point d) left
    (turn_at_corner p c d ∙ le_both (turn p c d) (pos 0) h i.along_ab)
    (subst (λ z. pos 0 ≤ℤ z) (sym (turn_at_corner c n d)) i.along_bc)
    (subst (λ z. pos 0 ≤ℤ z) (sym (turn_at_corner n p d)) i.along_ca))))

pub left_round : (p c n : Corner) → pos 0 <ℤ turn p c n → pos 0 <ℤ turn c n p
left_round p c n h = subst (λ z. pos 0 <ℤ z) (sym (turn_cycle p c n)) h

inside_lower : (p c n d : Corner) → pos 0 <ℤ turn p c d → pos 0 <ℤ turn c n d → turn n p d <ℤ turn n p c
inside_lower p c n d h i =
    less (turn p c d) (turn c n d) (turn n p d) (turn p c n) (turn c n p) (turn n p c)
    (sym (ap (λ z. z +ℤ turn_at c n (corner_point d) +ℤ turn_at n p (corner_point d)) (turn_at_corner p c d)
    ∙ ap (λ z. turn p c d +ℤ z +ℤ turn_at n p (corner_point d)) (turn_at_corner c n d)
    ∙ ap (λ z. turn p c d +ℤ turn c n d +ℤ z) (turn_at_corner n p d))
    ∙ turn_at_cycle p c n (corner_point d) ∙ once (turn p c n))
    (turn_cycle p c n) (turn_cycle c n p) h i
  where
    once : (z : ℤ) → pos 1 *ℤ z ≡ z
    once z = omega (arith, ints)

    less : (a b c t u v : ℤ) → a +ℤ b +ℤ c ≡ t → u ≡ t → v ≡ u → pos 0 <ℤ a → pos 0 <ℤ b → c <ℤ v
    less a b c t u v e f g h i = omega (arith, ints)

left_of_way : (a b c d : Corner) → turn a b c ≡ pos 0 → pos 0 <ℤ turn a b d
    → (q : Point) (way : IsOnSegment q (corner_point c) (corner_point d)) → pos 0 <ℤ way.n → pos 0 <ℤ turn_at a b q
left_of_way a b c d on left q way n =
    pos_of_mul way.k (turn_at a b q) way.k_positive
    (subst (λ z. pos 0 <ℤ z) (sym (corner_mean a b c d q way ∙ ap (λ z. way.m *ℤ z +ℤ way.n *ℤ turn a b d) on))
    (level_start way.m way.n (turn a b d) n left))

-- an edge from s to t that is not at c, where what is higher than d is not in the triangle, has no point inside the way from c to d
module _ (p c n d s t : Corner) (U W : Type 0) (left : pos 0 <ℤ turn p c n) (e : IsBeside p c n s t U W)
    (first : pos 0 <ℤ turn p c d) (second : pos 0 <ℤ turn c n d) (third : pos 0 ≤ℤ turn n p d)
    (start_out : turn n p d <ℤ turn n p s → ¬ IsInTriangle s p c n) (end_out : turn n p d <ℤ turn n p t → ¬ IsInTriangle t p c n)
    (q : Point) (way : IsOnSegment q (corner_point c) (corner_point d)) (m : pos 0 <ℤ way.m) (n' : pos 0 <ℤ way.n) where
  left_first : pos 0 <ℤ turn_at p c q
  left_first = left_of_way p c c d (ends_on p c) first q way n'

  left_second : pos 0 <ℤ turn_at c n q
  left_second = left_of_way c n c d (starts_on c n) second q way n'

  higher : (turn n p d *ℤ q.d) <ℤ turn_at n p q
  higher =
      above_low way.k way.m way.n (turn n p c) (turn n p d) (turn_at n p q) q.d way.k_positive m (corner_mean n p c d q way) way.in_d
      (inside_lower p c n d first second)

  not_third : pos 0 ≤ℤ turn_at n p q
  not_third =
      over (turn n p d *ℤ q.d) (turn_at n p q) (mul_not_neg (turn n p d) q.d third (le_of_lt (pos 0) q.d q.d_positive)) higher
    where
      over : (x y : ℤ) → pos 0 ≤ℤ x → x <ℤ y → pos 0 ≤ℤ y
      over x y h i = omega (arith, ints)

  level_low : (x g : ℤ) → x ≡ pos 0 → pos 0 ≤ℤ g → g <ℤ x → ⊥
  level_low x g h i k = omega (arith, ints)

  below_third : (x g : ℤ) → x <ℤ pos 0 → pos 0 ≤ℤ g → g <ℤ x → ⊥
  below_third x g h i k = omega (arith, ints)

  pub none_across : IsOnEdge q s t → ⊥
  none_across on =
      by_lt_z (turn n p d) (turn n p s)
      (λ h. below_third (turn n p s) (turn n p d)
      (start_beyond p c n s t U W left e q on (start_out h) left_first left_second not_third
      (λ u. level_low (turn n p s) (turn n p d) (ap (λ (x : Corner). turn n p x) (e.starts u) ∙ starts_on n p) third h))
      third h)
      (λ low_s. by_lt_z (turn n p d) (turn n p t)
      (λ h. below_third (turn n p t) (turn n p d)
      (end_beyond p c n s t U W left e q on (end_out h) left_first left_second not_third
      (λ w. level_low (turn n p t) (turn n p d) (ap (λ (x : Corner). turn n p x) (e.ends w) ∙ ends_on n p) third h))
      third h)
      (λ low_t. let r = segment_of_edge s t q on in
      mean_low r.k r.m r.n (turn n p s) (turn n p t) (turn n p d) (turn_at n p q) q.d r.k_positive r.m_not_negative r.n_not_negative
      (corner_mean n p s t q r) r.in_d low_s low_t higher))

-- ---- a corner z in the closed triangle of corner k is on neither side at k
module _ (ring : List Corner) (k z : ℕ) (below : k < length ring) (simple : MeetOnlyAsNeighbours ring)
    (left : pos 0 <ℤ turn (previous ring k) (corner_at ring k) (next ring k)) (inside : z < length ring) (blocks : Blocks ring k z) where
  not_touching_first : IsOnEdge (corner_point (corner_at ring z)) (previous ring k) (corner_at ring k) → ⊥
  not_touching_first on =
      apart_meet ring simple (before (length ring) k) (before (length ring) z) (before_in (length ring) k below)
      (before_in (length ring) z inside)
      (λ e. blocks.not_same (sym (before_same (length ring) k z below inside e)))
      (corner_point (corner_at ring z))
      (subst (λ x. IsOnEdge (corner_point (corner_at ring z)) (previous ring k) (corner_at ring x))
      (sym (after_before (length ring) k below)) on)
      (subst (λ x. IsOnEdge (corner_point (corner_at ring z)) (corner_at ring (before (length ring) z)) (corner_at ring x))
      (sym (after_before (length ring) z inside)) (on_edge_end (corner_at ring (before (length ring) z)) (corner_at ring z)))
      (λ s. ⊎_elim
      (λ x. blocks.not_after (after_of_before (length ring) k z inside (x.0 ∙ after_before (length ring) k below)))
      (λ x. blocks.not_before (sym (x.0 ∙ after_before (length ring) z inside))) s)

  not_touching_second : IsOnEdge (corner_point (corner_at ring z)) (corner_at ring k) (next ring k) → ⊥
  not_touching_second on =
      apart_meet ring simple k z below inside (λ e. blocks.not_same (sym e)) (corner_point (corner_at ring z)) on
      (on_edge_start (corner_at ring z) (corner_at ring (after (length ring) z)))
      (λ s. ⊎_elim (λ x. blocks.not_after x.0) (λ x. blocks.not_before (before_of_after (length ring) k z inside x.0)) s)

  pub off_first : pos 0 <ℤ turn (previous ring k) (corner_at ring k) (corner_at ring z)
  off_first = inside_off (previous ring k) (corner_at ring k) (next ring k) (corner_at ring z) left blocks.is_inside not_touching_first

  pub off_second : pos 0 <ℤ turn (corner_at ring k) (next ring k) (corner_at ring z)
  off_second =
      inside_off (corner_at ring k) (next ring k) (previous ring k) (corner_at ring z)
      (left_round (previous ring k) (corner_at ring k) (next ring k) left)
      (record { along_ab = blocks.is_inside.along_bc; along_bc = blocks.is_inside.along_ca; along_ca = blocks.is_inside.along_ab })
      not_touching_second

-- ---- the corner z in the closed triangle of corner k that is farthest from the side opposite
module _ (ring : List Corner) (k z : ℕ) (below : k < length ring) (simple : MeetOnlyAsNeighbours ring)
    (left : pos 0 <ℤ turn (previous ring k) (corner_at ring k) (next ring k))
    (top : IsGreatest (Blocks ring k) (λ j. turn (next ring k) (previous ring k) (corner_at ring j)) (length ring) z) where
  big : 3 < length ring
  big = four_numbers (length ring) k z top.below below top.has.not_before top.has.not_same top.has.not_after

  height : Corner → ℤ
  height c = turn (next ring k) (previous ring k) c

  -- what is higher than corner z is not in the triangle
  out : (f : ℕ) → f < length ring → f ≢ k
      → turn (next ring k) (previous ring k) (corner_at ring z) <ℤ turn (next ring k) (previous ring k) (corner_at ring f)
      → ¬ IsInTriangle (corner_at ring f) (previous ring k) (corner_at ring k) (next ring k)
  out f b not_k h i =
      not_less (turn (next ring k) (previous ring k) (corner_at ring z)) (turn (next ring k) (previous ring k) (corner_at ring f)) h
      (top.greatest f b (record {
        not_before = λ g. low (turn (next ring k) (previous ring k) (corner_at ring z))
            (turn (next ring k) (previous ring k) (corner_at ring f))
            top.has.is_inside.along_ca h
            (ap (λ j. turn (next ring k) (previous ring k) (corner_at ring j)) g ∙ ends_on (next ring k) (previous ring k));
        not_same = not_k;
        not_after = λ g. low (turn (next ring k) (previous ring k) (corner_at ring z))
            (turn (next ring k) (previous ring k) (corner_at ring f))
            top.has.is_inside.along_ca h
            (ap (λ j. turn (next ring k) (previous ring k) (corner_at ring j)) g ∙ starts_on (next ring k) (previous ring k));
        is_inside = i;
      }))
    where
      not_less : (x y : ℤ) → x <ℤ y → y ≤ℤ x → ⊥
      not_less x y h i = omega (arith, ints)

      low : (x y : ℤ) → pos 0 ≤ℤ x → x <ℤ y → y ≡ pos 0 → ⊥
      low x y h i e = omega (arith, ints)

  -- an edge has no point strictly inside the segment from corner k to corner z
  inner : (f : ℕ) → f < length ring → (q : Point) → IsOnEdgeAt q ring f
      → (way : IsOnSegment q (corner_point (corner_at ring k)) (corner_point (corner_at ring z))) → pos 0 <ℤ way.m
      → pos 0 <ℤ way.n → ⊥
  inner f b q on way m n =
      ⊎_elim
      (λ at_k. positive_not_zero (turn_at (corner_at ring k) (next ring k) q) at_second
      (IsOnEdge.on_line (subst (λ j. IsOnEdgeAt q ring j) at_k on)))
      (λ not_k. ⊎_elim
      (λ at_before. positive_not_zero (turn_at (previous ring k) (corner_at ring k) q) at_first_side
      (IsOnEdge.on_line (subst (λ j. IsOnEdge q (previous ring k) (corner_at ring j)) (after_before (length ring) k below)
      (subst (λ j. IsOnEdgeAt q ring j) at_before on))))
      (λ not_before. none_across (previous ring k) (corner_at ring k) (next ring k) (corner_at ring z)
      (corner_at ring f) (corner_at ring (after (length ring) f))
      (f ≡ after (length ring) k) (after (length ring) f ≡ before (length ring) k) left
      (beside ring k big below simple f b not_before not_k)
      (off_first ring k z below simple left top.below top.has) (off_second ring k z below simple left top.below top.has)
      top.has.is_inside.along_ca
      (out f b not_k) (out (after (length ring) f) (after_in (length ring) f b)
      (λ e. not_before (before_of_after (length ring) k f b (sym e))))
      q way m n on)
      (same_or f (before (length ring) k)))
      (same_or f k)
    where
      at_second : pos 0 <ℤ turn_at (corner_at ring k) (next ring k) q
      at_second = left_of_way (corner_at ring k) (next ring k) (corner_at ring k) (corner_at ring z)
          (starts_on (corner_at ring k) (next ring k)) (off_second ring k z below simple left top.below top.has) q way n

      at_first_side : pos 0 <ℤ turn_at (previous ring k) (corner_at ring k) q
      at_first_side = left_of_way (previous ring k) (corner_at ring k) (corner_at ring k) (corner_at ring z)
          (ends_on (previous ring k) (corner_at ring k)) (off_first ring k z below simple left top.below top.has) q way n

  is_diagonal : IsDiagonal ring k z
  is_diagonal f q b on way =
      by_lt_z (pos 0) way.n
      (λ n. by_lt_z (pos 0) way.m
      (λ m. absurd (inner f b q on way m n))
      (λ m. let back = segment_back q (corner_point (corner_at ring k)) (corner_point (corner_at ring z)) way in
      inr (at_first (corner_at ring z) (corner_at ring k) q back (le_both way.m (pos 0) m way.m_not_negative))))
      (λ n. inl (at_first (corner_at ring k) (corner_at ring z) q way (le_both way.n (pos 0) n way.n_not_negative)))

-- a left turn that is no ear has a diagonal to a corner in its triangle
pub diagonal_of_blocked : (ring : List Corner) (k j : ℕ) → k < length ring → j < length ring → MeetOnlyAsNeighbours ring
    → pos 0 <ℤ turn (previous ring k) (corner_at ring k) (next ring k) → Blocks ring k j
    → (z : ℕ) × (z < length ring) × Blocks ring k z × IsDiagonal ring k z
diagonal_of_blocked ring k j below b simple left blocks =
    ⊎_elim
    (λ none. absurd (none j b blocks))
    (λ z. (z.0, z.1.below, z.1.has, is_diagonal ring k z.0 below simple left z.1))
    (greatest_of (Blocks ring k) (λ i. turn (next ring k) (previous ring k) (corner_at ring i)) (blocks_or ring k) (length ring))
