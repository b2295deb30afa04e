-- A ring without one of its corners: the numbers of the other corners, and their neighbours.
use Rattle.std.proofs.Common.{◌≡◌, ◌≢◌, ℕ, zero, suc, ◌+◌, ◌-◌, ◌<◌, ◌∙◌, sym, ap, refl, arith}
use Rattle.std.proofs.Common.{if◌then◌else◌}
use Rattle.std.proofs.Common.{List, [], ◌∷◌, length}
use Rattle.std.specs.Prelude.{nat_lt}
use Rattle.std.specs.List.{remove}
use Rattle.std.proofs.lemmas.Bool.Decides.{nat_tests}
use Rattle.geo_exact.specs.declared.corner.Corner.{Corner}
use Rattle.geo_exact.specs.Places.{corner_at, after, before}
use Rattle.ring_core.specs.Clipping.{previous, next}
use Rattle.ring_core.specs.own.Kinds.{number_before}
use Rattle.ring_core.proofs.edges.RoundNumbers.{before_in, before_other}
use Rattle.ring_core.proofs.clipping.TakenOut.{corner_kept}
use Rattle.ring_core.proofs.clipping.ClipSteps.{one_less}
use Rattle.ring_core.proofs.ears.LeftSimple.{number_kept, number_over, number_in}

-- the number that corner i has where corner k, another one, is taken out
abbrev pub number_left : ℕ → ℕ → ℕ
number_left k i = if nat_lt i k then i else i - 1

pub left_before : (k j : ℕ) → number_left k (number_before k j) ≡ j
left_before k j = grind (arith, nat_tests)

pub before_left : (k i : ℕ) → i ≢ k → number_before k (number_left k i) ≡ i
before_left k i h = grind (arith, nat_tests)

left_in : (m n k i : ℕ) → m + 1 ≡ n → i < n → k < n → i ≢ k → number_left k i < m
left_in m n k i e h b off = grind (arith, nat_tests)

pub number_back : (m n k j : ℕ) → m + 1 ≡ n → j < m → k < n → number_before k j ≢ after n k
    → number_before k (before m j) ≡ before n (number_before k j)
number_back m n k j e h i off = grind (arith, nat_tests)

pub number_back_over : (m n k j : ℕ) → m + 1 ≡ n → j < m → k < n → 1 < m → number_before k j ≡ after n k
    → number_before k (before m j) ≡ before n k
number_back_over m n k j e h i l on = grind (arith, nat_tests)

module _ (ring : List Corner) (k : ℕ) (below : k < length ring) where
  pub one_fewer : length (remove ring k) + 1 ≡ length ring
  one_fewer = one_less ring (remove ring k) k below refl

  pub number_within : (j : ℕ) → j < length (remove ring k) → number_before k j < length ring
  number_within j b = number_in (length (remove ring k)) (length ring) k j one_fewer b

  pub left_within : (i : ℕ) → i < length ring → i ≢ k → number_left k i < length (remove ring k)
  left_within i b off = left_in (length (remove ring k)) (length ring) k i one_fewer b below off

  -- a corner that is left, by the number that it had
  pub corner_left : (i : ℕ) → i ≢ k → corner_at (remove ring k) (number_left k i) ≡ corner_at ring i
  corner_left i off = corner_kept ring k (number_left k i) below ∙ ap (corner_at ring) (before_left k i off)

  -- the numbers of its neighbours, and they, away from the gap and beside it
  pub number_next : (i : ℕ) → i < length ring → i ≢ k → i ≢ before (length ring) k
      → number_before k (after (length (remove ring k)) (number_left k i)) ≡ after (length ring) i
  number_next i b off far =
      number_kept (length (remove ring k)) (length ring) k (number_left k i) one_fewer (left_within i b off) below
      (λ e. far (sym (before_left k i off) ∙ e)) ∙ ap (after (length ring)) (before_left k i off)

  pub number_previous : (i : ℕ) → i < length ring → i ≢ k → i ≢ after (length ring) k
      → number_before k (before (length (remove ring k)) (number_left k i)) ≡ before (length ring) i
  number_previous i b off far =
      number_back (length (remove ring k)) (length ring) k (number_left k i) one_fewer (left_within i b off) below
      (λ e. far (sym (before_left k i off) ∙ e)) ∙ ap (before (length ring)) (before_left k i off)

  pub next_kept : (i : ℕ) → i < length ring → i ≢ k → i ≢ before (length ring) k
      → next (remove ring k) (number_left k i) ≡ next ring i
  next_kept i b off far =
      corner_kept ring k (after (length (remove ring k)) (number_left k i)) below ∙ ap (corner_at ring) (number_next i b off far)

  pub next_over : (i : ℕ) → 2 < length ring → i < length ring → i ≢ k → i ≡ before (length ring) k
      → next (remove ring k) (number_left k i) ≡ next ring k
  next_over i big b off on =
      corner_kept ring k (after (length (remove ring k)) (number_left k i)) below
      ∙ ap (corner_at ring)
      (number_over (length (remove ring k)) (length ring) k (number_left k i) one_fewer (left_within i b off) below
      (omega (arith, one_fewer)) (before_left k i off ∙ on))

  pub previous_kept : (i : ℕ) → i < length ring → i ≢ k → i ≢ after (length ring) k
      → previous (remove ring k) (number_left k i) ≡ previous ring i
  previous_kept i b off far =
      corner_kept ring k (before (length (remove ring k)) (number_left k i)) below ∙ ap (corner_at ring) (number_previous i b off far)

  pub previous_over : (i : ℕ) → 2 < length ring → i < length ring → i ≢ k → i ≡ after (length ring) k
      → previous (remove ring k) (number_left k i) ≡ previous ring k
  previous_over i big b off on =
      corner_kept ring k (before (length (remove ring k)) (number_left k i)) below
      ∙ ap (corner_at ring)
      (number_back_over (length (remove ring k)) (length ring) k (number_left k i) one_fewer (left_within i b off) below
      (omega (arith, one_fewer)) (before_left k i off ∙ on))

  -- the edge that closes the gap
  pub gap_closes : 2 < length ring
      → after (length (remove ring k)) (number_left k (before (length ring) k)) ≡ number_left k (after (length ring) k)
  gap_closes big =
      let off : before (length ring) k ≢ k = λ e. before_other (length ring) k big below (sym e) in
      sym (left_before k (after (length (remove ring k)) (number_left k (before (length ring) k))))
      ∙ ap (number_left k)
      (number_over (length (remove ring k)) (length ring) k (number_left k (before (length ring) k)) one_fewer
      (left_within (before (length ring) k) (before_in (length ring) k below) off) below
      (omega (arith, one_fewer)) (before_left k (before (length ring) k) off))

-- two corners may be taken out in either order
left_of_first : (j : ℕ) → number_left 0 (suc j) ≡ j
left_of_first j = grind (arith, nat_tests)

left_first : (j : ℕ) → number_left (suc j) 0 ≡ 0
left_first j = grind (arith, nat_tests)

left_next : (i j : ℕ) → i ≢ j → number_left (suc i) (suc j) ≡ suc (number_left i j)
left_next i j h = grind (arith, nat_tests)

pub remove_twice : {X : Type 0} (xs : List X) (i j : ℕ) → i < length xs → j < length xs → i ≢ j
    → remove (remove xs i) (number_left i j) ≡ remove (remove xs j) (number_left j i)
remove_twice [] i j bi bj off = absurd (omega arith)
remove_twice (x ∷ xs) zero zero bi bj off = absurd (off refl)
remove_twice (x ∷ xs) zero (suc j) bi bj off = ap (remove xs) (left_of_first j) ∙ sym (ap (remove (x ∷ remove xs j)) (left_first j))
remove_twice (x ∷ xs) (suc i) zero bi bj off = ap (remove (x ∷ remove xs i)) (left_first i) ∙ sym (ap (remove xs) (left_of_first i))
remove_twice (x ∷ xs) (suc i) (suc j) bi bj off =
    ap (remove (x ∷ remove xs i)) (left_next i j (λ e. off (ap suc e)))
    ∙ ap (λ rest. x ∷ rest) (remove_twice xs i j (omega arith) (omega arith) (λ e. off (ap suc e)))
    ∙ sym (ap (remove (x ∷ remove xs j)) (left_next j i (λ e. off (ap suc (sym e)))))
