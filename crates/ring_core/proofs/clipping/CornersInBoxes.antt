-- A box holds the triangles that a simple ring is clipped to exactly where it holds the ring's corners.
use Rattle.std.proofs.Common.{◌≡◌, ◌≢◌, ◌∙◌, ◌⊎◌, inl, inr, ⊎_elim, refl, sym, ap, subst, ℕ, zero, suc, ◌<◌}
use Rattle.std.proofs.Common.{arith, List, [], ◌∷◌, ◌++◌, length}
use Rattle.std.specs.List.{All, AllByRecursion, remove}
use Rattle.std.specs.Int.{int_min, int_max}
use Rattle.std.proofs.lemmas.Bool.{cases_eq}
use Rattle.std.proofs.lemmas.Int.{ints, clamps}
use Rattle.std.proofs.lemmas.List.Elements.{All-from_get_or, All-from_recursion, recursion_from_All}
use lib.IntN.{ℤ, pos, ◌*ℤ◌}
use lib.Signed.{◌<ℤ◌, ◌≤ℤ◌}
use Rattle.geo_exact.specs.declared.bounds.Bounds.{Bounds}
use Rattle.geo_exact.specs.declared.corner.Corner.{Corner}
use Rattle.geo_exact.specs.Bounds.{HoldsCorner}
use Rattle.geo_exact.specs.Places.{origin, corner_at, after, before}
use Rattle.geo_exact.specs.Point.{corner_point}
use Rattle.geo_exact.specs.Turn.{turn, IsOnEdge}
use Rattle.geo_exact.proofs.numbers.Orders.{positive_not_zero}
use Rattle.geo_exact.proofs.corners_and_turns.TurnLaws.{turn_swap, turn_cycle, corner_on_line}
use Rattle.ring_core.specs.declared.triangle.Tri.{Tri}
use Rattle.ring_core.specs.Simple.{IsSimpleRing}
use Rattle.ring_core.specs.Boxes.{HoldsTriangle}
use Rattle.ring_core.specs.Clipping.{previous, next, IsFlat, IsTriangleAt, Clips, untouched, flat, ear, IsClippedTo}
use Rattle.ring_core.specs.own.Kinds.{number_before}
use Rattle.ring_core.proofs.edges.Corners.{three_corners}
use Rattle.ring_core.proofs.ears.EarWords.{IsLeftAtLeast}
use Rattle.ring_core.proofs.ears.FourCorners.{turns_alike}
use Rattle.ring_core.proofs.clipping.NeverStuck.{still_left}
use Rattle.ring_core.proofs.edges.RoundNumbers.{before_in, after_in, before_other, after_other}
use Rattle.ring_core.proofs.clipping.TakenOut.{corner_kept}
use Rattle.ring_core.proofs.ears.WithoutCorner.{number_left, one_fewer, number_within, left_within, corner_left}

between_low : (l u v w : ℤ) → l ≤ℤ u → l ≤ℤ v → int_min u v ≤ℤ w → l ≤ℤ w
between_low l u v w h k e = omega (arith, ints, clamps)

between_high : (l u v w : ℤ) → u ≤ℤ l → v ≤ℤ l → w ≤ℤ int_max u v → w ≤ℤ l
between_high l u v w h k e = omega (arith, ints, clamps)

unscaled_low : (m z : ℤ) → (m *ℤ pos 1) ≤ℤ z → m ≤ℤ z
unscaled_low m z h = omega (arith, ints, h)

unscaled_high : (m z : ℤ) → z ≤ℤ (m *ℤ pos 1) → z ≤ℤ m
unscaled_high m z h = omega (arith, ints, h)

-- of three numbers, those beside k that are left
beside : (k i : ℕ) → k < 3 → i < 2 → (number_before k i ≡ before 3 k) ⊎ (number_before k i ≡ after 3 k)
beside zero zero h b = inr refl
beside zero (suc zero) h b = inl refl
beside (suc zero) zero h b = inl refl
beside (suc zero) (suc zero) h b = inr refl
beside (suc (suc zero)) zero h b = inr refl
beside (suc (suc zero)) (suc zero) h b = inl refl
beside (suc (suc (suc k))) i h b = absurd (omega arith)
beside k (suc (suc i)) h b = absurd (omega arith)

split_all : {X : Type 0} (P : X → Type 0) (xs : List X) (y : X) → AllByRecursion P (xs ++ y ∷ []) → AllByRecursion P xs × P y
split_all P [] y h = (tt, h.0)
split_all P (x ∷ xs) y h = ((h.0, (split_all P xs y h.1).0), (split_all P xs y h.1).1)

-- three corners that are left, of which the least turns left, have none that is flat
pub not_flat : (rest : List Corner) (v k : ℕ) → length rest ≡ 3 → IsLeftAtLeast rest v → k < length rest → IsFlat rest k → ⊥
not_flat rest v k three left b on =
    positive_not_zero (turn (previous rest k) (corner_at rest k) (next rest k))
    (subst (λ z. pos 0 <ℤ z)
    (turns_alike rest v three (subst (λ n. v < n) three left.below)
    ∙ sym (turns_alike rest k three (subst (λ n. k < n) three b))) left.turns_left)
    (flat_turn (previous rest k) (next rest k) (corner_at rest k) (corner_on_line (previous rest k) (next rest k) (corner_at rest k) on))
  where
    flat_turn : (a b c : Corner) → turn a b c ≡ pos 0 → turn a c b ≡ pos 0
    flat_turn a b c e = omega (arith, ints, turn_cycle a c b, turn_cycle c b a, turn_swap a b c, e)

module _ (box : Bounds) where
  -- the box holds the ring's corners, by their numbers
  abbrev pub AreHeld : List Corner → Type 0
  AreHeld ring = (i : ℕ) → i < length ring → HoldsCorner box (corner_at ring i)

  held_between : (a b c : Corner) → HoldsCorner box a → HoldsCorner box b → IsOnEdge (corner_point c) a b → HoldsCorner box c
  held_between a b c h k on = record {
    west = between_low _ _ _ _ h.west k.west (unscaled_low _ _ on.from_x);
    east = between_high _ _ _ _ h.east k.east (unscaled_high _ _ on.to_x);
    south = between_low _ _ _ _ h.south k.south (unscaled_low _ _ on.from_y);
    north = between_high _ _ _ _ h.north k.north (unscaled_high _ _ on.to_y);
  }

  module _ (rest : List Corner) (k : ℕ) (below : k < length rest) where
    -- a corner that is left
    held_left : AreHeld (remove rest k) → (i : ℕ) → i < length rest → i ≢ k → HoldsCorner box (corner_at rest i)
    held_left held i b off = subst (HoldsCorner box) (corner_left rest k below i off)
        (held (number_left k i) (left_within rest k below i b off))

    put_back : AreHeld (remove rest k) → HoldsCorner box (corner_at rest k) → AreHeld rest
    put_back held here i b =
        elim (cases_eq i k) [ inl e ↦ subst (λ n. HoldsCorner box (corner_at rest n)) (sym e) here | inr off ↦ held_left held i b off ]

    flat_back : 2 < length rest → IsFlat rest k → AreHeld (remove rest k) → AreHeld rest
    flat_back big on held =
        put_back held
        (held_between (previous rest k) (next rest k) (corner_at rest k)
        (held_left held (before (length rest) k) (before_in (length rest) k below) (λ e. before_other (length rest) k big below (sym e)))
        (held_left held (after (length rest) k) (after_in (length rest) k below) (after_other (length rest) k big below)) on)

    still_held : AreHeld rest → AreHeld (remove rest k)
    still_held held i b = subst (HoldsCorner box) (sym (corner_kept rest k i below))
        (held (number_before k i) (number_within rest k below i b))

    -- the two that are left of three
    two_of_three : length rest ≡ 3 → HoldsCorner box (previous rest k) → HoldsCorner box (next rest k) → AreHeld (remove rest k)
    two_of_three three p n i b =
        subst (HoldsCorner box) (sym (corner_kept rest k i below))
        (⊎_elim
        (λ e. subst (λ m. HoldsCorner box (corner_at rest m)) (ap (λ c. before c k) three ∙ sym e) p)
        (λ e. subst (λ m. HoldsCorner box (corner_at rest m)) (ap (λ c. after c k) three ∙ sym e) n)
        (beside k i (subst (λ c. k < c) three below) (omega (arith, one_fewer rest k below))))

  -- ---- from the ring to the triangles
  held_triangle : (rest : List Corner) (k : ℕ) (t : Tri) → 2 < length rest → k < length rest → IsTriangleAt rest k t
      → AreHeld rest → HoldsTriangle box t
  held_triangle rest k t big below is held = record {
    a = subst (HoldsCorner box) (sym is.a) (held (before (length rest) k) (before_in (length rest) k below));
    b = subst (HoldsCorner box) (sym is.b) (held k below);
    c = subst (HoldsCorner box) (sym is.c) (held (after (length rest) k) (after_in (length rest) k below));
  }

  rest_held : (ring : List Corner) (ts : List Tri) (rest : List Corner) → Clips ring ts rest → AreHeld ring → AreHeld rest
  rest_held ring _ _ untouched held = held
  rest_held ring ts _ (flat {rest = rest} k c l f) held = still_held rest k f.below (rest_held ring ts rest c held)
  rest_held ring _ _ (ear {ts = ts} {rest = rest} k t c l none f s) held = still_held rest k f.below (rest_held ring ts rest c held)

  push_all : (P : Tri → Type 0) (ts : List Tri) (t : Tri) → AllByRecursion P ts → P t → AllByRecursion P (ts ++ t ∷ [])
  push_all P [] t h k = (k, tt)
  push_all P (u ∷ us) t h k = (h.0, push_all P us t h.1 k)

  triangles_held : (ring : List Corner) (ts : List Tri) (rest : List Corner) → Clips ring ts rest → AreHeld ring
      → AllByRecursion (HoldsTriangle box) ts
  triangles_held ring _ _ untouched held = tt
  triangles_held ring ts _ (flat {rest = rest} k c l f) held = triangles_held ring ts rest c held
  triangles_held ring _ _ (ear {ts = ts} {rest = rest} k t c l none f s) held =
      push_all (HoldsTriangle box) ts t (triangles_held ring ts rest c held)
      (held_triangle rest k t l f.below s (rest_held ring ts rest c held))

  -- ---- from the triangles to the ring
  ring_held : (ring : List Corner) (ts : List Tri) (rest : List Corner) → Clips ring ts rest
      → AllByRecursion (HoldsTriangle box) ts → AreHeld rest → AreHeld ring
  ring_held ring _ _ untouched all held = held
  ring_held ring ts _ (flat {rest = rest} k c l f) all held = ring_held ring ts rest c all (flat_back rest k f.below l f.has held)
  ring_held ring _ _ (ear {ts = ts} {rest = rest} k t c l none f s) all held =
      ring_held ring ts rest c (split_all (HoldsTriangle box) ts t all).0
      (put_back rest k f.below held (subst (HoldsCorner box) s.b (split_all (HoldsTriangle box) ts t all).1.b))

  -- the last two corners are those of a triangle, since three corners that are left have an area
  two_held : (ring : List Corner) → IsSimpleRing ring → (ts : List Tri) (rest : List Corner) → Clips ring ts rest
      → length rest ≡ 2
      → AllByRecursion (HoldsTriangle box) ts → AreHeld rest
  two_held ring simple _ _ untouched two all = absurd (omega (arith, three_corners ring simple.counterclockwise))
  two_held ring simple ts _ (flat {rest = rest} k c l f) two all =
      let s = still_left ring simple ts rest c l in
      absurd (not_flat rest s.1.0 k (omega (arith, one_fewer rest k f.below)) s.1.1 f.below f.has)
  two_held ring simple _ _ (ear {ts = ts} {rest = rest} k t c l none f s) two all =
      let h : HoldsTriangle box t = (split_all (HoldsTriangle box) ts t all).1 in
      two_of_three rest k f.below (omega (arith, one_fewer rest k f.below)) (subst (HoldsCorner box) s.a h.a)
      (subst (HoldsCorner box) s.c h.c)

  -- a box that holds the corners holds the triangles
  pub box_of_corners : (ring : List Corner) (ts : List Tri) (rest : List Corner) → Clips ring ts rest
      → All (HoldsCorner box) ring → All (HoldsTriangle box) ts
  box_of_corners ring ts rest clipped all =
      All-from_recursion (HoldsTriangle box) ts (triangles_held ring ts rest clipped (λ i b. all i origin b))

  -- and the other way about
  pub box_of_triangles : (ring : List Corner) (ts : List Tri) → IsSimpleRing ring → IsClippedTo ring ts
      → All (HoldsTriangle box) ts → All (HoldsCorner box) ring
  box_of_triangles ring ts simple h all =
      let by_one : AllByRecursion (HoldsTriangle box) ts = recursion_from_All (HoldsTriangle box) ts all in
      All-from_get_or (HoldsCorner box) ring origin
      (ring_held ring ts h.0 h.1 by_one (two_held ring simple ts h.0 h.1 h.2 by_one))
