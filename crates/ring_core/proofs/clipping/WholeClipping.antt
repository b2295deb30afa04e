-- The clipping of a simple ring goes on to two corners: as long as there are more, a flat corner or an ear is the first.
use Rattle.std.proofs.Common.{◌≡◌, ◌⊎◌, inl, inr, ⊎_elim, ℕ, zero, suc, ◌+◌, ◌-◌, ◌<◌, refl, arith, List, []}
use Rattle.std.proofs.Common.{◌∷◌, ◌++◌, length}
use Rattle.std.specs.List.{remove}
use Rattle.std.proofs.lemmas.Int.{ints, by_lt_z}
use lib.IntN.{ℤ, pos, ◌+ℤ◌, ◌*ℤ◌, ◌-ℤ◌}
use lib.Signed.{◌<ℤ◌, ◌≤ℤ◌}
use Rattle.geo_exact.specs.declared.corner.Corner.{Corner}
use Rattle.geo_exact.specs.Area.{area2}
use Rattle.geo_exact.specs.Point.{Point, corner_point}
use Rattle.geo_exact.specs.Turn.{turn, turn_at, IsOnEdge}
use Rattle.geo_exact.specs.Places.{corner_at}
use Rattle.geo_exact.proofs.numbers.Firsts.{first_or_none}
use Rattle.ring_core.specs.declared.triangle.Tri.{Tri}
use Rattle.ring_core.specs.Simple.{IsSimpleRing}
use Rattle.ring_core.specs.Clipping.{previous, next, IsFlat, IsEar, Blocks, Clips, untouched, flat, ear, IsClippedTo}
use Rattle.ring_core.proofs.ears.Diagonals.{blocks_or}
use Rattle.ring_core.proofs.ears.WithoutCorner.{one_fewer}
use Rattle.ring_core.proofs.clipping.NeverStuck.{never_stuck}

-- ---- a corner is flat or not, and an ear or not
le_or : (u v : ℤ) → (u ≤ℤ v) ⊎ (¬ (u ≤ℤ v))
le_or u v = by_lt_z v u (λ h. inr (λ k. omega (arith, ints))) (λ h. inl h)

zero_or : (u : ℤ) → (u ≡ pos 0) ⊎ (¬ (u ≡ pos 0))
zero_or u = by_lt_z u (pos 0) (λ h. inr (λ e. omega (arith, ints)))
    (λ h. by_lt_z (pos 0) u (λ k. inr (λ e. omega (arith, ints))) (λ k. inl (omega (arith, ints))))

on_edge_or : (p : Point) (a b : Corner) → IsOnEdge p a b ⊎ (¬ IsOnEdge p a b)
on_edge_or p a b =
    ⊎_elim (λ l. ⊎_elim (λ x. ⊎_elim (λ u. ⊎_elim (λ y. ⊎_elim
    (λ w. inl (record { on_line = l; from_x = x; to_x = u; from_y = y; to_y = w }))
    (λ no. inr (λ h. no h.to_y)) (le_or _ _))
    (λ no. inr (λ h. no h.from_y)) (le_or _ _))
    (λ no. inr (λ h. no h.to_x)) (le_or _ _))
    (λ no. inr (λ h. no h.from_x)) (le_or _ _))
    (λ no. inr (λ h. no h.on_line)) (zero_or (turn_at a b p))

flat_or : (rest : List Corner) (k : ℕ) → IsFlat rest k ⊎ (¬ IsFlat rest k)
flat_or rest k = on_edge_or (corner_point (corner_at rest k)) (previous rest k) (next rest k)

ear_or : (rest : List Corner) (k : ℕ) → IsEar rest k ⊎ (¬ IsEar rest k)
ear_or rest k =
    by_lt_z (pos 0) (turn (previous rest k) (corner_at rest k) (next rest k))
    (λ left. ⊎_elim
    (λ first. inr (λ e. e.is_empty first.0 first.1.below first.1.has))
    (λ none. inl (record { turns_left = left; is_empty = none }))
    (first_or_none (Blocks rest k) (blocks_or rest k) (length rest)))
    (λ not_left. inr (λ e. not_right (turn (previous rest k) (corner_at rest k) (next rest k)) not_left e.turns_left))
  where
    not_right : (t : ℤ) → t ≤ℤ pos 0 → pos 0 <ℤ t → ⊥
    not_right t h k = omega (arith, ints)

-- ---- a ring with an area has three corners
there_and_back : (ax ay bx by : ℤ) → (ax *ℤ by -ℤ bx *ℤ ay) +ℤ ((bx *ℤ ay -ℤ ax *ℤ by) +ℤ pos 0) ≡ pos 0
there_and_back ax ay bx by = omega (arith, ints)

three_corners : (ring : List Corner) → pos 0 <ℤ area2 ring → 2 < length ring
three_corners [] h = absurd (omega (arith, ints))
three_corners (a ∷ []) h = absurd (omega (arith, ints))
three_corners (a ∷ b ∷ []) h = absurd (omega (arith, ints, there_and_back a.x a.y b.x b.y))
three_corners (a ∷ b ∷ c ∷ rest) h = omega arith

-- ---- so far, and on
module _ (ring : List Corner) (simple : IsSimpleRing ring) where
  on : (n : ℕ) (ts : List Tri) (rest : List Corner) → length rest ≡ n + 2 → Clips ring ts rest → (us : List Tri)
      × IsClippedTo ring us
  on zero ts rest e c = (ts, (rest, c, e))
  on (suc n) ts rest e c =
      ⊎_elim
      (λ k. on n ts (remove rest k.0) (omega (arith, one_fewer rest k.0 k.1.below)) (flat k.0 c (omega arith) k.1))
      (λ no_flat. ⊎_elim
      (λ k. let t : Tri = record {
        a = previous rest k.0;
        b = corner_at rest k.0;
        c = next rest k.0;
        turns_left = k.1.has.turns_left;
      } in
      on n (ts ++ t ∷ []) (remove rest k.0) (omega (arith, one_fewer rest k.0 k.1.below))
      (ear k.0 t c (omega arith) no_flat k.1 (record { a = refl; b = refl; c = refl })))
      (λ no_ear. absurd (never_stuck ring simple ts rest c (omega arith) no_flat no_ear))
      (first_or_none (IsEar rest) (ear_or rest) (length rest)))
      (first_or_none (IsFlat rest) (flat_or rest) (length rest))

-- a simple ring is clipped to some triangles
pub to_triangles : (ring : List Corner) → IsSimpleRing ring → (ts : List Tri) × IsClippedTo ring ts
to_triangles ring simple =
    let three : 2 < length ring = three_corners ring simple.counterclockwise in
    on ring simple (length ring - 2) [] ring (omega arith) untouched
