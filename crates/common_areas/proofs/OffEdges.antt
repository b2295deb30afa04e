-- The middles of a fine grid's cells are on no edge.
use Rattle.std.proofs.Common.{◌≡◌, ◌≢◌, ℕ, zero, suc, refl, subst, ◌∙◌, sym, ap, arith, List, [], ◌∷◌, inl, inr}
use Rattle.std.proofs.lemmas.Int.{ints, by_lt_z, int_max_is, int_min_is}
use Rattle.std.specs.Int.{int_min, int_max}
use Rattle.std.specs.List.{AllByRecursion}
use lib.IntN.{ℤ, pos, negsuc, ◌+ℤ◌, ◌-ℤ◌, ◌*ℤ◌}
use lib.Signed.{◌<ℤ◌, ◌≤ℤ◌}
use Rattle.geo_exact.specs.declared.corner.Corner.{Corner}
use Rattle.geo_exact.specs.Rings.{Edge, edges}
use Rattle.geo_exact.specs.Turn.{IsOnEdge, IsOnSome, IsOnRing}
use Rattle.geo_exact.proofs.numbers.Polynomials.{var, lit, add, mul, same_by}
use Rattle.geo_exact.proofs.numbers.Signs.{zero_of_mul, zero_factor}
use Rattle.common_areas.specs.Grid.{sum_around, Grid, middle, IsShare}
use Rattle.common_areas.proofs.Scaled.{cancel}
use Rattle.common_areas.proofs.EdgeRows.{columns_left, share_of, turn_is, columns_positive}

not_on_line : (H y X j : ℤ) → pos 0 <ℤ H → y ≢ pos 0 → H *ℤ (y *ℤ (pos 2 *ℤ X -ℤ (pos 2 *ℤ j +ℤ pos 1))) ≡ pos 0 → ⊥
not_on_line H y X j Hp n e =
    let first : y *ℤ (pos 2 *ℤ X -ℤ (pos 2 *ℤ j +ℤ pos 1)) ≡ pos 0 = zero_factor H (y *ℤ (pos 2 *ℤ X -ℤ (pos 2 *ℤ j +ℤ pos 1))) Hp e in
    let second : pos 2 *ℤ X -ℤ (pos 2 *ℤ j +ℤ pos 1) ≡ pos 0 = zero_of_mul y (pos 2 *ℤ X -ℤ (pos 2 *ℤ j +ℤ pos 1)) n first in
    omega (arith, ints, second)

not_on_level : (W H d y k : ℤ) → pos 0 <ℤ W → d ≡ pos 2 *ℤ W *ℤ H → y *ℤ d ≡ (pos 2 *ℤ k +ℤ pos 1) *ℤ W → ⊥
not_on_level W H d y k Wp ed e =
    let whole : W *ℤ (pos 2 *ℤ (y *ℤ H)) ≡ W *ℤ (pos 2 *ℤ k +ℤ pos 1) =
    same_by (W ∷ H ∷ y ∷ []) (mul (var 0) (mul (lit (pos 2)) (mul (var 2) (var 1))))
    (mul (var 2) (mul (mul (lit (pos 2)) (var 0)) (var 1))) refl
    ∙ ap (λ x. y *ℤ x) (sym ed) ∙ e
    ∙ same_by (W ∷ k ∷ []) (mul (add (mul (lit (pos 2)) (var 1)) (lit (pos 1))) (var 0))
    (mul (var 0) (add (mul (lit (pos 2)) (var 1)) (lit (pos 1)))) refl in
    let odd : pos 2 *ℤ (y *ℤ H) ≡ pos 2 *ℤ k +ℤ pos 1 = cancel W (pos 2 *ℤ (y *ℤ H)) (pos 2 *ℤ k +ℤ pos 1) Wp whole in
    parity (y *ℤ H) k odd
  where
    parity : (u v : ℤ) → pos 2 *ℤ u ≡ pos 2 *ℤ v +ℤ pos 1 → ⊥
    parity u v h = omega (arith, ints, h)

both : (u v : ℤ) → u ≤ℤ v → v ≤ℤ u → u ≡ v
both u v h k = omega (arith, ints)

off_edge : (grid : Grid) (e : Edge) (q j k : ℤ) → IsShare grid e q → IsOnEdge (middle grid j k) e.from e.to → ⊥
off_edge grid e q j k h on = by_lt_z e.from.y e.to.y
    (λ p. not_on_line grid.rows (e.to.y -ℤ e.from.y) (columns_left grid.rows q e k) j grid.rows_positive
    (λ z. absurd (omega (arith, ints, z, p)))
    (sym (turn_is grid e q j k (share_of grid e q h (λ z. absurd (omega (arith, ints, z, p))))) ∙ on.on_line))
    (λ p. by_lt_z e.to.y e.from.y
    (λ r. not_on_line grid.rows (e.to.y -ℤ e.from.y) (columns_left grid.rows q e k) j grid.rows_positive
    (λ z. absurd (omega (arith, ints, z, r)))
    (sym (turn_is grid e q j k (share_of grid e q h (λ z. absurd (omega (arith, ints, z, r))))) ∙ on.on_line))
    (λ r. let a = int_min_is e.from.y e.to.y in
    let b = int_max_is e.from.y e.to.y in
    let low : int_min e.from.y e.to.y ≡ e.from.y = omega (arith, ints) in
    let high : int_max e.from.y e.to.y ≡ e.from.y = omega (arith, ints) in
    not_on_level grid.columns grid.rows grid.d e.from.y k (columns_positive grid) grid.d_is
    (both (e.from.y *ℤ grid.d) ((pos 2 *ℤ k +ℤ pos 1) *ℤ grid.columns)
    (subst (λ z. (z *ℤ grid.d) ≤ℤ ((pos 2 *ℤ k +ℤ pos 1) *ℤ grid.columns)) low on.from_y)
    (subst (λ z. ((pos 2 *ℤ k +ℤ pos 1) *ℤ grid.columns) ≤ℤ (z *ℤ grid.d)) high on.to_y))))

off_some : (grid : Grid) (share : Edge → ℤ) (j k : ℤ) (es : List Edge) → AllByRecursion (λ e. IsShare grid e (share e)) es
    → IsOnSome (middle grid j k) es → ⊥
off_some grid share j k [] h on = on
off_some grid share j k (e ∷ es) h on = elim on [
  | inl o ↦ off_edge grid e (share e) j k h.0 o
  | inr o ↦ off_some grid share j k es h.1 o
]

-- the middle of a cell is on no edge of a ring for which the grid is fine
pub off_ring : (grid : Grid) (share : Edge → ℤ) (j k : ℤ) (ring : List Corner)
    → AllByRecursion (λ e. IsShare grid e (share e)) (edges ring) → ¬ IsOnRing (middle grid j k) ring
off_ring grid share j k ring h on = off_some grid share j k (edges ring) h on

-- ---- what a sum over rows tells of its terms
pub some_positive : (n : ℕ) (f : ℤ → ℤ) → pos 0 <ℤ sum_around n f → (k : ℤ) × (pos 0 <ℤ f k)
some_positive zero f h = absurd (omega (arith, ints, h))
some_positive (suc n) f h = by_lt_z (pos 0) (f (pos n))
    (λ p. (pos n, p))
    (λ p. by_lt_z (pos 0) (f (negsuc n)) (λ q. (negsuc n, q)) (λ q. some_positive n f (omega (arith, ints, h, p, q))))

pub none_negative : (n : ℕ) (f : ℤ → ℤ) → ((k : ℤ) → pos 0 ≤ℤ f k) → pos 0 ≤ℤ sum_around n f
none_negative zero f h = omega (arith, ints)
none_negative (suc n) f h = omega (arith, ints, h (pos n), h (negsuc n), none_negative n f h)
