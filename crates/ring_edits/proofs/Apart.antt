-- The corners of a simple ring are all different places, also where there are three.
use Rattle.std.proofs.Common.{◌≡◌, ◌≢◌, ⊎_elim, arith, sym, subst, ℕ, zero, suc, ◌<◌, List, [], ◌∷◌, length}
use Rattle.std.proofs.lemmas.Bool.{cases_lt}
use Rattle.std.proofs.lemmas.Int.{ints}
use lib.IntN.{pos}
use lib.Signed.{◌<ℤ◌}
use Rattle.geo_exact.specs.declared.corner.Corner.{Corner}
use Rattle.geo_exact.specs.Area.{area2}
use Rattle.geo_exact.specs.Places.{corner_at}
use Rattle.ring_core.specs.Simple.{IsSimpleRing}
use Rattle.ring_edits.specs.Round.{HasApartCorners}
use Rattle.ring_core.proofs.edges.Corners.{three_corners}
use Rattle.ring_core.proofs.ears.LeastCorners.{AreApart, are_apart}

first_flat : (a b : Corner) → pos 0 <ℤ area2 (a ∷ a ∷ b ∷ []) → ⊥
first_flat a b h = absurd (omega (arith, ints, h))

last_flat : (a b : Corner) → pos 0 <ℤ area2 (a ∷ b ∷ b ∷ []) → ⊥
last_flat a b h = absurd (omega (arith, ints, h))

outer_flat : (a b : Corner) → pos 0 <ℤ area2 (a ∷ b ∷ a ∷ []) → ⊥
outer_flat a b h = absurd (omega (arith, ints, h))

first_two : (a b c : Corner) → pos 0 <ℤ area2 (a ∷ b ∷ c ∷ []) → a ≢ b
first_two a b c h e = first_flat a c (subst (λ x. pos 0 <ℤ area2 (a ∷ x ∷ c ∷ [])) (sym e) h)

last_two : (a b c : Corner) → pos 0 <ℤ area2 (a ∷ b ∷ c ∷ []) → b ≢ c
last_two a b c h e = last_flat a b (subst (λ x. pos 0 <ℤ area2 (a ∷ b ∷ x ∷ [])) (sym e) h)

outer_two : (a b c : Corner) → pos 0 <ℤ area2 (a ∷ b ∷ c ∷ []) → a ≢ c
outer_two a b c h e = outer_flat a b (subst (λ x. pos 0 <ℤ area2 (a ∷ b ∷ x ∷ [])) (sym e) h)

in_order : (a b c : Corner) → pos 0 <ℤ area2 (a ∷ b ∷ c ∷ []) → (i j : ℕ) → i < j → j < 3
    → corner_at (a ∷ b ∷ c ∷ []) i ≢ corner_at (a ∷ b ∷ c ∷ []) j
in_order a b c h zero zero o k = absurd (omega arith)
in_order a b c h zero (suc zero) o k = first_two a b c h
in_order a b c h zero (suc (suc zero)) o k = outer_two a b c h
in_order a b c h (suc zero) (suc (suc zero)) o k = last_two a b c h
in_order a b c h (suc zero) (suc zero) o k = absurd (omega arith)
in_order a b c h (suc i) zero o k = absurd (omega arith)
in_order a b c h (suc (suc i)) (suc zero) o k = absurd (omega arith)
in_order a b c h (suc (suc i)) (suc (suc zero)) o k = absurd (omega arith)
in_order a b c h i (suc (suc (suc j))) o k = absurd (omega arith)

three_apart : (ring : List Corner) → length ring ≡ 3 → pos 0 <ℤ area2 ring → AreApart ring
three_apart (a ∷ b ∷ c ∷ []) n h = λ i j k l off e.
    ⊎_elim (λ o. in_order a b c h i j o l e) (λ o. in_order a b c h j i (omega (arith, off)) k (sym e)) (cases_lt i j)
three_apart [] n h = absurd (omega arith)
three_apart (a ∷ []) n h = absurd (omega arith)
three_apart (a ∷ b ∷ []) n h = absurd (omega arith)
three_apart (a ∷ b ∷ c ∷ d ∷ rest) n h = absurd (omega arith)

pub simple_apart : (ring : List Corner) → IsSimpleRing ring → AreApart ring
simple_apart ring h =
    ⊎_elim
    (λ l. are_apart ring l h.simple)
    (λ l. three_apart ring (omega (arith, three_corners ring h.counterclockwise)) h.counterclockwise)
    (cases_lt 3 (length ring))

pub has_apart_corners : (ring : List Corner) → IsSimpleRing ring → HasApartCorners ring
has_apart_corners ring h = record { three = three_corners ring h.counterclockwise; apart = simple_apart ring h }
