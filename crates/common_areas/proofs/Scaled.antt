-- Fractions at a scale: what they are in units of which a whole number makes one.
use Rattle.std.proofs.Common.{◌≡◌, refl, ◌∙◌, ap, arith, List, [], ◌∷◌}
use Rattle.std.proofs.lemmas.Int.{ints, by_lt_z}
use Rattle.std.specs.List.{AllByRecursion}
use lib.IntN.{ℤ, pos, ◌+ℤ◌, ◌-ℤ◌, ◌*ℤ◌}
use lib.Signed.{◌<ℤ◌}
use Rattle.geo_exact.specs.Rings.{Edge, sum_over}
use Rattle.geo_exact.proofs.numbers.Polynomials.{var, add, mul, sub, same_by}
use Rattle.geo_exact.proofs.numbers.Signs.{mul_pos}
use Rattle.common_areas.specs.Fractions.{Fraction, whole, plus, times}
use Rattle.common_areas.specs.Common.{sum_shares}

-- m times the fraction is the whole number z
pub record IsAt (m : ℤ) (a : Fraction) (z : ℤ) : Type 0 where
  pub positive : pos 0 <ℤ a.d
  pub value : a.n *ℤ m ≡ z *ℤ a.d

pub at_nothing : (m : ℤ) → IsAt m (whole (pos 0)) (pos 0)
at_nothing m = record { positive = omega (arith, ints); value = omega (arith, ints) }

pub at_plus : (m : ℤ) (a b : Fraction) (z w : ℤ) → IsAt m a z → IsAt m b w → IsAt m (plus a b) (z +ℤ w)
at_plus m a b z w h k = record {
  positive = mul_pos a.d b.d h.positive k.positive;
  value =
      same_by (a.n ∷ a.d ∷ b.n ∷ b.d ∷ m ∷ [])
      (mul (add (mul (var 0) (var 3)) (mul (var 2) (var 1))) (var 4))
      (add (mul (mul (var 0) (var 4)) (var 3)) (mul (mul (var 2) (var 4)) (var 1)))
      refl
      ∙ ap (λ x. x *ℤ b.d +ℤ b.n *ℤ m *ℤ a.d) h.value
      ∙ ap (λ x. z *ℤ a.d *ℤ b.d +ℤ x *ℤ a.d) k.value
      ∙ same_by (a.d ∷ b.d ∷ z ∷ w ∷ [])
      (add (mul (mul (var 2) (var 0)) (var 1)) (mul (mul (var 3) (var 1)) (var 0)))
      (mul (add (var 2) (var 3)) (mul (var 0) (var 1)))
      refl;
}

pub at_times : (m w : ℤ) (a : Fraction) (z : ℤ) → IsAt m a z → IsAt m (times w a) (w *ℤ z)
at_times m w a z h = record {
  positive = h.positive;
  value =
      same_by (w ∷ a.n ∷ m ∷ []) (mul (mul (var 0) (var 1)) (var 2)) (mul (var 0) (mul (var 1) (var 2))) refl
      ∙ ap (λ x. w *ℤ x) h.value
      ∙ same_by (w ∷ z ∷ a.d ∷ []) (mul (var 0) (mul (var 1) (var 2))) (mul (mul (var 0) (var 1)) (var 2)) refl;
}

pub at_sum : (m : ℤ) (f : Edge → Fraction) (g : Edge → ℤ) (es : List Edge) → AllByRecursion (λ e. IsAt m (f e) (g e)) es
    → IsAt m (sum_shares f es) (sum_over g es)
at_sum m f g [] h = at_nothing m
at_sum m f g (e ∷ es) h = at_plus m (f e) (sum_shares f es) (g e) (sum_over g es) h.0 (at_sum m f g es h.1)

-- numbers that are equal after a positive factor
pub cancel : (k a b : ℤ) → pos 0 <ℤ k → k *ℤ a ≡ k *ℤ b → a ≡ b
cancel k a b h e = by_lt_z a b
    (λ p. absurd (omega (arith, ints, e, expanded, mul_pos k (b -ℤ a) h (omega (arith, ints)))))
    (λ p. by_lt_z b a
    (λ q. absurd (omega (arith, ints, e, expanded', mul_pos k (a -ℤ b) h (omega (arith, ints)))))
    (λ q. omega (arith, ints)))
  where
    expanded : k *ℤ (b -ℤ a) ≡ k *ℤ b -ℤ k *ℤ a
    expanded = same_by (k ∷ a ∷ b ∷ []) (mul (var 0) (sub (var 2) (var 1))) (sub (mul (var 0) (var 2)) (mul (var 0) (var 1))) refl

    expanded' : k *ℤ (a -ℤ b) ≡ k *ℤ a -ℤ k *ℤ b
    expanded' = same_by (k ∷ a ∷ b ∷ []) (mul (var 0) (sub (var 1) (var 2))) (sub (mul (var 0) (var 1)) (mul (var 0) (var 2))) refl
