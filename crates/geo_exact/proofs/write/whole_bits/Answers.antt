use Rattle.std.proofs.Common.{◌≡◌, ℕ, ◌+◌, ◌*◌, ◌-◌, ◌^◌, ◌%◌, ◌≤◌, refl, sym, ◌∙◌, ap, arith}
use Rattle.geo_exact.specs.Doubles.{highest_bit, whole_bits}
use Rattle.geo_exact.proofs.doubles.Doubles.{whole_bits_of, no_bits}
use Rattle.geo_exact.proofs.write.whole_bits.Goals as goal

-- what the code computes
computed : (n t f : ℕ) → (n ≡ 0 → ⊥) → t ≡ highest_bit n → t ≤ 52 → f ≡ n * 2 ^ (52 - t) - 2 ^ 52
    → (1023 + t) * 2 ^ 52 % 2 ^ 64 + f ≡ whole_bits n
computed n t f some ht bound hf =
    let small : (1023 + t) * 2 ^ 52 % 2 ^ 64 ≡ (1023 + t) * 2 ^ 52 = omega arith in
    rw (small, hf, ht, whole_bits_of n (omega (arith, some))) refl

pub returns-then-size-eq0-clause-value : goal.returns-then-size-eq0-clause-value
returns-then-size-eq0-clause-value c = no_bits ∙ ap whole_bits (sym c.if-size-eq0.true)

pub returns-clause-value : goal.returns-clause-value
returns-clause-value c =
    computed _ _ _ c.if-size-eq0.false c.highest_bit-place.ensures.value c.highest_bit-place.ensures.bound c.whole_fraction.ensures.value
