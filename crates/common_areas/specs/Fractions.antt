-- Fractions of whole numbers (this product's own). Two of them may have one value, as 1/2 and 2/4.
use Rattle.std.specs.Prelude.{◌≡◌, ℤ, pos, ◌+ℤ◌, ◌*ℤ◌}

-- the number n / d
pub record Fraction : Type 0 where
  pub n : ℤ
  pub d : ℤ

-- the fraction that is a whole number
abbrev pub whole : ℤ → Fraction
whole z = record { n = z; d = pos 1 }

-- the sum of two
abbrev pub plus : Fraction → Fraction → Fraction
plus a b = record { n = a.n *ℤ b.d +ℤ b.n *ℤ a.d; d = a.d *ℤ b.d }

-- the product of a whole number and a fraction
abbrev pub times : ℤ → Fraction → Fraction
times z a = record { n = z *ℤ a.n; d = a.d }

-- both have one value
abbrev pub AreEqual : Fraction → Fraction → Type 0
AreEqual a b = a.n *ℤ b.d ≡ b.n *ℤ a.d
