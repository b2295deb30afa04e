-- Parts rounded to whole numbers.
use Rattle.std.proofs.Common.{◌≡◌, ℕ, ◌+◌, ◌*◌, ◌≤◌, refl, arith, nat_lt, Bool, true, false}
use Rattle.std.specs.Int.{int_div_euclid, int_rem_euclid}
use Rattle.std.proofs.Math.Nat.{div-add-mod', mod-lt}
use Rattle.std.proofs.lemmas.Int.{ints}
use lib.IntN.{ℤ, pos, negsuc, ◌+ℤ◌, ◌-ℤ◌, ◌*ℤ◌}
use lib.Signed.{◌<ℤ◌, ◌≤ℤ◌}
use Rattle.geo_exact.proofs.numbers.Orders.{le_of_lt}
use Rattle.geo_exact.proofs.numbers.Signs.{mul_le}
use Rattle.common_areas.specs.Fractions.{Fraction}
use Rattle.area_bounds.specs.declared.parts.TheConstants.{PARTS}
use Rattle.area_bounds.specs.Parts.{IsCounted}
use Rattle.area_bounds.proofs.Counts.{rounded}
use Rattle.area_shares.specs.own.Rounded.{IsRounded}

-- a whole number is so many times PARTS, and the rest
pub divided : (z : ℤ) → z ≡ int_div_euclid z (pos PARTS) *ℤ pos PARTS +ℤ int_rem_euclid z (pos PARTS)
divided (pos a) = omega (arith, ints, div-add-mod' a PARTS)
divided (negsuc a) = omega (arith, ints, div-add-mod' a PARTS, mod-lt a {m = PARTS} (omega arith))

pub divided_by : (z y v q r d e : ℤ) → q ≡ int_div_euclid y d → r ≡ int_rem_euclid v e → y ≡ z → v ≡ z → d ≡ pos PARTS → e ≡ pos PARTS
    → z ≡ q *ℤ pos PARTS +ℤ r
divided_by z y v q r d e f g yz vz dp ep =
    let qf : q ≡ int_div_euclid z (pos PARTS) = rw (f, yz, dp) refl in
    let rf : r ≡ int_rem_euclid z (pos PARTS) = rw (g, vz, ep) refl in
    rw (qf, rf) (divided z)

chained : (x y z : ℤ) → x ≤ℤ y → y ≤ℤ z → x ≤ℤ z
chained x y z h k = omega (arith, ints)

-- what is counted with fewer parts and more lost
pub wider : (t v : ℤ) (k l : ℕ) (f : Fraction) → IsCounted t k f → v ≤ℤ t → (t +ℤ pos k) ≤ℤ (v +ℤ pos l) → IsCounted v l f
wider t v k l f h low high =
    let fd : pos 0 ≤ℤ f.d = le_of_lt (pos 0) f.d h.positive in
    record {
      positive = h.positive;
      above = chained (v *ℤ f.d) (t *ℤ f.d) (pos PARTS *ℤ f.n) (mul_le v t f.d fd low) h.above;
      below = chained (pos PARTS *ℤ f.n) ((t +ℤ pos k) *ℤ f.d) ((v +ℤ pos l) *ℤ f.d) h.below
          (mul_le (t +ℤ pos k) (v +ℤ pos l) f.d fd high);
    }

-- t is so many whole numbers and a rest, and with what was lost it is past the next whole number
pub past_the_next : (t w rest least : ℤ) (k lost : ℕ) (f : Fraction) → IsCounted t k f → t ≡ w *ℤ pos PARTS +ℤ rest
    → pos 0 ≤ℤ rest → rest <ℤ pos PARTS → pos PARTS <ℤ (rest +ℤ pos k) → k ≤ PARTS → k ≤ lost → least ≡ w +ℤ pos 1
    → IsRounded lost f least false
past_the_next t w rest least k lost f h e r b p few m g = record {
  is_near = rounded (least -ℤ pos 1) (least +ℤ pos 1) t k f h (omega (arith, ints)) (omega (arith, ints));
  next_is_near = λ no. absurd (grind arith);
  counted = wider t (pos PARTS *ℤ least -ℤ pos lost) k (PARTS * 0 + 2 * lost) f h (omega (arith, ints)) (omega (arith, ints));
}

-- it is not past the next whole number
pub within_the_next : (t w rest least : ℤ) (k lost over : ℕ) (f : Fraction) → IsCounted t k f → t ≡ w *ℤ pos PARTS +ℤ rest
    → pos 0 ≤ℤ rest → pos over ≡ rest +ℤ pos k → over ≤ PARTS → k ≤ lost → least ≡ w → (some : Bool) → nat_lt 0 over ≡ some
    → IsRounded lost f least some
within_the_next t w rest least k lost over f h e r o few m g true s = record {
  is_near = rounded (least -ℤ pos 1) (least +ℤ pos 1) t k f h (omega (arith, ints)) (omega (arith, ints));
  next_is_near = λ yes. rounded (least +ℤ pos 1 -ℤ pos 1) (least +ℤ pos 1 +ℤ pos 1) t k f h (omega (arith, ints)) (omega (arith, ints));
  counted = wider t (pos PARTS *ℤ least -ℤ pos lost) k (PARTS * 1 + 2 * lost) f h (omega (arith, ints)) (omega (arith, ints));
}
within_the_next t w rest least k lost over f h e r o few m g false s =
    let none : over ≡ 0 = grind arith in
    record {
      is_near = rounded (least -ℤ pos 1) (least +ℤ pos 1) t k f h (omega (arith, ints)) (omega (arith, ints));
      next_is_near = λ no. absurd (grind arith);
      counted = wider t (pos PARTS *ℤ least -ℤ pos lost) k (PARTS * 0 + 2 * lost) f h (omega (arith, ints)) (omega (arith, ints));
    }
