use Rattle.std.proofs.Common.{◌≡◌, ◌↔◌, ⊎_elim, ℕ, ◌+◌, ◌<◌, ◌≤◌, sym, subst, arith, refl, Bool, true, false}
use Rattle.std.proofs.Common.{not, IsTrue}
use Rattle.std.proofs.lemmas.Bool.{cases_lt, false≢true}
use mathlib.Core.Bool.{beq as bool_eq}
use Rattle.ring_edits.specs.Edits.{IsSharedAt}
use Rattle.ring_edits.proofs.border.first_other.Goals as goal

one_more : (P : ℕ → Type 0) (from i : ℕ) (holds : Bool) → ((k : ℕ) → from ≤ k → k < i → P k ↔ IsTrue holds)
    → P i ↔ IsTrue holds
    → (k : ℕ) → from ≤ k → k < i + 1 → P k ↔ IsTrue holds
one_more P from i holds h new k low high =
    ⊎_elim (λ l. h k low l) (λ l. let e : i ≡ k = omega arith in subst (λ z. P z ↔ IsTrue holds) e new) (cases_lt k i)

same : (x y : Bool) → not (bool_eq x y) ≡ false → x ≡ y
same true true h = refl
same true false h = absurd (false≢true (sym h))
same false true h = absurd (false≢true (sym h))
same false false h = refl

pub loop-i-preserved : goal.loop-i-preserved
loop-i-preserved c = one_more (IsSharedAt c.args.a.now c.args.b.now) c.args.from c.loop-i.i c.args.shared c.loop-i.invariant
    (subst (λ r. IsSharedAt c.args.a.now c.args.b.now c.loop-i.i ↔ IsTrue r)
    (same c.is_shared_at.result c.args.shared c.if-is_shared_at-shared.false)
    (λ h. c.is_shared_at.ensures.1 h, λ h. c.is_shared_at.ensures.0 h))

pub returns : goal.returns
returns c = record {
  low = omega (arith, c.loop-i.auto.i, c.requires);
  high = omega arith;
  until = λ k h b. c.loop-i.invariant k h (omega (arith, c.loop-i-test.false));
  there = λ b. absurd (omega (arith, b));
}
