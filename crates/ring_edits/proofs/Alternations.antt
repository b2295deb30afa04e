-- Numbers below n in a circle, of which some have a property: whether these are one run.
use Rattle.std.proofs.Common.{◌≡◌, ◌≢◌, ◌⊎◌, ⊎_elim, inl, inr, ◌↔◌, refl, sym, ◌∙◌, subst, arith}
use Rattle.std.proofs.Common.{ℕ, suc, ◌+◌, ◌-◌, ◌<◌, ◌≤◌, zero, Bool, true, false, not, IsTrue, nat_eq}
use Rattle.std.specs.Prelude.{if◌then◌else◌}
use Rattle.std.proofs.lemmas.Bool.{cases_lt, false≢true}
use Rattle.std.proofs.lemmas.Bool.Decides.{nat_tests}
use Rattle.ring_core.proofs.ears.BegunElsewhere.{number_from, number_to}
use Rattle.ring_edits.specs.own.Borders.{IsAlikeUpTo, is_on_run, IsFromTo}

-- those with the property are the m first ones, counted from s on
pub record IsOneRun (P : ℕ → Type 0) (n : ℕ) : Type 0 where
  pub s : ℕ
  pub m : ℕ
  pub s_below : s < n
  pub m_some : 0 < m
  pub m_below : m < n
  pub exactly : (t : ℕ) → t < n → P (number_from n s t) ↔ (t < m)

from_to : (n s k : ℕ) → s < n → k < n → number_from n s (number_to n s k) ≡ k
from_to n s k h b = grind (arith, nat_tests)

to_below : (n s k : ℕ) → s < n → k < n → number_to n s k < n
to_below n s k h b = grind (arith, nat_tests)

-- where each number is counted from s on
pub has_or_not : (P : ℕ → Type 0) (n : ℕ) (h : IsOneRun P n) (k : ℕ) → k < n → P k ↔ (number_to n h.s k < h.m)
has_or_not P n h k b =
    subst (λ z. P z ↔ (number_to n h.s k < h.m)) (from_to n h.s k h.s_below b)
    (h.exactly (number_to n h.s k) (to_below n h.s k h.s_below b))

to_low : (n s k : ℕ) → k < s → number_to n s k ≡ k + n - s
to_low n s k h = grind (arith, nat_tests)

to_high : (n s k : ℕ) → s ≤ k → number_to n s k ≡ k - s
to_high n s k h = grind (arith, nat_tests)

from_in : (n s m : ℕ) → s < n → m < n → number_from n s m < n
from_in n s m h b = grind (arith, nat_tests)

to_from : (n s m : ℕ) → s < n → m < n → number_to n s (number_from n s m) ≡ m
to_from n s m h b = grind (arith, nat_tests)

-- not all have it
pub one_has_not : (P : ℕ → Type 0) (n : ℕ) → IsOneRun P n → ((k : ℕ) → k < n → P k) → ⊥
one_has_not P n h all =
    let k : ℕ = number_from n h.s h.m in
    let b : k < n = from_in n h.s h.m h.s_below h.m_below in
    let y : h.m < h.m = subst (λ z. z < h.m) (to_from n h.s h.m h.s_below h.m_below) ((has_or_not P n h k b).0 (all k b)) in
    omega (arith, y)

-- round the circle, numbers in order are counted in order, but for one step
in_order : (n s p q : ℕ) → s < n → p < q → q < n
    → ((number_to n s p < number_to n s q) × ((q < s) ⊎ (s ≤ p))) ⊎ ((number_to n s q < number_to n s p) × (p < s) × (s ≤ q))
in_order n s p q h a b =
    ⊎_elim
    (λ l. ⊎_elim
    (λ k. inl (omega (arith, to_low n s p l, to_low n s q k), inl k))
    (λ k. inr (omega (arith, to_low n s p l, to_high n s q k), l, k))
    (cases_lt q s))
    (λ l. inl (omega (arith, to_high n s p l, to_high n s q (omega arith)), inr l))
    (cases_lt p s)

-- nor do they change four times round the circle
four_times : (n s m p q r : ℕ) → s < n → 0 < p → p < q → q < r → r < n → number_to n s 0 < m → m ≤ number_to n s p
    → number_to n s q < m
    → m ≤ number_to n s r → ⊥
four_times n s m p q r a b c d e f g h i =
    ⊎_elim
    (λ x. omega (arith, x.0))
    (λ x. omega (arith, to_low n s 0 (omega (arith, x.1)), to_high n s r (omega (arith, x.2))))
    (in_order n s p q a c (omega arith))

four_times_less : (n s m p q r : ℕ) → s < n → 0 < p → p < q → q < r → r < n → m ≤ number_to n s 0 → number_to n s p < m
    → m ≤ number_to n s q → number_to n s r < m → ⊥
four_times_less n s m p q r a b c d e f g h i =
    ⊎_elim
    (λ x. omega (arith, x.0))
    (λ x. omega (arith, to_high n s q (omega (arith, x.2)), to_high n s r (omega (arith, x.2))))
    (in_order n s 0 p a b (omega arith))

has_not : (P : ℕ → Type 0) (n : ℕ) (h : IsOneRun P n) (k : ℕ) → k < n → ¬ P k → h.m ≤ number_to n h.s k
has_not P n h k b un =
    ⊎_elim (λ l. absurd (un ((has_or_not P n h k b).1 l))) (λ l. omega arith) (cases_lt (number_to n h.s k) h.m)

changes_four_times : (P : ℕ → Type 0) (n : ℕ) → IsOneRun P n → (p q r : ℕ) → 0 < p → p < q → q < r → r < n
    → P 0 → ¬ P p → P q → ¬ P r → ⊥
changes_four_times P n h p q r a b c d w x y z =
    four_times n h.s h.m p q r h.s_below a b c d ((has_or_not P n h 0 (omega arith)).0 w) (has_not P n h p (omega arith) x)
    ((has_or_not P n h q (omega arith)).0 y) (has_not P n h r d z)

changes_four_times_back : (P : ℕ → Type 0) (n : ℕ) → IsOneRun P n → (p q r : ℕ) → 0 < p → p < q → q < r → r < n
    → ¬ P 0 → P p → ¬ P q → P r → ⊥
changes_four_times_back P n h p q r a b c d w x y z =
    four_times_less n h.s h.m p q r h.s_below a b c d (has_not P n h 0 (omega arith) w) ((has_or_not P n h p (omega arith)).0 x)
    (has_not P n h q (omega arith) y) ((has_or_not P n h r d).0 z)

-- ---- what is found by going on to the first that is not alike
pub record AreThree (P : ℕ → Type 0) (n : ℕ) (first : Bool) (p q r : ℕ) : Type 0 where
  pub to_p : IsAlikeUpTo P n 0 first p
  pub to_q : IsAlikeUpTo P n p (not first) q
  pub to_r : IsAlikeUpTo P n q first r
  pub p_below : p < n
  pub begins : P 0 ↔ IsTrue first

never : IsTrue false → ⊥
never h = false≢true h

p_above : (P : ℕ → Type 0) (n : ℕ) (first : Bool) (p q r : ℕ) → AreThree P n first p q r → 0 < p
p_above P n true zero q r h = absurd (never ((h.to_p.there h.p_below).0 (h.begins.1 refl)))
p_above P n false zero q r h = absurd (never (h.begins.0 ((h.to_p.there h.p_below).1 refl)))
p_above P n first (suc p) q r h = omega arith

apart_q : (P : ℕ → Type 0) (n : ℕ) (first : Bool) (p r : ℕ) → AreThree P n first p p r → ⊥
apart_q P n true p r h = never ((h.to_p.there h.p_below).0 ((h.to_q.there h.p_below).1 refl))
apart_q P n false p r h = never ((h.to_q.there h.p_below).0 ((h.to_p.there h.p_below).1 refl))

apart_r : (P : ℕ → Type 0) (n : ℕ) (first : Bool) (p q : ℕ) → AreThree P n first p q q → q < n → ⊥
apart_r P n true p q h b = never ((h.to_r.there b).0 ((h.to_q.there b).1 refl))
apart_r P n false p q h b = never ((h.to_q.there b).0 ((h.to_r.there b).1 refl))

q_above : (P : ℕ → Type 0) (n : ℕ) (first : Bool) (p q r : ℕ) → AreThree P n first p q r → p < q
q_above P n first p q r h =
    ⊎_elim (λ l. l) (λ l. absurd
    (let e : q ≡ p = omega (arith, h.to_q.low) in apart_q P n first p r (subst (λ z. AreThree P n first p z r) e h)))
    (cases_lt p q)

r_above : (P : ℕ → Type 0) (n : ℕ) (first : Bool) (p q r : ℕ) → AreThree P n first p q r → r < n → q < r
r_above P n first p q r h b =
    ⊎_elim (λ l. l)
    (λ l. absurd (let e : r ≡ q = omega (arith, h.to_r.low) in
    apart_r P n first p q (subst (λ z. AreThree P n first p q z) e h) (subst (λ z. z < n) e b)))
    (cases_lt q r)

-- where a third change comes, they are not one run
pub not_one_run : (P : ℕ → Type 0) (n : ℕ) (first : Bool) (p q r : ℕ) → AreThree P n first p q r → r < n
    → IsOneRun P n → ⊥
not_one_run P n true p q r h b one =
    changes_four_times P n one p q r (p_above P n true p q r h) (q_above P n true p q r h) (r_above P n true p q r h b) b
    (h.begins.1 refl) (λ x. never ((h.to_p.there h.p_below).0 x))
    ((h.to_q.there (omega (arith, r_above P n true p q r h b))).1 refl) (λ x. never ((h.to_r.there b).0 x))
not_one_run P n false p q r h b one =
    changes_four_times_back P n one p q r (p_above P n false p q r h) (q_above P n false p q r h) (r_above P n false p q r h b) b
    (λ x. never (h.begins.0 x)) ((h.to_p.there h.p_below).1 refl)
    (λ x. never ((h.to_q.there (omega (arith, r_above P n false p q r h b))).0 x)) ((h.to_r.there b).1 refl)

-- one has the property
pub has_some : (P : ℕ → Type 0) (n : ℕ) (first : Bool) (p q r : ℕ) → AreThree P n first p q r → (k : ℕ) × (k < n) × P k
has_some P n true p q r h = (0, omega (arith, h.p_below), h.begins.1 refl)
has_some P n false p q r h = (p, h.p_below, (h.to_p.there h.p_below).1 refl)

-- where none comes, those with the property are one run
abbrev pub round_end : ℕ → ℕ → ℕ
round_end n q = if nat_eq q n then 0 else q

on_run_held : (n p q k : ℕ) → 0 < p → p < q → q ≤ n → k < n → (k < p) ⊎ (q ≤ k) → is_on_run (round_end n q) p k ≡ true
on_run_held n p q k a b c d e = grind (arith, nat_tests)

off_run_held : (n p q k : ℕ) → 0 < p → p < q → q ≤ n → k < n → p ≤ k → k < q → is_on_run (round_end n q) p k ≡ false
off_run_held n p q k a b c d e f = grind (arith, nat_tests)

on_run : (n p q k : ℕ) → 0 < p → p < q → q ≤ n → k < n → p ≤ k → k < q → is_on_run p (round_end n q) k ≡ true
on_run n p q k a b c d e f = grind (arith, nat_tests)

off_run : (n p q k : ℕ) → 0 < p → p < q → q ≤ n → k < n → (k < p) ⊎ (q ≤ k) → is_on_run p (round_end n q) k ≡ false
off_run n p q k a b c d e = grind (arith, nat_tests)

end_in : (n p q : ℕ) → 0 < p → p < q → q ≤ n → round_end n q < n
end_in n p q a b c = grind (arith, nat_tests)

end_apart : (n p q : ℕ) → 0 < p → p < q → q ≤ n → round_end n q ≢ p
end_apart n p q a b c e = grind (arith, nat_tests)

pub end_is_first : (n q : ℕ) → q ≡ n → round_end n q ≡ 0
end_is_first n q e = grind (arith, nat_tests)

pub end_is_there : (n q : ℕ) → q ≢ n → round_end n q ≡ q
end_is_there n q e = grind (arith, nat_tests)

-- below p, from p up to q, or above
three_parts : (p q k : ℕ) → ((k < p) ⊎ (q ≤ k)) ⊎ ((p ≤ k) × (k < q))
three_parts p q k = ⊎_elim (λ l. inl (inl l)) (λ l. ⊎_elim (λ m. inr (l, m)) (λ m. inl (inr m)) (cases_lt k q)) (cases_lt k p)

alike_outside : (P : ℕ → Type 0) (n : ℕ) (first : Bool) (p q r : ℕ) → AreThree P n first p q r → n ≤ r → (k : ℕ) → k < n
    → (k < p) ⊎ (q ≤ k) → P k ↔ IsTrue first
alike_outside P n first p q r h e k b o = ⊎_elim (λ l. h.to_p.until k (omega arith) l) (λ l. h.to_r.until k l (omega arith)) o

pub run_held : (P : ℕ → Type 0) (n p q r : ℕ) → AreThree P n true p q r → n ≤ r → IsFromTo P n (round_end n q) p
run_held P n p q r h e =
    let a = p_above P n true p q r h in let b = q_above P n true p q r h in let c = h.to_q.high in
    record {
      i_in_ring = end_in n p q a b c;
      j_in_ring = h.p_below;
      apart = end_apart n p q a b c;
      exactly = λ k d. ⊎_elim
          (λ o. (λ x. on_run_held n p q k a b c d o, λ x. (alike_outside P n true p q r h e k d o).1 refl))
          (λ o. (
            λ x. absurd (never ((h.to_q.until k o.0 o.1).0 x)),
            λ x. absurd (false≢true (sym (off_run_held n p q k a b c d o.0 o.1) ∙ x)),
          ))
          (three_parts p q k);
    }

pub run_found : (P : ℕ → Type 0) (n p q r : ℕ) → AreThree P n false p q r → n ≤ r → IsFromTo P n p (round_end n q)
run_found P n p q r h e =
    let a = p_above P n false p q r h in let b = q_above P n false p q r h in let c = h.to_q.high in
    record {
      i_in_ring = h.p_below;
      j_in_ring = end_in n p q a b c;
      apart = λ f. end_apart n p q a b c (sym f);
      exactly = λ k d. ⊎_elim
          (λ o. (
            λ x. absurd (never ((alike_outside P n false p q r h e k d o).0 x)),
            λ x. absurd (false≢true (sym (off_run n p q k a b c d o) ∙ x)),
          ))
          (λ o. (λ x. on_run n p q k a b c d o.0 o.1, λ x. (h.to_q.until k o.0 o.1).1 refl))
          (three_parts p q k);
    }
