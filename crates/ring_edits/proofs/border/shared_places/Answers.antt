use Rattle.std.proofs.Common.{◌≡◌, sym, ◌∙◌, subst, arith, ℕ, zero, suc, ◌<◌, Bool, true, false, nat_eq, length}
use Rattle.std.proofs.lemmas.Bool.{false≢true}
use Rattle.ring_edits.specs.Edits.{IsSharedAt}
use Rattle.ring_edits.specs.own.Borders.{IsAlikeUpTo, IsFromTo}
use Rattle.ring_edits.proofs.Alternations.{AreThree, run_held, run_found, round_end, end_is_first, end_is_there}
use Rattle.ring_edits.proofs.Borders.{all_are_shared, none_is_shared, not_one}
use Rattle.ring_edits.proofs.border.shared_places.Goals.{then-second-a, else-second-a}
use Rattle.ring_edits.proofs.border.shared_places.Goals as goal

not_zero : (n : ℕ) (r : Bool) → r ≡ nat_eq n 0 → r ≡ false → 0 < n
not_zero zero r e f = absurd (false≢true (sym f ∙ e))
not_zero (suc n) r e f = omega arith

-- the first going on ends behind all edges
to_the_end : (P : ℕ → Type 0) (n p : ℕ) (first held : Bool) → IsAlikeUpTo P n 0 first p → p ≡ n → first ≡ held
    → IsAlikeUpTo P n 0 held n
to_the_end P n p first held h e f = subst (λ b. IsAlikeUpTo P n 0 b n) f (subst (λ q. IsAlikeUpTo P n 0 first q) e h)

pub returns-then-begins_shared-clause-err : goal.returns-then-begins_shared-clause-err
returns-then-begins_shared-clause-err c =
    let a = c.args.a.now in let b = c.args.b.now in
    all_are_shared a b (not_zero (length a) c.is_empty.result c.is_empty.ensures c.if-is_empty.false)
    (to_the_end (IsSharedAt a b) (length a) c.first_other-first.result c.is_shared_at-begins_shared.result true c.first_other-first.ensures
    c.if-first-a.true c.if-begins_shared.true)

pub returns-then-first-a-clause-err : goal.returns-then-first-a-clause-err
returns-then-first-a-clause-err c =
    let a = c.args.a.now in let b = c.args.b.now in
    none_is_shared a b
    (to_the_end (IsSharedAt a b) (length a) c.first_other-first.result c.is_shared_at-begins_shared.result false c.first_other-first.ensures
    c.if-first-a.true c.if-begins_shared.false)

pub returns-then-first_other-a-clause-err : goal.returns-then-first_other-a-clause-err
returns-then-first_other-a-clause-err c =
    not_one c.args.a.now c.args.b.now c.is_shared_at-begins_shared.result c.first_other-first.result c.first_other-second.result
    c.first_other.result
    (record {
      to_p = c.first_other-first.ensures;
      to_q = c.first_other-second.ensures;
      to_r = c.first_other.ensures;
      p_below = omega (arith, c.first_other-first.ensures.high, c.if-first-a.false);
      begins = (λ x. c.is_shared_at-begins_shared.ensures.1 x, λ x. c.is_shared_at-begins_shared.ensures.0 x);
    })
    c.if-first_other-a.true

pub returns-then-begins_shared-2-clause-run : goal.returns-then-begins_shared-2-clause-run
returns-then-begins_shared-2-clause-run c =
    let P = IsSharedAt c.args.a.now c.args.b.now in let n = length c.args.a.now in
    let p = c.first_other-first.result in let q = c.first_other-second.result in let r = c.first_other.result in
    let three : AreThree P n c.is_shared_at-begins_shared.result p q r = record {
      to_p = c.first_other-first.ensures;
      to_q = c.first_other-second.ensures;
      to_r = c.first_other.ensures;
      p_below = omega (arith, c.first_other-first.ensures.high, c.if-first-a.false);
      begins = (λ x. c.is_shared_at-begins_shared.ensures.1 x, λ x. c.is_shared_at-begins_shared.ensures.0 x);
    } in
    let last : round_end n q ≡ c.if-second-a.last = elim c.if-second-a.branch [
      | then-second-a w ↦ end_is_first n q w.if-second-a.true ∙ sym w.last-is
      | else-second-a w ↦ end_is_there n q w.if-second-a.false ∙ sym w.last-is
    ] in
    subst (λ z. IsFromTo P n z p) last
    (run_held P n p q r (subst (λ f. AreThree P n f p q r) c.if-begins_shared-2.true three) c.if-first_other-a.false)

pub returns-else-begins_shared-2-clause-run : goal.returns-else-begins_shared-2-clause-run
returns-else-begins_shared-2-clause-run c =
    let P = IsSharedAt c.args.a.now c.args.b.now in let n = length c.args.a.now in
    let p = c.first_other-first.result in let q = c.first_other-second.result in let r = c.first_other.result in
    let three : AreThree P n c.is_shared_at-begins_shared.result p q r = record {
      to_p = c.first_other-first.ensures;
      to_q = c.first_other-second.ensures;
      to_r = c.first_other.ensures;
      p_below = omega (arith, c.first_other-first.ensures.high, c.if-first-a.false);
      begins = (λ x. c.is_shared_at-begins_shared.ensures.1 x, λ x. c.is_shared_at-begins_shared.ensures.0 x);
    } in
    let last : round_end n q ≡ c.if-second-a.last = elim c.if-second-a.branch [
      | then-second-a w ↦ end_is_first n q w.if-second-a.true ∙ sym w.last-is
      | else-second-a w ↦ end_is_there n q w.if-second-a.false ∙ sym w.last-is
    ] in
    subst (λ z. IsFromTo P n p z) last
    (run_found P n p q r (subst (λ f. AreThree P n f p q r) c.if-begins_shared-2.false three) c.if-first_other-a.false)
