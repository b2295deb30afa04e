use Rattle.std.proofs.Common.{ℕ, ◌<◌, sym, arith, below_more, inl, inr, subst, length}
use Rattle.std.proofs.lemmas.Bool.{cases_lt}
use Rattle.ring_core.specs.Simple.{MeetOtherwise}
use Rattle.ring_core.proofs.ring.first_meeting.Goals as goal
use Rattle.ring_core.proofs.ring.first_meeting.Goals.{then-clear-i, else-clear-i}

pub returns-in-Some : goal.returns-in-Some
returns-in-Some c =
    let ring = c.args.ring.now in let i = c.loop-i.i in let j = c.in-Some.j in let e = c.in-Some.ensures in
    record {
      ordered = e.0;
      below = e.1;
      has = e.2;
      is_first = λ k l o b s. elim s [
        | inl q ↦ c.loop-i.invariant.passed k l q o b
        | inr q ↦ let P : ℕ → Type 0 = λ m. m < l → ¬ MeetOtherwise ring m l in subst P (sym q.0) (λ r. e.3 l r q.1) o
      ];
    }

pub loop-i-preserved-then-clear-i-2 : goal.loop-i-preserved-then-clear-i-2
loop-i-preserved-then-clear-i-2 c =
    let ring = c.args.ring.now in let i = c.loop-i.i in let inv = c.loop-i.invariant in
    let clear : (k m : ℕ) → k < c.if-clear-i.clear → k < m → m < length ring → ¬ MeetOtherwise ring k m =
    λ k m h o b. elim c.if-clear-i.branch [
      | then-clear-i w ↦ elim (cases_lt k i) [
        | inl q ↦ inv.passed k m q o b
        | inr q ↦ w.clear_until-clear.ensures k m q (omega (arith, w.clear-is)) o b
      ]
      | else-clear-i w ↦ inv.clear k m (omega (arith, w.clear-is)) o b
    ] in record { passed = λ k m h. clear k m (omega arith); clear = clear }

pub loop-i-preserved : goal.loop-i-preserved
loop-i-preserved c =
    let ring = c.args.ring.now in let inv = c.loop-i.invariant in
    record {
      passed = λ k m h o b. below_more (λ n. n < m → ¬ MeetOtherwise ring n m) c.loop-i.i (λ n q r.
          inv.passed n m q r b) (λ r. c.in_default.ensures m r b) k h o;
      clear = λ k m h. inv.passed k m (omega arith);
    }

pub returns : goal.returns
returns c = λ k m o b. c.loop-i.invariant.passed k m (omega arith) o b
