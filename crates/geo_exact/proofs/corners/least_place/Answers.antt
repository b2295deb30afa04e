use Rattle.std.proofs.Common.{◌≡◌, sym, ◌∙◌, subst, arith, ◌+◌, ◌<◌, ℕ, zero, suc, nat_eq, Bool, false, length}
use Rattle.std.proofs.lemmas.Bool.{false≢true}
use Rattle.std.specs.List.{IsFirstBest}
use Rattle.std.proofs.lemmas.List.MinMax.{IsFirstBest-takes, IsFirstBest-keeps}
use Rattle.geo_exact.specs.Order.{is_before}
use Rattle.geo_exact.proofs.rings.Begun.{least_is_first}
use Rattle.geo_exact.proofs.corners_and_turns.CornerOrder.{is_before_ranks}
use Rattle.geo_exact.proofs.corners.least_place.Goals as goal
use Rattle.geo_exact.proofs.corners.least_place.Goals.{then-comes_before, else-comes_before}

pub loop-k-preserved : goal.loop-k-preserved
loop-k-preserved c =
    let ring = c.args.corners.now in let k = c.loop-k.k in
    elim c.if-comes_before.branch [
      | then-comes_before w ↦ subst (IsFirstBest is_before ring (k + 1)) (sym w.least-is)
          (IsFirstBest-takes is_before_ranks ring k c.loop-k.least c.index-corners-k.result c.index-corners-least.result c.loop-k.invariant
          c.loop-k-test.true c.index-corners-k.is c.index-corners-least.is (sym c.comes_before.ensures ∙ w.if-comes_before.true))
      | else-comes_before w ↦ subst (IsFirstBest is_before ring (k + 1)) (sym w.least-is)
          (IsFirstBest-keeps is_before_ranks ring k c.loop-k.least c.index-corners-k.result c.index-corners-least.result c.loop-k.invariant
          c.loop-k-test.true c.index-corners-k.is c.index-corners-least.is (sym c.comes_before.ensures ∙ w.if-comes_before.false))
    ]

not_zero : (n : ℕ) (r : Bool) → r ≡ nat_eq n 0 → r ≡ false → 0 < n
not_zero zero r e f = absurd (false≢true (sym f ∙ e))
not_zero (suc n) r e f = omega arith

pub returns-clause-value : goal.returns-clause-value
returns-clause-value c =
    let ring = c.args.corners.now in
    let at_end : c.loop-k.k ≡ length ring =
    omega (arith, not_zero (length ring) c.is_empty.result c.is_empty.ensures c.if-is_empty.false) in
    sym (least_is_first ring c.loop-k.least (subst (λ i. IsFirstBest is_before ring i c.loop-k.least) at_end c.loop-k.invariant))
