use Rattle.std.proofs.Common.{◌≡◌, ◌∙◌, sym, subst, arith, ℕ, length, ◌<◌, ⊎_elim}
use Rattle.std.proofs.lemmas.Bool.{eqb-true, eq-eqb, cases_lt}
use Rattle.overlay_claims.specs.Claimants.{lists_from, AreAllEnded, HasAllEnds}
use Rattle.overlay_claims.proofs.Orders.{all_are_among, not_all_before_the_end}
use Rattle.overlay_claims.proofs.claimant.Claimant.is_done.Goals as goal

pub returns : goal.returns
returns c =
    let hand = c.self.inside in
    let n : ℕ = length hand.mark.me.0.lengths in
    let order = c.self.invariant.3 in (
      λ h.
          let all : hand.ended ≡ n = eqb-true hand.ended hand.count h ∙ c.self.invariant.2 in
          subst HasAllEnds c.self.view_is
          (subst (AreAllEnded n) (sym order.in_order) (subst (λ k. AreAllEnded n (lists_from hand.number n k))
          (sym all) (all_are_among hand.number n order.own_list))),
      λ h.
          let ended : AreAllEnded n (lists_from hand.number n hand.ended) =
          subst (AreAllEnded n) order.in_order (subst HasAllEnds (sym c.self.view_is) h) in
          let whole : hand.ended ≡ n =
          ⊎_elim (λ (less : hand.ended < n). absurd (not_all_before_the_end hand.number n hand.ended less ended))
          (λ more. omega (arith, more, order.at_most)) (cases_lt hand.ended n) in
          eq-eqb hand.ended hand.count (whole ∙ sym c.self.invariant.2),
    )
