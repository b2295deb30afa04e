use Rattle.std.proofs.Common.{◌∙◌, sym, subst, arith, ◌<◌}
use Rattle.entry_cards.proofs.Marks.{deals}
use Rattle.entry_cards.proofs.keeper.Keeper.deal.Goals as goal

pub invariant_of-self : goal.invariant_of-self
invariant_of-self g c =
    let keeper = c.self.inside in
    let kept = c.card_off-mark.ensures.kept in
    let more = subst (λ v. v.dealt < v.clerks) (sym c.self.view_is) c.requires.more in
    record {
      clerks_are = c.self.invariant.clerks_are;
      own = kept.0 ∙ c.self.invariant.own;
      at_most = omega (arith, more);
      mark = deals keeper.clerks keeper.dealt keeper.mark.me _ more c.self.invariant.mark kept.1;
    }
