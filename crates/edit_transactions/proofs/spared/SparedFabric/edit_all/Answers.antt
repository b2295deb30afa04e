use Rattle.std.proofs.Common.{inl, sym, subst}
use Rattle.fabric_core.specs.Journal.{Book}
use Rattle.edit_transactions.specs.Transactions.{IsFirstRefused}
use Rattle.edit_transactions.proofs.spared.SparedFabric.edit_all.Goals as goal

pub returns-in-Ok-make_in_turn-clause-refuses : goal.returns-in-Ok-make_in_turn-clause-refuses
returns-in-Ok-make_in_turn-clause-refuses g c = λ p r first.
    c.in-Ok-make_in_turn.ensures.refuses p r
    (subst (λ (b : Book _). IsFirstRefused b.now b.journal c.args.clerk c.args.edits.now p r) (sym c.self.view_is) first)

pub returns-after-copy-clause-refuses : goal.returns-after-copy-clause-refuses
returns-after-copy-clause-refuses g c = λ p r first.
    c.in-Err.ensures.refuses p r
    (subst (λ (b : Book _). IsFirstRefused b.now b.journal c.args.clerk c.args.edits.now p r) (sym c.self.view_is) first)

pub returns-after-copy-clause-exact : goal.returns-after-copy-clause-exact
returns-after-copy-clause-exact g c = λ p r first.
    let told = c.in-Err.ensures.exact p r
    (subst (λ (b : Book _). IsFirstRefused b.now b.journal c.args.clerk c.args.edits.now p r) (sym c.self.view_is) first) in
    (told.0, λ here needs. inl (told.1 here needs))
