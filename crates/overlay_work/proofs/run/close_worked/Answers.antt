use Rattle.std.proofs.Common.{◌∙◌, inl, inr, refl, sym, subst, ◌<◌, length, true≢false}
use Rattle.overlay_work.specs.declared.close.CloseFault.TheVariants.{HandsMissing}
use Rattle.overlay_work.specs.Rounds.{Task}
use Rattle.overlay_work.specs.Faults.{HoldNothing}
use Rattle.overlay_work.specs.own.Gathered.{LeastIs}
use Rattle.overlay_work.proofs.HandsIn.{none_holding}
use Rattle.overlay_work.proofs.Faults.{told_of_stopped, some_holding}
use Rattle.overlay_work.proofs.run.close_worked.Goals as goal

pub returns-then-is_some-clause-fault : goal.returns-then-is_some-clause-fault
returns-then-is_some-clause-fault g c = λ old.
    let least = subst (LeastIs c.least_holding.result) c.as_slice.ensures.value c.least_holding.ensures in
    inr (
      c.requires.had_threads,
      inl (some_holding c.least_holding.result c.args.hands.items least
          (sym c.is_some.ensures ∙ c.if-is_some.true)),
    )

pub returns-clause-fault : goal.returns-clause-fault
returns-clause-fault g c = λ old.
    let hands = c.args.hands.items in
    let least = subst (LeastIs c.least_holding.result) c.as_slice.ensures.value c.least_holding.ensures in
    let none : HoldNothing hands = none_holding c.least_holding.result hands least (λ some.
    true≢false (sym (c.is_some.ensures ∙ some) ∙ c.if-is_some.false)) in
    let lists : 0 < length c.args.round.lists =
    subst (λ (t : Task). 0 < length t.lists) c.work.ensures c.use_invariant.ensures.sharing.has_hands.0 in
    told_of_stopped c.args.round old hands c.args.threads c.in-Err.back.fault lists c.requires.stopped
    none c.requires.had_threads c.in-Err.ensures.refuses c.in-Err.ensures.fault

pub returns-in-Ok-clause-refuses : goal.returns-in-Ok-clause-refuses
returns-in-Ok-clause-refuses g c = λ missing.
    absurd (c.in-Ok.ensures.refuses (HandsMissing (length c.args.round.lists) (length c.args.hands.items)) (missing, refl, refl))
