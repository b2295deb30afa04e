use Rattle.std.proofs.Common.{rules, ◌≡◌, ◌∙◌, sym, ap, subst, min, true, [], ◌∷◌, ◌++◌}
use Rattle.overlay_work.specs.Faults.{IsLeastHolding}
use Rattle.overlay_work.specs.own.Gathered.{LeastIs}
use Rattle.overlay_work.proofs.HandsIn.{first_holding, lesser_holding}
use Rattle.overlay_work.proofs.hands_in.lesser.Goals as goal

pub returns-in-Some : goal.returns-in-Some
returns-in-Some g c hands is =
    let hand = c.args.hand.now in
    let holds : c.holds_one.result ≡ true = search (rules, c.if-not-holds_one.false) in
    let same : c.min.result ≡ min c.in-Some.number hand.number = c.min.ensures ∙ ap (min c.in-Some.number) c.number.ensures in
    subst (IsLeastHolding (hands ++ hand ∷ [])) (sym same)
    (lesser_holding hands hand c.in-Some.number (c.holds_one.ensures.0 holds) (subst (λ o. LeastIs o hands) c.in-Some.is is))

pub returns-in-None : goal.returns-in-None
returns-in-None g c hands is =
    let hand = c.args.hand.now in
    let holds : c.holds_one.result ≡ true = search (rules, c.if-not-holds_one.false) in
    subst (IsLeastHolding (hands ++ hand ∷ [])) (sym c.number-in-None.ensures)
    (first_holding hands hand (c.holds_one.ensures.0 holds) (subst (λ o. LeastIs o hands) c.in-None.is is))
