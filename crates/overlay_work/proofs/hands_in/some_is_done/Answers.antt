use Rattle.std.proofs.Common.{◌∙◌, sym, ap, subst, true≢false, [], ◌∷◌, ◌++◌, take}
use Rattle.std.specs.List.{AllByRecursion}
use Rattle.std.proofs.lemmas.List.{take_more}
use Rattle.overlay_work.specs.Rounds.{HasAllEnds}
use Rattle.overlay_work.proofs.ZonesFound.{all_snoc}
use Rattle.overlay_work.proofs.hands_in.some_is_done.Goals as goal

pub returns-then-is_done-clause-yes : goal.returns-then-is_done-clause-yes
returns-then-is_done-clause-yes g c holds =
    (c.hand-item.result, (c.loop-hand.hand-index, c.loop-hand-test.true, sym c.hand-item.is), c.is_done.ensures.0 c.if-is_done.true)

pub loop-hand-preserved : goal.loop-hand-preserved
loop-hand-preserved g c =
    let hands = c.args.hands.now in
    let i = c.loop-hand.hand-index in
    let hand = c.hand-item.result in
    let more = take_more hands i hand c.loop-hand-test.true ∙ ap (λ h. take i hands ++ h ∷ []) (sym c.hand-item.is) in
    subst (AllByRecursion (λ hand. HasAllEnds hand → ⊥)) (sym more)
    (all_snoc (λ hand. HasAllEnds hand → ⊥) (take i hands) hand c.loop-hand.invariant (λ all.
    true≢false (sym (c.is_done.ensures.1 all) ∙ c.if-is_done.false)))
