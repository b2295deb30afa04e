use Rattle.std.proofs.Common.{◌∙◌, sym, ap, subst, [], ◌∷◌, ◌++◌, take}
use Rattle.std.proofs.lemmas.List.{take_more}
use Rattle.overlay_work.specs.own.Gathered.{ArePairsOfHands}
use Rattle.overlay_work.proofs.HandsIn.{pairs_of_one_hand_more}
use Rattle.overlay_work.specs.Sharing.{joined}
use Rattle.std.proofs.lemmas.List.Concat.{flat_map-append}
use Rattle.std.proofs.Common.{append-nil}
use Rattle.overlay_work.proofs.pairs.kept_by.Goals as goal

pub loop-hand-preserved : goal.loop-hand-preserved
loop-hand-preserved g c =
    let hands = c.args.hands.now in
    let i = c.loop-hand.hand-index in
    let hand = c.hand-item.result in
    let more = take_more hands i hand c.loop-hand-test.true ∙ ap (λ h. take i hands ++ h ∷ []) (sym c.hand-item.is) in
    let pairs = ap joined c.in_ok-push.ensures ∙ flat_map-append (λ list. list) c.loop-hand.kept (c.kept.result.now ∷ [])
    ∙ ap (λ l. joined c.loop-hand.kept ++ l) (append-nil c.kept.result.now ∙ c.kept.ensures.kept) in
    subst (λ l. ArePairsOfHands l (joined c.push.new.self)) (sym more)
    (subst (ArePairsOfHands (take i hands ++ hand ∷ [])) (sym pairs)
    (pairs_of_one_hand_more (take i hands) hand (joined c.loop-hand.kept) c.loop-hand.invariant c.kept.ensures.pairs))
