use Rattle.std.proofs.Common.{refl, ap, arith, length, [], ◌∷◌, length-append}
use Rattle.overlay_work.proofs.Workers.{doing_goes_on, goes_on_from}
use Rattle.overlay_work.proofs.gate.step_until_done.Goals as goal

pub loop-hand-smaller : goal.loop-hand-smaller
loop-hand-smaller g c =
    let hand = c.loop-hand.hand in
    let id = c.in-Did.field-0 in
    let more = ap length (c.in-Did.ensures.did id refl).did in
    let one = length-append hand.did (id ∷ []) in
    let few = c.use_invariant.ensures in
    omega (arith, more, one, few)

pub loop-hand-preserved : goal.loop-hand-preserved
loop-hand-preserved g c =
    let hand = c.loop-hand.hand in
    let did = c.in-Did.ensures in
    goes_on_from c.args.hand.now hand c.step.new.self c.loop-hand.invariant
    (doing_goes_on hand c.step.new.self c.in-Did.field-0 did.same.0 did.same.1 (did.did c.in-Did.field-0 refl))
