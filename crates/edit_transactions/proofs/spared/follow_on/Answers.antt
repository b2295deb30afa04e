use Rattle.std.proofs.Common.{◌∙◌, ap, arith, length}
use Rattle.std.proofs.lemmas.List.{take_all}
use Rattle.edit_transactions.proofs.OneBook.{one_book}
use Rattle.edit_transactions.proofs.spared.follow_on.Goals as goal

pub returns : goal.returns
returns g c =
    one_book c.loop-place.spare c.args.fabric.now c.loop-place.invariant.city c.loop-place.invariant.opening
    (c.loop-place.invariant.journal
    ∙ take_all c.loop-place.place c.args.fabric.now.journal (omega (arith, c.loop-place-test.false, ap length c.journal-journal.ensures)))
    c.use_invariant-2.ensures.replays c.use_invariant.ensures.replays c.use_invariant-2.ensures.indexed c.use_invariant.ensures.indexed
