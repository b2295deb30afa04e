use Rattle.std.proofs.Common.{◌++◌, subst, sym}
use Rattle.std.specs.Prelude.{IsPermutation}
use Rattle.overlay_work.specs.Sharing.{joined}
use Rattle.overlay_work.proofs.Taken.{one_moved}
use Rattle.overlay_work.proofs.pairs.merged.Goals as goal
use Rattle.overlay_work.proofs.pairs.merged.Goals.{in-Some+in_ok-push, in_default}

pub loop-preserved : goal.loop-preserved
loop-preserved g c =
    let all = joined c.args.lists in let front = c.loop.pairs.items in let old = joined c.loop.queues in let new = joined c.take.new.self in
    elim c.match-take.branch [
      | in-Some+in_ok-push w ↦
          rw (w.pairs-is, w.in_ok-push.ensures.items)
          (one_moved all front old new w.in-Some.pair c.loop.invariant w.in-Some.ensures.some)
      | in_default w ↦
          rw w.pairs-is (subst (λ lists. IsPermutation all (front ++ joined lists)) (sym w.in_default.ensures.none) c.loop.invariant)
    ]
