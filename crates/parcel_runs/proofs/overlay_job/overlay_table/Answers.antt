use Rattle.std.proofs.Common.{inr, refl}
use Rattle.parcel_runs.proofs.HandNumbers.{thread_of_hand}
use Rattle.parcel_runs.proofs.overlay_job.overlay_table.Goals as goal

pub returns-in-NoThread-clause-fault : goal.returns-in-NoThread-clause-fault
returns-in-NoThread-clause-fault g c =
    let back = c.in-Err.back in
    inr (
      c.in-NoThread.hand,
      thread_of_hand c.in_ok-round.round c.in_ok-round.hands.items back.hands.items _ back.fault c.args.workers c.in-NoThread.hand
          c.in_ok-round.ensures.numbers c.in-Err.ensures.worked c.in-Err.ensures.fault c.in-NoThread.is,
      refl,
    )
