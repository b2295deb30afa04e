use denote.Param.Send.{sendable}
use Rattle.clerk_runs.proofs.Crossing.{office_sync}
use Rattle.office_tests.proofs.clerks.work_all.Goals as goal

pub do_all-requires-sync-C : goal.do_all-requires-sync-C
do_all-requires-sync-C g c κs within =
    let sync = c.type_bounds.sync-H in
    let frees = c.type_bounds.frees-H-Allocator in
    search (office_sync, sendable) depth 20
