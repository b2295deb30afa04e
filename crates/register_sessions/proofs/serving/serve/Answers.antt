use denote.Param.Send.{sendable}
use Rattle.register_sessions.proofs.Crossing.{desk_send, shared_sync}
use Rattle.register_sessions.proofs.serving.serve.Goals as goal

pub run_beside-done-requires-sync-C : goal.run_beside-done-requires-sync-C
run_beside-done-requires-sync-C g c κs within =
    let heap = c.type_bounds.sync-H in
    let frees = c.type_bounds.frees-H-Allocator in
    let rt = c.type_bounds.sync-R in
    let disk = c.type_bounds.sync-P in
    let synchroniser = c.type_bounds.sync-K in
    let its_own = c.type_bounds.send-K in
    search (shared_sync, sendable) depth 20

pub run_beside-done-requires-send-T : goal.run_beside-done-requires-send-T
run_beside-done-requires-send-T g c κs within =
    let heap = c.type_bounds.sync-H in
    let frees = c.type_bounds.frees-H-Allocator in
    search (desk_send, sendable) depth 20
