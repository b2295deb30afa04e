-- A hand may go to another thread where its heap may be shared: that a fabric may be shared is a lemma of `fabric_core`.
use denote.RattleType.{RattleType}
use denote.Ref.{NamedLft}
use denote.Param.Send.{Frees, IsSend, IsSync, sendable}
use Rattle.std.specs.declared.alloc.Allocator.{Ghosts}
use Rattle.std.proofs.CrossingOver.{crosses}
use Rattle.overlay_claims.proofs.claims.Claims.TheSendSync as claims
use Rattle.overlay_claims.proofs.claimant.Claimant.TheSendSync as claimant
use Rattle.fabric_core.proofs.Crossing.{fabric_sync, layer_sync}
use Rattle.overlay_work.specs.contracts.work.Work as Work
use Rattle.overlay_work.specs.contracts.hand.Hand as Hand

module _ (τ κ : NamedLft) (T : RattleType) (g : Ghosts T.Denot) (y : IsSync T) (f : Frees g g.dealloc_token) where
  work_send : IsSend (Work.the_field τ κ T g).row
  work_send = search (f.frees, claims.the_send, fabric_sync, layer_sync, sendable, crosses) depth 20

  work_sync : IsSync (Work.the_field τ κ T g).row
  work_sync = search (f.frees, claims.the_sync, fabric_sync, layer_sync, sendable, crosses) depth 20

  pub hand_send : IsSend (Hand.the_field τ κ T g).row
  hand_send = search (f.frees, work_send, work_sync, claimant.the_send, sendable, crosses) depth 20
