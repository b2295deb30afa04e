-- Which of this crate's types may go to another thread, and be shared: as their memory may. Type by type, since a search
-- that goes down through all of them runs out of steps.
use denote.RattleType.{RattleType}
use denote.Ref.{NamedLft}
use denote.Param.Send.{Frees, IsSend, IsSync, sendable}
use Rattle.std.specs.declared.alloc.Allocator.{Ghosts}
use Rattle.std.proofs.CrossingOver.{crosses}
use Rattle.smallvec.specs.contracts.small_vec.SmallVec as SmallVec
use Rattle.arrayvec.specs.contracts.array_vec.ArrayVec as ArrayVec
use Rattle.geo_exact.specs.contracts.bounds.Bounds as Bounds
use Rattle.cell_index.specs.contracts.entry.IndexEntry as IndexEntry
use Rattle.cell_index.specs.contracts.index.CellIndex as CellIndex

bounds_send : IsSend Bounds.the_field.row
bounds_send = search sendable depth 20

bounds_sync : IsSync Bounds.the_field.row
bounds_sync = search sendable depth 20

entry_send : IsSend IndexEntry.the_field.row
entry_send = search sendable depth 20

entry_sync : IsSync IndexEntry.the_field.row
entry_sync = search sendable depth 20

module _ (R N B : RattleType) where
  array_vec_send : IsSend R → IsSend B → IsSend (ArrayVec.the_field R N B).row
  array_vec_send r s = search sendable depth 20

  array_vec_sync : IsSync R → IsSync B → IsSync (ArrayVec.the_field R N B).row
  array_vec_sync r y = search sendable depth 20

module _ (R N B : RattleType) (g : Ghosts B.Denot) where
  small_vec_send : IsSend R → IsSend B → Frees g g.dealloc_token → IsSend (SmallVec.the_field R N B g).row
  small_vec_send r s f = search (array_vec_send, sendable, crosses) depth 20

  small_vec_sync : IsSync R → IsSync B → IsSync (SmallVec.the_field R N B g).row
  small_vec_sync r y = search (array_vec_sync, sendable, crosses) depth 20

module _ (κ : NamedLft) (T : RattleType) (g : Ghosts T.Denot) (y : IsSync T) where
  pub index_send : Frees g g.dealloc_token → IsSend (CellIndex.the_field κ T g).row
  index_send f = search (f.frees, small_vec_send, bounds_send, entry_send, sendable, crosses) depth 20

  pub index_sync : IsSync (CellIndex.the_field κ T g).row
  index_sync = search (small_vec_sync, bounds_sync, entry_sync, sendable, crosses) depth 20
