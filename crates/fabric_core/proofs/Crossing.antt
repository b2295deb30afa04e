-- A fabric may go to another thread, and be shared, where its heap may. The kit's own search finds that of lists and of
-- snapshots, but not of what has both.
use denote.RattleType.{RattleType}
use denote.Ref.{NamedLft}
use denote.Param.Send.{Frees, IsSend, IsSync, sendable}
use Rattle.std.specs.declared.alloc.Allocator.{Ghosts}
use Rattle.std.proofs.CrossingOver.{crosses}
use Rattle.std.proofs.Crossing.{crosses as own_crosses}
use Rattle.cell_index.proofs.Crossing.{index_send, index_sync}
use Rattle.parcel_table.proofs.Crossing.{corners_send, corners_sync, parcels_send, parcels_sync}
use Rattle.ring_edits.specs.contracts.edit.Edit as Edit
use Rattle.fabric_core.specs.contracts.journal.Row as Row
use Rattle.fabric_core.specs.contracts.journal.Entry as Entry
use Rattle.fabric_core.specs.contracts.hints.Axis as Axis
use Rattle.fabric_core.specs.contracts.hints.Hints as Hints
use Rattle.fabric_core.specs.contracts.tiled.Tiled as Tiled
use Rattle.fabric_core.specs.contracts.farthest.Farthest as Farthest
use Rattle.fabric_core.specs.contracts.opening.Opening as Opening
use Rattle.fabric_core.specs.contracts.layer.Layer as Layer
use Rattle.fabric_core.specs.contracts.fabric.Fabric as Fabric

axis_send : IsSend Axis.the_field.row
axis_send = search sendable depth 20

axis_sync : IsSync Axis.the_field.row
axis_sync = search sendable depth 20

farthest_send : IsSend Farthest.the_field.row
farthest_send = search sendable depth 20

farthest_sync : IsSync Farthest.the_field.row
farthest_sync = search sendable depth 20

module _ (B : RattleType) (g : Ghosts B.Denot) where
  module _ (s : IsSend B) (f : Frees g g.dealloc_token) where
    edit_send : IsSend (Edit.the_field B g).row
    edit_send = search (corners_send, sendable) depth 20

    row_send : IsSend (Row.the_field B g).row
    row_send = search (corners_send, sendable) depth 20

    pub entry_send : IsSend (Entry.the_field B g).row
    entry_send = search (edit_send, row_send, sendable, crosses) depth 20

  module _ (y : IsSync B) where
    edit_sync : IsSync (Edit.the_field B g).row
    edit_sync = search (corners_sync, sendable) depth 20

    row_sync : IsSync (Row.the_field B g).row
    row_sync = search (corners_sync, sendable) depth 20

    pub entry_sync : IsSync (Entry.the_field B g).row
    entry_sync = search (edit_sync, row_sync, sendable, crosses) depth 20

module _ (κ : NamedLft) (T : RattleType) (g : Ghosts T.Denot) where
  opening_send : IsSend (Opening.the_field κ T g).row
  opening_send = search (farthest_send, sendable, own_crosses) depth 20

  opening_sync : IsSync (Opening.the_field κ T g).row
  opening_sync = search (farthest_sync, sendable, own_crosses) depth 20

  module _ (y : IsSync T) (f : Frees g g.dealloc_token) where
    hints_send : IsSend (Hints.the_field κ T g).row
    hints_send = search (f.frees, axis_send, sendable, crosses) depth 20

    tiled_send : IsSend (Tiled.the_field κ T g).row
    tiled_send = search (f.frees, corners_send, parcels_send, index_send, hints_send, sendable, crosses) depth 20

    pub fabric_send : IsSend (Fabric.the_field κ T g).row
    fabric_send = search (f.frees, tiled_send, opening_send, entry_send, sendable, crosses) depth 20

  module _ (y : IsSync T) where
    hints_sync : IsSync (Hints.the_field κ T g).row
    hints_sync = search (axis_sync, sendable, crosses) depth 20

    tiled_sync : IsSync (Tiled.the_field κ T g).row
    tiled_sync = search (corners_sync, parcels_sync, index_sync, hints_sync, sendable, crosses) depth 20

    pub layer_sync : IsSync (Layer.the_field κ T g).row
    layer_sync = search (tiled_sync, sendable) depth 20

    pub fabric_sync : IsSync (Fabric.the_field κ T g).row
    fabric_sync = search (tiled_sync, opening_sync, entry_sync, sendable, crosses) depth 20
