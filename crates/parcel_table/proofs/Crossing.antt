-- Which of this crate's types, and of those that they have, may go to another thread, and be shared: as their memory may.
-- Type by type, since a search that goes down through all of them runs out of steps.
use denote.RattleType.{RattleType}
use denote.Param.Send.{Frees, IsSend, IsSync, sendable}
use Rattle.std.specs.declared.alloc.Allocator.{Ghosts}
use Rattle.std.proofs.CrossingOver.{crosses}
use Rattle.slab.specs.contracts.Slab as Slab
use Rattle.geo_exact.specs.contracts.bounds.Bounds as Bounds
use Rattle.geo_exact.specs.contracts.corners.Corners as Corners
use Rattle.ring_core.specs.contracts.triangle.Tri as Tri
use Rattle.ring_core.specs.contracts.triangle.Triangles as Triangles
use Rattle.ring_core.specs.contracts.ring.Ring as Ring
use Rattle.ring_core.specs.contracts.shape.Shape as Shape
use Rattle.parcel_table.specs.contracts.place.Place as Place
use Rattle.parcel_table.specs.contracts.parcels.Parcel as Parcel
use Rattle.parcel_table.specs.contracts.parcels.Parcels as Parcels

place_send : IsSend Place.the_field.row
place_send = search sendable depth 20

place_sync : IsSync Place.the_field.row
place_sync = search sendable depth 20

tri_send : IsSend Tri.the_field.row
tri_send = search sendable depth 20

tri_sync : IsSync Tri.the_field.row
tri_sync = search sendable depth 20

bounds_send : IsSend Bounds.the_field.row
bounds_send = search sendable depth 20

bounds_sync : IsSync Bounds.the_field.row
bounds_sync = search sendable depth 20

module _ (R B : RattleType) (g : Ghosts B.Denot) where
  slab_send : IsSend R → IsSend B → Frees g g.dealloc_token → IsSend (Slab.the_field R B g).row
  slab_send r s f = search (sendable, crosses) depth 20

  slab_sync : IsSync R → IsSync B → IsSync (Slab.the_field R B g).row
  slab_sync r y = search (sendable, crosses) depth 20

module _ (B : RattleType) (g : Ghosts B.Denot) (s : IsSend B) (f : Frees g g.dealloc_token) where
  pub corners_send : IsSend (Corners.the_field B g).row
  corners_send = search (sendable, crosses) depth 20

  triangles_send : IsSend (Triangles.the_field B g).row
  triangles_send = search (tri_send, sendable, crosses) depth 20

  ring_send : IsSend (Ring.the_field B g).row
  ring_send = search (corners_send, sendable) depth 20

  shape_send : IsSend (Shape.the_field B g).row
  shape_send = search (ring_send, triangles_send, bounds_send, sendable) depth 20

  parcel_send : IsSend (Parcel.the_field B g).row
  parcel_send = search (shape_send, sendable) depth 20

  pub parcels_send : IsSend (Parcels.the_field B g).row
  parcels_send = search (slab_send, parcel_send, place_send, sendable, crosses) depth 20

module _ (B : RattleType) (g : Ghosts B.Denot) (y : IsSync B) where
  pub corners_sync : IsSync (Corners.the_field B g).row
  corners_sync = search (sendable, crosses) depth 20

  triangles_sync : IsSync (Triangles.the_field B g).row
  triangles_sync = search (tri_sync, sendable, crosses) depth 20

  ring_sync : IsSync (Ring.the_field B g).row
  ring_sync = search (corners_sync, sendable) depth 20

  shape_sync : IsSync (Shape.the_field B g).row
  shape_sync = search (ring_sync, triangles_sync, bounds_sync, sendable) depth 20

  parcel_sync : IsSync (Parcel.the_field B g).row
  parcel_sync = search (shape_sync, sendable) depth 20

  pub parcels_sync : IsSync (Parcels.the_field B g).row
  parcels_sync = search (slab_sync, parcel_sync, place_sync, sendable, crosses) depth 20
