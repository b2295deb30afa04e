use Rattle.std.proofs.Common.{◌+◌, ◌-◌, ◌≤◌, length, take}
use Rattle.std.specs.Vec.{vec_len, vec_capacity}
use Rattle.overlay_work.specs.own.Kept.{KeepsFound}
use Rattle.overlay_work.proofs.pair_search.keep_found.Given as goal

abbrev pub invariant-loop-zone : goal.invariant-loop-zone
invariant-loop-zone g l = record {
  found : KeepsFound l.zones.rows l.parcel.ring.corners l.id (take l.zone-index l.candidates) l.initial.kept.items l.kept.items;
  room : vec_len l.kept + (length l.candidates - l.zone-index) ≤ vec_capacity l.kept;
}
