use Rattle.std.proofs.Common.{◌≤◌, ◌-◌, ◌+◌, List}
use Rattle.geo_exact.specs.declared.raw_ring.RawRing.{RawRing}
use Rattle.shp_files.specs.LayerFile.{rings_of}
use Rattle.shp_files.proofs.layers.Walk.{IsReadTo}
use Rattle.shp_files.proofs.layer.read_records.Given as goal
use Rattle.geo_exact.specs.declared.limits.TheConstants.{LAYER_CORNERS, LAYER_RECORDS}

abbrev pub invariant-loop-head : goal.invariant-loop-head
invariant-loop-head g l = record {
  before : List (RawRing g.row.A.Denot);
  held : g.T.TakeEach.holds l.rings before;
  read : IsReadTo l.main l.unit l.head.position l.head.start l.corners_before (rings_of before);
  few_together : l.corners_before ≤ LAYER_CORNERS;
  few : l.head.position ≤ LAYER_RECORDS + 1;
  start : l.head.start ≤ l.end;
}

abbrev pub decreases-loop-head : goal.decreases-loop-head
decreases-loop-head g l = l.end - l.head.start
