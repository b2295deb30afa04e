use Rattle.std.proofs.Common.{◌≤◌, ◌-◌}
use Rattle.geo_exact.specs.declared.coord.Unit.{Unit as LengthUnit}
use Rattle.shp_files.specs.FirstFault.{IsAccepted}
use Rattle.shp_files.proofs.lines.IndexChecked.{IsChecked}
use Rattle.shp_files.proofs.index.check_index.Given as goal

abbrev pub invariant-loop-head : goal.invariant-loop-head
invariant-loop-head l = record {
  from_1 : 1 ≤ l.head.position;
  start : l.head.start ≤ l.end;
  checked : (unit : LengthUnit) → IsAccepted l.main unit → IsChecked l.main l.index unit l.head.position l.head.start;
}

abbrev pub decreases-loop-head : goal.decreases-loop-head
decreases-loop-head l = l.end - l.head.start
