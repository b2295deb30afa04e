use Rattle.std.proofs.Common.{◌≡◌, ◌+◌, ◌*◌, length, None}
use Rattle.shp_files.specs.Checks.{first_failure, coordinate_checks}
use Rattle.shp_files.specs.own.Reading.{AreReadAs}
use Rattle.shp_files.proofs.record.read_corners.Given as goal

abbrev pub invariant-loop-i : goal.invariant-loop-i
invariant-loop-i g l = record {
  checked : None ≡ first_failure (coordinate_checks l.main l.unit l.head.position (l.head.start + 56) (2 * l.i));
  read : AreReadAs l.unit l.main (l.head.start + 56) l.corners;
  count : length l.corners ≡ l.i;
}
