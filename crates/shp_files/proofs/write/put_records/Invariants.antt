use Rattle.std.proofs.Common.{◌≡◌, ◌+◌, ◌++◌, drop}
use Rattle.shp_files.specs.LayerFile.{joined}
use Rattle.shp_files.specs.Written.{corner_lists, records}
use Rattle.shp_files.proofs.write.put_records.Given as goal

abbrev pub invariant-loop-ring : goal.invariant-loop-ring
invariant-loop-ring g l = record {
  numbered : l.number ≡ l.ring-index + 1;
  so_far : l.out.items ++ joined (records (l.ring-index + 1) (corner_lists (drop l.ring-index l.rings)))
      ≡ l.initial.out.items ++ joined (records 1 (corner_lists l.rings));
}
