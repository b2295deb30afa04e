use Rattle.std.proofs.Common.{◌≡◌, ◌+◌, ◌++◌, drop}
use Rattle.shp_files.specs.LayerFile.{joined}
use Rattle.shp_files.specs.Written.{corner_lists, words, records, index_records}
use Rattle.shp_files.proofs.write.put_index_records.Given as goal

abbrev pub invariant-loop-ring : goal.invariant-loop-ring
invariant-loop-ring g l = record {
  place : l.place + words (joined (records (l.ring-index + 1) (corner_lists (drop l.ring-index l.rings))))
      ≡ 50 + words (joined (records 1 (corner_lists l.rings)));
  so_far : l.out.items ++ index_records l.place (corner_lists (drop l.ring-index l.rings)) ≡ l.initial.out.items
      ++ index_records 50 (corner_lists l.rings);
}
