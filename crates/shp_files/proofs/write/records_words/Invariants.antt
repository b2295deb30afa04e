use Rattle.std.proofs.Common.{◌≡◌, ◌+◌, drop}
use Rattle.shp_files.specs.LayerFile.{joined}
use Rattle.shp_files.specs.Written.{corner_lists, words, records}
use Rattle.shp_files.proofs.write.records_words.Given as goal

abbrev pub invariant-loop-ring : goal.invariant-loop-ring
invariant-loop-ring g l =
    l.words + words (joined (records (l.ring-index + 1) (corner_lists (drop l.ring-index l.rings))))
    ≡ words (joined (records 1 (corner_lists l.rings)))
