use Rattle.std.proofs.Common.{◌+◌, ◌++◌, ◌∙◌, ap}
use Rattle.shp_files.specs.LayerFile.{joined}
use Rattle.shp_files.specs.Written.{corner_lists, all_corners, header, records, written_main}
use Rattle.shp_files.proofs.written.Puts.{both}
use Rattle.shp_files.proofs.write.write_main.Goals as goal

pub returns : goal.returns
unfolding written_main
returns g c =
    both _ _ _ _ _ c.in_ok-out.ensures.items (c.in_ok-put_header.ensures _ c.requires.bounds) c.in_ok-put_records.ensures
    ∙ ap (λ n. header (50 + n) (all_corners (corner_lists c.args.rings.now))
    ++ joined (records 1 (corner_lists c.args.rings.now))) c.records_words-words.ensures.value
