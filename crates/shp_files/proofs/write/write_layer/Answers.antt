use Rattle.shp_files.proofs.written.WrittenRings.{read_back}
use Rattle.shp_files.proofs.write.write_layer.Goals as goal

pub returns-clause-read_back : goal.returns-clause-read_back
returns-clause-read_back g c = rw (c.in_ok-main.ensures, c.in_ok-index.ensures)
    (read_back c.args.rings.now c.requires.rings c.requires.corners)
