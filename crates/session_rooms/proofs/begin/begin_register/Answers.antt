use Rattle.city_layers.specs.TilingFiles.{files_of}
use Rattle.session_rooms.proofs.Starts.{stopped_behind}
use Rattle.session_rooms.proofs.begin.begin_register.Goals as goal

pub returns-clause-refused : goal.returns-clause-refused
returns-clause-refused g c = λ number refusal is.
    stopped_behind _ (files_of c.args.sources.now.city) (files_of c.args.sources.now.parcels) c.args.unit c.args.text.now
    c.in-Err-open_behind.fault c.in-Ok.loaded.0 number refusal c.in-Ok.ensures.tiles
    (c.in-Err-open_behind.ensures.refused number refusal) is
