use Rattle.std.proofs.Common.{sym, subst}
use Rattle.geo_exact.specs.Rings.{HasNoRepeats}
use Rattle.shp_files.proofs.rings.Turned.{kept_whole}
use Rattle.shp_files.proofs.normal.kept_once.Goals as goal

pub returns-else-has_repeats : goal.returns-else-has_repeats
returns-else-has_repeats g c =
    sym (kept_whole c.args.drawn (subst HasNoRepeats c.as_slice.ensures (c.has_repeats.ensures c.if-has_repeats.false)))
