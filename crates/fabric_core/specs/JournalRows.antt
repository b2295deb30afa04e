-- How the rows of a journal's entry are those of the definitions.
use Rattle.geo_exact.specs.Layers.{NumberedRing, numbered}
use Rattle.fabric_core.specs.declared.journal.Row.{Row}

-- a row as a ring under its id
abbrev pub row_of : {A : Type 0} → Row A → NumberedRing
row_of row = numbered row.id row.corners
