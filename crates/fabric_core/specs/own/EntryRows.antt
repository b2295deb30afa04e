-- The rows of a journal's entry as rings under their ids.
use Rattle.std.specs.Prelude.{List, map}
use Rattle.geo_exact.specs.Layers.{NumberedRing}
use Rattle.fabric_core.specs.declared.journal.Row.{Row}
use Rattle.fabric_core.specs.JournalRows.{row_of}

-- each row as a ring under its id
abbrev pub rows_of_entry : {A : Type 0} → List (Row A) → List NumberedRing
rows_of_entry rows = map row_of rows
