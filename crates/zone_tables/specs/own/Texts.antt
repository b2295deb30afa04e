-- The text of a report, from its pairs. Public contracts do not speak of it.
use Rattle.std.specs.Prelude.{ℕ, List, ◌++◌}
use Rattle.std.specs.List.{flat_map}
use Rattle.zone_tables.specs.Report.{entries_line, pair_line, split_line, within_line}
use Rattle.zone_tables.specs.own.Zonings.{zonings, split_ids, single_zones}

abbrev pub report_text : ℕ → List (ℕ × ℕ) → List ℕ
report_text entries pairs =
    entries_line entries ++ flat_map pair_line pairs ++ flat_map split_line (split_ids (zonings pairs))
    ++ flat_map within_line (single_zones (zonings pairs))
