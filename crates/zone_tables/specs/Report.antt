-- The text of an overlay's report (this product's own): how many entries the journal had, the pairs, the split-zoned
-- parcels, and the zone of each other parcel. Numbers are in decimal.
use Rattle.std.specs.Prelude.{◌≡◌, ◌⊎◌, ◌↔◌, ℕ, List, [], ◌∷◌, ◌++◌, map, codes, Option}
use Rattle.std.specs.List.{Contains, flat_map}
use Rattle.std.specs.List.Sorted.{IsStrictlyIncreasing}
use Rattle.std.specs.Io.KnownBytes.{Appends}
use Rattle.geo_exact.specs.Layers.{NumberedRing}
use Rattle.fabric_core.specs.Rows.{numbers}
use Rattle.text_pieces.specs.Beginnings.{AppendsBeginning}
use Rattle.text_pieces.specs.PieceText.{number_text}
use Rattle.zone_tables.specs.Overlap.{Overlay, IsOverlapTable, AreSplitZoned}
use Rattle.zone_tables.specs.Within.{IsWithinZone}

-- a line: a word, and the numbers behind it
abbrev pub line : List ℕ → List ℕ → List ℕ
line word numbers = word ++ flat_map number_text numbers ++ codes "\n"

-- `entries N`
abbrev pub entries_line : ℕ → List ℕ
entries_line entries = line (codes "entries") (entries ∷ [])

-- `pair ID ZONE`
abbrev pub pair_line : ℕ × ℕ → List ℕ
pair_line pair = line (codes "pair") (pair.0 ∷ pair.1 ∷ [])

-- `split ID`
abbrev pub split_line : ℕ → List ℕ
split_line id = line (codes "split") (id ∷ [])

-- `within ID ZONE`
abbrev pub within_line : ℕ × ℕ → List ℕ
within_line pair = line (codes "within") (pair.0 ∷ pair.1 ∷ [])

-- each parcel that is within a zone, with its zone, by ascending id, each once
pub record AreWithinZones (rows zones : List NumberedRing) (pairs : List (ℕ × ℕ)) : Type 0 where
  pub ascend : IsStrictlyIncreasing (map (λ pair. pair.0) pairs)
  pub exactly : (id zone : ℕ) → Contains pairs (id, zone) ↔ IsWithinZone rows zones id zone

-- The text tells the table of its parcels and zones: the pairs, which are all that overlap, the split-zoned parcels,
-- and each other parcel with the zone that it is within.
pub record IsReport (table : Overlay) (text : List ℕ) : Type 0 where
  pub is_table : IsOverlapTable table.rows table.zones table.pairs
  pub splits : List ℕ
  pub are_split : AreSplitZoned table.rows table.zones splits
  pub others : List (ℕ × ℕ)
  pub are_within : AreWithinZones table.rows table.zones others
  pub each_is_told : (id : ℕ) → Contains (numbers table.rows) id
      → Contains splits id ⊎ Contains (map (λ pair. pair.0) others) id
  pub is_text : text ≡ entries_line table.entries ++ flat_map pair_line table.pairs ++ flat_map split_line splits
      ++ flat_map within_line others

-- the report was written after the told bytes
pub record WritesReport (table : Overlay) (old new : Option (List ℕ)) : Type 0 where
  pub text : List ℕ
  pub is_report : IsReport table text
  pub is_written : Appends old new text

-- a beginning of the report was written after the told bytes
pub record WritesBeginning (table : Overlay) (old new : Option (List ℕ)) : Type 0 where
  pub text : List ℕ
  pub is_report : IsReport table text
  pub is_begun : AppendsBeginning old new text
