-- A city made of districts whose registers are open, each under edits of its own (this product's own).
use Rattle.std.specs.Prelude.{ℤ, pos, ◌+ℤ◌, List, [], ◌∷◌, map}
use Rattle.std.specs.List.{AllByRecursion}
use Rattle.geo_exact.specs.declared.corner.Corner.{Corner}
use Rattle.geo_exact.specs.Layers.{NumberedRing}
use Rattle.edge_chains.specs.Net.{net_count}
use Rattle.ring_edits.specs.Edits.{CoversAlike}
use Rattle.fabric_core.specs.Journal.{State, JournalEntry, replay}
use Rattle.fabric_core.specs.Tiling.{corner_lists, IsTiling}
use Rattle.district_laws.specs.Districts.{District}

-- a district whose register is open: its row in the city's layer of districts, its outline, which is the city of its
-- register, and the state in which its register was opened
pub record LiveDistrict : Type 0 where
  pub row : NumberedRing
  pub outline : List Corner
  pub opening : State

-- a version of a district: entries of its journal, from the first on
pub record Version (A : Type 0) : Type 0 where
  pub of : LiveDistrict
  pub entries : List (JournalEntry A)

-- the rows that the entries lead to, and the district with them
abbrev pub version_rows : {A : Type 0} → Version A → List NumberedRing
version_rows version = (replay version.of.opening version.entries).rows

abbrev pub district_at : {A : Type 0} → Version A → District
district_at version = record { row = version.of.row; outline = version.of.outline; rows = version_rows version }

-- the version's rows tile the district's outline, as each version does that a window answers from (`Window::locate`)
abbrev pub IsWholeVersion : {A : Type 0} → Version A → Type 0
IsWholeVersion version = IsTiling (version_rows version) version.of.outline

-- the districts tile the city, and the outline of each covers what its row covers
pub record AreLiveDistricts (districts : List LiveDistrict) (city : List Corner) : Type 0 where
  pub tiling : IsTiling (map (λ district. district.row) districts) city
  pub outlines : AllByRecursion (λ district. CoversAlike district.outline district.row.corners) districts

-- the directed edges of all files from one corner to another, less those the other way, added up over the files
abbrev pub net_of_files : List (List NumberedRing) → Corner → Corner → ℤ
net_of_files [] a b = pos 0
net_of_files (file ∷ files) a b = net_count (corner_lists file) a b +ℤ net_of_files files a b
