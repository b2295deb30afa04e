-- Districts at any of their versions, and the nets of layers that are added up.
use Rattle.std.proofs.Common.{◌≡◌, refl, sym, ◌∙◌, ap, subst, arith, ◌+ℤ◌, List, [], ◌∷◌, map}
use Rattle.std.specs.List.{AllByRecursion, flat_map}
use Rattle.std.proofs.lemmas.Int.{ints}
use Rattle.std.proofs.lemmas.List.{map-append}
use Rattle.geo_exact.specs.declared.corner.Corner.{Corner}
use Rattle.geo_exact.specs.Layers.{NumberedRing}
use Rattle.ring_edits.specs.Edits.{CoversAlike}
use Rattle.edge_chains.specs.Net.{net_count}
use Rattle.edge_chains.proofs.nets.Nets.{net_count-append}
use Rattle.fabric_core.specs.Tiling.{corner_lists, IsTiling}
use Rattle.fabric_core.proofs.rows.RowLists.{AllByRecursion-append}
use Rattle.district_laws.specs.Districts.{IsDistrict, AreDistricts, district_rows}
use Rattle.district_laws.specs.Live.{LiveDistrict, Version, district_at, IsWholeVersion, AreLiveDistricts, net_of_files}

module _ {A : Type 0} where
  -- the same districts as rows, whatever the versions are
  rows_at : (versions : List (Version A))
      → district_rows (map district_at versions)
      ≡ map (λ (district : LiveDistrict). district.row) (map (λ version. version.of) versions)
  rows_at [] = refl
  rows_at (version ∷ versions) = ap (λ rows. version.of.row ∷ rows) (rows_at versions)

  each_at : (versions : List (Version A))
      → AllByRecursion (λ (district : LiveDistrict). CoversAlike district.outline district.row.corners)
      (map (λ version. version.of) versions)
      → AllByRecursion IsWholeVersion versions → AllByRecursion IsDistrict (map district_at versions)
  each_at [] covers whole = tt
  each_at (version ∷ versions) covers whole = (
    record { covers = covers.0; tiling = whole.0 },
    each_at versions covers.1 whole.1,
  )

  pub are_at : (districts : List LiveDistrict) (city : List Corner) (versions : List (Version A)) → AreLiveDistricts districts city
      → map (λ version. version.of) versions ≡ districts → AllByRecursion IsWholeVersion versions
      → AreDistricts (map district_at versions) city
  are_at districts city versions live same whole = record {
    tiling =
        subst (λ rows. IsTiling rows city)
        (ap (map (λ (district : LiveDistrict). district.row)) (sym same) ∙ sym (rows_at versions)) live.tiling;
    each =
        each_at versions
        (subst (AllByRecursion (λ (district : LiveDistrict). CoversAlike district.outline district.row.corners)) (sym same) live.outlines)
        whole;
  }

-- the nets of files that are added up are those of all their rows
pub net_of_all : (files : List (List NumberedRing)) (a b : Corner)
    → net_count (corner_lists (flat_map (λ (file : List NumberedRing). file) files)) a b ≡ net_of_files files a b
net_of_all [] a b = omega (arith, ints)
net_of_all (file ∷ files) a b =
    let others = flat_map (λ (f : List NumberedRing). f) files in
    ap (λ lists. net_count lists a b) (map-append (λ (row : NumberedRing). row.corners) file others)
    ∙ net_count-append (corner_lists file) (corner_lists others) a b
    ∙ ap (λ z. net_count (corner_lists file) a b +ℤ z) (net_of_all files a b)

pub each_of_all : (P : NumberedRing → Type 0) (files : List (List NumberedRing)) → AllByRecursion (AllByRecursion P) files
    → AllByRecursion P (flat_map (λ (file : List NumberedRing). file) files)
each_of_all P [] h = tt
each_of_all P (file ∷ files) h =
    AllByRecursion-append P file (flat_map (λ (f : List NumberedRing). f) files) h.0 (each_of_all P files h.1)
