-- What is written of a row of a tiling is its part.
use Rattle.std.proofs.Common.{◌≡◌, refl, subst, ℕ, List, [], ◌∷◌, map}
use Rattle.std.specs.List.{AllZip, Contains}
use Rattle.std.proofs.lemmas.List.Elements.{Contains-append_left, Contains-append_right, Contains-push}
use Rattle.geo_exact.specs.declared.coord.Unit.{Unit as LengthUnit}
use Rattle.geo_exact.specs.Layers.{NumberedRing, numbered}
use Rattle.fabric_core.specs.Tiling.{IsTiling}
use Rattle.fabric_core.specs.Faults.{AreSimple}
use Rattle.fabric_core.specs.Rows.{Tiles, corners_of_layer}
use Rattle.city_layers.specs.TilingFiles.{Files, AreTiles}
use Rattle.parcel_runs.specs.PartReport.{IsPart}
use Rattle.parcel_runs.specs.own.WrittenParts.{IsWrittenPart}
use Rattle.parcel_runs.specs.declared.export.Exported.{Exported}
use Rattle.parcel_runs.proofs.BegunTwice.{row_begins}
use Rattle.parcel_runs.proofs.PartRings.{row_is_a_city}

-- a relation of what is made of items, one by one, holds of the list that is made of all
mapped : {S X P : Type 0} (f : S → X) (R : X → P → Type 0) (shapes : List S) (parts : List P)
    → AllZip (λ shape part. R (f shape) part) shapes parts → AllZip R (map f shapes) parts
mapped f R [] [] h = tt
mapped f R [] (part ∷ parts) h = absurd h
mapped f R (shape ∷ shapes) [] h = absurd h
mapped f R (shape ∷ shapes) (part ∷ parts) h = (h.0, mapped f R shapes parts h.1)

pub of_shapes : {S X P : Type 0} (f : S → X) (R : X → P → Type 0) (shapes : List S) (parts : List P) (rows : List X)
    → map f shapes ≡ rows → AllZip (λ shape part. R (f shape) part) shapes parts → AllZip R rows parts
of_shapes f R shapes parts rows e h = subst (λ rows. AllZip R rows parts) e (mapped f R shapes parts h)

-- ---- the rows of a tiling
module _ {A : Type 0} (city districts : Files) (unit : LengthUnit) (tiles : Tiles) (are : AreTiles city districts unit tiles)
    (simple : AreSimple tiles.rows) (tiling : IsTiling tiles.rows tiles.city) where
  pub part_of_row : (row : NumberedRing) (part : ℕ × Exported A) → Contains tiles.rows row → IsWrittenPart row part
      → IsPart city districts unit row.number part.1.main.items part.1.index.items part.1.lines.items
  part_of_row row part c h =
      let tiled = are.is_tiled in
      record {
        tiles = tiles;
        are_tiles = are;
        row = row;
        is_row = c;
        has_number = refl;
        is_main = h.is_main;
        is_index = h.is_index;
        is_city = record {
          ring = numbered 1 row.corners;
          is_only = h.is_read_back;
          is_begun = row_begins (corners_of_layer tiled.records tiles.city) tiled.records tiles.rows tiled.are_refined.are_rows row c;
          is_city = row_is_a_city tiles.rows tiles.city simple tiling row c;
        };
        is_told = h.is_told;
      }

  abbrev pub IsPartOf : NumberedRing → ℕ × Exported A → Type 0
  IsPartOf row part = (part.0 ≡ row.number)
      × IsPart city districts unit row.number part.1.main.items part.1.index.items part.1.lines.items

  some_parts : (rows : List NumberedRing) (parts : List (ℕ × Exported A))
      → ((row : NumberedRing) → Contains rows row → Contains tiles.rows row)
      → AllZip IsWrittenPart rows parts → AllZip IsPartOf rows parts
  some_parts [] [] within h = tt
  some_parts [] (part ∷ parts) within h = absurd h
  some_parts (row ∷ rows) [] within h = absurd h
  some_parts (row ∷ rows) (part ∷ parts) within h = (
    (h.0.has_number, part_of_row row part (within row (Contains-append_left (row ∷ []) rows row (Contains-push [] row))) h.0),
    some_parts rows parts (λ other c. within other (Contains-append_right (row ∷ []) rows other c)) h.1,
  )

  pub all_parts : (parts : List (ℕ × Exported A)) → AllZip IsWrittenPart tiles.rows parts → AllZip IsPartOf tiles.rows parts
  all_parts parts h = some_parts tiles.rows parts (λ row c. c) h
