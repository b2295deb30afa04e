-- The report of areas as the code's own functions hand it on: no public contract speaks of it.
use Rattle.std.specs.Prelude.{◌≡◌, ℕ, List, Option}
use Rattle.geo_exact.specs.declared.coord.Unit.{Unit as LengthUnit}
use Rattle.shp_files.specs.LayerFile.{IsLayerFile, NumberedRing}
use Rattle.city_layers.specs.AreaReport.{area_report}

-- the bytes are a layer's main file and, where there is one, its index, and the text is the report of its rings
pub record IsAreaReport (main : List ℕ) (index : Option (List ℕ)) (unit : LengthUnit) (text : List ℕ) : Type 0 where
  pub rings : List NumberedRing
  pub is_file : IsLayerFile main index unit rings
  pub is_text : text ≡ area_report rings
