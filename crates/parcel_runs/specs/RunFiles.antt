-- What a run about parcels is given.
use Rattle.std.specs.Prelude.{ℕ, List}
use Rattle.geo_exact.specs.declared.coord.Unit.{Unit as LengthUnit}
use Rattle.city_layers.specs.TilingFiles.{Files, files_of}
use Rattle.clerk_runs.specs.ClerkFiles.{texts_of}
use Rattle.parcel_runs.specs.declared.run_files.RunFiles.{RunFiles}

-- the bytes of a city's files and of its parcels', their coordinates' unit, and the bytes of clerks' files, in order
pub record ParcelRun : Type 0 where
  pub city : Files
  pub parcels : Files
  pub unit : LengthUnit
  pub clerks : List (List ℕ)

-- as the program has them
abbrev pub parcel_run_of : {A : Type 0} → RunFiles A → ParcelRun
parcel_run_of files = record {
  city = files_of files.city;
  parcels = files_of files.parcels;
  unit = files.unit;
  clerks = texts_of files.clerks.items;
}
