-- What takes a layer's rings, one after the other, while its files are read (this product's own).
use Rattle.std.specs.Prelude.{◌≡◌, ℕ, List, Option}
use Rattle.geo_exact.specs.declared.coord.Unit.{Unit as LengthUnit}
use Rattle.geo_exact.specs.declared.raw_ring.RawRing.{RawRing}
use Rattle.shp_files.specs.LayerFile.{IsLayerFile, NumberedRing, rings_of}

-- these rings are held, in their order
pub record HoldsRings {A : Type 0} (rings : List NumberedRing) (holds : List (RawRing A) → Type 0) : Type 0 where
  pub held : List (RawRing A)
  pub are : rings_of held ≡ rings
  pub holds_them : holds held

-- the bytes are a layer's main file in this unit and, where there is one, its index file, and its rings are held
pub record HoldsLayer {A : Type 0} (main : List ℕ) (index : Option (List ℕ)) (unit : LengthUnit)
    (holds : List (RawRing A) → Type 0) : Type 0 where
  pub held : List (RawRing A)
  pub is_file : IsLayerFile main index unit (rings_of held)
  pub holds_them : holds held
