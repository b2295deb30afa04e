-- What is told of one layer's files in a city: the layer that tiles it, or their first fault.
use Rattle.std.specs.Prelude.{◌≡◌, ◌⊎◌, List, Result, IfOk, IfErr, IsErrAnd}
use Rattle.geo_exact.specs.declared.coord.Unit.{Unit as LengthUnit}
use Rattle.geo_exact.specs.declared.corner.Corner.{Corner}
use Rattle.fabric_core.specs.Rows.{Tiles}
use Rattle.city_layers.specs.declared.fault.Role.{Role}
use Rattle.city_layers.specs.declared.fault.ToolFault.{ToolFault}
use Rattle.city_layers.specs.declared.fault.ToolFault.TheVariants.{NoMemory}
use Rattle.city_layers.specs.TilingFiles.{Files, IsTiledBy, IsFaultOfLayer}

-- the files tile the city and are this layer, or this is their first fault; memory may always be wanted
pub record IsToldOfLayer (role : Role) (files : Files) (unit : LengthUnit) (city : List Corner)
    (told : Result Tiles ToolFault) : Type 0 where
  pub layer : IfOk told (IsTiledBy files unit city)
  pub fault : IfErr told (λ fault. IsFaultOfLayer role files unit city fault ⊎ (fault ≡ NoMemory))
  pub loads : (tiles : Tiles) → IsTiledBy files unit city tiles → IfErr told (λ fault. fault ≡ NoMemory)
  pub refuses : (fault : ToolFault) → IsFaultOfLayer role files unit city fault
      → IsErrAnd told (λ other. (other ≡ fault) ⊎ (other ≡ NoMemory))
