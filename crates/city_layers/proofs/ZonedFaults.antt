-- The first fault of a city's files, of its parcels' and of its zones'.
use Rattle.std.proofs.Common.{◌≡◌, ◌⊎◌, inl, inr, List, sym, subst}
use Rattle.geo_exact.specs.declared.coord.Unit.{Unit as LengthUnit}
use Rattle.geo_exact.specs.declared.corner.Corner.{Corner}
use Rattle.fabric_core.specs.Rows.{Tiles}
use Rattle.city_layers.specs.declared.fault.Role.TheVariants.{Parcels, Zones}
use Rattle.city_layers.specs.declared.fault.ToolFault.{ToolFault}
use Rattle.city_layers.specs.declared.fault.ToolFault.TheVariants.{NoMemory}
use Rattle.city_layers.specs.TilingFiles.{Files, IsCityOf, IsFaultOfCity, IsTiledBy, IsFaultOfLayer, AreTiles}
use Rattle.city_layers.specs.ZonedFiles.{IsLayersFault}

-- a fault of the layers is the city's, or in the one city that there is the parcels', or behind them the zones'
pub by_layer : (city parcels zones : Files) (unit : LengthUnit) (corners : List Corner) (P : Type 0) (fault : ToolFault)
    → ((other : List Corner) → IsCityOf city unit other → corners ≡ other) → IsLayersFault city parcels zones unit fault
    → (IsFaultOfCity city unit fault → P) → (IsFaultOfLayer Parcels parcels unit corners fault → P)
    → ((tiles : Tiles) → IsTiledBy parcels unit corners tiles → IsFaultOfLayer Zones zones unit corners fault → P) → P
by_layer city parcels zones unit corners P fault only (inl (inl h)) of_city of_parcels of_zones = of_city h
by_layer city parcels zones unit corners P fault only (inl (inr h)) of_city of_parcels of_zones =
    of_parcels (subst (λ c. IsFaultOfLayer Parcels parcels unit c fault) (sym (only h.corners h.is_city)) h.is_fault)
by_layer city parcels zones unit corners P fault only (inr h) of_city of_parcels of_zones =
    let same = sym (only h.tiles.city h.are_tiles.is_city) in
    of_zones h.tiles (subst (λ c. IsTiledBy parcels unit c h.tiles) same h.are_tiles.is_tiled)
    (subst (λ c. IsFaultOfLayer Zones zones unit c fault) same h.is_fault)

-- what tiles the one city that there is
pub tiled_in : (city files : Files) (unit : LengthUnit) (corners other : List Corner) (tiles : Tiles)
    → ((other : List Corner) → IsCityOf city unit other → corners ≡ other) → IsCityOf city unit other
    → IsTiledBy files unit other tiles
    → IsTiledBy files unit corners tiles
tiled_in city files unit corners other tiles only is h = subst (λ c. IsTiledBy files unit c tiles) (sym (only other is)) h

pub are_tiles_of : (city parcels : Files) (unit : LengthUnit) (corners : List Corner) (tiles : Tiles) → IsCityOf city unit corners
    → IsTiledBy parcels unit corners tiles → AreTiles city parcels unit tiles
are_tiles_of city parcels unit corners tiles is h = record {
  is_city = subst (IsCityOf city unit) (sym h.same_city) is;
  is_tiled = subst (λ c. IsTiledBy parcels unit c tiles) (sym h.same_city) h;
}

-- a fault of the zones' files, as it is told behind the parcels'
pub of_zones : (city parcels zones : Files) (unit : LengthUnit) (corners : List Corner) (tiles : Tiles)
    (fault : ToolFault) → IsCityOf city unit corners
    → IsTiledBy parcels unit corners tiles → IsFaultOfLayer Zones zones unit corners fault ⊎ (fault ≡ NoMemory)
    → IsLayersFault city parcels zones unit fault ⊎ (fault ≡ NoMemory)
of_zones city parcels zones unit corners tiles fault is h (inl k) = inl (inr record {
  tiles = tiles;
  are_tiles = are_tiles_of city parcels unit corners tiles is h;
  is_fault = subst (λ c. IsFaultOfLayer Zones zones unit c fault) (sym h.same_city) k;
})
of_zones city parcels zones unit corners tiles fault is h (inr e) = inr e
