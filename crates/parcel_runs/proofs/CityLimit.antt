-- How many corners a city's ring has.
use Rattle.std.proofs.Common.{◌≡◌, ℕ, ◌+◌, ◌≤◌, List, [], ◌∷◌, take, drop, length, ap, arith}
use Rattle.std.proofs.lemmas.List.{length-append, take-append-drop}
use Rattle.geo_exact.specs.declared.corner.Corner.{Corner}
use Rattle.geo_exact.specs.declared.coord.Unit.{Unit as LengthUnit}
use Rattle.geo_exact.specs.Rings.{begun_at, begun_at_least}
use Rattle.geo_exact.specs.declared.limits.TheConstants.{LAYER_CORNERS, LIST_CORNERS}
use Rattle.shp_files.specs.LayerFile.{corner_count}
use Rattle.city_layers.specs.TilingFiles.{Files, IsCityOf}

-- a list that is begun elsewhere is as long
begun_length : {X : Type 0} (k : ℕ) (xs : List X) → length (begun_at k xs) ≡ length xs
begun_length k xs =
    omega (arith, length-append (drop k xs) (take k xs), length-append (take k xs) (drop k xs), ap length (take-append-drop k xs))

-- a city of a layer file has as many corners as such a file may have
pub city_short : (files : Files) (unit : LengthUnit) (corners : List Corner) (h : IsCityOf files unit corners)
    → corner_count (h.ring ∷ []) ≤ LAYER_CORNERS
    → length corners ≤ LIST_CORNERS
city_short files unit corners h few =
    let same : length (begun_at_least h.ring.corners) ≡ length h.ring.corners = begun_length _ h.ring.corners in
    let one : length h.ring.corners + 0 ≤ LAYER_CORNERS = few in
    omega (arith, same, one, ap length h.is_begun)
