-- The rows of a layer: its records' rings, noded for all corners of the layer and its city (this product's own; noding
-- is edge_chains').
use Rattle.std.specs.Prelude.{◌≡◌, ◌≢◌, ◌⊎◌, ℕ, List, ◌++◌, map, [], ◌∷◌}
use Rattle.std.specs.List.{AllZip}
use Rattle.geo_exact.specs.declared.corner.Corner.{Corner}
use Rattle.geo_exact.specs.Point.{Point}
use Rattle.geo_exact.specs.Winding.{winding}
use Rattle.geo_exact.specs.Layers.{NumberedRing}
use Rattle.cell_index.specs.Cells.{Grid}
use Rattle.edge_chains.specs.Net.{all_edges, winding_of_rings}
use Rattle.edge_chains.specs.Noding.{IsNoded, all_corners}
use Rattle.edge_chains.specs.Jump.{AreBeside, MeetsOnly}
use Rattle.geo_exact.specs.Rings.{begun_at_least}
use Rattle.fabric_core.specs.Tiling.{corner_lists, IsOffEdges}

-- all corners of a layer's records and of its city
abbrev pub corners_of_layer : List NumberedRing → List Corner → List Corner
corners_of_layer records city = all_corners (corner_lists records) ++ city

-- the row of a record: its ring noded for the corners and begun at its least corner, under the record's number
pub record IsRowOf (corners : List Corner) (record_ring row : NumberedRing) : Type 0 where
  pub same_number : row.number ≡ record_ring.number
  pub noded : List Corner
  pub is_noded : IsNoded record_ring.corners corners noded
  pub is_begun : row.corners ≡ begun_at_least noded

-- the rows are those of the records, and the refined ring is the city's, noded for the same corners
pub record AreRefined (records : List NumberedRing) (city : List Corner) (rows : List NumberedRing)
    (refined : List Corner) : Type 0 where
  pub are_rows : AllZip (IsRowOf (corners_of_layer records city)) records rows
  pub is_refined : IsNoded city (corners_of_layer records city) refined

-- the rows' numbers
abbrev pub numbers : List NumberedRing → List ℕ
numbers rows = map (λ row. row.number) rows

-- what a layer shows: its rows by ascending number, the city's ring as read, that ring refined, and the grid index
pub record Tiles : Type 0 where
  pub rows : List NumberedRing
  pub city : List Corner
  pub refined : List Corner
  pub index : Grid

-- Of two points beside the edge from a to b, off all edges and with no other edge of the rows and the refined city
-- between them, there is one that the rows go round another number of times, all together, than the city.
pub record IsUntiledBeside (rows : List NumberedRing) (city refined : List Corner) (a b : Corner) : Type 0 where
  pub left : Point
  pub right : Point
  pub beside : AreBeside left right a b
  pub left_is_off : IsOffEdges left rows city
  pub right_is_off : IsOffEdges right rows city
  pub no_other_between : MeetsOnly left right (all_edges (corner_lists rows ++ refined ∷ [])) a b
  pub differs :
      (winding_of_rings left (corner_lists rows) ≢ winding left city)
      ⊎ (winding_of_rings right (corner_lists rows) ≢ winding right city)
