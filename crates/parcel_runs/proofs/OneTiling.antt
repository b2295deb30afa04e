-- A layer's files tile a city of files in one way: the rows are the same, whoever read them.
use Rattle.std.proofs.Common.{◌≡◌, refl, ◌∙◌, subst, List, [], ◌∷◌}
use Rattle.geo_exact.specs.declared.corner.Corner.{Corner}
use Rattle.geo_exact.specs.declared.coord.Unit.{Unit as LengthUnit}
use Rattle.shp_files.proofs.layers.Laws.{one_list_of_rings}
use Rattle.fabric_core.specs.Rows.{Tiles, AreRefined}
use Rattle.fabric_core.proofs.loads.OneLoadFault.{one_refinement}
use Rattle.city_layers.specs.TilingFiles.{Files, IsCityOf, IsTiledBy, AreTiles}
use Rattle.city_layers.proofs.TilingFaults.{same_city}

one_city : (files : Files) (unit : LengthUnit) (a b : List Corner) → IsCityOf files unit a → IsCityOf files unit b → a ≡ b
one_city files unit a b h k =
    h.is_begun ∙ same_city files unit (h.ring ∷ []) h.ring refl
    (λ rings is. one_list_of_rings files.main files.index unit (h.ring ∷ []) rings h.is_only is) b k

one_layer : (files : Files) (unit : LengthUnit) (city : List Corner) (a b : Tiles) → IsTiledBy files unit city a
    → IsTiledBy files unit city b → a.rows ≡ b.rows
one_layer files unit city a b h k =
    let same : k.records ≡ h.records = one_list_of_rings files.main files.index unit k.records h.records k.are_records h.are_records in
    (one_refinement h.records city a.rows b.rows a.refined b.refined h.are_refined
    (subst (λ records. AreRefined records city b.rows b.refined) same k.are_refined)).0

pub one_tiling : (city parcels : Files) (unit : LengthUnit) (a b : Tiles) → AreTiles city parcels unit a → AreTiles city parcels unit b
    → a.rows ≡ b.rows
one_tiling city parcels unit a b h k =
    let same : b.city ≡ a.city = one_city city unit b.city a.city k.is_city h.is_city in
    one_layer parcels unit a.city a b h.is_tiled (subst (λ corners. IsTiledBy parcels unit corners b) same k.is_tiled)
