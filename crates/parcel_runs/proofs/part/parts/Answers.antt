use Rattle.std.proofs.Common.{◌≡◌, ◌⊎◌}
use Rattle.geo_exact.specs.Layers.{numbered}
use Rattle.geo_exact.proofs.PassedOn.{passed_on}
use Rattle.city_layers.specs.declared.fault.ToolFault.TheVariants.{NoMemory}
use Rattle.city_layers.specs.TilingFiles.{files_of}
use Rattle.parcel_runs.specs.own.WrittenParts.{IsWrittenPart}
use Rattle.parcel_runs.proofs.RowLimits.{lists_of_shapes, each_short}
use Rattle.parcel_runs.proofs.WrittenParts.{of_shapes, all_parts}
use Rattle.parcel_runs.proofs.part.parts.Goals as goal

pub returns-in_err-layer-clause-refuses : goal.returns-in_err-layer-clause-refuses
returns-in_err-layer-clause-refuses g c = λ fault h.
    passed_on _ _ (λ told. (told ≡ fault) ⊎ (told ≡ NoMemory)) c.from_residual.ensures.1
    (c.in_err-layer.ensures.refuses fault h)

pub parts_of-requires : goal.parts_of-requires
parts_of-requires g c =
    let rows = c.in_ok-layer.layer.rows in
    each_short (λ shape. shape.1.ring.corners) c.shapes.result rows (lists_of_shapes c.shapes.result rows c.shapes.ensures)
    c.use_invariant.ensures.within.each

pub returns-clause-ok : goal.returns-clause-ok
returns-clause-ok g c =
    let layer = c.in_ok-layer.layer in
    record {
      tiles = layer;
      are_tiles = c.in_ok-layer.ensures.tiles;
      are_parts = all_parts (files_of c.args.city.now) (files_of c.args.districts.now) c.args.unit layer c.in_ok-layer.ensures.tiles
          c.use_invariant.ensures.simple c.use_invariant.ensures.tiling c.in_ok-parts.parts.items
          (of_shapes (λ shape. numbered shape.0 shape.1.ring.corners) IsWrittenPart c.shapes.result c.in_ok-parts.parts.items layer.rows
          c.shapes.ensures c.in_ok-parts.ensures);
    }

pub returns-clause-refuses : goal.returns-clause-refuses
returns-clause-refuses g c = λ fault h. absurd (c.in_ok-layer.ensures.refuses fault h)
