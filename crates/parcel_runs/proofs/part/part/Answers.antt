use Rattle.std.proofs.Common.{◌≡◌, ◌⊎◌, inl, inr, refl, sym, subst}
use Rattle.std.specs.List.{Contains}
use Rattle.geo_exact.specs.Layers.{numbered}
use Rattle.geo_exact.proofs.PassedOn.{passed_on}
use Rattle.fabric_core.specs.Rows.{corners_of_layer}
use Rattle.city_layers.specs.declared.fault.ToolFault.TheVariants.{NoMemory}
use Rattle.city_layers.specs.TilingFiles.{files_of}
use Rattle.parcel_runs.proofs.BegunTwice.{row_begins}
use Rattle.parcel_runs.proofs.OneTiling.{one_tiling}
use Rattle.parcel_runs.proofs.PartRings.{row_is_a_city}
use Rattle.parcel_runs.proofs.part.part.Goals as goal

pub returns-in_err-layer-clause-refuses : goal.returns-in_err-layer-clause-refuses
returns-in_err-layer-clause-refuses g c = λ fault h.
    passed_on _ _ (λ told. (told ≡ fault) ⊎ (told ≡ NoMemory)) c.from_residual.ensures.1 (elim h [
      | inl k ↦ c.in_err-layer.ensures.refuses fault k
      | inr k ↦ inr (c.in_err-layer.ensures.loads k.tiles k.are_tiles)
    ])

pub returns-in-Some-clause-ok : goal.returns-in-Some-clause-ok
returns-in-Some-clause-ok g c =
    let layer = c.in_ok-layer.layer in
    let are = c.in_ok-layer.ensures.tiles in
    let tiled = are.is_tiled in
    let row = numbered c.args.id c.in-Some.ring.now.corners in
    record {
      tiles = layer;
      are_tiles = are;
      row = row;
      is_row = c.in-Some.ensures;
      has_number = refl;
      is_main = c.in_ok-part_of-in-Some.ensures.main;
      is_index = c.in_ok-part_of-in-Some.ensures.index;
      is_city = record {
        ring = numbered 1 c.in-Some.ring.now.corners;
        is_only = c.in_ok-part_of-in-Some.ensures.read_back;
        is_begun = row_begins (corners_of_layer tiled.records layer.city) tiled.records layer.rows tiled.are_refined.are_rows row
            c.in-Some.ensures;
        is_city = row_is_a_city layer.rows layer.city c.use_invariant.ensures.simple c.use_invariant.ensures.tiling row c.in-Some.ensures;
      };
      is_told = c.in_ok-part_of-in-Some.ensures.lines;
    }

pub returns-in-Some-clause-refuses : goal.returns-in-Some-clause-refuses
returns-in-Some-clause-refuses g c = λ fault h. elim h [
  | inl k ↦ c.in_ok-layer.ensures.refuses fault k
  | inr k ↦
      let row = numbered c.args.id c.in-Some.ring.now.corners in
      k.has_none row
      (subst (λ rows. Contains rows row)
      (one_tiling (files_of c.args.city.now) (files_of c.args.districts.now) c.args.unit c.in_ok-layer.layer k.tiles
      c.in_ok-layer.ensures.tiles k.are_tiles) c.in-Some.ensures)
      refl
]

pub returns-clause-fault : goal.returns-clause-fault
returns-clause-fault g c = inl (inr record {
  tiles = c.in_ok-layer.layer;
  are_tiles = c.in_ok-layer.ensures.tiles;
  has_none = c.in-None.ensures;
  is_told = refl;
})

pub returns-clause-refuses : goal.returns-clause-refuses
returns-clause-refuses g c = λ fault h. elim h [
  | inl k ↦ absurd (c.in_ok-layer.ensures.refuses fault k)
  | inr k ↦ inl (sym k.is_told)
]
