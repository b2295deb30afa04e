use Rattle.std.proofs.Common.{◌↔◌, ℕ, List, subst}
use Rattle.std.specs.List.{All, AllZip, Contains}
use Rattle.geo_exact.specs.declared.corner.Corner.{Corner}
use Rattle.geo_exact.specs.Bounds.{HoldsCorner}
use Rattle.geo_exact.specs.Interiors.{InteriorsMeet}
use Rattle.geo_exact.specs.Layers.{NumberedRing}
use Rattle.fabric_core.specs.GridIndex.{IsCandidate}
use Rattle.fabric_core.specs.own.Kept.{Kept}
use Rattle.parcel_table.specs.Table.{entries_of}
use Rattle.fabric_core.specs.own.Lists.{IsIdOf}
use Rattle.fabric_core.proofs.places.Between.{parcel_between, ids_exactly, meeting_parcel}
use Rattle.fabric_core.proofs.tiled.Tiled.candidates.Goals as goal

pub ids_under-requires : goal.ids_under-requires
ids_under-requires g c = λ key there.
    let parcels = c.self.inside.parcels.parcels in let area = c.self.inside.index.area in
    let found = c.in_ok-keys.ensures.found (entries_of parcels) c.self.invariant.indexed in
    let is_key : Contains c.in_ok-keys.keys.items key = subst (λ keys. Contains keys key) c.deref.ensures.value there in
    let w = parcel_between parcels area c.args.low c.args.high key ((found key).0 is_key) in
    (w.0, w.1)

pub returns-clause-exactly : goal.returns-clause-exactly
returns-clause-exactly g c =
    let parcels = c.self.inside.parcels.parcels in let area = c.self.inside.index.area in
    let low = c.args.low in let high = c.args.high in let keys = c.in_ok-keys.keys.items in
    let under = c.in_ok-ids.ids.items in let ids = c.sort_once.new.ids.items in
    let found = c.in_ok-keys.ensures.found (entries_of parcels) c.self.invariant.indexed in
    let zip = subst (λ xs. AllZip (IsIdOf parcels) xs under) c.deref.ensures.value c.in_ok-ids.ensures in
    subst (λ (t : Kept). (id : ℕ) → Contains ids id ↔ IsCandidate t.rows t.city low high id) c.self.view_is
    (ids_exactly parcels c.self.inside.city area low high c.self.invariant.area keys under ids found zip c.sort_once.ensures.same)

pub returns-clause-meeting : goal.returns-clause-meeting
returns-clause-meeting g c =
    let parcels = c.self.inside.parcels.parcels in let city = c.self.inside.city in let area = c.self.inside.index.area in
    let low = c.args.low in let high = c.args.high in let keys = c.in_ok-keys.keys.items in
    let under = c.in_ok-ids.ids.items in let ids = c.sort_once.new.ids.items in
    let found = c.in_ok-keys.ensures.found (entries_of parcels) c.self.invariant.indexed in
    let zip = subst (λ xs. AllZip (IsIdOf parcels) xs under) c.deref.ensures.value c.in_ok-ids.ensures in
    subst (λ (t : Kept). (row : NumberedRing) (ring : List Corner) → Contains t.rows row
    → All (HoldsCorner (record { low = low; high = high })) ring → InteriorsMeet row.corners ring
    → Contains ids row.number) c.self.view_is
    (λ row ring is_row between meet.
    (ids_exactly parcels city area low high c.self.invariant.area keys under ids found zip c.sort_once.ensures.same row.number).1
    (meeting_parcel parcels city area low high c.self.invariant.area row ring c.self.invariant.in_area is_row between meet))
