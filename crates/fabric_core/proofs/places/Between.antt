-- The parcels that a search of cells finds.
use Rattle.std.proofs.Common.{◌≡◌, ◌↔◌, ⊎_elim, refl, sym, ◌∙◌, ap, subst, ℕ, List, [], ◌∷◌}
use Rattle.std.specs.List.{AllByRecursion, AllZip, All, Contains}
use Rattle.geo_exact.specs.declared.bounds.Bounds.{Bounds}
use Rattle.geo_exact.specs.declared.corner.Corner.{Corner}
use Rattle.geo_exact.specs.Bounds.{HoldsCorner, IsLeastBox}
use Rattle.geo_exact.specs.Interiors.{InteriorsMeet}
use Rattle.geo_exact.specs.Layers.{NumberedRing, numbered}
use Rattle.cell_index.specs.declared.entry.IndexEntry.{IndexEntry}
use Rattle.cell_index.specs.Cells.{StandsBetween, IsKeyBetween}
use Rattle.cell_index.proofs.Members.{mapped, from_mapped}
use Rattle.cell_index.proofs.Searches.{interiors_share_a_cell}
use Rattle.edge_chains.specs.Noding.{IsNoded}
use Rattle.edge_chains.proofs.nodings.NodedEdges.{none_in_nil, Contains-cases, Contains-here, Contains-there}
use Rattle.parcel_table.specs.declared.parcels.Parcel.{Parcel}
use Rattle.fabric_core.specs.Faults.{AreSimple}
use Rattle.fabric_core.specs.GridIndex.{IsCandidate}
use Rattle.fabric_core.specs.Tiling.{corner_lists}
use Rattle.fabric_core.specs.own.Checks.{HaveEqualNets}
use Rattle.parcel_table.proofs.Boxes.{one_least_box}
use Rattle.parcel_table.specs.Table.{rows_of_keyed, entries_of}
use Rattle.fabric_core.specs.own.Lists.{IsIdOf}
use Rattle.fabric_core.proofs.tilings.InTheCity.{rows_in_box}
use Rattle.fabric_core.proofs.rows.Alikes.{alike_from_nets}
use Rattle.fabric_core.proofs.tilings.Tilings.{noded_ground}
use Rattle.fabric_core.proofs.tilings.OneParcel.{of_each}

-- ---- two lists side by side
module _ {X Y : Type 0} (R : X → Y → Type 0) where
  pub zipped_left : (xs : List X) (ys : List Y) (x : X) → AllZip R xs ys → Contains xs x → (y : Y) × Contains ys y × R x y
  zipped_left [] ys x h c = absurd (none_in_nil x c)
  zipped_left (z ∷ xs) [] x h c = absurd h
  zipped_left (z ∷ xs) (y ∷ ys) x h c = ⊎_elim
      (λ e. (y, Contains-here y ys, subst (λ w. R w y) e h.0))
      (λ later. let w = zipped_left xs ys x h.1 later in (w.0, Contains-there y ys w.0 w.1, w.2))
      (Contains-cases z xs x c)

  pub zipped_right : (xs : List X) (ys : List Y) (y : Y) → AllZip R xs ys → Contains ys y → (x : X) × Contains xs x × R x y
  zipped_right xs [] y h c = absurd (none_in_nil y c)
  zipped_right [] (z ∷ ys) y h c = absurd h
  zipped_right (x ∷ xs) (z ∷ ys) y h c = ⊎_elim
      (λ e. (x, Contains-here x xs, subst (R x) e h.0))
      (λ later. let w = zipped_right xs ys y h.1 later in (w.0, Contains-there x xs w.0 w.1, w.2))
      (Contains-cases z ys y c)

-- ---- a parcel whose interior meets that of a ring between two corners is a candidate of these
pub meeting_is_candidate : (rows : List NumberedRing) (city : List Corner) (area box : Bounds) (low high : Corner) (row : NumberedRing)
    (ring : List Corner) → IsLeastBox area city → All (HoldsCorner area) row.corners → Contains rows row
    → IsLeastBox box row.corners
    → All (HoldsCorner (record { low = low; high = high })) ring → InteriorsMeet row.corners ring
    → IsCandidate rows city low high row.number
meeting_is_candidate rows city area box low high row ring is_area in_area is_row is_box between meet = record {
  row = row;
  is_row = is_row;
  has_id = refl;
  area = area;
  is_area = is_area;
  box = box;
  is_its_box = is_box;
  stands = interiors_share_a_cell area box low high row.corners ring is_box.holds (is_box.is_least area in_area) between meet;
}

pub meeting_in_city : (rows : List NumberedRing) (city corners refined : List Corner) (area box : Bounds) (low high : Corner)
    (row : NumberedRing) (ring : List Corner) → AreSimple rows → IsNoded city corners refined
    → HaveEqualNets (corner_lists rows) refined → IsLeastBox area city → Contains rows row → IsLeastBox box row.corners
    → All (HoldsCorner (record { low = low; high = high })) ring → InteriorsMeet row.corners ring
    → IsCandidate rows city low high row.number
meeting_in_city rows city corners refined area box low high row ring simple noded nets is_area is_row is_box between meet =
    meeting_is_candidate rows city area box low high row ring is_area
    (of_each (λ r. All (HoldsCorner area) r.corners) rows row
    (rows_in_box rows city refined area simple (noded_ground city corners refined noded)
    (alike_from_nets (corner_lists rows) refined nets) is_area.holds) is_row)
    is_row is_box between meet

-- ---- parcels, rows and entries
module _ {A : Type 0} (parcels : List (ℕ × Parcel A)) where
  -- the parcel of a key that was found
  pub parcel_between : (area : Bounds) (low high : Corner) (key : ℕ) → IsKeyBetween area low high (entries_of parcels) key
      → (parcel : Parcel A) × Contains parcels (key, parcel) × StandsBetween area low high parcel.shape.bounds
  parcel_between area low high key (entry, there, is_key, stands) =
      let w = from_mapped (λ (parcel : ℕ × Parcel A). record { key = parcel.0; bounds = parcel.1.shape.bounds })
      parcels entry there in (
        w.0.1,
        subst (λ (k : ℕ). Contains parcels (k, w.0.1)) (ap (λ (e : IndexEntry). e.key) w.2 ∙ is_key) w.1,
        subst (λ (e : IndexEntry). StandsBetween area low high e.bounds) (sym w.2) stands,
      )

  module _ (city : List Corner) (area : Bounds) (low high : Corner) (is_area : IsLeastBox area city) where
    candidate_of : (id : ℕ) (parcel : Parcel A) (key : ℕ) → Contains parcels (key, parcel) → parcel.id ≡ id
        → StandsBetween area low high parcel.shape.bounds → IsCandidate (rows_of_keyed parcels) city low high id
    candidate_of id parcel key there has_id stands = record {
      row = numbered parcel.id parcel.shape.ring.corners;
      is_row = mapped (λ (p : ℕ × Parcel A). numbered p.1.id p.1.shape.ring.corners) parcels (key, parcel) there;
      has_id = has_id;
      area = area;
      is_area = is_area;
      box = parcel.shape.bounds;
      is_its_box = parcel.shape.least_box;
      stands = stands;
    }

    -- a parcel that a search has to find
    pub meeting_parcel : (row : NumberedRing) (ring : List Corner)
        → AllByRecursion (λ r. All (HoldsCorner area) r.corners) (rows_of_keyed parcels) → Contains (rows_of_keyed parcels) row
        → All (HoldsCorner (record { low = low; high = high })) ring → InteriorsMeet row.corners ring
        → IsCandidate (rows_of_keyed parcels) city low high row.number
    meeting_parcel row ring in_area is_row between meet =
        let w = from_mapped (λ (p : ℕ × Parcel A). numbered p.1.id p.1.shape.ring.corners) parcels row is_row in
        meeting_is_candidate (rows_of_keyed parcels) city area w.0.1.shape.bounds low high row ring is_area
        (of_each (λ r. All (HoldsCorner area) r.corners) (rows_of_keyed parcels) row in_area is_row) is_row
        (subst (λ (r : NumberedRing). IsLeastBox w.0.1.shape.bounds r.corners) w.2 w.0.1.shape.least_box) between meet

    key_of_candidate : (id : ℕ) → IsCandidate (rows_of_keyed parcels) city low high id
        → (x : ℕ × Parcel A) × Contains parcels x × (x.1.id ≡ id) × IsKeyBetween area low high (entries_of parcels) x.0
    key_of_candidate id c =
        let w = from_mapped (λ (p : ℕ × Parcel A). numbered p.1.id p.1.shape.ring.corners) parcels c.row c.is_row in
        let same_area : c.area ≡ area = one_least_box c.area area city c.is_area is_area in
        let same_box : c.box ≡ w.0.1.shape.bounds = one_least_box c.box w.0.1.shape.bounds c.row.corners c.is_its_box
        (subst (λ (r : NumberedRing). IsLeastBox w.0.1.shape.bounds r.corners) w.2 w.0.1.shape.least_box) in (
          w.0,
          w.1,
          ap (λ (r : NumberedRing). r.number) w.2 ∙ c.has_id,
          (
            record { key = w.0.0; bounds = w.0.1.shape.bounds },
            mapped (λ (parcel : ℕ × Parcel A). record { key = parcel.0; bounds = parcel.1.shape.bounds }) parcels w.0 w.1,
            refl,
            subst (λ box. StandsBetween area low high box) same_box (subst (λ a. StandsBetween a low high c.box) same_area c.stands),
          ),
        )

    -- the ids under the keys that were found are the candidates'
    pub ids_exactly : (keys under ids : List ℕ)
        → ((key : ℕ) → Contains keys key ↔ IsKeyBetween area low high (entries_of parcels) key)
        → AllZip (IsIdOf parcels) keys under → ((id : ℕ) → Contains ids id ↔ Contains under id)
        → (id : ℕ) → Contains ids id ↔ IsCandidate (rows_of_keyed parcels) city low high id
    ids_exactly keys under ids found zip same id = (
      λ c.
          let at = zipped_right (IsIdOf parcels) keys under id zip ((same id).0 c) in
          let w = parcel_between area low high at.0 ((found at.0).0 at.1) in
          candidate_of id w.0 at.0 w.1 (at.2 w.0 w.1) w.2,
      λ c.
          let w = key_of_candidate id c in
          let at = zipped_left (IsIdOf parcels) keys under w.0.0 zip ((found w.0.0).1 w.3) in
          (same id).1 (subst (Contains under) (sym (at.2 w.0.1 w.1) ∙ w.2) at.1),
    )
