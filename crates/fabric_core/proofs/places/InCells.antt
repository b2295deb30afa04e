-- An id stands in the cells that its row reaches, and in no other.
use Rattle.std.proofs.Common.{◌≡◌, ◌↔◌, sym, ◌∙◌, ap, subst, ⊎_elim, ℕ, ◌<◌, Bool, true, not, List, map}
use Rattle.std.specs.List.{Contains, filter}
use Rattle.std.proofs.lemmas.List.Elements.{Contains-append_left, Contains-append_right, Contains-append_cases}
use Rattle.geo_exact.specs.declared.corner.Corner.{Corner}
use Rattle.geo_exact.specs.Layers.{NumberedRing}
use Rattle.cell_index.specs.declared.entry.IndexEntry.{IndexEntry}
use Rattle.cell_index.specs.Cells.{Grid, Indexes, cell, standing, stands_in, is_wide}
use Rattle.cell_index.proofs.Members.{by_test, filtered, from_filtered, mapped, from_mapped}
use Rattle.parcel_table.proofs.Boxes.{one_least_box}
use Rattle.fabric_core.specs.GridIndex.{IsEntryOf, IsIndexed, ReachesCell}
use Rattle.fabric_core.proofs.places.Between.{zipped_left, zipped_right}

-- ---- entries
module _ (index : Grid) (entries : List IndexEntry) (h : Indexes index entries) (i j : ℕ) (column : i < 64) (row : j < 64) where
  abbrev stands : IndexEntry → Bool
  stands entry = stands_in index.area i j entry.bounds

  abbrev broad : IndexEntry → Bool
  broad entry = is_wide index.area entry.bounds

  abbrev thin : IndexEntry → Bool
  thin entry = not (is_wide index.area entry.bounds)

  stands_there : (entry : IndexEntry) → Contains entries entry → stands entry ≡ true → Contains (standing index i j) entry
  stands_there entry among reaches = by_test (broad entry)
      (λ t. Contains-append_right (cell index i j) (filter stands index.beside) entry
      (filtered stands index.beside entry (subst (λ xs. Contains xs entry) (sym h.beside_cells) (filtered broad entries entry among t))
      reaches))
      (λ t. Contains-append_left (cell index i j) (filter stands index.beside) entry
      (subst (λ xs. Contains xs entry) (sym (h.in_cells i j column row))
      (filtered stands (filter thin entries) entry (filtered thin entries entry among (ap not t)) reaches)))

  from_there : (entry : IndexEntry) → Contains (standing index i j) entry → Contains entries entry × (stands entry ≡ true)
  from_there entry there = ⊎_elim
      (λ c. let w = from_filtered stands (filter thin entries) entry (subst (λ xs. Contains xs entry) (h.in_cells i j column row) c) in
      ((from_filtered thin entries entry w.0).0, w.1))
      (λ c. let w = from_filtered stands index.beside entry c in
      ((from_filtered broad entries entry (subst (λ xs. Contains xs entry) h.beside_cells w.0)).0, w.1))
      (Contains-append_cases (cell index i j) (filter stands index.beside) entry there)

-- ---- ids
pub stands_where_it_reaches : (rows : List NumberedRing) (city : List Corner) (index : Grid) (i j id : ℕ) → IsIndexed rows city index
    → i < 64 → j < 64 → Contains (map (λ entry. entry.key) (standing index i j)) id ↔ ReachesCell rows index.area i j id
stands_where_it_reaches rows city index i j id h column row = (
  λ c.
      let w = from_mapped (λ (entry : IndexEntry). entry.key) (standing index i j) id c in
      let s = from_there index h.entries h.stand i j column row w.0 w.1 in
      let z = zipped_right IsEntryOf rows h.entries w.0 h.are_theirs s.0 in record {
        row = z.0;
        is_row = z.1;
        has_id = sym z.2.has_id ∙ w.2;
        box = w.0.bounds;
        is_its_box = z.2.is_its_box;
        reaches = s.1;
      },
  λ r.
      let z = zipped_left IsEntryOf rows h.entries r.row h.are_theirs r.is_row in
      let same : z.0.bounds ≡ r.box = one_least_box z.0.bounds r.box r.row.corners z.2.is_its_box r.is_its_box in
      subst (Contains (map (λ (entry : IndexEntry). entry.key) (standing index i j))) (z.2.has_id ∙ r.has_id)
      (mapped (λ (entry : IndexEntry). entry.key) (standing index i j) z.0
      (stands_there index h.entries h.stand i j column row z.0 z.1
      (subst (λ box. stands_in index.area i j box ≡ true) (sym same) r.reaches))),
)
