-- What lies at a corner is found among the parcels whose boxes stand in its cell.
use Rattle.std.proofs.Common.{true, false, ◌≡◌, ◌⊎◌, inl, inr, ⊎_elim, refl, sym, ◌∙◌, ap, subst, arith, ℕ, zero, suc}
use Rattle.std.proofs.Common.{◌+◌, ◌<◌, ◌≤◌, Bool, List, [], ◌∷◌, ◌++◌, not, length, drop, get_or, cond, IsTrue}
use Rattle.std.specs.List.{All, AllByRecursion, Contains, filter}
use Rattle.std.proofs.lemmas.Int.{ints, by_lt_z}
use Rattle.std.proofs.lemmas.List.Elements.{Contains-append_left, Contains-append_right, Contains-append_cases}
use Rattle.geo_exact.specs.declared.bounds.Bounds.{Bounds}
use Rattle.geo_exact.specs.declared.corner.Corner.{Corner}
use Rattle.geo_exact.specs.Bounds.{HoldsCorner, IsBeyondBox, holds_corner}
use Rattle.geo_exact.specs.declared.limits.TheConstants.{RING_CORNERS}
use Rattle.geo_exact.specs.Layers.{NumberedRing, numbered}
use Rattle.geo_exact.specs.Point.{Point, corner_point}
use Rattle.geo_exact.specs.Turn.{IsOnRing}
use Rattle.geo_exact.specs.Winding.{IsInterior}
use Rattle.geo_exact.proofs.boxes.InBoxes.{Decides-holds_corner}
use Rattle.cell_index.specs.declared.entry.IndexEntry.{IndexEntry}
use Rattle.cell_index.specs.Cells.{is_wide, wide, narrow, stands_at, Grid}
use Rattle.cell_index.proofs.Members.{filtered, from_filtered, mapped, from_mapped}
use Rattle.cell_index.proofs.Searches.{off_ring, off_what_stands_elsewhere}
use Rattle.edge_chains.proofs.nodings.NodedEdges.{none_in_nil, Contains-cases, Contains-here, Contains-there}
use Rattle.parcel_table.specs.declared.parcels.Parcel.{Parcel}
use Rattle.fabric_core.specs.Locate.{IsOnEdgeOf, IsInsideOf, AreAllOnEdge}
use Rattle.fabric_core.specs.own.Sides.{IsFound}
use Rattle.parcel_table.specs.Table.{rows_of_keyed, entries_of}
use Rattle.parcel_table.proofs.Tables.{row_of_parcel}
use Rattle.fabric_core.specs.own.Kept.{IsKept}
use Rattle.fabric_core.proofs.edits.Exchanged.{simple_keyed}
use Rattle.fabric_core.proofs.loads.Loaded.{kept_tiles}
use Rattle.fabric_core.proofs.places.Located.{none_on_edge}
use Rattle.fabric_core.proofs.tilings.OneParcel.{of_each}
use Rattle.fabric_core.proofs.tilings.OnOneOnly.{on_no_edge}

-- neither on an edge nor inside
abbrev pub IsOff : Point → List Corner → Type 0
IsOff p ring = (¬ IsOnRing p ring) × (¬ IsInterior p ring)

-- ---- corners and boxes
beyond_or_held : (box : Bounds) (corner : Corner) → IsBeyondBox (corner_point corner) box ⊎ HoldsCorner box corner
beyond_or_held box corner =
    by_lt_z corner.x box.low.x (λ h. inl (inl (omega (arith, ints, h))))
    (λ west. by_lt_z box.high.x corner.x (λ h. inl (inr (inl (omega (arith, ints, h)))))
    (λ east. by_lt_z corner.y box.low.y (λ h. inl (inr (inr (inl (omega (arith, ints, h))))))
    (λ south. by_lt_z box.high.y corner.y (λ h. inl (inr (inr (inr (omega (arith, ints, h))))))
    (λ north. inr (record { west = west; east = east; south = south; north = north })))))

-- a ring in a box that does not hold a corner has it nowhere
pub off_box : (box : Bounds) (ring : List Corner) (corner : Corner) → All (HoldsCorner box) ring → holds_corner box corner ≡ false
    → IsOff (corner_point corner) ring
off_box box ring corner all off = ⊎_elim
    (λ beyond. off_ring (corner_point corner) box ring all beyond)
    (λ held. let yes : holds_corner box corner ≡ true = (Decides-holds_corner box corner).1 held in absurd (cc))
    (beyond_or_held box corner)

-- ---- some of the parcels
module _ {A : Type 0} (keep : ℕ × Parcel A → Bool) where
  abbrev row_of : ℕ × Parcel A → NumberedRing
  row_of parcel = numbered parcel.1.id parcel.1.shape.ring.corners

  pub kept_row : (all : List (ℕ × Parcel A)) (row : NumberedRing) → Contains (rows_of_keyed (filter keep all)) row
      → Contains (rows_of_keyed all) row
  kept_row [] row c = c
  kept_row (x ∷ all) row c = by_test (keep x) c (kept_row all row)
    where
      by_test : (b : Bool) → Contains (rows_of_keyed (cond b (x ∷ filter keep all) (filter keep all))) row
          → (Contains (rows_of_keyed (filter keep all)) row → Contains (rows_of_keyed all) row)
          → Contains (rows_of_keyed (x ∷ all)) row
      by_test true c later = ⊎_elim
          (λ e. subst (Contains (rows_of_keyed (x ∷ all))) e (Contains-here (row_of x) (rows_of_keyed all)))
          (λ l. Contains-there (row_of x) (rows_of_keyed all) row (later l))
          (Contains-cases (row_of x) (rows_of_keyed (filter keep all)) row c)
      by_test false c later = Contains-there (row_of x) (rows_of_keyed all) row (later c)

  -- a row is that of a parcel that is kept, or Q holds of it, as it does of those that are not
  pub kept_or : (Q : NumberedRing → Type 0) (all : List (ℕ × Parcel A)) (row : NumberedRing)
      → ((x : ℕ × Parcel A) → keep x ≡ false → Q (numbered x.1.id x.1.shape.ring.corners)) → Contains (rows_of_keyed all) row
      → Contains (rows_of_keyed (filter keep all)) row ⊎ Q row
  kept_or Q [] row off c = inl c
  kept_or Q (x ∷ all) row off c = by_test (keep x) refl (Contains-cases (row_of x) (rows_of_keyed all) row c) (kept_or Q all row off)
    where
      by_test : (b : Bool) → keep x ≡ b → (row_of x ≡ row) ⊎ Contains (rows_of_keyed all) row
          → (Contains (rows_of_keyed all) row → Contains (rows_of_keyed (filter keep all)) row ⊎ Q row)
          → Contains (rows_of_keyed (cond b (x ∷ filter keep all) (filter keep all))) row ⊎ Q row
      by_test true t (inl e) later =
          inl (subst (Contains (rows_of_keyed (x ∷ filter keep all))) e (Contains-here (row_of x) (rows_of_keyed (filter keep all))))
      by_test false t (inl e) later = inr (subst Q e (off x t))
      by_test true t (inr c) later =
          ⊎_elim (λ l. inl (Contains-there (row_of x) (rows_of_keyed (filter keep all)) row l)) (λ q. inr q) (later c)
      by_test false t (inr c) later = later c

-- each row is that of a parcel that is kept, or of one that is not
pub parted : {A : Type 0} (keep other : ℕ × Parcel A → Bool) (all : List (ℕ × Parcel A)) (row : NumberedRing)
    → ((x : ℕ × Parcel A) → (keep x ≡ true) ⊎ (other x ≡ true)) → Contains (rows_of_keyed all) row
    → Contains (rows_of_keyed (filter keep all)) row ⊎ Contains (rows_of_keyed (filter other all)) row
parted {A = A} keep other all row either c =
    let w = from_mapped (λ x. numbered x.1.id x.1.shape.ring.corners) all row c in
    ⊎_elim (λ t. inl (kept_here keep w.0 w.1 w.2 t)) (λ t. inr (kept_here other w.0 w.1 w.2 t)) (either w.0)
  where
    kept_here : (test : ℕ × Parcel A → Bool) (x : ℕ × Parcel A) → Contains all x
        → numbered x.1.id x.1.shape.ring.corners ≡ row → test x ≡ true
        → Contains (rows_of_keyed (filter test all)) row
    kept_here test x there is t =
        subst (Contains (rows_of_keyed (filter test all))) is
        (mapped (λ y. numbered y.1.id y.1.shape.ring.corners) (filter test all) x (filtered test all x there t))

-- what is inside a row of some is inside it among all
pub inside_among : (p : Point) (some all : List NumberedRing) (id : ℕ) → ((row : NumberedRing) → Contains some row
    → Contains all row)
    → IsInsideOf some p id → IsInsideOf all p id
inside_among p some all id among i = record { row = i.row; is_row = among i.row i.is_row; has_id = i.has_id; is_inside = i.is_inside }

-- what is found among some rows is found among all, where the others are off
pub found_in_all : (p : Point) (some all : List NumberedRing) (on_edge : List ℕ)
    → ((row : NumberedRing) → Contains some row → Contains all row)
    → ((row : NumberedRing) → Contains all row → Contains some row ⊎ IsOff p row.corners)
    → IsFound some p on_edge → IsFound all p on_edge
found_in_all p some all on_edge among off h = record {
  exactly = λ id. (λ c. lifted id ((h.exactly id).0 c), λ on. (h.exactly id).1 (lowered id on));
  none_inside = λ id i. ⊎_elim
      (λ kept. h.none_inside id (record { row = i.row; is_row = kept; has_id = i.has_id; is_inside = i.is_inside }))
      (λ out. out.1 i.is_inside)
      (off i.row i.is_row);
}
  where
    lifted : (id : ℕ) → IsOnEdgeOf some p id → IsOnEdgeOf all p id
    lifted id e = record { row = e.row; is_row = among e.row e.is_row; has_id = e.has_id; is_on_edge = e.is_on_edge }

    lowered : (id : ℕ) → IsOnEdgeOf all p id → IsOnEdgeOf some p id
    lowered id e = ⊎_elim
        (λ kept. record { row = e.row; is_row = kept; has_id = e.has_id; is_on_edge = e.is_on_edge })
        (λ out. absurd (out.0 e.is_on_edge))
        (off e.row e.is_row)

-- ---- where nothing lies
pub nothing_at : (p : Point) (rows : List NumberedRing) → ((row : NumberedRing) → Contains rows row → IsOff p row.corners)
    → AreAllOnEdge rows p [] × ((id : ℕ) → ¬ IsInsideOf rows p id)
nothing_at p rows off = (
  record {
    ascend = λ k h. absurd (omega (arith, h));
    exactly = λ id. (λ c. absurd (none_in_nil id c), λ on. absurd ((off on.row on.is_row).0 on.is_on_edge));
  },
  λ id i. (off i.row i.is_row).1 i.is_inside,
)

-- a corner beyond the area that holds all rows
pub nothing_beyond : (area : Bounds) (corner : Corner) (rows : List NumberedRing)
    → AllByRecursion (λ row. All (HoldsCorner area) row.corners) rows
    → holds_corner area corner ≡ false
    → AreAllOnEdge rows (corner_point corner) [] × ((id : ℕ) → ¬ IsInsideOf rows (corner_point corner) id)
nothing_beyond area corner rows held beyond = nothing_at (corner_point corner) rows
    (λ row c. off_box area row.corners corner (of_each (λ r. All (HoldsCorner area) r.corners) rows row held c) beyond)

-- a parcel that does not stand in the corner's cell is off it
pub off_elsewhere : {A : Type 0} (area : Bounds) (corner : Corner) (x : ℕ × Parcel A)
    → stands_at area corner x.1.shape.bounds ≡ false
    → IsOff (corner_point corner) x.1.shape.ring.corners
off_elsewhere area corner x t =
    off_what_stands_elsewhere area x.1.shape.bounds x.1.shape.ring.corners corner x.1.shape.least_box.holds
    (λ s. absurd (true_or_false s t))
  where
    true_or_false : {b : Bool} → IsTrue b → b ≡ false → ⊥
    true_or_false {b} s t = let both : false ≡ true = sym t ∙ s in absurd (cc)

-- ---- entries
module _ {A : Type 0} where
  pub kept_item : (keep : ℕ × Parcel A → Bool) (all : List (ℕ × Parcel A)) (x : ℕ × Parcel A)
      → Contains (filter keep all) x → Contains all x
  kept_item keep [] x c = c
  kept_item keep (y ∷ all) x c = by_test (keep y) c (kept_item keep all x)
    where
      by_test : (b : Bool) → Contains (cond b (y ∷ filter keep all) (filter keep all)) x
          → (Contains (filter keep all) x → Contains all x)
          → Contains (y ∷ all) x
      by_test true c later = ⊎_elim
          (λ e. subst (Contains (y ∷ all)) e (Contains-here y all)) (λ l. Contains-there y all x (later l))
          (Contains-cases y (filter keep all) x c)
      by_test false c later = Contains-there y all x (later c)

  -- the parcel of the entry at place i
  pub record IsNext (some : List (ℕ × Parcel A)) (i : ℕ) (entry : IndexEntry) : Type 0 where
    pub parcel : Parcel A
    pub is_there : Contains some (entry.key, parcel)
    pub has_box : entry.bounds ≡ parcel.shape.bounds
    pub next : drop i (rows_of_keyed some) ≡ numbered parcel.id parcel.shape.ring.corners ∷ drop (suc i) (rows_of_keyed some)

  next_of : (some : List (ℕ × Parcel A)) (i : ℕ) (entry : IndexEntry) → i < length (entries_of some)
      → entry ≡ get_or (entries_of some) i entry
      → IsNext some i entry
  next_of [] i entry l e = absurd (omega (arith, l))
  next_of (x ∷ some) zero entry l e = record {
    parcel = x.1;
    is_there = subst (λ (k : ℕ). Contains (x ∷ some) (k, x.1)) (sym (ap (λ (en : IndexEntry). en.key) e)) (Contains-here x some);
    has_box = ap (λ (en : IndexEntry). en.bounds) e;
    next = refl;
  }
  next_of (x ∷ some) (suc i) entry l e = let w = next_of some i entry (omega (arith, l)) e in record {
    parcel = w.parcel;
    is_there = Contains-there x some (entry.key, w.parcel) w.is_there;
    has_box = w.has_box;
    next = w.next;
  }

  pub next_row : (some : List (ℕ × Parcel A)) (i : ℕ) (entry : IndexEntry) → (w : IsNext some i entry)
      → drop i (rows_of_keyed some) ≡ numbered w.parcel.id w.parcel.shape.ring.corners ∷ drop (i + 1) (rows_of_keyed some)
  next_row some i entry w =
      let one_more : suc i ≡ i + 1 = omega arith in
      w.next ∙ ap (λ k. numbered w.parcel.id w.parcel.shape.ring.corners ∷ drop k (rows_of_keyed some)) one_more

  pub next_parcel : (some : List (ℕ × Parcel A)) (entries : List IndexEntry) (i : ℕ) (entry : IndexEntry)
      → entries ≡ entries_of some → i < length entries
      → entry ≡ get_or entries i entry → IsNext some i entry
  next_parcel some entries i entry same l e =
      next_of some i entry (subst (λ xs. i < length xs) same l) (subst (λ xs. entry ≡ get_or xs i entry) same e)

  pub none_left : (some : List (ℕ × Parcel A)) (entries : List IndexEntry) (i : ℕ) → entries ≡ entries_of some → length entries ≤ i
      → drop i (rows_of_keyed some) ≡ []
  none_left some entries i same l = past some i (subst (λ xs. length xs ≤ i) same l)
    where
      past : (some : List (ℕ × Parcel A)) (i : ℕ) → length (entries_of some) ≤ i → drop i (rows_of_keyed some) ≡ []
      past [] zero l = refl
      past [] (suc i) l = refl
      past (x ∷ some) zero l = absurd (omega (arith, l))
      past (x ∷ some) (suc i) l = past some i (omega (arith, l))

module _ {A : Type 0} (stands : Bounds → Bool) where
  pub entries_kept : (all : List (ℕ × Parcel A))
      → filter (λ entry. stands entry.bounds) (entries_of all) ≡ entries_of (filter (λ parcel. stands parcel.1.shape.bounds) all)
  entries_kept [] = refl
  entries_kept (x ∷ all) = by_test (stands x.1.shape.bounds) (entries_kept all)
    where
      by_test : (b : Bool) → filter (λ entry. stands entry.bounds) (entries_of all)
          ≡ entries_of (filter (λ parcel. stands parcel.1.shape.bounds) all)
          → cond b (record { key = x.0; bounds = x.1.shape.bounds } ∷ filter (λ entry. stands entry.bounds) (entries_of all))
          (filter (λ entry. stands entry.bounds) (entries_of all))
          ≡ entries_of (cond b (x ∷ filter (λ parcel. stands parcel.1.shape.bounds) all)
          (filter (λ parcel. stands parcel.1.shape.bounds) all))
      by_test true e = ap (λ entries. record { key = x.0; bounds = x.1.shape.bounds } ∷ entries) e
      by_test false e = e

-- ---- the parcels of a cell's entries and those beside the cells
module _ {A : Type 0} (area : Bounds) (corner : Corner) (all : List (ℕ × Parcel A)) where
  abbrev wide_parcel : ℕ × Parcel A → Bool
  wide_parcel x = is_wide area x.1.shape.bounds

  abbrev stands_there : ℕ × Parcel A → Bool
  stands_there x = stands_at area corner x.1.shape.bounds

  abbrev pub in_cell : List (ℕ × Parcel A)
  in_cell = filter stands_there (filter (λ x. not (wide_parcel x)) all)

  abbrev pub beside_cells : List (ℕ × Parcel A)
  beside_cells = filter wide_parcel all

  pub entries_in_cell : filter (λ entry. stands_at area corner entry.bounds) (narrow area (entries_of all)) ≡ entries_of in_cell
  entries_in_cell =
      ap (filter (λ entry. stands_at area corner entry.bounds)) (entries_kept (λ box. not (is_wide area box)) all)
      ∙ entries_kept (stands_at area corner) (filter (λ x. not (wide_parcel x)) all)

  pub entries_beside : wide area (entries_of all) ≡ entries_of beside_cells
  entries_beside = entries_kept (is_wide area) all

  pub in_cell_among : (x : ℕ × Parcel A) → Contains in_cell x → Contains all x
  in_cell_among x c =
      (from_filtered (λ y. not (wide_parcel y)) all x (from_filtered stands_there (filter (λ y. not (wide_parcel y)) all) x c).0).0

  pub beside_among : (x : ℕ × Parcel A) → Contains beside_cells x → Contains all x
  beside_among x c = (from_filtered wide_parcel all x c).0

  abbrev pub searched_rows : List NumberedRing
  searched_rows = rows_of_keyed in_cell ++ rows_of_keyed beside_cells

  pub row_in_cell : (row : NumberedRing) → Contains (rows_of_keyed in_cell) row → Contains (rows_of_keyed all) row
  row_in_cell row c = kept_row (λ x. not (wide_parcel x)) all row (kept_row stands_there (filter (λ x. not (wide_parcel x)) all) row c)

  pub row_beside : (row : NumberedRing) → Contains (rows_of_keyed beside_cells) row → Contains (rows_of_keyed all) row
  row_beside row c = kept_row wide_parcel all row c

  one_or_other : (x : ℕ × Parcel A) → (not (wide_parcel x) ≡ true) ⊎ (wide_parcel x ≡ true)
  one_or_other x = by_test (wide_parcel x)
    where
      by_test : (b : Bool) → (not b ≡ true) ⊎ (b ≡ true)
      by_test true = inr refl
      by_test false = inl refl

  searched_among : (row : NumberedRing) → Contains searched_rows row → Contains (rows_of_keyed all) row
  searched_among row c = ⊎_elim
      (λ left. row_in_cell row left)
      (λ right. row_beside row right)
      (Contains-append_cases (rows_of_keyed in_cell) (rows_of_keyed beside_cells) row c)

  pub all_located : (on_edge : List ℕ) → IsFound searched_rows (corner_point corner) on_edge
      → IsFound (rows_of_keyed all) (corner_point corner) on_edge
  all_located on_edge h =
      found_in_all (corner_point corner) searched_rows (rows_of_keyed all) on_edge searched_among
      (λ row c. ⊎_elim
      (λ thin. ⊎_elim
      (λ here. inl (Contains-append_left (rows_of_keyed in_cell) (rows_of_keyed beside_cells) row here))
      (λ out. inr out)
      (kept_or stands_there (λ r. IsOff (corner_point corner) r.corners) (filter (λ x. not (wide_parcel x)) all) row
      (λ x t. off_elsewhere area corner x t) thin))
      (λ broad. inl (Contains-append_right (rows_of_keyed in_cell) (rows_of_keyed beside_cells) row broad))
      (parted (λ x. not (wide_parcel x)) wide_parcel all row one_or_other c))
      h

-- a parcel that has a place inside is the answer: it is one of a tiling, where nobody else has that place
pub inside_alone : {A : Type 0} (parcels : List (ℕ × Parcel A)) (city refined : List Corner) (index : Grid) (p : Point) (id : ℕ)
    → IsKept parcels city refined index → IsInsideOf (rows_of_keyed parcels) p id
    → AreAllOnEdge (rows_of_keyed parcels) p [] × IsInsideOf (rows_of_keyed parcels) p id
inside_alone parcels city refined index p id kept i = (
  none_on_edge p (rows_of_keyed parcels)
      (λ other. on_no_edge (rows_of_keyed parcels) city (simple_keyed parcels) (kept_tiles parcels city refined index kept) p id other i),
  i,
)

-- what a search asks of its entries
pub searchable : {A : Type 0} (all some : List (ℕ × Parcel A))
    → AllByRecursion (λ row. length row.corners ≤ RING_CORNERS) (rows_of_keyed all)
    → ((x : ℕ × Parcel A) → Contains some x → Contains all x) → (entry : IndexEntry) → Contains (entries_of some) entry
    → (parcel : Parcel A) × Contains all (entry.key, parcel) × (length parcel.shape.ring.corners ≤ RING_CORNERS)
searchable {A = A} all some short among entry there =
    let w = from_mapped (λ (x : ℕ × Parcel A). record { key = x.0; bounds = x.1.shape.bounds }) some entry there in
    let parcel : Contains all (entry.key, w.0.1) =
    subst (λ (k : ℕ). Contains all (k, w.0.1)) (ap (λ (e : IndexEntry). e.key) w.2) (among w.0 w.1) in (
      w.0.1,
      parcel,
      of_each (λ row. length row.corners ≤ RING_CORNERS) (rows_of_keyed all) (numbered w.0.1.id w.0.1.shape.ring.corners) short
          (row_of_parcel all entry.key w.0.1 parcel),
    )
