-- Parcels whose shapes are exchanged for others ten times as large: their rows, their index, and what is kept of them.
use Rattle.std.proofs.Common.{◌≡◌, refl, sym, ◌∙◌, ap, subst, arith, ℕ, ◌<◌, ◌≤ℤ◌, pos, List, [], ◌∷◌, ◌++◌, map, length}
use Rattle.std.proofs.lemmas.List.{append-nil, append_assoc}
use Rattle.std.specs.List.{AllByRecursion, AllZip, Contains}
use Rattle.std.specs.List.Sorted.{IsStrictlyIncreasing}
use lib.IntN.{◌*ℤ◌}
use Rattle.geo_exact.specs.declared.corner.Corner.{Corner}
use Rattle.geo_exact.specs.Bounds.{IsLeastBox}
use Rattle.geo_exact.specs.Layers.{NumberedRing, numbered}
use Rattle.geo_exact.specs.Point.{Point}
use Rattle.cell_index.specs.declared.entry.IndexEntry.{IndexEntry}
use Rattle.cell_index.specs.Cells.{Grid, Indexes}
use Rattle.cell_index.proofs.Members.{same_member}
use Rattle.parcel_table.specs.declared.parcels.Parcel.{Parcel}
use Rattle.parcel_table.specs.Table.{HasId, ids_of, rows_of_keyed, entries_of}
use Rattle.parcel_table.proofs.Tables.{ids_of_rows, entries_of-push}
use Rattle.ring_core.specs.declared.shape.Shape.{Shape}
use Rattle.ring_core.specs.Simple.{IsSimpleRing}
use Rattle.ring_edits.specs.Edits.{CoversAlike}
use Rattle.edge_chains.proofs.nodings.NodedEdges.{Contains-here, Contains-there}
use Rattle.scaled_rings.specs.Tenfold.{AreTenTimes}
use Rattle.scaled_rings.proofs.Scaling.{ten, AreNear, tens_of}
use Rattle.scaled_rings.proofs.Points.{tenth, winding_ten, on_ring_ten, area_ten}
use Rattle.scaled_rings.proofs.Simple.{simple_ten}
use Rattle.fabric_core.specs.Rows.{numbers}
use Rattle.fabric_core.specs.Tiling.{corner_lists, IsWoundAtMostOnce}
use Rattle.fabric_core.specs.Limits.{AreWithinLimits}
use Rattle.fabric_core.specs.own.Alike.{GoAlike}
use Rattle.fabric_core.specs.own.Kept.{IsKept}
use Rattle.fabric_core.specs.own.Lists.{IsEntryAt, replaced}
use Rattle.fabric_core.proofs.edits.ChangedParcels.{HasNone, Rise, first_replaced, rise_of}
use Rattle.fabric_core.proofs.rows.RowLists.{ascending}
use Rattle.fabric_core.proofs.edits.Exchanged.{entry_of, id_of, ids_apart, simple_keyed}
use Rattle.fabric_core.proofs.edits.Exchanges.{entry_is, has_id}
use Rattle.fabric_core.proofs.tilings.InTheCity.{rows_in_box}
use Rattle.fabric_core.proofs.tens.Rows.{ten_rows, AreNearRows, numbers_ten, within_ten, alike_ten}

-- ---- what covers alike does so ten times as large
pub covers_ten : (ring other : List Corner) → AreNear ring → AreNear other → CoversAlike ring other
    → CoversAlike (map ten ring) (map ten other)
covers_ten ring other n m h = record {
  winding_number = λ p. winding_ten other p m ∙ h.winding_number (tenth p) ∙ sym (winding_ten ring p n);
  boundary = λ p. (
    λ on. (on_ring_ten ring p n).1 ((h.boundary (tenth p)).0 ((on_ring_ten other p m).0 on)),
    λ on. (on_ring_ten other p m).1 ((h.boundary (tenth p)).1 ((on_ring_ten ring p n).0 on)),
  );
  signed_area = area_ten other m ∙ ap (λ z. pos 100 *ℤ z) h.signed_area ∙ sym (area_ten ring n);
}

once_ten : (ring : List Corner) (p : Point) → AreNear ring → ((p : Point) → IsWoundAtMostOnce p ring) → IsWoundAtMostOnce p (map ten ring)
once_ten ring p n h =
    let same = sym (winding_ten ring p n) in
    (subst (λ z. pos 0 ≤ℤ z) same (h (tenth p)).0, subst (λ z. z ≤ℤ pos 1) same (h (tenth p)).1)

-- what is so of each item
each_in : {X : Type 0} (P : X → Type 0) (xs : List X) → ((x : X) → Contains xs x → P x) → AllByRecursion P xs
each_in P [] h = tt
each_in P (x ∷ xs) h = (h x (Contains-here x xs), each_in P xs (λ y c. h y (Contains-there x xs y c)))

module _ {A : Type 0} where
  pub all_here : (parcels : List (ℕ × Parcel A)) → AllByRecursion (HasId parcels) (numbers (rows_of_keyed parcels))
  all_here parcels = each_in (HasId parcels) (numbers (rows_of_keyed parcels)) (λ id there. has_id parcels id there)

  -- ---- shapes of rings ten times as large
  abbrev pub IsTenShape : NumberedRing → Shape A → Type 0
  IsTenShape row shape = AreTenTimes row.corners shape.ring.corners

  pub as_many_shapes : (rows : List NumberedRing) (shapes : List (Shape A)) → AllZip IsTenShape rows shapes
      → length (numbers rows) ≡ length shapes
  as_many_shapes [] [] h = refl
  as_many_shapes [] (shape ∷ shapes) h = absurd h
  as_many_shapes (row ∷ rows) [] h = absurd h
  as_many_shapes (row ∷ rows) (shape ∷ shapes) h = omega (arith, as_many_shapes rows shapes h.1)

  none_of_greater : (id : ℕ) (parcels : List (ℕ × Parcel A)) → AllByRecursion (λ other. id < id_of other) parcels
      → HasNone (ids_of parcels) id
  none_of_greater id [] h = tt
  none_of_greater id (parcel ∷ parcels) h = (λ e. omega (arith, h.0, e), none_of_greater id parcels h.1)

  all_replaced : (parcels : List (ℕ × Parcel A)) (shapes : List (Shape A)) → Rise parcels
      → AllZip IsTenShape (rows_of_keyed parcels) shapes
      → rows_of_keyed (replaced (ids_of parcels) shapes parcels) ≡ ten_rows (rows_of_keyed parcels)
  all_replaced [] shapes rise h = refl
  all_replaced (parcel ∷ parcels) [] rise h = absurd h
  all_replaced (parcel ∷ parcels) (shape ∷ shapes) rise h =
      ap rows_of_keyed (first_replaced parcel parcels (ids_of parcels) shape shapes rise (none_of_greater (id_of parcel) parcels rise.0))
      ∙ ap (λ corners. numbered parcel.1.id corners ∷ rows_of_keyed (replaced (ids_of parcels) shapes parcels))
      (tens_of parcel.1.shape.ring.corners shape.ring.corners h.0)
      ∙ ap (λ rows. numbered parcel.1.id (map ten parcel.1.shape.ring.corners) ∷ rows) (all_replaced parcels shapes rise.1 h.1)

  -- the shape of each parcel is exchanged
  pub rows_replaced : (parcels : List (ℕ × Parcel A)) (ids : List ℕ) (shapes : List (Shape A)) → Rise parcels
      → ids ≡ numbers (rows_of_keyed parcels) → AllZip IsTenShape (rows_of_keyed parcels) shapes
      → rows_of_keyed (replaced ids shapes parcels) ≡ ten_rows (rows_of_keyed parcels)
  rows_replaced parcels ids shapes rise named h =
      ap (λ ids. rows_of_keyed (replaced ids shapes parcels)) (named ∙ ids_of_rows parcels) ∙ all_replaced parcels shapes rise h

  -- so they are exchanged in a copy
  pub rows_of_copies : (parcels copies : List (ℕ × Parcel A)) (rows : List NumberedRing) (ids : List ℕ) (shapes : List (Shape A))
      → rows_of_keyed parcels ≡ rows → rows_of_keyed copies ≡ rows_of_keyed parcels
      → IsStrictlyIncreasing (numbers (rows_of_keyed parcels)) → ids ≡ numbers rows → AllZip IsTenShape rows shapes
      → rows_of_keyed (replaced ids shapes copies) ≡ ten_rows rows
  rows_of_copies parcels copies rows ids shapes is same rise named h =
      let all : rows_of_keyed copies ≡ rows = same ∙ is in
      rows_replaced copies ids shapes
      (rise_of copies (ascending (rows_of_keyed copies) (subst (λ rows. IsStrictlyIncreasing (numbers rows)) (sym same) rise)))
      (named ∙ sym (ap numbers all)) (subst (λ rows. AllZip IsTenShape rows shapes) (sym all) h) ∙ ap ten_rows all

  -- ---- an index with the entries of the parcels one by one
  pub record AreIndexed (parcels : List (ℕ × Parcel A)) (index : Grid) (left : List ℕ) : Type 0 where
    pub done : List (ℕ × Parcel A)
    pub rest : List (ℕ × Parcel A)
    pub are_all : done ++ rest ≡ parcels
    pub are_left : left ≡ ids_of rest
    pub indexed : Indexes index (entries_of done)

  pub none_indexed : (parcels : List (ℕ × Parcel A)) (index : Grid) (left : List ℕ) → left ≡ ids_of parcels → Indexes index []
      → AreIndexed parcels index left
  none_indexed parcels index left are_left h =
      record { done = []; rest = parcels; are_all = refl; are_left = are_left; indexed = h }

  pub all_indexed : (parcels : List (ℕ × Parcel A)) (index : Grid) (left : List ℕ) → left ≡ [] → AreIndexed parcels index left
      → Indexes index (entries_of parcels)
  all_indexed parcels index left none h = by_rest h.rest (sym none ∙ h.are_left) h.are_all
    where
      by_rest : (rest : List (ℕ × Parcel A)) → [] ≡ ids_of rest → h.done ++ rest ≡ parcels → Indexes index (entries_of parcels)
      by_rest [] e all = subst (λ ps. Indexes index (entries_of ps)) (sym (append-nil h.done) ∙ all) h.indexed
      by_rest (parcel ∷ rest) e all = absurd (cc)

  behind : (done : List (ℕ × Parcel A)) (parcel : ℕ × Parcel A) (rest : List (ℕ × Parcel A)) → Contains (done ++ parcel ∷ rest) parcel
  behind [] parcel rest = Contains-here parcel rest
  behind (other ∷ done) parcel rest = Contains-there other (done ++ parcel ∷ rest) parcel (behind done parcel rest)

  -- an id that is left is a parcel's
  pub left_here : (parcels : List (ℕ × Parcel A)) (index : Grid) (id : ℕ) (left later : List ℕ) → left ≡ id ∷ later
      → AreIndexed parcels index left → HasId parcels id
  left_here parcels index id left later is h = by_rest h.rest (sym is ∙ h.are_left) h.are_all
    where
      by_rest : (rest : List (ℕ × Parcel A)) → id ∷ later ≡ ids_of rest → h.done ++ rest ≡ parcels → HasId parcels id
      by_rest [] e all = absurd (cc)
      by_rest (parcel ∷ rest) e all =
          let same : id_of parcel ≡ id = cc in (
            parcel.0,
            record {
              parcel = parcel.1;
              is_here = subst (λ ps. Contains ps parcel) all (behind h.done parcel rest);
              has_id = same;
            },
          )

  -- the entry of a parcel's id is the parcel's
  entry_of_id : (parcels : List (ℕ × Parcel A)) (parcel : ℕ × Parcel A) (entry : IndexEntry) → IsStrictlyIncreasing (ids_of parcels)
      → Contains parcels parcel → IsEntryAt parcels (id_of parcel) entry → entry ≡ entry_of parcel
  entry_of_id parcels parcel entry rise there h =
      entry_is parcels (id_of parcel) entry h
      ∙ ap entry_of (same_member id_of parcels (entry.key, h.parcel) parcel (ids_apart parcels rise) h.is_here there h.has_id)

  pub one_indexed : (parcels : List (ℕ × Parcel A)) (old new : Grid) (id : ℕ) (left later : List ℕ) (entry : IndexEntry) → left ≡ id ∷ later
      → IsStrictlyIncreasing (ids_of parcels) → IsEntryAt parcels id entry
      → ((entries : List IndexEntry) → Indexes old entries → Indexes new (entries ++ entry ∷ []))
      → AreIndexed parcels old left → AreIndexed parcels new later
  one_indexed parcels old new id left later entry is rise at adds h = by_rest h.rest (sym is ∙ h.are_left) h.are_all
    where
      by_rest : (rest : List (ℕ × Parcel A)) → id ∷ later ≡ ids_of rest → h.done ++ rest ≡ parcels → AreIndexed parcels new later
      by_rest [] e all = absurd (cc)
      by_rest (parcel ∷ rest) e all =
          let same : id ≡ id_of parcel = cc in
          let more : later ≡ ids_of rest = cc in
          let its : entry ≡ entry_of parcel = entry_of_id parcels parcel entry rise
          (subst (λ ps. Contains ps parcel) all (behind h.done parcel rest)) (subst (λ n. IsEntryAt parcels n entry) same at) in
          record {
            done = h.done ++ parcel ∷ [];
            rest = rest;
            are_all = append_assoc h.done (parcel ∷ []) rest ∙ all;
            are_left = more;
            indexed = subst (Indexes new)
                (ap (λ e. entries_of h.done ++ e ∷ []) its ∙ sym (entries_of-push h.done parcel.0 parcel.1))
                (adds (entries_of h.done) h.indexed);
          }

  -- ---- what is kept
  pub kept_ten : (parcels after : List (ℕ × Parcel A)) (city refined other_city other_refined : List Corner) (index other : Grid)
      → AreNear city → AreNear refined → AreNearRows (rows_of_keyed parcels)
      → IsKept parcels city refined index
      → rows_of_keyed after ≡ ten_rows (rows_of_keyed parcels) → other_city ≡ map ten city → other_refined ≡ map ten refined
      → IsLeastBox other.area other_city → Indexes other (entries_of after)
      → IsKept after other_city other_refined other
  kept_ten parcels after city refined other_city other_refined index other near_city near_refined near kept rows is_city is_refined area
      indexed =
      let alike : GoAlike (corner_lists (rows_of_keyed after)) other_refined =
      subst (λ rows. GoAlike (corner_lists rows) other_refined) (sym rows)
      (subst (GoAlike (corner_lists (ten_rows (rows_of_keyed parcels)))) (sym is_refined)
      (alike_ten (rows_of_keyed parcels) refined near near_refined kept.alike)) in
      let ground : CoversAlike other_city other_refined =
      subst (λ ring. CoversAlike ring other_refined) (sym is_city)
      (subst (CoversAlike (map ten city)) (sym is_refined) (covers_ten city refined near_city near_refined kept.ground)) in record {
        ids_rise = subst IsStrictlyIncreasing (sym (ap numbers rows ∙ numbers_ten (rows_of_keyed parcels))) kept.ids_rise;
        within = subst AreWithinLimits (sym rows) (within_ten (rows_of_keyed parcels) kept.within);
        alike = alike;
        simple_city = subst IsSimpleRing (sym is_refined) (simple_ten refined near_refined kept.simple_city);
        wound_once = λ p. subst (IsWoundAtMostOnce p) (sym is_city) (once_ten city p near_city kept.wound_once);
        ground = ground;
        area = area;
        in_area = rows_in_box (rows_of_keyed after) other_city other_refined other.area (simple_keyed after) ground alike area.holds;
        indexed = indexed;
      }
