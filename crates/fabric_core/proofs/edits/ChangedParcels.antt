-- Parcels whose rings are changed: their rows, and that their boxes and so their entries in the index stay.
use Rattle.std.proofs.Common.{◌≡◌, ◌≢◌, ◌↔◌, refl, sym, ◌∙◌, ap, subst, arith, ℕ, ◌<◌}
use Rattle.std.proofs.Common.{Bool, true, false, nat_eq, cond, List, [], ◌∷◌, map, length, suc, IsTrue, Option, Some}
use Rattle.std.proofs.Common.{None, MatchOption, IsNone, IfSome}
use Rattle.std.specs.List.{AllByRecursion, Contains, filter}
use Rattle.std.specs.List.Sorted.{IsStrictlyIncreasing}
use Rattle.std.proofs.lemmas.Bool.Decides.{nat_tests}
use Rattle.geo_exact.specs.declared.corner.Corner.{Corner}
use Rattle.geo_exact.specs.Bounds.{IsLeastBox}
use Rattle.geo_exact.specs.Layers.{NumberedRing, numbered}
use Rattle.cell_index.specs.Cells.{Grid, Indexes}
use Rattle.fabric_core.specs.own.Balanced.{Ascend}
use Rattle.fabric_core.specs.Limits.{AreWithinLimits}
use Rattle.fabric_core.specs.Tiling.{corner_lists}
use Rattle.fabric_core.specs.own.Alike.{GoAlike}
use Rattle.fabric_core.proofs.tilings.InTheCity.{rows_in_box}
use Rattle.fabric_core.proofs.rows.RowLists.{Contains-from_kept, has_number}
use Rattle.fabric_core.proofs.edits.Exchanges.{has_id}
use Rattle.parcel_table.proofs.Tables.{ids_of_rows}
use Rattle.cell_index.proofs.Members.{mapped}
use Rattle.ring_core.specs.declared.shape.Shape.{Shape}
use Rattle.ring_core.specs.Simple.{IsSimpleRing}
use Rattle.ring_edits.specs.Edits.{CoversAlike}
use Rattle.parcel_table.specs.declared.parcels.Parcel.{Parcel}
use Rattle.parcel_table.specs.Table.{HasId, with_shape, ids_of, rows_of_keyed, entries_of}
use Rattle.parcel_table.proofs.Boxes.{one_least_box}
use Rattle.fabric_core.specs.declared.ring_change.RingChange.{RingChange}
use Rattle.fabric_core.specs.own.RingChanges.{AreShapesOf, KeepsGround, changed_city, changed_ring, changed_row, is_changed}
use Rattle.fabric_core.specs.own.RingChanges.{renewed, rows_changed}
use Rattle.fabric_core.proofs.edits.RingChanges.{box_kept, city_stays}
use Rattle.fabric_core.specs.Rows.{numbers}
use Rattle.fabric_core.specs.own.Kept.{IsKept, MayBeKept, ids_by_key}
use Rattle.fabric_core.specs.own.Lists.{replaced}
use Rattle.fabric_core.proofs.edits.Exchanged.{entry_of, id_of, simple_keyed}
use Rattle.fabric_core.proofs.loads.ByIds.{same_ids_by_key}

same_number : (n : ℕ) → nat_eq n n ≡ true
same_number n = grind (arith, nat_tests)

other_number : (m n : ℕ) → m ≢ n → nat_eq m n ≡ false
other_number m n h = grind (arith, nat_tests)

-- none of the ids is this one
abbrev pub HasNone : List ℕ → ℕ → Type 0
HasNone ids id = AllByRecursion (λ other. id ≢ other) ids

module _ {A : Type 0} where
  -- all later parcels have greater ids
  abbrev pub Rise : List (ℕ × Parcel A) → Type 0
  Rise [] = Unit {0}
  Rise (parcel ∷ parcels) = AllByRecursion (λ other. id_of parcel < id_of other) parcels × Rise parcels

  -- parcels with other ids keep their shapes
  alone : (id : ℕ) (shape : Shape A) (parcels : List (ℕ × Parcel A)) → AllByRecursion (λ parcel. id_of parcel ≢ id) parcels
      → with_shape id shape parcels ≡ parcels
  alone id shape [] h = refl
  alone id shape (parcel ∷ parcels) h = rw (other_number (id_of parcel) id h.0, alone id shape parcels h.1) refl

  -- a parcel that none of the ids names stays first
  past : (ids : List ℕ) (shapes : List (Shape A)) (first : ℕ × Parcel A) (parcels : List (ℕ × Parcel A))
      → HasNone ids (id_of first)
      → replaced ids shapes (first ∷ parcels) ≡ first ∷ replaced ids shapes parcels
  past [] shapes first parcels h = refl
  past (id ∷ ids) [] first parcels h = refl
  past (id ∷ ids) (shape ∷ shapes) first parcels h =
      ap (λ x. replaced ids shapes (x ∷ with_shape id shape parcels))
      (ap (λ b. cond b (first.0, record { id = first.1.id; shape = shape }) first) (other_number (id_of first) id h.0))
      ∙ past ids shapes first (with_shape id shape parcels) h.1

  others : (id : ℕ) (parcels : List (ℕ × Parcel A)) → AllByRecursion (λ other. id < id_of other) parcels
      → AllByRecursion (λ parcel. id_of parcel ≢ id) parcels
  others id [] h = tt
  others id (parcel ∷ parcels) h = (λ e. omega (arith, h.0, e), others id parcels h.1)

  -- the parcel behind its own id with another shape
  abbrev pub with_new : ℕ × Parcel A → Shape A → ℕ × Parcel A
  with_new parcel shape = (parcel.0, record { id = parcel.1.id; shape = shape })

  -- the first parcel gets the first shape where the first id is its own
  pub first_replaced : (parcel : ℕ × Parcel A) (parcels : List (ℕ × Parcel A)) (ids : List ℕ) (shape : Shape A) (shapes : List (Shape A))
      → Rise (parcel ∷ parcels) → HasNone ids (id_of parcel)
      → replaced (id_of parcel ∷ ids) (shape ∷ shapes) (parcel ∷ parcels) ≡ with_new parcel shape ∷ replaced ids shapes parcels
  first_replaced parcel parcels ids shape shapes rise none =
      ap (λ b. replaced ids shapes (cond b (with_new parcel shape) parcel
      ∷ with_shape (id_of parcel) shape parcels)) (same_number (id_of parcel))
      ∙ ap (λ xs. replaced ids shapes (with_new parcel shape ∷ xs)) (alone (id_of parcel) shape parcels
      (others (id_of parcel) parcels rise.0))
      ∙ past ids shapes (with_new parcel shape) parcels none

-- the row is changed
abbrev changes : RingChange → NumberedRing → Bool
changes change row = is_changed change row.corners

-- the numbers of rows stay
numbers_kept : (change : RingChange) (rows : List NumberedRing) → numbers (map (changed_row change) rows) ≡ numbers rows
numbers_kept change [] = refl
numbers_kept change (row ∷ rows) = by_test (is_changed change row.corners) (numbers_kept change rows)
  where
    by_test : (b : Bool) → numbers (map (changed_row change) rows) ≡ numbers rows
        → (cond b (renewed change row) row).number ∷ numbers (map (changed_row change) rows) ≡ row.number ∷ numbers rows
    by_test true later = ap (λ ids. row.number ∷ ids) later
    by_test false later = ap (λ ids. row.number ∷ ids) later

module _ {A : Type 0} (change : RingChange) where
  -- what the parcels become: their rows and their entries
  pub record AreChanged (parcels after : List (ℕ × Parcel A)) : Type 0 where
    pub rows : rows_of_keyed after ≡ map (changed_row change) (rows_of_keyed parcels)
    pub entries : entries_of after ≡ entries_of parcels

module _ {A : Type 0} (change : RingChange) where
  -- so the rows that are changed have greater ids, too
  greater : (id : ℕ) (parcels : List (ℕ × Parcel A)) → AllByRecursion (λ other. id < id_of other) parcels
      → AllByRecursion (λ other. id ≢ other) (numbers (filter (changes change) (rows_of_keyed parcels)))
  greater id [] h = tt
  greater id (parcel ∷ parcels) h = by_test (changes change (numbered parcel.1.id parcel.1.shape.ring.corners)) (greater id parcels h.1)
    where
      by_test : (b : Bool) → AllByRecursion (λ other. id ≢ other) (numbers (filter (changes change) (rows_of_keyed parcels)))
          → AllByRecursion (λ other. id ≢ other)
          (numbers (cond b (numbered parcel.1.id parcel.1.shape.ring.corners ∷ filter (changes change) (rows_of_keyed parcels))
          (filter (changes change) (rows_of_keyed parcels))))
      by_test true rest = (λ e. omega (arith, h.0, e), rest)
      by_test false rest = rest

  abbrev row_of : ℕ × Parcel A → NumberedRing
  row_of parcel = numbered parcel.1.id parcel.1.shape.ring.corners

  same_box : (parcel : ℕ × Parcel A) (shape : Shape A) → KeepsGround change parcel.1.shape.ring.corners
      → shape.ring.corners ≡ changed_ring change parcel.1.shape.ring.corners
      → entry_of (with_new parcel shape) ≡ entry_of parcel
  same_box parcel shape ground ring = ap (λ box. record { key = parcel.0; bounds = box })
      (one_least_box shape.bounds parcel.1.shape.bounds shape.ring.corners shape.least_box
      (subst (IsLeastBox parcel.1.shape.bounds) (sym ring)
      (box_kept change parcel.1.shape.bounds parcel.1.shape.ring.corners ground parcel.1.shape.least_box)))

  -- the first parcel has no such edge
  first_stays : (parcel : ℕ × Parcel A) (parcels : List (ℕ × Parcel A)) (ids : List ℕ) (shapes : List (Shape A))
      → Rise (parcel ∷ parcels)
      → changes change (row_of parcel) ≡ false → ids ≡ numbers (filter (changes change) (rows_of_keyed parcels))
      → AreChanged change parcels (replaced ids shapes parcels)
      → AreChanged change (parcel ∷ parcels) (replaced ids shapes (parcel ∷ parcels))
  first_stays parcel parcels ids shapes rise off named rest =
      let first = past ids shapes parcel parcels (subst (λ xs. HasNone xs (id_of parcel)) (sym named)
      (greater (id_of parcel) parcels rise.0)) in
      record {
        rows = ap rows_of_keyed first ∙ ap (λ rows. row_of parcel ∷ rows) rest.rows
            ∙ ap (λ b. cond b (numbered parcel.1.id (changed_ring change parcel.1.shape.ring.corners)) (row_of parcel)
            ∷ map (changed_row change) (rows_of_keyed parcels)) (sym off);
        entries = ap entries_of first ∙ ap (λ entries. entry_of parcel ∷ entries) rest.entries;
      }

  -- the first parcel has it
  first_gets : (parcel : ℕ × Parcel A) (parcels : List (ℕ × Parcel A)) (ids : List ℕ) (shape : Shape A) (shapes : List (Shape A))
      → Rise (parcel ∷ parcels) → KeepsGround change parcel.1.shape.ring.corners → changes change (row_of parcel) ≡ true
      → ids ≡ numbers (filter (changes change) (rows_of_keyed parcels))
      → shape.ring.corners ≡ changed_ring change parcel.1.shape.ring.corners
      → AreChanged change parcels (replaced ids shapes parcels)
      → AreChanged change (parcel ∷ parcels) (replaced (id_of parcel ∷ ids) (shape ∷ shapes) (parcel ∷ parcels))
  first_gets parcel parcels ids shape shapes rise ground on named ring rest =
      let first : replaced (id_of parcel ∷ ids) (shape ∷ shapes) (parcel ∷ parcels) ≡ with_new parcel shape
      ∷ replaced ids shapes parcels =
      first_replaced parcel parcels ids shape shapes rise
      (subst (λ xs. HasNone xs (id_of parcel)) (sym named) (greater (id_of parcel) parcels rise.0)) in
      record {
        rows = ap rows_of_keyed first
            ∙ ap (λ corners. numbered parcel.1.id corners ∷ rows_of_keyed (replaced ids shapes parcels)) ring
            ∙ ap (λ rows. numbered parcel.1.id (changed_ring change parcel.1.shape.ring.corners) ∷ rows) rest.rows
            ∙ ap (λ b. cond b (numbered parcel.1.id (changed_ring change parcel.1.shape.ring.corners)) (row_of parcel)
            ∷ map (changed_row change) (rows_of_keyed parcels)) (sym on);
        entries = ap entries_of first ∙ ap (λ entry. entry ∷ entries_of (replaced ids shapes parcels)) (same_box parcel shape ground ring)
            ∙ ap (λ entries. entry_of parcel ∷ entries) rest.entries;
      }

  one_of_more : (parcel : ℕ × Parcel A) (parcels : List (ℕ × Parcel A)) (ids : List ℕ) (shapes : List (Shape A))
      → Rise (parcel ∷ parcels) → KeepsGround change parcel.1.shape.ring.corners
      → changes change (row_of parcel) ≡ true → ids ≡ id_of parcel ∷ numbers (filter (changes change) (rows_of_keyed parcels))
      → map (λ shape. shape.ring.corners) shapes ≡ changed_ring change parcel.1.shape.ring.corners
      ∷ map (λ row. changed_ring change row.corners) (filter (changes change) (rows_of_keyed parcels))
      → ((later : List (Shape A)) → map (λ shape. shape.ring.corners) later ≡ map (λ row. changed_ring change row.corners)
      (filter (changes change) (rows_of_keyed parcels))
      → AreChanged change parcels (replaced (numbers (filter (changes change) (rows_of_keyed parcels))) later parcels))
      → AreChanged change (parcel ∷ parcels) (replaced ids shapes (parcel ∷ parcels))
  one_of_more parcel parcels ids [] rise ground on named made rest = absurd (omega (arith, ap length made))
  one_of_more parcel parcels ids (shape ∷ shapes) rise ground on named made rest =
      subst (λ xs. AreChanged change (parcel ∷ parcels) (replaced xs (shape ∷ shapes) (parcel ∷ parcels))) (sym named)
      (first_gets parcel parcels (numbers (filter (changes change) (rows_of_keyed parcels))) shape shapes rise ground on
      refl (heads made) (rest shapes (tails made)))
    where
      heads : {x y : List Corner} {xs ys : List (List Corner)} → x ∷ xs ≡ y ∷ ys → x ≡ y
      heads e = cc

      tails : {x y : List Corner} {xs ys : List (List Corner)} → x ∷ xs ≡ y ∷ ys → xs ≡ ys
      tails e = cc

  -- the ids beside the keys stay
  pub ids_by_key_changed : (parcels after : List (ℕ × Parcel A)) → AreChanged change parcels after → ids_by_key after ≡ ids_by_key parcels
  ids_by_key_changed parcels after changed = same_ids_by_key after parcels
      (sym (ids_of_rows after) ∙ ap numbers changed.rows ∙ numbers_kept change (rows_of_keyed parcels)
      ∙ ids_of_rows parcels) changed.entries

  pub change_all : (parcels : List (ℕ × Parcel A)) (ids : List ℕ) (shapes : List (Shape A)) → Rise parcels
      → AllByRecursion (λ row. KeepsGround change row.corners) (rows_of_keyed parcels)
      → ids ≡ numbers (rows_changed change (rows_of_keyed parcels)) → AreShapesOf change (rows_of_keyed parcels) shapes
      → AreChanged change parcels (replaced ids shapes parcels)
  change_all [] ids shapes rise ground named made = subst (λ xs. AreChanged change [] (replaced xs shapes [])) (sym named)
      (record { rows = refl; entries = refl })
  change_all (parcel ∷ parcels) ids shapes rise ground named made =
      by_keep (changes change (row_of parcel)) refl named made (λ some later n m. change_all parcels some later rise.1 ground.1 n m)
    where
      by_keep : (b : Bool) → changes change (row_of parcel) ≡ b
          → ids ≡ numbers (cond b (row_of parcel ∷ filter (changes change) (rows_of_keyed parcels))
          (filter (changes change) (rows_of_keyed parcels)))
          → map (λ shape. shape.ring.corners) shapes ≡ map (λ row. changed_ring change row.corners)
          (cond b (row_of parcel ∷ filter (changes change) (rows_of_keyed parcels)) (filter (changes change) (rows_of_keyed parcels)))
          → ((some : List ℕ) (later : List (Shape A)) → some ≡ numbers (filter (changes change) (rows_of_keyed parcels))
          → AreShapesOf change (rows_of_keyed parcels) later → AreChanged change parcels (replaced some later parcels))
          → AreChanged change (parcel ∷ parcels) (replaced ids shapes (parcel ∷ parcels))
      by_keep true on n m rest = one_of_more parcel parcels ids shapes rise ground.0 on n m
          (λ later made. rest (numbers (filter (changes change) (rows_of_keyed parcels))) later refl made)
      by_keep false off n m rest = first_stays parcel parcels ids shapes rise off n (rest ids shapes n m)

-- ids stay where shapes are exchanged
module _ {A : Type 0} where
  id_stays : (id other : ℕ) (shape : Shape A) (parcels : List (ℕ × Parcel A)) → HasId parcels other
      → HasId (with_shape id shape parcels) other
  id_stays id other shape parcels (key, is_key) =
      by_test (nat_eq is_key.parcel.id id)
      (mapped (λ (parcel : ℕ × Parcel A). cond (nat_eq parcel.1.id id)
      (parcel.0, record { id = parcel.1.id; shape = shape }) parcel) parcels
      (key, is_key.parcel) is_key.is_here)
    where
      by_test : (b : Bool)
          → Contains (with_shape id shape parcels) (cond b (key, record { id = is_key.parcel.id; shape = shape }) (key, is_key.parcel))
          → HasId (with_shape id shape parcels) other
      by_test true there =
          (key, record { parcel = record { id = is_key.parcel.id; shape = shape }; is_here = there; has_id = is_key.has_id })
      by_test false there = (key, record { parcel = is_key.parcel; is_here = there; has_id = is_key.has_id })

  pub ids_stay : (id : ℕ) (shape : Shape A) (parcels : List (ℕ × Parcel A)) (ids : List ℕ) → AllByRecursion (HasId parcels) ids
      → AllByRecursion (HasId (with_shape id shape parcels)) ids
  ids_stay id shape parcels [] h = tt
  ids_stay id shape parcels (other ∷ ids) h = (id_stays id other shape parcels h.0, ids_stay id shape parcels ids h.1)

-- a ring after the change, or the same where it is not changed
pub ring_after : (change : RingChange) (ring : List Corner) (found : Option (List Corner))
    → IsNone found ↔ (¬ IsTrue (is_changed change ring))
    → IfSome found (λ out. out ≡ changed_city change ring)
    → MatchOption found (ring ≡ changed_city change ring) (λ out. out ≡ changed_city change ring)
ring_after change ring None none some = sym (city_stays change ring (none.0 refl))
ring_after change ring (Some out) none some = some

-- parcels whose rows ascend
module _ {A : Type 0} where
  all_greater : (n : ℕ) (parcels : List (ℕ × Parcel A)) → AllByRecursion (λ later. n < later.number) (rows_of_keyed parcels)
      → AllByRecursion (λ other. n < id_of other) parcels
  all_greater n [] h = tt
  all_greater n (parcel ∷ parcels) h = (h.0, all_greater n parcels h.1)

  pub rise_of : (parcels : List (ℕ × Parcel A)) → Ascend (rows_of_keyed parcels) → Rise parcels
  rise_of [] h = tt
  rise_of (parcel ∷ parcels) h = (all_greater (id_of parcel) parcels h.0, rise_of parcels h.1)

  -- ids of rows that are kept are ids of parcels
  pub ids_here : (keep : NumberedRing → Bool) (parcels : List (ℕ × Parcel A))
      → AllByRecursion (HasId parcels) (numbers (filter keep (rows_of_keyed parcels)))
  ids_here keep parcels = some parcels (filter keep (rows_of_keyed parcels)) (λ row there.
      (Contains-from_kept keep (rows_of_keyed parcels) row there).0)
    where
      some : (parcels : List (ℕ × Parcel A)) (rows : List NumberedRing) → ((row : NumberedRing) → Contains rows row
          → Contains (rows_of_keyed parcels) row)
          → AllByRecursion (HasId parcels) (numbers rows)
      some parcels [] h = tt
      some parcels (row ∷ rows) h = (
        has_id parcels row.number (has_number (rows_of_keyed parcels) row (h row (0, omega arith, refl))),
        some parcels rows (λ other there. h other (suc there.0, omega (arith, there.1), there.2)),
      )

  -- what is kept
  pub changed_kept : (change : RingChange) (parcels after : List (ℕ × Parcel A)) (city refined refined_after : List Corner) (index : Grid)
      → IsKept parcels city refined index → AreChanged change parcels after → CoversAlike refined refined_after
      → IsSimpleRing refined_after
      → MayBeKept (map (changed_row change) (rows_of_keyed parcels)) refined_after → IsStrictlyIncreasing (ids_of after)
      → IsKept after city refined_after index
  changed_kept change parcels after city refined refined_after index kept changed covers simple may rises =
      let alike : GoAlike (corner_lists (rows_of_keyed after)) refined_after =
      subst (λ rows. GoAlike (corner_lists rows) refined_after) (sym changed.rows) may.alike in
      let ground : CoversAlike city refined_after = record {
        winding_number = λ p. covers.winding_number p ∙ kept.ground.winding_number p;
        boundary = λ p. (
          λ on. (kept.ground.boundary p).0 ((covers.boundary p).0 on),
          λ on. (covers.boundary p).1 ((kept.ground.boundary p).1 on),
        );
        signed_area = covers.signed_area ∙ kept.ground.signed_area;
      } in record {
        ids_rise = subst IsStrictlyIncreasing (sym (ids_of_rows after)) rises;
        within = subst AreWithinLimits (sym changed.rows) may.within;
        alike = alike;
        simple_city = simple;
        wound_once = kept.wound_once;
        ground = ground;
        area = kept.area;
        in_area = rows_in_box (rows_of_keyed after) city refined_after index.area (simple_keyed after) ground alike kept.area.holds;
        indexed = subst (Indexes index) (sym changed.entries) kept.indexed;
      }
