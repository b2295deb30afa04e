-- What is kept after an entry is made: the rows and the refined city may be kept, and it is known which ids went.
use Rattle.std.proofs.Common.{◌≡◌, ◌⊎◌, ◌↔◌, inl, inr, ⊎_elim, refl, sym, ◌∙◌, ap, subst, ℕ, ◌+◌, Bool}
use Rattle.std.proofs.Common.{true, false, cond, nat_eq}
use Rattle.std.proofs.Common.{List, [], ◌∷◌, ◌++◌, length, map, Option, Some, None, MatchOption}
use Rattle.std.specs.List.{Contains, list_any}
use Rattle.geo_exact.specs.declared.corner.Corner.{Corner}
use Rattle.std.proofs.lemmas.Bool.{false≢true}
use Rattle.std.proofs.lemmas.List.{length-map}
use Rattle.ring_core.specs.declared.shape.Shape.{Shape}
use Rattle.geo_exact.specs.Layers.{NumberedRing, numbered}
use Rattle.ring_edits.specs.declared.edit.Edit.{Edit}
use Rattle.fabric_core.specs.declared.ring_change.RingChange.{RingChange}
use Rattle.fabric_core.specs.declared.ring_change.RingChange.TheVariants.{PutIn, TakeOut}
use Rattle.fabric_core.specs.Tiling.{corner_lists}
use Rattle.fabric_core.specs.Rows.{numbers}
use Rattle.fabric_core.specs.Journal.{State, JournalEntry, after_entry, next_after, refined_by, without_ids}
use Rattle.fabric_core.specs.EditResults.{IsChange, IsEntryOf}
use Rattle.fabric_core.specs.own.RingChanges.{IsRenewalOf, changed_city, changed_ring, changed_row, edit_of, renewed, rows_changed}
use Rattle.fabric_core.specs.Refusals.{Retires}
use Rattle.fabric_core.specs.own.Balanced.{IsBalanced}
use Rattle.fabric_core.specs.own.Changes.{IsMade, rings_of_shapes, state_of}
use Rattle.fabric_core.specs.own.Kept.{Kept, IsExchanged, MayBeKept, gone_by}
use Rattle.fabric_core.proofs.edits.EntryMeasures.{balanced_after}
use Rattle.fabric_core.proofs.edits.Replays.{BringsNew, new_ids, next_after_renewal, renewed_ids, rows_after_new, rows_after_renewal}
use Rattle.fabric_core.proofs.edits.Retirements.{renewal_retires_none, out_is_there, retires_out}
use Rattle.fabric_core.proofs.edits.RingChanges.{renewal_of}
use Rattle.fabric_core.proofs.rows.RowLists.{AreNumberedFrom, Decides-named, next_of_new}

-- how many shapes there are of rows
pub count_of : {B : Type 0} (shapes : List (Shape B)) (rows : List NumberedRing) → rings_of_shapes shapes ≡ corner_lists rows
    → length shapes ≡ length rows
count_of shapes rows e =
    sym (length-map shapes (λ shape. shape.ring.corners)) ∙ ap length e ∙ length-map rows (λ row. row.corners)

-- rings numbered on from an id
abbrev pub number_on : ℕ → List (List Corner) → List NumberedRing
number_on n [] = []
number_on n (ring ∷ rings) = numbered n ring ∷ number_on (n + 1) rings

numbered_on : (n : ℕ) (rows : List NumberedRing) → AreNumberedFrom n rows → rows ≡ number_on n (corner_lists rows)
numbered_on n [] h = refl
numbered_on n (row ∷ rows) h =
    ap (λ m. numbered m row.corners ∷ rows) h.0 ∙ ap (λ xs. numbered n row.corners ∷ xs) (numbered_on (n + 1) rows h.1)

same_state : (x y : State) → x.rows ≡ y.rows → x.refined ≡ y.refined → x.next ≡ y.next → x ≡ y
same_state x y e f g =
    ap (λ rows. record { rows = rows; refined = x.refined; next = x.next }) e
    ∙ ap (λ ring. record { rows = y.rows; refined = ring; next = x.next }) f
    ∙ ap (λ n. record { rows = y.rows; refined = y.refined; next = n }) g

same_id : (m n : ℕ) → Some m ≡ Some n → m ≡ n
same_id m n e = cc

-- the ids that are in no fate before get theirs
test_fates : (b : Bool) (by n : ℕ) (old : Option ℕ) → (b ≡ true → old ≡ None)
    → (cond b (Some by) old ≡ Some n) ↔ ((old ≡ Some n) ⊎ ((b ≡ true) × (by ≡ n)))
test_fates true by n old none = (
  λ e. inr (refl, same_id by n e),
  λ h. ⊎_elim (λ e. absurd (not_some (sym (none refl) ∙ e))) (λ k. ap Some k.1) h,
)
  where
    not_some : None ≡ Some n → ⊥
    not_some e = subst (λ (fate : Option ℕ). MatchOption fate (Unit {0}) (λ m. ⊥)) e tt
test_fates false by n old none = (λ e. inl e, λ h. ⊎_elim (λ e. e) (λ k. absurd (false≢true k.0)) h)

-- the city's refined ring after the edit of a change
refined_by_change : (A : Type 0) (change : RingChange) (ring : List Corner)
    → refined_by (edit_of {A = A} change) ring ≡ changed_city change ring
refined_by_change A (PutIn from to at) ring = refl
refined_by_change A (TakeOut at) ring = refl

module _ {A : Type 0} (kept : Kept) (entry : JournalEntry A) (balanced : IsBalanced (state_of kept))
    (is : IsEntryOf (state_of kept) entry) where
  -- the rows behind an entry may be kept
  pub may_be_kept : MayBeKept (after_entry (state_of kept) entry).rows (refined_by entry.edit kept.refined)
  may_be_kept = record {
    within = is.within.corners;
    alike = (balanced_after (state_of kept) entry balanced is).alike;
  }

  -- where it brings rows under new ids, these come behind those that stay
  pub rows_brought : BringsNew entry.edit → (after_entry (state_of kept) entry).rows ≡ without_ids entry.out kept.rows ++ entry.rows
  rows_brought new = rows_after_new (state_of kept) entry.edit entry.out entry.rows balanced.ids new is.is_change

  pub rows_numbered : BringsNew entry.edit → entry.rows ≡ number_on kept.next (corner_lists entry.rows)
  rows_numbered new =
      numbered_on kept.next entry.rows (new_ids (state_of kept) entry.edit entry.out entry.rows new is.is_change)

  -- as an exchange of parcels asks for it
  pub may_be_brought : BringsNew entry.edit → refined_by entry.edit kept.refined ≡ kept.refined → (out : List ℕ)
      (rings : List (List Corner))
      → entry.out ≡ out → rings ≡ corner_lists entry.rows
      → MayBeKept (without_ids out kept.rows ++ number_on kept.next rings) kept.refined
  may_be_brought new same out rings gone come =
      subst (λ ring. MayBeKept (without_ids out kept.rows ++ number_on kept.next rings) ring) same
      (subst (λ rows. MayBeKept rows (refined_by entry.edit kept.refined))
      (rows_brought new ∙ ap (λ ids. without_ids ids kept.rows ++ entry.rows) gone
      ∙ ap (λ rows. without_ids out kept.rows ++ rows) (rows_numbered new ∙ ap (number_on kept.next) (sym come)))
      may_be_kept)

  -- made by an exchange of parcels
  module _ (here : (id : ℕ) → Contains (numbers kept.rows) id → gone_by kept id ≡ None) where
    gone_after : (new : BringsNew entry.edit) (fate : Option ℕ) (id by : ℕ)
        → fate ≡ cond (list_any (nat_eq id) entry.out) (Some entry.number) (gone_by kept id)
        → (fate ≡ Some by) ↔ ((gone_by kept id ≡ Some by) ⊎ (Retires entry id × (entry.number ≡ by)))
    gone_after new fate id by is_fate =
        let named = Decides-named id entry.out in
        let out = retires_out (state_of kept) entry balanced.ids new is.is_change id in
        let told = test_fates (list_any (nat_eq id) entry.out) entry.number by (gone_by kept id)
        (λ t. here id (out_is_there (state_of kept) entry.edit entry.out entry.rows new is.is_change id (named.0 t))) in (
          λ e. ⊎_elim (λ l. inl l) (λ k. inr (out.1 (named.0 k.0), k.1)) (told.0 (sym is_fate ∙ e)),
          λ h. is_fate ∙ told.1 (⊎_elim (λ l. inl l) (λ k. inr (named.1 (out.0 k.0), k.1)) h),
        )

    pub made_exchanged : BringsNew entry.edit → refined_by entry.edit kept.refined ≡ kept.refined → (after : Kept) (out : List ℕ)
        (rings : List (List Corner)) → entry.out ≡ out → rings ≡ corner_lists entry.rows
        → IsExchanged kept after out entry.number (number_on kept.next rings) → IsMade kept after entry
    made_exchanged new same after out rings gone come h =
        let is_rows : entry.rows ≡ number_on kept.next rings = rows_numbered new ∙ ap (number_on kept.next) (sym come) in
        let rows : after.rows ≡ (after_entry (state_of kept) entry).rows =
        h.rows ∙ ap (λ xs. without_ids out kept.rows ++ xs) (sym is_rows)
        ∙ ap (λ ids. without_ids ids kept.rows ++ entry.rows) (sym gone) ∙ sym (rows_brought new) in
        let next : after.next ≡ next_after entry.rows kept.next =
        h.next ∙ ap (λ xs. kept.next + length xs) (sym is_rows)
        ∙ sym (next_of_new kept.next entry.rows (new_ids (state_of kept) entry.edit entry.out entry.rows new is.is_change)) in record {
          state = same_state (state_of after) (after_entry (state_of kept) entry) rows (h.refined ∙ sym same) next;
          city = h.city;
          gone = λ id by. gone_after new (gone_by after id) id by
              (h.fates id ∙ ap (λ ids. cond (list_any (nat_eq id) ids) (Some entry.number) (gone_by kept id)) (sym gone));
        }

  -- a change of rings
  module _ (change : RingChange) (makes : entry.edit ≡ edit_of change) where
    pub renewal : IsRenewalOf (state_of kept) change entry.out entry.rows
    renewal = renewal_of A (state_of kept) change entry.out entry.rows
        (subst (λ (e : Edit A). IsChange (state_of kept) e entry.out entry.rows) makes is.is_change)

    pub ids_changed : entry.out ≡ numbers (rows_changed change kept.rows)
    ids_changed = renewed_ids (state_of kept) change entry.out entry.rows renewal

    rings_changed : (rows : List NumberedRing)
        → corner_lists (map (renewed change) rows) ≡ map (λ row. changed_ring change row.corners) rows
    rings_changed [] = refl
    rings_changed (row ∷ rows) = ap (λ rings. changed_ring change row.corners ∷ rings) (rings_changed rows)

    pub shapes_changed : corner_lists entry.rows ≡ map (λ row. changed_ring change row.corners) (rows_changed change kept.rows)
    shapes_changed = ap corner_lists renewal.rows_are ∙ rings_changed (rows_changed change kept.rows)

    rows_are_changed : (after_entry (state_of kept) entry).rows ≡ map (changed_row change) kept.rows
    rows_are_changed = rows_after_renewal (state_of kept) change entry.out entry.rows balanced.ids renewal

    refined_changed : refined_by entry.edit kept.refined ≡ changed_city change kept.refined
    refined_changed = ap (λ (e : Edit A). refined_by e kept.refined) makes ∙ refined_by_change A change kept.refined

    pub may_be_changed : MayBeKept (map (changed_row change) kept.rows) (changed_city change kept.refined)
    may_be_changed = subst (λ rows. MayBeKept rows (changed_city change kept.refined)) rows_are_changed
        (subst (λ ring. MayBeKept (after_entry (state_of kept) entry).rows ring) refined_changed may_be_kept)

    pub made_changed : (after : Kept)
        → after ≡ record kept { rows = map (changed_row change) kept.rows; refined = changed_city change kept.refined }
        → IsMade kept after entry
    made_changed after h = subst (λ (t : Kept). IsMade kept t entry) (sym h) (record {
      state = same_state _ (after_entry (state_of kept) entry) (sym rows_are_changed) (sym refined_changed)
          (sym (next_after_renewal (state_of kept) change entry.out entry.rows balanced.ids renewal));
      city = refl;
      gone = λ id by. (
        λ e. inl e,
        λ k. ⊎_elim (λ e. e) (λ r. absurd (renewal_retires_none (state_of kept) entry change renewal id r.0)) k,
      );
    })
