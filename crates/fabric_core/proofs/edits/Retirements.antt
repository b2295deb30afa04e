-- Which ids the entries of a journal take out for good, and that none is taken out twice.
use Rattle.std.proofs.Common.{◌≡◌, ◌⊎◌, ◌↔◌, inl, inr, ⊎_elim, refl, sym, ◌∙◌, ap, subst, arith, ℕ, ◌+◌}
use Rattle.std.proofs.Common.{◌<◌, ◌≤◌}
use Rattle.std.proofs.Common.{List, [], ◌∷◌, ◌++◌}
use Rattle.std.specs.List.{Contains}
use Rattle.std.proofs.lemmas.List.Elements.{Contains-append_left, Contains-append_cases, Contains-push, Contains-push_cases}
use Rattle.geo_exact.specs.declared.corner.Corner.{Corner}
use Rattle.geo_exact.specs.Layers.{NumberedRing, numbered}
use Rattle.edge_chains.proofs.nodings.NodedEdges.{none_in_nil, Contains-cases}
use Rattle.ring_edits.specs.declared.edit.Edit.{Edit}
use Rattle.ring_edits.specs.declared.edit.Edit.TheVariants.{Split, Merge, Move, Insert, Straighten}
use Rattle.fabric_core.specs.own.Balanced.{AreBelow, HasRisingIds}
use Rattle.fabric_core.specs.Rows.{numbers}
use Rattle.fabric_core.specs.Journal.{State, JournalEntry, after_entry, replay, without_ids}
use Rattle.fabric_core.specs.declared.ring_change.RingChange.{RingChange}
use Rattle.fabric_core.specs.declared.ring_change.RingChange.TheVariants.{PutIn, TakeOut}
use Rattle.fabric_core.specs.EditResults.{IsChange, AreLawfulFrom}
use Rattle.fabric_core.specs.own.RingChanges.{IsRenewalOf, edit_of}
use Rattle.fabric_core.proofs.edits.RingChanges.{renewal_of}
use Rattle.fabric_core.specs.Refusals.{Retires, IsRetiredBy}
use Rattle.fabric_core.proofs.tilings.OneParcel.{of_each}
use Rattle.fabric_core.proofs.rows.RowLists.{AreNumberedFrom, has_number, has_row, next_not_less, Contains-from_without}
use Rattle.fabric_core.proofs.edits.Replays.{BringsNew, new_ids, rows_after_new, rows_after_renewal, numbers_after}
use Rattle.fabric_core.proofs.edits.Replays.{rising_after}

-- ---- one entry more
module _ {A : Type 0} where
  pub retired_more : (journal rest : List (JournalEntry A)) (id by : ℕ) → IsRetiredBy journal id by
      → IsRetiredBy (journal ++ rest) id by
  retired_more journal rest id by h = record {
    entry = h.entry;
    is_entry = Contains-append_left journal rest h.entry h.is_entry;
    has_number = h.has_number;
    retires = h.retires;
  }

  pub retired_push : (journal : List (JournalEntry A)) (entry : JournalEntry A) (id by : ℕ)
      → IsRetiredBy (journal ++ entry ∷ []) id by ↔ (IsRetiredBy journal id by ⊎ (Retires entry id × (entry.number ≡ by)))
  retired_push journal entry id by = (
    λ h. ⊎_elim
        (λ c. inl (record { entry = h.entry; is_entry = c; has_number = h.has_number; retires = h.retires }))
        (λ e. inr (
          subst (λ (x : JournalEntry A). Retires x id) (sym e) h.retires,
          ap (λ (x : JournalEntry A). x.number) e ∙ h.has_number,
        ))
        (Contains-push_cases journal entry h.entry h.is_entry),
    λ k. ⊎_elim
        (λ h. retired_more journal (entry ∷ []) id by h)
        (λ h. record { entry = entry; is_entry = Contains-push journal entry; has_number = h.1; retires = h.0 })
        k,
  )

  -- none is retired by no entries
  pub none_retired : (id by : ℕ) → IsRetiredBy {A = A} [] id by → ⊥
  none_retired id by h = none_in_nil h.entry h.is_entry

-- ---- what an edit takes out
not_below : (n id : ℕ) (rows : List NumberedRing) → AreNumberedFrom n rows → Contains (numbers rows) id → n ≤ id
not_below n id [] h c = absurd (none_in_nil id c)
not_below n id (row ∷ rows) h c = ⊎_elim
    (λ e. omega (arith, e, h.0))
    (λ d. omega (arith, not_below (n + 1) id rows h.1 d))
    (Contains-cases row.number (numbers rows) id c)

pub id_below : (n id : ℕ) (rows : List NumberedRing) → AreBelow n rows → Contains (numbers rows) id → id < n
id_below n id rows h c = let w = has_row rows id c in of_each (λ row. row.number < n) rows (numbered id w.0) h w.1

one_out : (rows : List NumberedRing) (a : ℕ) (ring : List Corner) (out : List ℕ) (id : ℕ)
    → Contains rows (numbered a ring) → out ≡ a ∷ []
    → Contains out id → Contains (numbers rows) id
one_out rows a ring out id has is c = ⊎_elim
    (λ e. subst (Contains (numbers rows)) e (has_number rows (numbered a ring) has))
    (λ d. absurd (none_in_nil id d))
    (Contains-cases a [] id (subst (λ xs. Contains xs id) is c))

two_out : (rows : List NumberedRing) (a b : ℕ) (ring other : List Corner) (out : List ℕ) (id : ℕ) → Contains rows (numbered a ring)
    → Contains rows (numbered b other) → out ≡ a ∷ b ∷ [] → Contains out id → Contains (numbers rows) id
two_out rows a b ring other out id has also is c = ⊎_elim
    (λ e. subst (Contains (numbers rows)) e (has_number rows (numbered a ring) has))
    (λ d. one_out rows b other (b ∷ []) id also refl d)
    (Contains-cases a (b ∷ []) id (subst (λ xs. Contains xs id) is c))

module _ {A : Type 0} where
  -- the ids that an edit with new rows takes out are those of rows
  pub out_is_there : (state : State) (edit : Edit A) (out : List ℕ) (rows : List NumberedRing) → BringsNew edit
      → IsChange state edit out rows
      → (id : ℕ) → Contains out id → Contains (numbers state.rows) id
  out_is_there state (Split a path) out rows new h id c = one_out state.rows a h.ring out id h.has h.out_is c
  out_is_there state (Merge a b) out rows new h id c = two_out state.rows a b h.ring_a h.ring_b out id h.has_a h.has_b h.out_are c
  out_is_there state (Move a b path) out rows new h id c = two_out state.rows a b h.ring_a h.ring_b out id h.has_a h.has_b h.out_are c
  out_is_there state (Insert from to at) out rows new h id c = absurd new
  out_is_there state (Straighten at) out rows new h id c = absurd new

  -- so it retires them all
  pub retires_out : (state : State) (entry : JournalEntry A) → HasRisingIds state → BringsNew entry.edit
      → IsChange state entry.edit entry.out entry.rows → (id : ℕ) → Retires entry id ↔ Contains entry.out id
  retires_out state entry ids new h id = (
    λ r. r.is_out,
    λ c. record {
      is_out = c;
      is_not_back = λ back. omega (
        arith,
        id_below state.next id state.rows ids.below (out_is_there state entry.edit entry.out entry.rows new h id c),
        not_below state.next id entry.rows (new_ids state entry.edit entry.out entry.rows new h) back,
      );
    },
  )

  -- and a change of rings retires none
  pub renewal_retires_none : (state : State) (entry : JournalEntry A) (change : RingChange)
      → IsRenewalOf state change entry.out entry.rows
      → (id : ℕ) → ¬ Retires entry id
  renewal_retires_none state entry change h id r = r.is_not_back (subst (λ xs. Contains xs id) h.out_are r.is_out)

-- ---- an id that is retired was one's, and is no parcel's from then on
pub record IsGone (state : State) (id : ℕ) : Type 0 where
  pub was_given : id < state.next
  pub is_not_here : ¬ Contains (numbers state.rows) id

module _ {A : Type 0} where
  gone_after_new : (state : State) (entry : JournalEntry A) → HasRisingIds state → BringsNew entry.edit
      → IsChange state entry.edit entry.out entry.rows → (id : ℕ) → id < state.next
      → ¬ Contains (numbers (without_ids entry.out state.rows)) id → ¬ Contains (numbers entry.rows) id
      → IsGone (after_entry state entry) id
  gone_after_new state entry ids new h id given off off_new = record {
    was_given = omega (arith, given, next_not_less entry.rows state.next);
    is_not_here = λ c.
        let w = has_row (without_ids entry.out state.rows ++ entry.rows) id
        (subst (λ xs. Contains (numbers xs) id) (rows_after_new state entry.edit entry.out entry.rows ids new h) c) in
        ⊎_elim
        (λ k. off (has_number (without_ids entry.out state.rows) (numbered id w.0) k))
        (λ k. off_new (has_number entry.rows (numbered id w.0) k))
        (Contains-append_cases (without_ids entry.out state.rows) entry.rows (numbered id w.0) w.1);
  }

  -- what makes a change of rings is a renewal
  made_by : (state : State) (entry : JournalEntry A) → IsChange state entry.edit entry.out entry.rows → (change : RingChange)
      → entry.edit ≡ edit_of change → IsRenewalOf state change entry.out entry.rows
  made_by state entry h change is =
      renewal_of A state change entry.out entry.rows (subst (λ (e : Edit A). IsChange state e entry.out entry.rows) is h)

  gone_after_renewal : (state : State) (entry : JournalEntry A) (change : RingChange) → HasRisingIds state
      → IsRenewalOf state change entry.out entry.rows → (id : ℕ) → IsGone state id → IsGone (after_entry state entry) id
  gone_after_renewal state entry change ids h id gone = record {
    was_given = omega (arith, gone.was_given, next_not_less entry.rows state.next);
    is_not_here = λ c. gone.is_not_here (subst (λ ns. Contains ns id)
        (ap numbers (rows_after_renewal state change entry.out entry.rows ids h) ∙ numbers_after change state.rows) c);
  }

  -- an id that is gone stays so
  pub gone_after : (state : State) (entry : JournalEntry A) → HasRisingIds state → IsChange state entry.edit entry.out entry.rows
      → (id : ℕ) → IsGone state id → IsGone (after_entry state entry) id
  gone_after state entry ids h id gone = by_edit entry.edit refl
    where
      by_new : BringsNew entry.edit → IsGone (after_entry state entry) id
      by_new new = gone_after_new state entry ids new h id gone.was_given
          (λ c. let w = has_row (without_ids entry.out state.rows) id c in
          gone.is_not_here (has_number state.rows (numbered id w.0)
          (Contains-from_without entry.out state.rows (numbered id w.0) w.1).0))
          (λ c. omega (
            arith,
            gone.was_given,
            not_below state.next id entry.rows (new_ids state entry.edit entry.out entry.rows new h) c,
          ))

      by_edit : (edit : Edit A) → entry.edit ≡ edit → IsGone (after_entry state entry) id
      by_edit (Split a path) is = by_new (subst BringsNew (sym is) tt)
      by_edit (Merge a b) is = by_new (subst BringsNew (sym is) tt)
      by_edit (Move a b path) is = by_new (subst BringsNew (sym is) tt)
      by_edit (Insert from to at) is =
          gone_after_renewal state entry (PutIn from to at) ids (made_by state entry h (PutIn from to at) is) id gone
      by_edit (Straighten at) is = gone_after_renewal state entry (TakeOut at) ids (made_by state entry h (TakeOut at) is) id gone

  -- an id that an entry retires was a parcel's, and is gone behind it
  pub was_here : (state : State) (entry : JournalEntry A) → IsChange state entry.edit entry.out entry.rows → (id : ℕ)
      → Retires entry id
      → Contains (numbers state.rows) id
  was_here state entry h id r = by_edit entry.edit refl
    where
      by_new : BringsNew entry.edit → Contains (numbers state.rows) id
      by_new new = out_is_there state entry.edit entry.out entry.rows new h id r.is_out

      by_edit : (edit : Edit A) → entry.edit ≡ edit → Contains (numbers state.rows) id
      by_edit (Split a path) is = by_new (subst BringsNew (sym is) tt)
      by_edit (Merge a b) is = by_new (subst BringsNew (sym is) tt)
      by_edit (Move a b path) is = by_new (subst BringsNew (sym is) tt)
      by_edit (Insert from to at) is =
          absurd (renewal_retires_none state entry (PutIn from to at) (made_by state entry h (PutIn from to at) is) id r)
      by_edit (Straighten at) is = absurd (renewal_retires_none state entry (TakeOut at) (made_by state entry h (TakeOut at) is) id r)

  pub gone_once_retired : (state : State) (entry : JournalEntry A) → HasRisingIds state → IsChange state entry.edit entry.out entry.rows
      → (id : ℕ) → Retires entry id → IsGone (after_entry state entry) id
  gone_once_retired state entry ids h id r = by_edit entry.edit refl
    where
      by_new : BringsNew entry.edit → IsGone (after_entry state entry) id
      by_new new = gone_after_new state entry ids new h id (id_below state.next id state.rows ids.below (was_here state entry h id r))
          (λ c. let w = has_row (without_ids entry.out state.rows) id c in
          (Contains-from_without entry.out state.rows (numbered id w.0) w.1).1 r.is_out)
          r.is_not_back

      by_edit : (edit : Edit A) → entry.edit ≡ edit → IsGone (after_entry state entry) id
      by_edit (Split a path) is = by_new (subst BringsNew (sym is) tt)
      by_edit (Merge a b) is = by_new (subst BringsNew (sym is) tt)
      by_edit (Move a b path) is = by_new (subst BringsNew (sym is) tt)
      by_edit (Insert from to at) is =
          absurd (renewal_retires_none state entry (PutIn from to at) (made_by state entry h (PutIn from to at) is) id r)
      by_edit (Straighten at) is = absurd (renewal_retires_none state entry (TakeOut at) (made_by state entry h (TakeOut at) is) id r)

  -- one that is gone is not retired again
  pub not_again : (state : State) (number : ℕ) (entries : List (JournalEntry A)) → HasRisingIds state
      → AreLawfulFrom state number entries
      → (id by : ℕ) → IsGone state id → ¬ IsRetiredBy entries id by
  not_again state number [] ids h id by gone r = none_retired id by r
  not_again state number (entry ∷ entries) ids h id by gone r = ⊎_elim
      (λ e. gone.is_not_here (was_here state entry h.1.is_change id (subst (λ (x : JournalEntry A). Retires x id) (sym e) r.retires)))
      (λ c. not_again (after_entry state entry) (number + 1) entries (rising_after state entry ids h.1.is_change) h.2 id by
      (gone_after state entry ids h.1.is_change id gone)
      (record { entry = r.entry; is_entry = c; has_number = r.has_number; retires = r.retires }))
      (Contains-cases entry entries r.entry r.is_entry)

  -- so one entry retires an id, and it is gone in the state that the journal leads to
  pub retired_once : (state : State) (number : ℕ) (entries : List (JournalEntry A)) → HasRisingIds state
      → AreLawfulFrom state number entries
      → (id m n : ℕ) → IsRetiredBy entries id m → IsRetiredBy entries id n → m ≡ n
  retired_once state number [] ids h id m n r s = absurd (none_retired id m r)
  retired_once state number (entry ∷ entries) ids h id m n r s = ⊎_elim
      (λ e. ⊎_elim
      (λ f. sym r.has_number ∙ sym (ap (λ (x : JournalEntry A). x.number) e) ∙ ap (λ (x : JournalEntry A). x.number) f
      ∙ s.has_number)
      (λ c. absurd (behind r.entry r.retires e n
      (record { entry = s.entry; is_entry = c; has_number = s.has_number; retires = s.retires })))
      (Contains-cases entry entries s.entry s.is_entry))
      (λ c. ⊎_elim
      (λ f. absurd (behind s.entry s.retires f m
      (record { entry = r.entry; is_entry = c; has_number = r.has_number; retires = r.retires })))
      (λ d. retired_once (after_entry state entry) (number + 1) entries (rising_after state entry ids h.1.is_change) h.2 id m n
      (record { entry = r.entry; is_entry = c; has_number = r.has_number; retires = r.retires })
      (record { entry = s.entry; is_entry = d; has_number = s.has_number; retires = s.retires }))
      (Contains-cases entry entries s.entry s.is_entry))
      (Contains-cases entry entries r.entry r.is_entry)
    where
      behind : (x : JournalEntry A) → Retires x id → entry ≡ x → (by : ℕ) → ¬ IsRetiredBy entries id by
      behind x t e by u = not_again (after_entry state entry) (number + 1) entries (rising_after state entry ids h.1.is_change) h.2 id by
          (gone_once_retired state entry ids h.1.is_change id (subst (λ (y : JournalEntry A). Retires y id) (sym e) t)) u

  pub gone_at_last : (state : State) (number : ℕ) (entries : List (JournalEntry A)) → HasRisingIds state
      → AreLawfulFrom state number entries
      → (id : ℕ) → IsGone state id → IsGone (replay state entries) id
  gone_at_last state number [] ids h id gone = gone
  gone_at_last state number (entry ∷ entries) ids h id gone =
      gone_at_last (after_entry state entry) (number + 1) entries (rising_after state entry ids h.1.is_change) h.2 id
      (gone_after state entry ids h.1.is_change id gone)

  pub retired_is_gone : (state : State) (number : ℕ) (entries : List (JournalEntry A)) → HasRisingIds state
      → AreLawfulFrom state number entries
      → (id by : ℕ) → IsRetiredBy entries id by → IsGone (replay state entries) id
  retired_is_gone state number [] ids h id by r = absurd (none_retired id by r)
  retired_is_gone state number (entry ∷ entries) ids h id by r = ⊎_elim
      (λ e. gone_at_last (after_entry state entry) (number + 1) entries (rising_after state entry ids h.1.is_change) h.2 id
      (gone_once_retired state entry ids h.1.is_change id (subst (λ (y : JournalEntry A). Retires y id) (sym e) r.retires)))
      (λ c. retired_is_gone (after_entry state entry) (number + 1) entries (rising_after state entry ids h.1.is_change) h.2 id by
      (record { entry = r.entry; is_entry = c; has_number = r.has_number; retires = r.retires }))
      (Contains-cases entry entries r.entry r.is_entry)
