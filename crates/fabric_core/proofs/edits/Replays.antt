-- Journals with one entry more, beginnings of journals, and the ids of the states that they lead to.
use Rattle.std.proofs.Common.{Bool, ◌≡◌, ⊎_elim, refl, sym, ◌∙◌, ap, subst, arith, ℕ, zero, suc, ◌+◌, ◌<◌}
use Rattle.std.proofs.Common.{◌≤◌, List, [], ◌∷◌}
use Rattle.std.proofs.Common.{◌++◌, length, get_or, take, map}
use Rattle.std.specs.List.{AllByRecursion, Contains}
use Rattle.std.proofs.lemmas.List.{take-append-drop}
use Rattle.std.specs.Prelude.{drop}
use Rattle.geo_exact.specs.declared.corner.Corner.{Corner}
use Rattle.geo_exact.specs.Layers.{NumberedRing}
use Rattle.edge_chains.proofs.nodings.NodedEdges.{none_in_nil, Contains-cases}
use Rattle.ring_edits.specs.declared.edit.Edit.{Edit}
use Rattle.ring_edits.specs.declared.edit.Edit.TheVariants.{Split, Merge, Move, Insert, Straighten}
use Rattle.fabric_core.specs.declared.ring_change.RingChange.{RingChange}
use Rattle.fabric_core.specs.declared.ring_change.RingChange.TheVariants.{PutIn, TakeOut}
use Rattle.fabric_core.specs.own.Balanced.{AreBelow, Ascend, HasRisingIds}
use Rattle.fabric_core.specs.Rows.{numbers}
use Rattle.fabric_core.specs.Journal.{State, JournalEntry, after_entry, opening_state, replay, next_after, with_rows, without_ids}
use Rattle.fabric_core.specs.EditResults.{IsChange, IsEntryOf, AreLawfulFrom, IsLawful}
use Rattle.fabric_core.specs.own.RingChanges.{IsRenewalOf, edit_of, is_changed, renewed, rows_changed}
use Rattle.fabric_core.proofs.edits.RingChanges.{renewal_of}
use Rattle.fabric_core.proofs.rows.RowLists.{all_changed, AllByRecursion-append, AllByRecursion-filter}
use Rattle.fabric_core.proofs.rows.RowLists.{AreNumberedFrom, Ascend-filter, put_behind, ascend_behind, next_above}
use Rattle.fabric_core.proofs.rows.RowLists.{all_below_next, changed, put_back, put_back_next, ascend_changed}
use Rattle.fabric_core.proofs.rows.RowLists.{below_changed, numbers_changed}

-- ---- two journals, one after the other
module _ {A : Type 0} where
  pub replay-append : (state : State) (first rest : List (JournalEntry A))
      → replay state (first ++ rest) ≡ replay (replay state first) rest
  replay-append state [] rest = refl
  replay-append state (entry ∷ first) rest = replay-append (after_entry state entry) first rest

  -- an entry more changes the state that the others lead to
  pub replay_push : (opening : State) (journal : List (JournalEntry A)) (entry : JournalEntry A)
      → replay opening (journal ++ entry ∷ []) ≡ after_entry (replay opening journal) entry
  replay_push opening journal entry = replay-append opening journal (entry ∷ [])

  pub lawful-append : (state : State) (number : ℕ) (first rest : List (JournalEntry A)) → AreLawfulFrom state number first
      → AreLawfulFrom (replay state first) (number + length first) rest → AreLawfulFrom state number (first ++ rest)
  lawful-append state number [] rest h k = subst (λ n. AreLawfulFrom state n rest) (omega arith) k
  lawful-append state number (entry ∷ first) rest h k = (
    h.0,
    h.1,
    lawful-append (after_entry state entry) (number + 1) first rest h.2
        (subst (λ n. AreLawfulFrom (replay (after_entry state entry) first) n rest) (omega arith) k),
  )

  -- an entry more is lawful that has the next number and is that of its edit
  pub lawful_push : (opening : State) (journal : List (JournalEntry A)) (entry : JournalEntry A) → IsLawful opening journal
      → entry.number ≡ length journal + 1 → IsEntryOf (replay opening journal) entry → IsLawful opening (journal ++ entry ∷ [])
  lawful_push opening journal entry h e k = lawful-append opening 1 journal (entry ∷ []) h (e ∙ omega arith, k, tt)

  -- a beginning of a lawful journal is lawful, and so is the rest on the state that it leads to
  pub lawful_parts : (state : State) (number : ℕ) (first rest : List (JournalEntry A)) → AreLawfulFrom state number (first ++ rest)
      → AreLawfulFrom state number first × AreLawfulFrom (replay state first) (number + length first) rest
  lawful_parts state number [] rest h = (tt, subst (λ n. AreLawfulFrom state n rest) (omega arith) h)
  lawful_parts state number (entry ∷ first) rest h =
      let k = lawful_parts (after_entry state entry) (number + 1) first rest h.2 in (
        (h.0, h.1, k.0),
        subst (λ n. AreLawfulFrom (replay (after_entry state entry) first) n rest) (omega arith) k.1,
      )

  pub lawful_take : (state : State) (number n : ℕ) (entries : List (JournalEntry A)) → AreLawfulFrom state number entries
      → AreLawfulFrom state number (take n entries)
  lawful_take state number n entries h =
      (lawful_parts state number (take n entries) (drop n entries)
      (subst (AreLawfulFrom state number) (sym (take-append-drop n entries)) h)).0

  -- entries are numbered on from the first
  pub number_at : (state : State) (number : ℕ) (entries : List (JournalEntry A)) → AreLawfulFrom state number entries
      → (k : ℕ) (d : JournalEntry A)
      → k < length entries → (get_or entries k d).number ≡ number + k
  number_at state number [] h k d l = absurd (omega arith)
  number_at state number (entry ∷ entries) h zero d l = h.0 ∙ omega arith
  number_at state number (entry ∷ entries) h (suc k) d l =
      number_at (after_entry state entry) (number + 1) entries h.2 k d (omega arith) ∙ omega arith

  -- so each has a number of those, and no two have one
  pub number_not_less : (state : State) (number : ℕ) (entries : List (JournalEntry A)) → AreLawfulFrom state number entries
      → (entry : JournalEntry A)
      → Contains entries entry → number ≤ entry.number
  number_not_less state number [] h entry c = absurd (none_in_nil entry c)
  number_not_less state number (first ∷ entries) h entry c = ⊎_elim
      (λ e. omega (arith, h.0, ap (λ (x : JournalEntry A). x.number) e))
      (λ d. omega (arith, number_not_less (after_entry state first) (number + 1) entries h.2 entry d))
      (Contains-cases first entries entry c)

  pub same_entry : (state : State) (number : ℕ) (entries : List (JournalEntry A)) → AreLawfulFrom state number entries
      → (x y : JournalEntry A)
      → Contains entries x → Contains entries y → x.number ≡ y.number → x ≡ y
  same_entry state number [] h x y c d e = absurd (none_in_nil x c)
  same_entry state number (first ∷ entries) h x y c d e = ⊎_elim
      (λ s. ⊎_elim (λ t. sym s ∙ t) (λ l. absurd (behind y l (ap (λ (z : JournalEntry A). z.number) s ∙ e)))
      (Contains-cases first entries y d))
      (λ k. ⊎_elim (λ t. absurd (behind x k (ap (λ (z : JournalEntry A). z.number) t ∙ sym e)))
      (λ l. same_entry (after_entry state first) (number + 1) entries h.2 x y k l e) (Contains-cases first entries y d))
      (Contains-cases first entries x c)
    where
      behind : (z : JournalEntry A) → Contains entries z → first.number ≡ z.number → ⊥
      behind z l f = omega (arith, h.0, f, number_not_less (after_entry state first) (number + 1) entries h.2 z l)

-- edits that bring rows under new ids
abbrev pub BringsNew : {A : Type 0} → Edit A → Type 0
BringsNew (Split id path) = Unit {0}
BringsNew (Merge a b) = Unit {0}
BringsNew (Move a b path) = Unit {0}
BringsNew (Insert from to at) = ⊥
BringsNew (Straighten at) = ⊥

module _ {A : Type 0} where
  -- they are numbered on from the next id
  pub new_ids : (state : State) (edit : Edit A) (out : List ℕ) (rows : List NumberedRing) → BringsNew edit
      → IsChange state edit out rows
      → AreNumberedFrom state.next rows
  new_ids state (Split id path) out rows new h = subst (AreNumberedFrom state.next) (sym h.rows_are) (refl, (refl, tt))
  new_ids state (Merge a b) out rows new h = subst (AreNumberedFrom state.next) (sym h.rows_are) (refl, tt)
  new_ids state (Move a b path) out rows new h = subst (AreNumberedFrom state.next) (sym h.rows_are) (refl, (refl, tt))
  new_ids state (Insert from to at) out rows new h = absurd new
  new_ids state (Straighten at) out rows new h = absurd new

  -- so the rows of the new state are those that stay and behind them the new ones
  pub rows_after_new : (state : State) (edit : Edit A) (out : List ℕ) (rows : List NumberedRing) → HasRisingIds state → BringsNew edit
      → IsChange state edit out rows → with_rows rows (without_ids out state.rows) ≡ without_ids out state.rows ++ rows
  rows_after_new state edit out rows ids new h =
      put_behind state.next (without_ids out state.rows) rows
      (AllByRecursion-filter (λ row. row.number < state.next) _ state.rows ids.below)
      (new_ids state edit out rows new h)

-- after a change of rings, the rows are the old ones with those changed that it changes
abbrev changes : RingChange → NumberedRing → Bool
changes change row = is_changed change row.corners

abbrev pub rows_after : RingChange → List NumberedRing → List NumberedRing
rows_after change rows = changed (changes change) (renewed change) (λ row. refl) rows

pub numbers_after : (change : RingChange) (rows : List NumberedRing) → numbers (rows_after change rows) ≡ numbers rows
numbers_after change rows = numbers_changed (changes change) (renewed change) (λ row. refl) rows

pub same_numbers : (f : NumberedRing → NumberedRing) → ((row : NumberedRing) → (f row).number ≡ row.number)
    → (rows : List NumberedRing)
    → numbers (map f rows) ≡ numbers rows
same_numbers f same [] = refl
same_numbers f same (row ∷ rows) = ap (λ n. n ∷ numbers (map f rows)) (same row)
    ∙ ap (λ ns. row.number ∷ ns) (same_numbers f same rows)

-- the ids that go are those of the rows that are changed
pub renewed_ids : (state : State) (change : RingChange) (out : List ℕ) (rows : List NumberedRing)
    → IsRenewalOf state change out rows → out ≡ numbers (rows_changed change state.rows)
renewed_ids state change out rows h =
    h.out_are ∙ ap numbers h.rows_are ∙ same_numbers (renewed change) (λ row. refl) (rows_changed change state.rows)

pub rows_after_renewal : (state : State) (change : RingChange) (out : List ℕ) (rows : List NumberedRing) → HasRisingIds state
    → IsRenewalOf state change out rows → with_rows rows (without_ids out state.rows) ≡ rows_after change state.rows
rows_after_renewal state change out rows ids h =
    ap (λ xs. with_rows xs (without_ids out state.rows)) h.rows_are
    ∙ ap (λ ns. with_rows news (without_ids ns state.rows)) (renewed_ids state change out rows h)
    ∙ put_back (changes change) (renewed change) (λ row. refl) state.rows ids.up
  where
    news : List NumberedRing
    news = map (renewed change) (rows_changed change state.rows)

pub next_after_renewal : (state : State) (change : RingChange) (out : List ℕ) (rows : List NumberedRing) → HasRisingIds state
    → IsRenewalOf state change out rows → next_after rows state.next ≡ state.next
next_after_renewal state change out rows ids h =
    ap (λ xs. next_after xs state.next) h.rows_are
    ∙ put_back_next (changes change) (renewed change) (λ row. refl) state.next state.rows ids.below

-- ---- what holds of the rows and of the new ones holds of all behind it
pub all_after : {A : Type 0} (P : NumberedRing → Type 0) (state : State) (edit : Edit A) (out : List ℕ) (rows : List NumberedRing)
    → HasRisingIds state → IsChange state edit out rows → AllByRecursion P state.rows → AllByRecursion P rows
    → AllByRecursion P (with_rows rows (without_ids out state.rows))
all_after {A} P state edit out rows ids h olds news = by_edit edit h
  where
    by_new : (edit : Edit A) → BringsNew edit → IsChange state edit out rows
        → AllByRecursion P (with_rows rows (without_ids out state.rows))
    by_new edit new h = subst (AllByRecursion P) (sym (rows_after_new state edit out rows ids new h))
        (AllByRecursion-append P (without_ids out state.rows) rows (AllByRecursion-filter P _ state.rows olds) news)

    by_change : (change : RingChange) → IsChange state (edit_of {A = A} change) out rows
        → AllByRecursion P (with_rows rows (without_ids out state.rows))
    by_change change h =
        let renewal = renewal_of A state change out rows h in
        subst (AllByRecursion P) (sym (rows_after_renewal state change out rows ids renewal))
        (all_changed (changes change) (renewed change) (λ row. refl) P state.rows olds
        (subst (AllByRecursion P) renewal.rows_are news))

    by_edit : (edit : Edit A) → IsChange state edit out rows → AllByRecursion P (with_rows rows (without_ids out state.rows))
    by_edit (Split id path) h = by_new (Split id path) tt h
    by_edit (Merge a b) h = by_new (Merge a b) tt h
    by_edit (Move a b path) h = by_new (Move a b path) tt h
    by_edit (Insert from to at) h = by_change (PutIn from to at) h
    by_edit (Straighten at) h = by_change (TakeOut at) h

-- ---- they stay so
rising_after_new : {A : Type 0} (state : State) (entry : JournalEntry A) → HasRisingIds state → BringsNew entry.edit
    → IsChange state entry.edit entry.out entry.rows → HasRisingIds (after_entry state entry)
rising_after_new state entry ids new h =
    let stay : AreBelow state.next (without_ids entry.out state.rows) =
    AllByRecursion-filter (λ row. row.number < state.next) _ state.rows ids.below in
    let is = rows_after_new state entry.edit entry.out entry.rows ids new h in record {
      up = subst Ascend (sym is)
          (ascend_behind state.next (without_ids entry.out state.rows) entry.rows (Ascend-filter _ state.rows ids.up) stay
          (new_ids state entry.edit entry.out entry.rows new h));
      below = subst (AreBelow (next_after entry.rows state.next)) (sym is)
          (all_below_next (without_ids entry.out state.rows) entry.rows state.next stay);
    }

rising_after_renewal : {A : Type 0} (state : State) (entry : JournalEntry A) (change : RingChange) → HasRisingIds state
    → IsRenewalOf state change entry.out entry.rows → HasRisingIds (after_entry state entry)
rising_after_renewal state entry change ids h =
    let is = rows_after_renewal state change entry.out entry.rows ids h in record {
      up = subst Ascend (sym is) (ascend_changed (changes change) (renewed change) (λ row. refl) state.rows ids.up);
      below = subst (λ n. AreBelow n (with_rows entry.rows (without_ids entry.out state.rows)))
          (sym (next_after_renewal state change entry.out entry.rows ids h))
          (subst (AreBelow state.next) (sym is)
          (below_changed (changes change) (renewed change) (λ row. refl) state.next state.rows ids.below));
    }

pub rising_after : {A : Type 0} (state : State) (entry : JournalEntry A) → HasRisingIds state
    → IsChange state entry.edit entry.out entry.rows
    → HasRisingIds (after_entry state entry)
rising_after {A} state entry ids h = by_edit entry.edit refl
  where
    by_change : (change : RingChange) → entry.edit ≡ edit_of change → HasRisingIds (after_entry state entry)
    by_change change is = rising_after_renewal state entry change ids
        (renewal_of A state change entry.out entry.rows (subst (λ (e : Edit A). IsChange state e entry.out entry.rows) is h))

    by_edit : (edit : Edit A) → entry.edit ≡ edit → HasRisingIds (after_entry state entry)
    by_edit (Split id path) is = rising_after_new state entry ids (subst BringsNew (sym is) tt) h
    by_edit (Merge a b) is = rising_after_new state entry ids (subst BringsNew (sym is) tt) h
    by_edit (Move a b path) is = rising_after_new state entry ids (subst BringsNew (sym is) tt) h
    by_edit (Insert from to at) is = by_change (PutIn from to at) is
    by_edit (Straighten at) is = by_change (TakeOut at) is

pub rising_replayed : {A : Type 0} (state : State) (number : ℕ) (entries : List (JournalEntry A)) → HasRisingIds state
    → AreLawfulFrom state number entries → HasRisingIds (replay state entries)
rising_replayed state number [] ids h = ids
rising_replayed state number (entry ∷ entries) ids h =
    rising_replayed (after_entry state entry) (number + 1) entries (rising_after state entry ids h.1.is_change) h.2

-- and are so at the opening of rows with rising ids
pub rising_opening : (rows : List NumberedRing) (refined : List Corner) → Ascend rows → HasRisingIds (opening_state rows refined)
rising_opening rows refined up = record { up = up; below = next_above rows 0 }
