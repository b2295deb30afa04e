-- What a fabric keeps when an edit is drafted and made: refusals are those of its journal, and an entry more is lawful.
use Rattle.std.proofs.Common.{◌≡◌, ◌⊎◌, inl, inr, ⊎_elim, refl, sym, ◌∙◌, ap, subst, arith, ℕ, ◌+◌, ◌<◌, ◌≤◌, List}
use Rattle.std.proofs.Common.{Result, Ok, Err}
use Rattle.std.specs.Result.{IfErr, IsErrOf}
use Rattle.std.proofs.Common.{[], ◌∷◌, ◌++◌, length, Option, Some, None, MatchOption}
use Rattle.std.proofs.lemmas.List.{length-append}
use Rattle.geo_exact.specs.declared.corner.Corner.{Corner}
use Rattle.geo_exact.specs.Layers.{NumberedRing, corner_count}
use Rattle.ring_edits.specs.declared.edit.Edit.{Edit}
use Rattle.ring_edits.specs.declared.edit.Edit.TheVariants.{Split, Merge, Move, Insert, Straighten}
use Rattle.geo_exact.specs.declared.limits.TheConstants.{RING_CORNERS}
use Rattle.fabric_core.specs.declared.journal.TheConstants.{JOURNAL_ENTRIES}
use Rattle.fabric_core.specs.declared.refusal.Refusal.{Refusal}
use Rattle.fabric_core.specs.declared.refusal.Refusal.TheVariants.{JournalFull, NoMemory, NoSuchCorner, NotFlat, Unknown, Retired}
use Rattle.fabric_core.specs.Journal.{State, JournalEntry, after_entry, next_after, replay}
use Rattle.fabric_core.specs.EditResults.{IsChange, IsEntryOf}
use Rattle.fabric_core.specs.Refusals.{IsRefusal, IsIdRefusal, IsFirstAbsent, IsFirstBent, AreParcels, NeedsNoMemory, named_ids}
use Rattle.fabric_core.specs.own.Balanced.{HasRisingIds, IsBalanced}
use Rattle.fabric_core.specs.own.Books.{IsBook}
use Rattle.fabric_core.specs.own.Changes.{AsksMemory, IsDraftRefusal, IsMade, state_of}
use Rattle.fabric_core.specs.own.Kept.{Kept, gone_by}
use Rattle.fabric_core.proofs.edits.Bends.{never_city_bent}
use Rattle.fabric_core.proofs.edits.LawfulJournals.{balanced_now, one_reason, no_reason, no_early_reason}
use Rattle.fabric_core.proofs.edits.OneRefusal.{one_change}
use Rattle.fabric_core.proofs.edits.Drafts.{all_here}
use Rattle.fabric_core.proofs.loads.FullyNoded.{no_error, same_error}
use Rattle.fabric_core.proofs.edits.Replays.{lawful_push, replay_push, next_after_renewal}
use Rattle.fabric_core.proofs.edits.RingChanges.{renewal_of}
use Rattle.fabric_core.specs.declared.ring_change.RingChange.TheVariants.{PutIn, TakeOut}
use Rattle.fabric_core.proofs.edits.Retirements.{retired_push}

-- a change gives out two ids at most
next_grows : {A : Type 0} (state : State) (edit : Edit A) (out : List ℕ) (rows : List NumberedRing)
    → HasRisingIds state → IsChange state edit out rows
    → next_after rows state.next ≤ state.next + 2
next_grows state (Split id path) out rows ids h = subst (λ xs. next_after xs state.next ≤ state.next + 2) (sym h.rows_are) (omega arith)
next_grows state (Merge a b) out rows ids h = subst (λ xs. next_after xs state.next ≤ state.next + 2) (sym h.rows_are) (omega arith)
next_grows state (Move a b path) out rows ids h = subst (λ xs. next_after xs state.next ≤ state.next + 2) (sym h.rows_are) (omega arith)
next_grows {A} state (Insert from to at) out rows ids h =
    omega (arith, next_after_renewal state (PutIn from to at) out rows ids (renewal_of A state (PutIn from to at) out rows h))
next_grows {A} state (Straighten at) out rows ids h =
    omega (arith, next_after_renewal state (TakeOut at) out rows ids (renewal_of A state (TakeOut at) out rows h))

module _ {A : Type 0} (opening : State) (journal : List (JournalEntry A)) (kept : Kept) (corners : ℕ)
    (book : IsBook opening journal kept corners) where
  -- what has become of an id is what the journal knows
  told : (edit : Edit A) (id : ℕ) (r : Refusal) → IsFirstAbsent kept.rows (named_ids edit) id → (o : Option ℕ)
      → gone_by kept id ≡ o
      → MatchOption o (r ≡ Unknown id) (λ by. r ≡ Retired id by) → IsIdRefusal (state_of kept) journal edit r
  told edit id r first None is e =
      subst (IsIdRefusal (state_of kept) journal edit) (sym e) (first, λ by h. no_number by (sym is ∙ (book.gone id by).1 h))
    where
      no_number : (by : ℕ) → None ≡ Some by → ⊥
      no_number by e = absurd (cc)
  told edit id r first (Some by) is e = subst (IsIdRefusal (state_of kept) journal edit) (sym e) (first, (book.gone id by).0 is)

  -- why there is no draft is why the edit is refused
  pub drafted : (edit : Edit A) (r : Refusal) → length journal < JOURNAL_ENTRIES → IsDraftRefusal kept edit r
      → IsRefusal (state_of kept) journal edit r
  drafted edit r room (inl (id, first, (gone, is_told))) = inr (room, inl (told edit id r first (gone_by kept id) refl is_told))
  drafted edit r room (inr (here, inl own)) = inr (room, inr (here, inl own))
  drafted edit r room (inr (here, inr change)) = inr (room, inr (here, inr change))

  -- and it is refused for that alone
  pub for_that_alone : (edit : Edit A) (r s : Refusal) → IsRefusal (state_of kept) journal edit r
      → IsRefusal (state_of kept) journal edit s → r ≡ s
  for_that_alone edit r s h k =
      one_reason opening journal book.balanced book.lawful edit r s (subst (λ state. IsRefusal state journal edit r) (sym book.replays) h)
      (subst (λ state. IsRefusal state journal edit s) (sym book.replays) k)

  -- where it is refused for a bend, the refusal tells the first row that bends
  bent_row : (at : Corner) (id : ℕ) → IsRefusal (state_of kept) journal (Straighten at) (NotFlat id) → IsFirstBent kept.rows at id
  bent_row at id (inl h) = absurd (other_reason h.0)
    where
      other_reason : NotFlat id ≡ JournalFull → ⊥
      other_reason e = cc
  bent_row at id (inr (room, inl h)) = absurd h
  bent_row at id (inr (room, inr (here, inl (inl h)))) = absurd (other_reason h.0)
    where
      other_reason : NotFlat id ≡ NoSuchCorner → ⊥
      other_reason e = cc
  bent_row at id (inr (room, inr (here, inl (inr (some, inl (other, same, first)))))) =
      subst (IsFirstBent kept.rows at) (one_id same) first
    where
      one_id : NotFlat id ≡ NotFlat other → other ≡ id
      one_id e = cc
  bent_row at id (inr (room, inr (here, inl (inr (some, inr (same, bent)))))) =
      absurd (never_city_bent (state_of kept)
      (subst IsBalanced book.replays (balanced_now opening journal book.balanced book.lawful)) at bent)
  bent_row at id (inr (room, inr (here, inr (out, rows, change, h)))) = absurd h

  pub bent_told : {T : Type 0} (r : Result T Refusal) (edit : Edit A) (at : Corner) (id : ℕ)
      → IfErr r (λ refusal. IsRefusal (state_of kept) journal edit refusal ⊎ (refusal ≡ NoMemory))
      → edit ≡ Straighten at → IsErrOf r (NotFlat id) → IsFirstBent kept.rows at id
  bent_told (Ok x) edit at id h e is = absurd (no_error (Ok x) x (NotFlat id) refl is)
  bent_told (Err f) edit at id (inl h) e is =
      bent_row at id (subst (λ z. IsRefusal (state_of kept) journal z (NotFlat id)) e
      (subst (IsRefusal (state_of kept) journal edit) (same_error (Err f) f (NotFlat id) refl is) h))
  bent_told (Err f) edit at id (inr none) e is = absurd (other_reason (sym (same_error (Err f) f (NotFlat id) refl is) ∙ none))
    where
      other_reason : NotFlat id ≡ NoMemory → ⊥
      other_reason k = cc

  -- an edit with an entry is not refused
  pub for_nothing : (entry : JournalEntry A) (r : Refusal) → length journal < JOURNAL_ENTRIES
      → AreParcels kept.rows (named_ids entry.edit)
      → IsEntryOf (state_of kept) entry → IsRefusal (state_of kept) journal entry.edit r → ⊥
  for_nothing entry r room here is h =
      subst (λ (state : State). AreParcels state.rows (named_ids entry.edit) → IsEntryOf state entry
      → IsRefusal state journal entry.edit r → ⊥)
      book.replays
      (λ here is h. no_reason opening journal book.balanced book.lawful entry.edit entry.out entry.rows r room here
      is.is_change is.are_simple
      is.within h)
      here is h

  -- an edit for which memory is asked is not refused for what needs none
  pub for_nothing_early : (edit : Edit A) (r : Refusal) → length journal < JOURNAL_ENTRIES → AsksMemory (state_of kept) edit
      → IsRefusal (state_of kept) journal edit r → NeedsNoMemory r → ⊥
  for_nothing_early edit r room asks h early =
      no_early_reason opening journal book.balanced book.lawful edit r room
      (subst (λ state. AsksMemory state edit) (sym book.replays) asks)
      (subst (λ state. IsRefusal state journal edit r) (sym book.replays) h) early

  -- so an edit that makes no draft has no entry
  pub no_entry : (entry : JournalEntry A) (r : Refusal) → length journal < JOURNAL_ENTRIES → IsDraftRefusal kept entry.edit r
      → IsEntryOf (state_of kept) entry → ⊥
  no_entry entry r room why is =
      let now = balanced_now opening journal book.balanced book.lawful in
      let here : AreParcels kept.rows (named_ids entry.edit) =
      subst (λ (state : State). IsChange state entry.edit entry.out entry.rows
      → AreParcels state.rows (named_ids entry.edit)) book.replays
      (λ change. all_here (replay opening journal) now entry.edit entry.out entry.rows change) is.is_change in
      for_nothing entry r room here is (drafted entry.edit r room why)

  -- two entries of one edit take out and bring the same
  pub one_entry : (entry other : JournalEntry A) → entry.edit ≡ other.edit → IsEntryOf (state_of kept) entry
      → IsEntryOf (state_of kept) other
      → (entry.out ≡ other.out) × (entry.rows ≡ other.rows)
  one_entry entry other same h k =
      let now = balanced_now opening journal book.balanced book.lawful in
      subst (λ state. IsEntryOf state entry → IsEntryOf state other → (entry.out ≡ other.out)
      × (entry.rows ≡ other.rows)) book.replays
      (λ h k. one_change (replay opening journal) now.simple now.ids.up entry.edit entry.out other.out entry.rows other.rows h.is_change
      (subst (λ edit. IsChange (replay opening journal) edit other.out other.rows) (sym same) k.is_change)) h k

  -- an entry more
  pub one_more : (entry : JournalEntry A) (new : Kept) (count : ℕ) → length journal < JOURNAL_ENTRIES
      → entry.number ≡ length journal + 1
      → IsEntryOf (state_of kept) entry → IsMade kept new entry → count ≡ corner_count (after_entry (state_of kept) entry).rows
      → IsBook opening (journal ++ entry ∷ []) new count
  one_more entry new count room number is made counted =
      let now = balanced_now opening journal book.balanced book.lawful in
      let ids : HasRisingIds (state_of kept) = subst HasRisingIds book.replays now.ids in
      let longer = length-append journal (entry ∷ []) in record {
        balanced = book.balanced;
        lawful = lawful_push opening journal entry book.lawful number (subst (λ state. IsEntryOf state entry) (sym book.replays) is);
        replays = replay_push opening journal entry ∙ ap (λ state. after_entry state entry) book.replays ∙ sym made.state;
        few = omega (arith, longer, room);
        gone = λ id by. (
          λ h. (retired_push journal entry id by).1
              (⊎_elim (λ before. inl ((book.gone id by).0 before)) (λ now. inr now) ((made.gone id by).0 h)),
          λ h. (made.gone id by).1
              (⊎_elim (λ before. inl ((book.gone id by).1 before)) (λ now. inr now) ((retired_push journal entry id by).0 h)),
        );
        counted = counted ∙ ap (λ (state : State). corner_count state.rows) (sym made.state);
        small = omega (
          arith,
          longer,
          book.small,
          next_grows (state_of kept) entry.edit entry.out entry.rows ids is.is_change,
          ap (λ (state : State). state.next) made.state,
        );
        few_opened = book.few_opened;
        city_few = subst (λ city. length city ≤ RING_CORNERS) (sym made.city) book.city_few;
      }
