-- Several edits as one: a list of edits has one list of entries at most, and one first edit that is refused.
use Rattle.std.proofs.Common.{◌≡◌, ◌⊎◌, ◌↔◌, refl, sym, ◌∙◌, ap, subst, arith, ℕ, zero, suc, ◌+◌, ◌<◌, ◌≤◌}
use Rattle.std.proofs.Common.{List, [], ◌∷◌, ◌++◌, length, get_or, take, drop, map}
use Rattle.std.specs.List.{AllByRecursion}
use Rattle.std.specs.List.Sorted.{IsStrictlyIncreasing}
use Rattle.std.proofs.Math.Seq.{drop-cons, take-append_seam, get_or-append_seam}
use Rattle.std.proofs.lemmas.List.{append-nil, length-append, length-take-le, take-append-drop, take-append-le, take_more, get_or-take}
use Rattle.std.proofs.lemmas.List.{get_or_append_left}
use Rattle.geo_exact.specs.Layers.{NumberedRing, numbered}
use Rattle.ring_edits.specs.declared.edit.Edit.{Edit}
use Rattle.ring_edits.specs.declared.edit.Edit.TheVariants.{Split, Merge, Move, Insert, Straighten}
use Rattle.fabric_core.specs.declared.journal.TheConstants.{JOURNAL_ENTRIES}
use Rattle.fabric_core.specs.declared.refusal.Refusal.{Refusal}
use Rattle.fabric_core.specs.Journal.{State, JournalEntry, after_entry, replay}
use Rattle.fabric_core.specs.EditResults.{IsChange, IsEntryOf, AreLawfulFrom, IsLawful}
use Rattle.fabric_core.specs.Refusals.{IsRefusal, AreParcels, named_ids}
use Rattle.edit_transactions.specs.Transactions.{IsFirstRefused, IsTransaction}
use Rattle.fabric_core.specs.Faults.{AreSimple}
use Rattle.fabric_core.specs.Rows.{numbers}
use Rattle.fabric_core.proofs.edits.OneRefusal.{one_change, not_refused}
use Rattle.fabric_core.proofs.edits.Stops.{id_here}
use Rattle.fabric_core.proofs.rows.RowLists.{ascending}

head_of : {X : Type 0} (x y : X) (xs ys : List X) → x ∷ xs ≡ y ∷ ys → x ≡ y
head_of x y xs ys e = cc

tail_of : {X : Type 0} (x y : X) (xs ys : List X) → x ∷ xs ≡ y ∷ ys → xs ≡ ys
tail_of x y xs ys e = cc

-- one number is less than another, or not
pub by_less : {P : Type 0} (m n : ℕ) → (m < n → P) → (n ≤ m → P) → P
by_less m zero f g = g (omega arith)
by_less zero (suc n) f g = f (omega arith)
by_less (suc m) (suc n) f g = by_less m n (λ l. f (omega arith)) (λ l. g (omega arith))

module _ {A : Type 0} where
  -- the ids that an edit with a result names are those of parcels
  all_here : (state : State) (edit : Edit A) (out : List ℕ) (rows : List NumberedRing) → IsChange state edit out rows
      → AreParcels state.rows (named_ids edit)
  all_here state (Split id path) out rows h = (id_here state.rows id h.ring h.has, tt)
  all_here state (Merge a b) out rows h = (id_here state.rows a h.ring_a h.has_a, (id_here state.rows b h.ring_b h.has_b, tt))
  all_here state (Move a b path) out rows h =
      (id_here state.rows a h.ring_a h.has_a, (id_here state.rows b h.ring_b h.has_b, tt))
  all_here state (Insert from to at) out rows h = tt
  all_here state (Straighten at) out rows h = tt

  -- ---- a transaction, edit by edit
  abbrev AreMade : State → ℕ → ℕ → List (Edit A) → List (JournalEntry A) → Type 0
  AreMade state number clerk [] [] = Unit {0}
  AreMade state number clerk [] (entry ∷ entries) = ⊥
  AreMade state number clerk (edit ∷ edits) [] = ⊥
  AreMade state number clerk (edit ∷ edits) (entry ∷ entries) =
      (entry.edit ≡ edit) × (entry.clerk ≡ clerk) × (entry.number ≡ number) × IsEntryOf state entry
      × AreMade (after_entry state entry) (number + 1) clerk edits entries

  made : (state : State) (number clerk : ℕ) (edits : List (Edit A)) (entries : List (JournalEntry A))
      → map (λ entry. entry.edit) entries ≡ edits → AllByRecursion (λ entry. entry.clerk ≡ clerk) entries
      → AreLawfulFrom state number entries → AreMade state number clerk edits entries
  made state number clerk [] [] e c l = tt
  made state number clerk [] (entry ∷ entries) e c l = cc
  made state number clerk (edit ∷ edits) [] e c l = cc
  made state number clerk (edit ∷ edits) (entry ∷ entries) e c l = (
    head_of entry.edit edit (map (λ (x : JournalEntry A). x.edit) entries) edits e,
    c.0,
    l.0,
    l.1,
    made (after_entry state entry) (number + 1) clerk edits entries
        (tail_of entry.edit edit (map (λ (x : JournalEntry A). x.edit) entries) edits e) c.1 l.2,
  )

  are_edits : (state : State) (number clerk : ℕ) (edits : List (Edit A)) (entries : List (JournalEntry A))
      → AreMade state number clerk edits entries → map (λ entry. entry.edit) entries ≡ edits
  are_edits state number clerk [] [] h = refl
  are_edits state number clerk [] (entry ∷ entries) h = absurd h
  are_edits state number clerk (edit ∷ edits) [] h = absurd h
  are_edits state number clerk (edit ∷ edits) (entry ∷ entries) h =
      ap (λ x. x ∷ map (λ (y : JournalEntry A). y.edit) entries) h.0
      ∙ ap (λ xs. edit ∷ xs) (are_edits (after_entry state entry) (number + 1) clerk edits entries h.4)

  are_clerks : (state : State) (number clerk : ℕ) (edits : List (Edit A)) (entries : List (JournalEntry A))
      → AreMade state number clerk edits entries → AllByRecursion (λ entry. entry.clerk ≡ clerk) entries
  are_clerks state number clerk [] [] h = tt
  are_clerks state number clerk [] (entry ∷ entries) h = absurd h
  are_clerks state number clerk (edit ∷ edits) [] h = absurd h
  are_clerks state number clerk (edit ∷ edits) (entry ∷ entries) h =
      (h.1, are_clerks (after_entry state entry) (number + 1) clerk edits entries h.4)

  are_lawful : (state : State) (number clerk : ℕ) (edits : List (Edit A)) (entries : List (JournalEntry A))
      → AreMade state number clerk edits entries → AreLawfulFrom state number entries
  are_lawful state number clerk [] [] h = tt
  are_lawful state number clerk [] (entry ∷ entries) h = absurd h
  are_lawful state number clerk (edit ∷ edits) [] h = absurd h
  are_lawful state number clerk (edit ∷ edits) (entry ∷ entries) h =
      (h.2, h.3, are_lawful (after_entry state entry) (number + 1) clerk edits entries h.4)

  same_length : (state : State) (number clerk : ℕ) (edits : List (Edit A)) (entries : List (JournalEntry A))
      → AreMade state number clerk edits entries → length entries ≡ length edits
  same_length state number clerk [] [] h = refl
  same_length state number clerk [] (entry ∷ entries) h = absurd h
  same_length state number clerk (edit ∷ edits) [] h = absurd h
  same_length state number clerk (edit ∷ edits) (entry ∷ entries) h =
      let e = same_length (after_entry state entry) (number + 1) clerk edits entries h.4 in omega (arith, e)

  -- an edit more
  made_push : (state : State) (number clerk : ℕ) (edits : List (Edit A)) (entries : List (JournalEntry A)) (edit : Edit A)
      (entry : JournalEntry A) → AreMade state number clerk edits entries → entry.edit ≡ edit → entry.clerk ≡ clerk
      → entry.number ≡ number + length entries → IsEntryOf (replay state entries) entry
      → AreMade state number clerk (edits ++ edit ∷ []) (entries ++ entry ∷ [])
  made_push state number clerk [] [] edit entry h e c n k = (e, c, n ∙ omega arith, k, tt)
  made_push state number clerk [] (other ∷ entries) edit entry h e c n k = absurd h
  made_push state number clerk (first ∷ edits) [] edit entry h e c n k = absurd h
  made_push state number clerk (first ∷ edits) (other ∷ entries) edit entry h e c n k = (
    h.0,
    h.1,
    h.2,
    h.3,
    made_push (after_entry state other) (number + 1) clerk edits entries edit entry h.4 e c (n ∙ omega arith) k,
  )

  -- the edit at a place, behind those before it
  record IsMadeAt (state : State) (number clerk : ℕ) (edits : List (Edit A)) (entries : List (JournalEntry A)) (place : ℕ)
      (d : Edit A) : Type 0 where
    entry : JournalEntry A
    before : AreMade state number clerk (take place edits) (take place entries)
    has_edit : entry.edit ≡ get_or edits place d
    has_number : entry.number ≡ number + place
    is_entry : IsEntryOf (replay state (take place entries)) entry

  made_at : (state : State) (number clerk : ℕ) (edits : List (Edit A)) (entries : List (JournalEntry A)) (place : ℕ) (d : Edit A)
      → AreMade state number clerk edits entries → place < length edits → IsMadeAt state number clerk edits entries place d
  made_at state number clerk [] entries place d h l = absurd (omega arith)
  made_at state number clerk (edit ∷ edits) [] place d h l = absurd h
  made_at state number clerk (edit ∷ edits) (entry ∷ entries) zero d h l = record {
    entry = entry;
    before = tt;
    has_edit = h.0;
    has_number = h.2 ∙ omega arith;
    is_entry = h.3;
  }
  made_at state number clerk (edit ∷ edits) (entry ∷ entries) (suc place) d h l =
      let m = made_at (after_entry state entry) (number + 1) clerk edits entries place d h.4 (omega arith) in record {
        entry = m.entry;
        before = (h.0, h.1, h.2, h.3, m.before);
        has_edit = m.has_edit;
        has_number = m.has_number ∙ omega arith;
        is_entry = m.is_entry;
      }

  -- ---- one list of entries
  same_parts : (x y : JournalEntry A) → x.number ≡ y.number → x.clerk ≡ y.clerk → x.edit ≡ y.edit → x.out ≡ y.out
      → x.rows ≡ y.rows → x ≡ y
  same_parts x y n c e o r = λ i. record { number = n i; clerk = c i; edit = e i; out = o i; rows = r i }

  one_entry : (state : State) → AreSimple state.rows → IsStrictlyIncreasing (numbers state.rows) → (x y : JournalEntry A)
      → x.number ≡ y.number → x.clerk ≡ y.clerk → x.edit ≡ y.edit → IsEntryOf state x → IsEntryOf state y → x ≡ y
  one_entry state simple rise x y n c e h k =
      let same = one_change state simple (ascending state.rows rise) x.edit x.out y.out x.rows y.rows h.is_change
      (subst (λ edit. IsChange state edit y.out y.rows) (sym e) k.is_change) in
      same_parts x y n c e same.0 same.1

  -- entries of one edit more are those before it and one more
  record IsOneMore (state : State) (number clerk : ℕ) (edits : List (Edit A)) (edit : Edit A) (entries : List (JournalEntry A)) :
      Type 0 where
    first : List (JournalEntry A)
    last : JournalEntry A
    are_all : entries ≡ first ++ last ∷ []
    before : AreMade state number clerk edits first
    has_edit : last.edit ≡ edit
    has_clerk : last.clerk ≡ clerk
    has_number : last.number ≡ number + length edits
    is_entry : IsEntryOf (replay state first) last

  one_more : (state : State) (number clerk : ℕ) (edits : List (Edit A)) (edit : Edit A) (entries : List (JournalEntry A))
      → AreMade state number clerk (edits ++ edit ∷ []) entries → IsOneMore state number clerk edits edit entries
  one_more state number clerk [] edit [] h = absurd h
  one_more state number clerk [] edit (entry ∷ []) h = record {
    first = [];
    last = entry;
    are_all = refl;
    before = tt;
    has_edit = h.0;
    has_clerk = h.1;
    has_number = h.2 ∙ omega arith;
    is_entry = h.3;
  }
  one_more state number clerk [] edit (entry ∷ other ∷ entries) h = absurd h.4
  one_more state number clerk (first ∷ edits) edit [] h = absurd h
  one_more state number clerk (first ∷ edits) edit (entry ∷ entries) h =
      let m = one_more (after_entry state entry) (number + 1) clerk edits edit entries h.4 in record {
        first = entry ∷ m.first;
        last = m.last;
        are_all = ap (λ xs. entry ∷ xs) m.are_all;
        before = (h.0, h.1, h.2, h.3, m.before);
        has_edit = m.has_edit;
        has_clerk = m.has_clerk;
        has_number = m.has_number ∙ omega arith;
        is_entry = m.is_entry;
      }

  -- ---- a transaction of one
  pub one_made : (state : State) (number clerk : ℕ) (edit : Edit A) (entry : JournalEntry A)
      → IsTransaction state number clerk (edit ∷ []) (entry ∷ [])
      ↔ ((entry.edit ≡ edit) × (entry.clerk ≡ clerk) × (entry.number ≡ number) × IsEntryOf state entry)
  one_made state number clerk edit entry = (
    λ h.
        let m = made state number clerk (edit ∷ []) (entry ∷ []) h.are_edits h.are_clerks h.are_lawful in
        (m.0, m.1, m.2, m.3),
    λ m. record { are_edits = ap (λ x. x ∷ []) m.0; are_clerks = (m.1, tt); are_lawful = (m.2, m.3, tt) },
  )

  alone : (before : List (Edit A)) (edit only : Edit A) (behind : List (Edit A)) → only ∷ [] ≡ before ++ edit ∷ behind
      → (before ≡ []) × (only ≡ edit)
  alone [] edit only behind e = (refl, head_of only edit [] behind e)
  alone (first ∷ []) edit only behind e = cc
  alone (first ∷ second ∷ before) edit only behind e = cc

  none_made : (state : State) (number clerk : ℕ) (entries : List (JournalEntry A)) → AreMade state number clerk [] entries
      → entries ≡ []
  none_made state number clerk [] h = refl
  none_made state number clerk (entry ∷ entries) h = absurd h

  pub one_refused : (state : State) (journal : List (JournalEntry A)) (clerk : ℕ) (edit : Edit A) (place : ℕ) (r : Refusal)
      → IsFirstRefused state journal clerk (edit ∷ []) place r ↔ ((place ≡ 1) × IsRefusal state journal edit r)
  one_refused state journal clerk edit place r = (
    λ first.
        let a = alone first.before first.edit edit first.behind first.are_all in
        let theirs : AreMade state (length journal + 1) clerk [] first.made =
        subst (λ xs. AreMade state (length journal + 1) clerk xs first.made) a.0
        (made state (length journal + 1) clerk first.before first.made first.are_made.are_edits first.are_made.are_clerks
        first.are_made.are_lawful) in
        let none = none_made state (length journal + 1) clerk first.made theirs in (
          first.is_place ∙ ap (λ xs. length xs + 1) a.0,
          subst (λ xs. IsRefusal state xs edit r) (append-nil journal)
              (subst (λ xs. IsRefusal (replay state xs) (journal ++ xs) edit r) none
              (subst (λ x. IsRefusal (replay state first.made) (journal ++ first.made) x r) (sym a.1) first.is_refusal)),
        ),
    λ h. record {
      before = [];
      edit = edit;
      behind = [];
      are_all = refl;
      is_place = h.0;
      made = [];
      are_made = record { are_edits = refl; are_clerks = tt; are_lawful = tt };
      is_refusal = subst (λ xs. IsRefusal state xs edit r) (sym (append-nil journal)) h.1;
    },
  )

  -- ---- edits made one after the other, so many so far
  module _ (state : State) (journal : List (JournalEntry A)) (clerk : ℕ) (edits : List (Edit A)) (place : ℕ)
      (entries : List (JournalEntry A)) where
    abbrev Turn : List (Edit A) → List (JournalEntry A) → Type 0
    Turn some others = IsTransaction state (length journal + 1) clerk some others

    so_far : (some : List (Edit A)) (others : List (JournalEntry A)) → Turn some others
        → AreMade state (length journal + 1) clerk some others
    so_far some others turn = made state (length journal + 1) clerk some others turn.are_edits turn.are_clerks turn.are_lawful

    in_turn : (some : List (Edit A)) (others : List (JournalEntry A)) → AreMade state (length journal + 1) clerk some others
        → Turn some others
    in_turn some others h = record {
      are_edits = are_edits state (length journal + 1) clerk some others h;
      are_clerks = are_clerks state (length journal + 1) clerk some others h;
      are_lawful = are_lawful state (length journal + 1) clerk some others h;
    }

    more : (edit : Edit A) → place < length edits → edit ≡ get_or edits place edit
        → take (place + 1) edits ≡ take place edits ++ edit ∷ []
    more edit inside is = take_more edits place edit inside ∙ ap (λ x. take place edits ++ x ∷ []) (sym is)

    -- as many entries as edits
    pub so_many : Turn (take place edits) entries → place ≤ length edits → length entries ≡ place
    so_many turn inside =
        same_length state (length journal + 1) clerk (take place edits) entries (so_far (take place edits) entries turn)
        ∙ length-take-le place edits inside

    -- an edit more
    pub one_more_made : Turn (take place edits) entries → (edit : Edit A) (entry : JournalEntry A) → place < length edits
        → edit ≡ get_or edits place edit → entry.edit ≡ edit → entry.clerk ≡ clerk
        → entry.number ≡ length (journal ++ entries) + 1 → IsEntryOf (replay state entries) entry
        → Turn (take (place + 1) edits) (entries ++ entry ∷ [])
    one_more_made turn edit entry inside is e c n k =
        in_turn (take (place + 1) edits) (entries ++ entry ∷ [])
        (subst (λ xs. AreMade state (length journal + 1) clerk xs (entries ++ entry ∷ [])) (sym (more edit inside is))
        (made_push state (length journal + 1) clerk (take place edits) entries edit entry
        (so_far (take place edits) entries turn) e c (omega (arith, n, length-append journal entries)) k))

    -- which are the only entries, where those before were
    pub one_list : ((others : List (JournalEntry A)) → Turn (take place edits) others → others ≡ entries)
        → AreSimple (replay state entries).rows → IsStrictlyIncreasing (numbers (replay state entries).rows)
        → (edit : Edit A) (entry : JournalEntry A) → place < length edits → edit ≡ get_or edits place edit
        → entry.edit ≡ edit → entry.clerk ≡ clerk → entry.number ≡ length (journal ++ entries) + 1
        → length entries ≡ place
        → IsEntryOf (replay state entries) entry → (others : List (JournalEntry A)) → Turn (take (place + 1) edits) others
        → others ≡ entries ++ entry ∷ []
    one_list same simple rise edit entry inside is e c n many k others turn =
        let m = one_more state (length journal + 1) clerk (take place edits) edit others
        (subst (λ xs. AreMade state (length journal + 1) clerk xs others) (more edit inside is)
        (so_far (take (place + 1) edits) others turn)) in
        let before : m.first ≡ entries = same m.first (in_turn (take place edits) m.first m.before) in
        let last : m.last ≡ entry =
        one_entry (replay state entries) simple rise m.last entry
        (m.has_number ∙ omega (arith, n, many, length-append journal entries, length-take-le place edits (omega (arith, inside))))
        (m.has_clerk ∙ sym c) (m.has_edit ∙ sym e) (subst (λ xs. IsEntryOf (replay state xs) m.last) before m.is_entry) k in
        m.are_all ∙ ap (λ xs. xs ++ m.last ∷ []) before ∙ ap (λ x. entries ++ x ∷ []) last

    -- the edit at the place is the first that is refused, where it is refused
    pub first_refused : Turn (take place edits) entries → (edit : Edit A) (r : Refusal) → place < length edits
        → edit ≡ get_or edits place edit → IsRefusal (replay state entries) (journal ++ entries) edit r
        → IsFirstRefused state journal clerk edits (place + 1) r
    first_refused turn edit r inside is refused = record {
      before = take place edits;
      edit = edit;
      behind = drop (suc place) edits;
      are_all = sym (take-append-drop place edits)
          ∙ ap (λ xs. take place edits ++ xs) (drop-cons edits place edit inside ∙ ap (λ x. x ∷ drop (suc place) edits) (sym is));
      is_place = omega (arith, length-take-le place edits (omega (arith, inside)));
      made = entries;
      are_made = turn;
      is_refusal = refused;
    }

    -- what is told of another
    module _ (p : ℕ) (r : Refusal) (first : IsFirstRefused state journal clerk edits p r)
        (same : (others : List (JournalEntry A)) → Turn (take place edits) others → others ≡ entries) where
      theirs : AreMade state (length journal + 1) clerk first.before first.made
      theirs = so_far first.before first.made first.are_made

      pub within : length first.before < length edits
      within = let e = ap length first.are_all in
          omega (arith, e, length-append first.before (first.edit ∷ first.behind))

      there : (d : Edit A) → get_or edits (length first.before) d ≡ first.edit
      there d = ap (λ xs. get_or xs (length first.before) d) first.are_all
          ∙ get_or-append_seam first.before first.edit first.behind d

      taken : take (length first.before) edits ≡ first.before
      taken = ap (take (length first.before)) first.are_all ∙ take-append_seam first.before (first.edit ∷ first.behind)

      -- where it is the one at the place, that one is refused for the same reason
      pub is_there : (edit : Edit A) → place ≡ length first.before → edit ≡ get_or edits place edit
          → IsRefusal (replay state entries) (journal ++ entries) edit r
      is_there edit e is =
          let one : first.made ≡ entries =
          same first.made (subst (λ xs. Turn xs first.made) (sym (ap (λ n. take n edits) e ∙ taken)) first.are_made) in
          let this : edit ≡ first.edit = is ∙ ap (λ n. get_or edits n edit) e ∙ there edit in
          subst (λ xs. IsRefusal (replay state xs) (journal ++ xs) edit r) one
          (subst (λ x. IsRefusal (replay state first.made) (journal ++ first.made) x r) (sym this) first.is_refusal)

      -- where it comes behind the place, that one is not refused
      pub not_here : AreSimple (replay state entries).rows → IsStrictlyIncreasing (numbers (replay state entries).rows)
          → (edit : Edit A) (s : Refusal) → place < length first.before → edit ≡ get_or edits place edit
          → IsRefusal (replay state entries) (journal ++ entries) edit s → ⊥
      not_here simple rise edit s l is refused =
          let m = made_at state (length journal + 1) clerk first.before first.made place edit theirs l in
          let before : take place first.before ≡ take place edits =
          sym (take-append-le place first.before (first.edit ∷ first.behind) (omega (arith, l)))
          ∙ ap (take place) (sym first.are_all) in
          let one : take place first.made ≡ entries =
          same (take place first.made)
          (in_turn (take place edits) (take place first.made)
          (subst (λ xs. AreMade state (length journal + 1) clerk xs (take place first.made)) before m.before)) in
          let this : m.entry.edit ≡ edit =
          m.has_edit ∙ sym (get_or_append_left first.before (first.edit ∷ first.behind) edit place l)
          ∙ ap (λ xs. get_or xs place edit) (sym first.are_all) ∙ sym is in
          let is_entry : IsEntryOf (replay state entries) m.entry =
          subst (λ xs. IsEntryOf (replay state xs) m.entry) one m.is_entry in
          let many : length (take place first.made) ≡ place =
          length-take-le place first.made
          (omega (arith, l, same_length state (length journal + 1) clerk first.before first.made theirs)) in
          let room : length (journal ++ entries) < JOURNAL_ENTRIES =
          omega (arith, length-append journal entries, ap length one, many, m.has_number, is_entry.has_place) in
          not_refused (journal ++ entries) m.entry.edit (replay state entries) simple (ascending (replay state entries).rows rise)
          m.entry.out m.entry.rows s room
          (all_here (replay state entries) m.entry.edit m.entry.out m.entry.rows is_entry.is_change)
          is_entry.is_change is_entry.are_simple is_entry.within
          (subst (λ x. IsRefusal (replay state entries) (journal ++ entries) x s) (sym this) refused)
