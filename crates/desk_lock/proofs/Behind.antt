-- What stands behind the beginning of a list, and journals that begin with that of the fabric which was handed in.
use Rattle.std.proofs.Common.{◌≡◌, ◌⊎◌, inl, inr, Some, get_or, slice_get, ◌+◌, ◌≤◌, ◌<◌, ℕ}
use Rattle.std.proofs.Common.{List, [], ◌∷◌, ◌++◌, drop, length, refl, ap, sym, ◌∙◌, subst, arith, append_assoc}
use Rattle.std.proofs.Common.{append-nil}
use Rattle.std.proofs.Math.Seq.{drop-append_seam}
use Rattle.std.proofs.lemmas.List.{drop-append-le, get_or-drop}
use Rattle.std.proofs.lemmas.Option.{slice_get-get_or}
use mathlib.Core.List.{IsPrefix}
use Rattle.entry_history.proofs.Beginnings.{begins_itself, begins_whole, begins_shorter, is_whole, next_begins}
use Rattle.fabric_core.specs.Journal.{JournalEntry, Book, replay}
use Rattle.fabric_core.specs.EditResults.{IsLawful}
use Rattle.desk_lock.specs.Offices.{Origin, IsOfOrigin, WindowState, Learns, origin_of, behind, window_of}

module _ {X : Type 0} where
  -- what stands behind a beginning
  pub rest_is : (xs zs : List X) (p : IsPrefix xs zs) → drop (length xs) zs ≡ p.0
  rest_is xs zs p = ap (drop (length xs)) (sym p.1) ∙ drop-append_seam xs p.0

  -- a list is its beginning and what stands behind it
  pub both_parts : (xs zs : List X) → IsPrefix xs zs → zs ≡ xs ++ drop (length xs) zs
  both_parts xs zs p = sym p.1 ∙ ap (λ ys. xs ++ ys) (sym (rest_is xs zs p))

  -- more at the end stands behind the beginning too
  pub more_behind : (xs zs ys : List X) → IsPrefix xs zs → drop (length xs) (zs ++ ys) ≡ drop (length xs) zs ++ ys
  more_behind xs zs ys p = drop-append-le (length xs) zs ys (begins_shorter xs zs p)

  -- with more at the end a list begins as before
  pub still_begins : (xs zs ys : List X) → IsPrefix xs zs → IsPrefix xs (zs ++ ys)
  still_begins xs zs ys p = begins_whole xs zs (zs ++ ys) p (ys, refl)

  -- behind one front, a beginning begins
  pub begins_behind : (front xs ys : List X) → IsPrefix xs ys → IsPrefix (front ++ xs) (front ++ ys)
  begins_behind front xs ys p = (p.0, append_assoc front xs p.0 ∙ ap (λ zs. front ++ zs) p.1)

  -- nothing stands behind the whole
  pub none_behind : (xs : List X) → drop (length xs) xs ≡ []
  none_behind xs = rest_is xs xs ([], append-nil xs)

  -- the next of a list that is handed on from a place
  pub next_handed : (handed all : List X) (from place : ℕ) (x : X) → IsPrefix handed (drop from all) → length handed ≡ place
      → place < length (drop from all) → x ≡ get_or all (from + place) x → IsPrefix (handed ++ x ∷ []) (drop from all)
  next_handed handed all from place x begins count less is =
      next_begins handed (drop from all) x begins
      (ap (slice_get (drop from all)) count
      ∙ (slice_get-get_or (drop from all) place x less ∙ ap Some (get_or-drop from all place x ∙ sym is)))

module _ {A : Type 0} where
  -- a fabric's journal is that of the one handed in, and what stands behind it
  pub journal_is : (origin : Origin A) (book : Book A) → IsOfOrigin origin book
      → book.journal ≡ origin.journal ++ behind origin book.journal
  journal_is origin book of = both_parts origin.journal book.journal of.begins

  -- what stands behind the journal of the fabric that was handed in
  pub behind_it : (origin : Origin A) (journal entries : List (JournalEntry A)) → journal ≡ origin.journal ++ entries
      → behind origin journal ≡ entries
  behind_it origin journal entries is = ap (drop (length origin.journal)) is ∙ drop-append_seam origin.journal entries

  -- what is shown of what was handed on, behind the journal of the fabric that was handed in, begins the journal
  pub shown_begins : (origin : Origin A) (book : Book A) (shown handed : List (JournalEntry A)) → IsOfOrigin origin book
      → IsPrefix shown handed → IsPrefix handed (behind origin book.journal) → IsPrefix (origin.journal ++ shown) book.journal
  shown_begins origin book shown handed of begins on =
      subst (IsPrefix (origin.journal ++ shown)) (sym (journal_is origin book of))
      (begins_behind origin.journal shown (behind origin book.journal)
      (begins_whole shown handed (behind origin book.journal) begins on))

  -- the fabric that is handed in comes of itself
  pub of_itself : (origin : Origin A) (book : Book A) → origin_of book ≡ origin → IsOfOrigin origin book
  of_itself origin book is = record {
    city = ap (λ (o : Origin A). o.city) is;
    opening = ap (λ (o : Origin A). o.opening) is;
    begins = subst (λ j. IsPrefix j book.journal) (ap (λ (o : Origin A). o.journal) is) (begins_itself book.journal);
  }

  pub nothing_behind : (origin : Origin A) (book : Book A) → origin_of book ≡ origin → behind origin book.journal ≡ []
  nothing_behind origin book is = subst (λ (o : Origin A). drop (length o.journal) book.journal ≡ []) is (none_behind book.journal)

  -- a fabric that has one entry more
  pub takes_in : (origin : Origin A) (old new : Book A) (entry : JournalEntry A) → IsOfOrigin origin old → new.city ≡ old.city
      → new.opening ≡ old.opening → new.journal ≡ old.journal ++ entry ∷ []
      → IsOfOrigin origin new × (behind origin new.journal ≡ behind origin old.journal ++ entry ∷ [])
  takes_in origin old new entry of city opening journal = (
    record {
      city = city ∙ of.city;
      opening = opening ∙ of.opening;
      begins = subst (IsPrefix origin.journal) (sym journal) (still_begins origin.journal old.journal (entry ∷ []) of.begins);
    },
    ap (drop (length origin.journal)) journal ∙ more_behind origin.journal old.journal (entry ∷ []) of.begins,
  )

  -- nothing is learnt of nothing
  pub learns_nothing : (window : WindowState A) → Learns window [] window
  learns_nothing window = record {
    opening = refl;
    longer = record { is_one = inl refl; begins = begins_itself window.seen; other_begins = (window.seen, refl) };
  }

  -- the longer of two beginnings is the one that is not shorter
  pub becomes : (before told after : List (JournalEntry A)) → (after ≡ before) ⊎ (after ≡ told) → IsPrefix told after
      → length before ≤ length told → after ≡ told
  becomes before told after (inl is) that le = sym (is_whole told after that (omega (arith, ap length is, le)))
  becomes before told after (inr is) that le = is

  -- a fabric that comes of the one that was handed in, by a list that is its journal
  module _ (origin : Origin A) (book : Book A) (of : IsOfOrigin origin book) where
    pub lawful_at : (seen : List (JournalEntry A)) → seen ≡ book.journal → IsLawful book.opening book.journal
        → IsLawful origin.opening seen
    lawful_at seen is lawful = subst (IsLawful origin.opening) (sym is) (subst (λ o. IsLawful o book.journal) of.opening lawful)

    pub leads_to : (seen : List (JournalEntry A)) → seen ≡ book.journal → replay book.opening book.journal ≡ book.now
        → book.now ≡ replay origin.opening seen
    leads_to seen is replays = sym replays ∙ (ap (λ o. replay o book.journal) of.opening ∙ ap (replay origin.opening) (sym is))

  -- a window to which nothing was published since the office was opened
  pub first_window : (origin : Origin A) (front : List (JournalEntry A)) → front ≡ []
      → record { opening = origin.opening; seen = origin.journal ++ front } ≡ window_of origin
  first_window origin front is =
      ap (λ seen. record { opening = origin.opening; seen = seen })
      (ap (λ l. origin.journal ++ l) is ∙ append-nil origin.journal)
