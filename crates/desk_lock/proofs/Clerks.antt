-- The entries of one clerk, and what a desk keeps of them.
use Rattle.std.proofs.Common.{◌≡◌, ◌+◌, ◌≤◌, ℕ, zero, suc, Bool, true, false, cond, nat_eq, List, [], ◌∷◌, ◌++◌}
use Rattle.std.proofs.Common.{map, length, drop, eq-eqb, refl, ap, sym, ◌∙◌, subst, arith, append_assoc}
use Rattle.std.specs.List.{filter}
use Rattle.std.proofs.lemmas.List.{map-append, length-drop}
use Rattle.std.proofs.lemmas.List.Sums.{length-filter, count_by-le-length}
use Rattle.std.proofs.lemmas.List.Elements.{All-push, All-same, All-nil, filter-append}
use mathlib.Core.List.{IsPrefix}
use Rattle.entry_cards.specs.Cards.{Kept, IsClerk, entries_of}
use Rattle.entry_cards.specs.Cards as Cards
use Rattle.entry_cards.specs.declared.view.Card.{Card}
use Rattle.fabric_core.specs.Journal.{JournalEntry, Book}
use Rattle.fabric_core.specs.EditResults.{IsLawful}
use Rattle.desk_lock.specs.Offices.{Origin, OfficeId, CardState, IsOfOrigin, IsSometime, AreOfClerks, origin_of, behind, of_clerk}
use Rattle.desk_lock.specs.Offices.{with_made, journal_met, fresh_cards}
use Rattle.desk_lock.specs.own.Keeping.{by_clerk, as_known, Keeps}
use Rattle.entry_history.proofs.Beginnings.{begins_itself}
use Rattle.desk_lock.proofs.Behind.{journal_is, takes_in, still_begins, of_itself, nothing_behind, behind_it, more_behind}

module _ {A : Type 0} where
  abbrev second : ℕ × JournalEntry A → JournalEntry A
  second pair = pair.1

  -- entries that stand behind their clerks' numbers, without these
  unnumbered : (entries : List (JournalEntry A)) → entries_of (by_clerk entries) ≡ entries
  unnumbered [] = refl
  unnumbered (entry ∷ entries) = ap (λ l. entry ∷ l) (unnumbered entries)

  chosen : (b : Bool) (pair : ℕ × JournalEntry A) (pairs : List (ℕ × JournalEntry A))
      → map second (cond b (pair ∷ pairs) pairs) ≡ cond b (pair.1 ∷ map second pairs) (map second pairs)
  chosen true pair pairs = refl
  chosen false pair pairs = refl

  -- one clerk's entries among those that stand behind their clerks' numbers
  pub one_clerks : (clerk : ℕ) (entries : List (JournalEntry A)) → Cards.of_clerk clerk (by_clerk entries) ≡ of_clerk clerk entries
  one_clerks clerk [] = refl
  one_clerks clerk (entry ∷ entries) =
      let b : Bool = nat_eq entry.clerk clerk in
      let rest : List (ℕ × JournalEntry A) = filter (λ (pair : ℕ × JournalEntry A). nat_eq pair.0 clerk) (by_clerk entries) in
      chosen b (entry.clerk, entry) rest ∙ ap (λ l. cond b (entry ∷ l) l) (one_clerks clerk entries)

  -- a clerk has no more entries than there are
  pub not_more : (clerk : ℕ) (entries : List (JournalEntry A)) → length (of_clerk clerk entries) ≤ length entries
  not_more clerk entries =
      let p : JournalEntry A → Bool = λ entry. nat_eq entry.clerk clerk in
      let count = length-filter p entries in
      let most = count_by-le-length p entries in
      omega (arith, count, most)

  -- the entries are of clerks still with one entry more of a clerk
  pub of_clerks_more : (clerks : ℕ) (entries more : List (JournalEntry A)) (entry : JournalEntry A) → more ≡ entries ++ entry ∷ []
      → AreOfClerks clerks entries → IsClerk clerks entry.clerk → AreOfClerks clerks more
  of_clerks_more clerks entries more entry is all one =
      All-same (λ (e : JournalEntry A). IsClerk clerks e.clerk) more (entries ++ entry ∷ []) is
      (All-push (λ (e : JournalEntry A). IsClerk clerks e.clerk) entries entry all one)

  -- one entry more of a clerk stands last among the clerk's
  pub one_more : (clerk : ℕ) (entries : List (JournalEntry A)) (entry : JournalEntry A) → entry.clerk ≡ clerk
      → of_clerk clerk (entries ++ entry ∷ []) ≡ of_clerk clerk entries ++ entry ∷ []
  one_more clerk entries entry same =
      filter-append (λ (e : JournalEntry A). nat_eq e.clerk clerk) entries (entry ∷ [])
      ∙ ap (λ b. of_clerk clerk entries ++ cond b (entry ∷ []) []) (eq-eqb entry.clerk clerk same)

  -- what the journal is, with one entry more, to the card with which that was accepted
  pub is_sometime_after : (office : OfficeId A) (card : CardState A) (before : List (JournalEntry A)) (entry : JournalEntry A)
      (book : Book A) (entries met : List (JournalEntry A)) → journal_met office (with_made card entry met) ≡ book.journal
      → IsSometime office card before → entry.clerk ≡ card.clerk
      → book.journal ≡ before ++ entry ∷ [] → IsLawful book.opening book.journal → IsOfOrigin office.origin book
      → book.journal ≡ office.origin.journal ++ entries → AreOfClerks office.clerks entries
      → IsSometime office (with_made card entry met) book.journal
  is_sometime_after office card before entry book entries met has_met sometime same more lawful of whole of_clerks =
      let origin : Origin A = office.origin in
      record {
        lawful = subst (λ o. IsLawful o book.journal) of.opening lawful;
        begins = of.begins;
        of_clerks = All-same (λ (e : JournalEntry A). IsClerk office.clerks e.clerk) (behind origin book.journal) entries
            (behind_it origin book.journal entries whole) of_clerks;
        agrees = ap (λ made. made ++ entry ∷ []) sometime.agrees
            ∙ (sym (one_more card.clerk (behind origin before) entry same)
            ∙ ap (of_clerk card.clerk)
            (sym (ap (drop (length origin.journal)) more ∙ more_behind origin.journal before (entry ∷ []) sometime.begins)));
        met = subst (IsPrefix met) (sym (behind_it origin book.journal met (sym has_met))) (begins_itself met);
      }

  -- ---- what a desk keeps
  module _ (office : OfficeId A) (book : Book A) (keeper : Kept (JournalEntry A)) (handed : List (JournalEntry A)) (n : ℕ)
      (keeps : Keeps office book keeper handed n) where
    -- what a keeper knows of a clerk is what the journal has of the clerk
    pub known_of : (clerk : ℕ) → Cards.of_clerk clerk keeper.all ≡ of_clerk clerk (behind office.origin book.journal)
    known_of clerk = ap (λ l. Cards.of_clerk clerk l) keeps.known ∙ one_clerks clerk (behind office.origin book.journal)

    -- all that a keeper knows is what stands behind the journal of the fabric that was handed in
    pub all_of : entries_of keeper.all ≡ behind office.origin book.journal
    all_of = ap entries_of keeps.known ∙ unnumbered (behind office.origin book.journal)

    pub all_met : (met : List (JournalEntry A)) → met ≡ entries_of keeper.all → office.origin.journal ++ met ≡ book.journal
    all_met met is = ap (λ l. office.origin.journal ++ l) (is ∙ all_of) ∙ sym (journal_is office.origin book keeps.of_origin)

    pub all_met_after : (kept : Kept (JournalEntry A)) (met : List (JournalEntry A)) (new : Book A) (clerk : ℕ) (entry : JournalEntry A)
        → met ≡ entries_of kept.all → kept.all ≡ keeper.all ++ (clerk, entry) ∷ [] → new.journal ≡ book.journal ++ entry ∷ []
        → office.origin.journal ++ met ≡ new.journal
    all_met_after kept met new clerk entry is more journal =
        let before : List (JournalEntry A) = behind office.origin book.journal in
        let now : met ≡ before ++ entry ∷ [] =
        is ∙ (ap entries_of more ∙ (map-append (λ (pair : ℕ × JournalEntry A). pair.1) keeper.all ((clerk, entry) ∷ [])
        ∙ ap (λ l. l ++ entry ∷ []) all_of)) in
        ap (λ l. office.origin.journal ++ l) now
        ∙ (sym (append_assoc office.origin.journal before (entry ∷ []))
        ∙ (ap (λ l. l ++ entry ∷ []) (sym (journal_is office.origin book keeps.of_origin)) ∙ sym journal))

    -- a card has no more entries than the journal
    pub few_made : (clerk : ℕ) (made : List (JournalEntry A)) → made ≡ Cards.of_clerk clerk keeper.all
        → length made ≤ length book.journal
    few_made clerk made agrees =
        let same = ap length (agrees ∙ known_of clerk) in
        let most = not_more clerk (behind office.origin book.journal) in
        let rest = length-drop (length office.origin.journal) book.journal in
        omega (arith, same, most, rest)

    -- what the desk's journal is to a card that agrees with it
    pub is_sometime : (clerk : ℕ) (made met : List (JournalEntry A)) → IsLawful book.opening book.journal
        → made ≡ Cards.of_clerk clerk keeper.all → IsPrefix met (entries_of keeper.all)
        → IsSometime office (record { clerk = clerk; made = made; met = met }) book.journal
    is_sometime clerk made met lawful agrees begins = record {
      lawful = subst (λ o. IsLawful o book.journal) keeps.of_origin.opening lawful;
      begins = keeps.of_origin.begins;
      of_clerks = keeps.of_clerks;
      agrees = agrees ∙ known_of clerk;
      met = subst (IsPrefix met) all_of begins;
    }

    -- it is kept with one entry more
    pub keeps_more : (new : Book A) (kept : Kept (JournalEntry A)) (entry : JournalEntry A) (clerk : ℕ) → IsClerk keeper.dealt clerk
        → entry.clerk ≡ clerk → new.city ≡ book.city → new.opening ≡ book.opening
        → new.journal ≡ book.journal ++ entry ∷ []
        → kept ≡ record keeper { all = keeper.all ++ (clerk, entry) ∷ [] }
        → Keeps office new kept handed n
    keeps_more new kept entry clerk is_clerk same city opening journal is =
        let origin : Origin A = office.origin in
        let taken = takes_in origin book new entry keeps.of_origin city opening journal in
        let now : List (JournalEntry A) = behind origin book.journal in
        let of_office : IsClerk office.clerks entry.clerk = subst (λ m. IsClerk m entry.clerk) keeps.dealt
        (subst (IsClerk keeper.dealt) (sym same) is_clerk) in
        record {
          counted = keeps.counted;
          of_origin = taken.0;
          of_clerks = of_clerks_more office.clerks now (behind origin new.journal) entry taken.1 keeps.of_clerks of_office;
          known = ap (λ (k : Kept (JournalEntry A)). k.all) is
              ∙ (ap (λ l. l ++ (clerk, entry) ∷ []) keeps.known
              ∙ (ap (λ k. by_clerk now ++ (k, entry) ∷ []) (sym same)
              ∙ (sym (map-append (λ (e : JournalEntry A). (e.clerk, e)) now (entry ∷ [])) ∙ ap by_clerk (sym taken.1))));
          named = ap (λ (k : Kept (JournalEntry A)). k.name) is ∙ keeps.named;
          dealt = ap (λ (k : Kept (JournalEntry A)). k.dealt) is ∙ keeps.dealt;
          handed_on = subst (IsPrefix handed) (sym taken.1) (still_begins handed now (entry ∷ []) keeps.handed_on);
        }

  -- a desk that is opened with a fabric
  pub keeps_first : (office : OfficeId A) (book : Book A) (keeper : Kept (JournalEntry A)) (clerks most : ℕ) → office.clerks ≡ clerks
      → office.origin ≡ origin_of book → keeper ≡ record { name = office.cards; clerks = most; dealt = clerks; all = [] }
      → Keeps office book keeper [] (length book.journal)
  keeps_first office book keeper clerks most count origin is =
      let none : behind office.origin book.journal ≡ [] = nothing_behind office.origin book (sym origin) in
      record {
        counted = ap (λ (o : Origin A). length o.journal) (sym origin);
        of_origin = of_itself office.origin book (sym origin);
        of_clerks = All-same (λ (e : JournalEntry A). IsClerk office.clerks e.clerk) (behind office.origin book.journal) [] none
            (All-nil (λ (e : JournalEntry A). IsClerk office.clerks e.clerk));
        known = ap (λ (k : Kept (JournalEntry A)). k.all) is ∙ ap by_clerk (sym none);
        named = ap (λ (k : Kept (JournalEntry A)). k.name) is;
        dealt = ap (λ (k : Kept (JournalEntry A)). k.dealt) is ∙ sym count;
        handed_on = (behind office.origin book.journal, refl);
      }

  -- ---- cards
  -- one card more is dealt
  pub fresh_more : (before n clerk : ℕ) (made met : List (JournalEntry A)) → clerk ≡ before + n + 1 → made ≡ [] → met ≡ []
      → fresh_cards before n ++ record { clerk = clerk; made = made; met = met } ∷ [] ≡ fresh_cards before (suc n)
  fresh_more before zero clerk made met is none none_met =
      let first : clerk ≡ suc before = omega (arith, is) in
      cc (first, none, none_met)
  fresh_more before (suc n) clerk made met is none none_met =
      ap (λ cards. record { clerk = suc before; made = []; met = [] } ∷ cards)
      (fresh_more (suc before) n clerk made met (omega (arith, is)) none none_met)

  pub next_fresh : (n clerk : ℕ) (made met : List (JournalEntry A)) → clerk ≡ n + 1 → made ≡ [] → met ≡ []
      → fresh_cards 0 n ++ record { clerk = clerk; made = made; met = met } ∷ [] ≡ fresh_cards 0 (n + 1)
  next_fresh n clerk made met is none none_met =
      let more : suc n ≡ n + 1 = omega arith in
      fresh_more 0 n clerk made met (omega (arith, is)) none none_met ∙ ap (λ m. fresh_cards 0 m) more

  -- the last card goes to the front of what was taken in
  pub taken_last : (cards more : List (CardState A)) (card : CardState A) (taken : List (Card (JournalEntry A)))
      → cards ≡ more ++ card ∷ [] → map as_known more ++ as_known card ∷ taken ≡ map as_known cards ++ taken
  taken_last cards more card taken is =
      sym (append_assoc (map as_known more) (as_known card ∷ []) taken)
      ∙ ap (λ l. l ++ taken) (sym (map-append as_known more (card ∷ [])) ∙ ap (map as_known) (sym is))
