-- What all cards of an office account for together.
use Rattle.std.proofs.Common.{◌≡◌, ◌+◌, ℕ, List, [], ◌∷◌, ◌++◌, map, length, Result, Ok, Err, refl, ap, sym, ◌∙◌, subst, arith}
use Rattle.std.proofs.Common.{append-nil, length-append}
use Rattle.std.specs.List.{All, sum_by}
use Rattle.std.specs.Result.{IfOk}
use Rattle.std.proofs.lemmas.List.{length-map}
use Rattle.std.proofs.lemmas.List.Sums.{sum_by-cons}
use Rattle.std.proofs.lemmas.List.Elements.{All-nil, All-cons, All-head, All-tail, All-same}
use mathlib.Core.List.{IsPrefix}
use Rattle.entry_cards.specs.declared.view.Card.{Card}
use Rattle.entry_cards.specs.Cards.{Kept, Gathered, HasAll, AccountFor, IsClerk}
use Rattle.entry_cards.specs.Cards as Cards
use Rattle.fabric_core.specs.Journal.{JournalEntry, Book}
use Rattle.desk_lock.specs.Offices.{OfficeId, CardState, DeskState, IsOfOrigin, AreOfClerks, IsSheetOf, IsTotal, Agrees, HasMet}
use Rattle.desk_lock.specs.Offices.{behind}
use Rattle.desk_lock.specs.own.Keeping.{as_known, Keeps}
use Rattle.desk_lock.proofs.Behind.{journal_is, behind_it}
use Rattle.desk_lock.proofs.Clerks.{known_of, all_of}

module _ {A : Type 0} where
  -- as many entries as the cards say
  counted : (cards : List (CardState A)) → sum_by (λ card. length card.made) (map as_known cards)
      ≡ sum_by (λ card. length card.made) cards
  counted [] = refl
  counted (card ∷ cards) =
      sum_by-cons (λ (c : Card (JournalEntry A)). length c.made) (as_known card) (map as_known cards)
      ∙ (ap (λ n. length card.made + n) (counted cards) ∙ sym (sum_by-cons (λ (c : CardState A). length c.made) card cards))

  -- what holds of cards as they are known holds of the cards
  of_known : (P : Card (JournalEntry A) → Type 0) (Q : CardState A → Type 0) → ((card : CardState A) → P (as_known card) → Q card)
      → (cards : List (CardState A)) → All P (map as_known cards) → All Q cards
  of_known P Q each [] all = All-nil Q
  of_known P Q each (card ∷ cards) all =
      All-cons Q card cards (each card (All-head P (as_known card) (map as_known cards) all))
      (of_known P Q each cards (All-tail P (as_known card) (map as_known cards) all))

  -- a sheet of a desk that was compared with cards is of these
  pub sheet_of : {E : Type 0} (answer : Result (Book A) E) (office : OfficeId A) (cards : List (CardState A))
      (compared desk drawn : DeskState A) → desk ≡ compared → drawn ≡ compared → IfOk answer (λ sheet. sheet ≡ drawn.book)
      → IsOfOrigin office.origin desk.book → desk.book.journal ≡ office.origin.journal ++ desk.entries
      → AreOfClerks office.clerks desk.entries → All (Agrees compared.entries) cards → All (HasMet compared.entries) cards
      → IfOk answer (λ sheet. IsSheetOf office cards sheet)
  sheet_of (Err error) office cards compared desk drawn same same_drawn is of whole of_clerks agree met = tt
  sheet_of (Ok sheet) office cards compared desk drawn same same_drawn is of whole of_clerks agree met =
      let entries = ap (λ (d : DeskState A). d.entries) same in
      let stand = behind_it office.origin desk.book.journal desk.entries whole in
      subst (IsSheetOf office cards) (sym (is ∙ ap (λ (d : DeskState A). d.book) (same_drawn ∙ sym same))) record {
        of_origin = of;
        of_clerks = All-same (λ (e : JournalEntry A). IsClerk office.clerks e.clerk) (behind office.origin desk.book.journal)
            desk.entries stand of_clerks;
        agree = subst (λ l. All (Agrees l) cards) (sym (stand ∙ entries)) agree;
        met = subst (λ l. All (HasMet l) cards) (sym (stand ∙ entries)) met;
      }

  module _ (office : OfficeId A) (book : Book A) (keeper : Kept (JournalEntry A)) (handed : List (JournalEntry A)) (n : ℕ)
      (keeps : Keeps office book keeper handed n) where
    -- cards that have all entries of their clerks, and met a beginning of them
    all_agree : (cards : List (CardState A)) → All (HasAll keeper.all) (map as_known cards)
        → All (Agrees (behind office.origin book.journal)) cards
    all_agree cards all = of_known (HasAll keeper.all) (Agrees (behind office.origin book.journal))
        (λ card is. is ∙ known_of office book keeper handed n keeps card.clerk) cards all

    all_have_met : (cards : List (CardState A)) → All (Cards.HasMet keeper.all) (map as_known cards)
        → All (HasMet (behind office.origin book.journal)) cards
    all_have_met cards all = of_known (Cards.HasMet keeper.all) (HasMet (behind office.origin book.journal))
        (λ card begins. subst (IsPrefix card.met) (all_of office book keeper handed n keeps) begins) cards all

    pub total_of : (gathered : Gathered (JournalEntry A)) (cards : List (CardState A)) → gathered.all ≡ keeper.all
        → gathered.cards ≡ map as_known cards ++ [] → AccountFor gathered.dealt gathered.all gathered.cards
        → IsTotal office cards book
    total_of gathered cards all are accounts =
        let pairs : gathered.cards ≡ map as_known cards = are ∙ append-nil (map as_known cards) in
        let agree = subst (λ l. All (HasAll l) (map as_known cards)) all
        (subst (All (HasAll gathered.all)) pairs accounts.agree) in
        let met = subst (λ l. All (Cards.HasMet l) (map as_known cards)) all
        (subst (All (Cards.HasMet gathered.all)) pairs accounts.met) in
        let sum = accounts.total ∙ (ap (λ l. sum_by (λ card. length card.made) l) pairs ∙ counted cards) in
        let known = ap length (all ∙ keeps.known)
        ∙ length-map (behind office.origin book.journal) (λ (e : JournalEntry A). (e.clerk, e)) in
        let whole = ap length (journal_is office.origin book keeps.of_origin)
        ∙ length-append office.origin.journal (behind office.origin book.journal) in
        record {
          sheet =
              record {
                of_origin = keeps.of_origin;
                of_clerks = keeps.of_clerks;
                agree = all_agree cards agree;
                met = all_have_met cards met;
              };
          total = omega (arith, sum, known, whole);
        }
