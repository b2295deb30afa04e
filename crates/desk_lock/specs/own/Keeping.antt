-- What a desk keeps, and the names of what belongs to one office. Public contracts do not speak of it.
use Rattle.std.specs.Prelude.{◌≡◌, ℕ, List, [], map, length, Option, None, Some}
use mathlib.Core.List.{IsPrefix}
use Rattle.atomic_table.specs.Seated.{TableId}
use Rattle.logbook.specs.Pages.{Book as Pages}
use Rattle.entry_cards.specs.declared.view.Card.{Card}
use Rattle.entry_cards.specs.Cards.{Kept, HasAll, HasMet}
use Rattle.fabric_core.specs.Journal.{JournalEntry, Book}
use Rattle.desk_lock.specs.Offices.{OfficeId, CardState, IsOfOrigin, behind, AreOfClerks}

-- the names that an office's cards and its list of entries have
pub record NameId : Type 0 where
  pub book : Pages
  pub cards : TableId

abbrev pub no_table : TableId
no_table = record { words = 0; slots = 0; views_name = 0; atom = 0; block = 0; offset = 0; slot_names = [] }

abbrev pub no_office : {A : Type 0} → OfficeId A
no_office = record {
  cards = no_table;
  clerks = 0;
  origin = record { city = []; opening = record { rows = []; refined = []; next = 0 }; journal = [] };
}

module _ {A : Type 0} where
  -- each entry behind its clerk's number
  abbrev pub by_clerk : List (JournalEntry A) → List (ℕ × JournalEntry A)
  by_clerk entries = map (λ entry. (entry.clerk, entry)) entries

  -- a card, as those who keep and gather cards see it
  abbrev pub as_known : CardState A → Card (JournalEntry A)
  as_known card = record { clerk = card.clerk; made = card.made; met = card.met }

  -- a card agrees with all entries that a keeper knows, and what it has met begins them
  pub record IsKnown (all : List (ℕ × JournalEntry A)) (card : CardState A) : Type 0 where
    pub has_all : HasAll all (as_known card)
    pub has_met : HasMet all (as_known card)

  -- what a notice tells that may be there
  abbrev pub told_by : Option (List (JournalEntry A)) → List (JournalEntry A)
  told_by None = []
  told_by (Some told) = told

  -- The fabric comes of the one that was handed in, whose journal had so many entries; behind them stand the entries of
  -- clerks that the keeper of the cards knows, and those that were handed on are the first of these.
  pub record Keeps (office : OfficeId A) (book : Book A) (keeper : Kept (JournalEntry A))
      (handed : List (JournalEntry A)) (opened_with : ℕ) : Type 0 where
    pub counted : opened_with ≡ length office.origin.journal
    pub of_origin : IsOfOrigin office.origin book
    pub of_clerks : AreOfClerks office.clerks (behind office.origin book.journal)
    pub known : keeper.all ≡ by_clerk (behind office.origin book.journal)
    pub named : keeper.name ≡ office.cards
    pub dealt : keeper.dealt ≡ office.clerks
    pub handed_on : IsPrefix handed (behind office.origin book.journal)
