-- An office at which several clerks edit one fabric, and what its cards, receipts
-- and windows tell (this product's own).
use Rattle.std.specs.Prelude.{◌≡◌, ◌⊎◌, Bool, ℕ, zero, suc, ◌+◌, nat_eq, List, [], ◌∷◌, ◌++◌, drop, length}
use Rattle.std.specs.Prelude.{sum_by, All}
use Rattle.std.specs.List.{filter}
use mathlib.Core.List.{IsPrefix}
use Rattle.geo_exact.specs.declared.corner.Corner.{Corner}
use Rattle.ring_edits.specs.declared.edit.Edit.{Edit}
use Rattle.atomic_table.specs.Seated.{TableId}
use Rattle.entry_cards.specs.Cards.{IsClerk}
use Rattle.fabric_core.specs.declared.refusal.Refusal.{Refusal}
use Rattle.fabric_core.specs.Journal.{State, JournalEntry, Book, replay}
use Rattle.fabric_core.specs.EditResults.{IsLawful}
use Rattle.fabric_core.specs.Refusals.{IsRefusal}

-- the fabric that was handed to an office: the city's ring, the state in which the fabric was opened, and its journal
pub record Origin (A : Type 0) : Type 0 where
  pub city : List Corner
  pub opening : State
  pub journal : List (JournalEntry A)

-- which office: the name of its cards, which no other office's have, how many clerks it
-- has, and the fabric that was handed to it
pub record OfficeId (A : Type 0) : Type 0 where
  pub cards : TableId
  pub clerks : ℕ
  pub origin : Origin A

-- what a card shows: its clerk's number, the entries that were accepted with it, and all entries that were accepted at
-- its desk until they last met, each in order
pub record CardState (A : Type 0) : Type 0 where
  pub clerk : ℕ
  pub made : List (JournalEntry A)
  pub met : List (JournalEntry A)

-- what a desk shows: its fabric, the entries that were accepted at it, and the journal of the version that windows take
pub record DeskState (A : Type 0) : Type 0 where
  pub book : Book A
  pub entries : List (JournalEntry A)
  pub published : List (JournalEntry A)

-- what a receipt shows: the entry, whether it was published, and the journal that it
-- tells, which is empty where it was not
pub record ReceiptState (A : Type 0) : Type 0 where
  pub entry : JournalEntry A
  pub published : Bool
  pub told : List (JournalEntry A)

-- what a window shows: the state in which the office's fabric was opened, and the entries that the versions which it
-- entered and the receipts which it learnt rest on
pub record WindowState (A : Type 0) : Type 0 where
  pub opening : State
  pub seen : List (JournalEntry A)

module _ {A : Type 0} where
  abbrev pub origin_of : Book A → Origin A
  origin_of book = record { city = book.city; opening = book.opening; journal = book.journal }

  -- a fabric comes of the one handed in: the same city, the same opening, and a journal that begins with that one's
  pub record IsOfOrigin (origin : Origin A) (book : Book A) : Type 0 where
    pub city : book.city ≡ origin.city
    pub opening : book.opening ≡ origin.opening
    pub begins : IsPrefix origin.journal book.journal

  -- the entries behind those of the fabric that was handed in
  abbrev pub behind : Origin A → List (JournalEntry A) → List (JournalEntry A)
  behind origin journal = drop (length origin.journal) journal

  -- each entry is one of these clerks', who are numbered from 1
  abbrev pub AreOfClerks : ℕ → List (JournalEntry A) → Type 0
  AreOfClerks clerks entries = All (λ entry. IsClerk clerks entry.clerk) entries

  -- the entries of one clerk, in order
  abbrev pub of_clerk : ℕ → List (JournalEntry A) → List (JournalEntry A)
  of_clerk clerk entries = filter (λ entry. nat_eq entry.clerk clerk) entries

  -- the entries that were accepted with the card are all of its clerk
  abbrev pub Agrees : List (JournalEntry A) → CardState A → Type 0
  Agrees entries card = card.made ≡ of_clerk card.clerk entries

  -- what the card has met is a beginning of the entries
  abbrev pub HasMet : List (JournalEntry A) → CardState A → Type 0
  HasMet entries card = IsPrefix card.met entries

  -- the journal that the card last met, of an office
  abbrev pub journal_met : OfficeId A → CardState A → List (JournalEntry A)
  journal_met office card = office.origin.journal ++ card.met

  -- a card that has met these entries; and one after an edit that was accepted
  -- with it, which has met these entries then
  abbrev pub with_met : CardState A → List (JournalEntry A) → CardState A
  with_met card met = record { clerk = card.clerk; made = card.made; met = met }

  abbrev pub with_made : CardState A → JournalEntry A → List (JournalEntry A) → CardState A
  with_made card entry met = record { clerk = card.clerk; made = card.made ++ entry ∷ []; met = met }

  -- the cards of so many clerks, whose numbers follow a number, with no entry yet
  abbrev pub fresh_cards : ℕ → ℕ → List (CardState A)
  fresh_cards before zero = []
  fresh_cards before (suc n) = record { clerk = suc before; made = []; met = [] } ∷ fresh_cards (suc before) n

  -- a window that has entered no version and learnt no receipt
  abbrev pub window_of : Origin A → WindowState A
  window_of origin = record { opening = origin.opening; seen = origin.journal }

  -- a journal of the office at some time, at which the card's clerk had made what the card says: lawful, first the
  -- entries of the fabric that was handed in, then entries of the office's clerks alone, of which the first are those
  -- that the card has met
  pub record IsSometime (office : OfficeId A) (card : CardState A) (journal : List (JournalEntry A)) : Type 0 where
    pub lawful : IsLawful office.origin.opening journal
    pub begins : IsPrefix office.origin.journal journal
    pub of_clerks : AreOfClerks office.clerks (behind office.origin journal)
    pub agrees : Agrees (behind office.origin journal) card
    pub met : HasMet (behind office.origin journal) card

  -- the edit is refused for this reason after exactly the journal that the card has met
  pub record IsRefusedWhenMet (office : OfficeId A) (card : CardState A) (edit : Edit A)
      (refusal : Refusal) : Type 0 where
    pub sometime : IsSometime office card (journal_met office card)
    pub is_refusal : IsRefusal (replay office.origin.opening (journal_met office card))
        (journal_met office card) edit refusal

  -- this reason to refuse the edit is due after exactly the journal that the card has met
  abbrev pub IsDueWhenMet : OfficeId A → CardState A → Edit A → Refusal → Type 0
  IsDueWhenMet office card edit refusal =
      IsRefusal (replay office.origin.opening (journal_met office card)) (journal_met office card) edit refusal

  -- a list of so many entries that ends with this one
  pub record EndsWith (entry : JournalEntry A) (number : ℕ) (journal : List (JournalEntry A)) : Type 0 where
    pub before : List (JournalEntry A)
    pub ends : journal ≡ before ++ entry ∷ []
    pub count : length journal ≡ number

  -- the longer of two lists, of which one begins the other
  pub record IsLonger (one other longer : List (JournalEntry A)) : Type 0 where
    pub is_one : (longer ≡ one) ⊎ (longer ≡ other)
    pub begins : IsPrefix one longer
    pub other_begins : IsPrefix other longer

  -- a window learns what it is told
  pub record Learns (before : WindowState A) (told : List (JournalEntry A)) (after : WindowState A) : Type 0 where
    pub opening : after.opening ≡ before.opening
    pub longer : IsLonger before.seen told after.seen

  -- a fabric has, behind the entries of the fabric that was handed in, entries of the office's clerks alone, and of
  -- each of these cards' clerks what the card says; what the card has met are the first of them
  pub record IsSheetOf (office : OfficeId A) (cards : List (CardState A)) (book : Book A) : Type 0 where
    pub of_origin : IsOfOrigin office.origin book
    pub of_clerks : AreOfClerks office.clerks (behind office.origin book.journal)
    pub agree : All (Agrees (behind office.origin book.journal)) cards
    pub met : All (HasMet (behind office.origin book.journal)) cards

  -- and nothing else: the cards are all that were handed out, and together they have all entries
  pub record IsTotal (office : OfficeId A) (cards : List (CardState A)) (book : Book A) : Type 0 where
    pub sheet : IsSheetOf office cards book
    pub total : length book.journal ≡ length office.origin.journal + sum_by (λ card. length card.made) cards
