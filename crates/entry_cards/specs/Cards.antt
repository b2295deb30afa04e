-- Clerks' cards, tied to one list of entries (this product's own): a keeper knows the whole list, each entry behind its
-- clerk's number; a clerk's stub knows the entries that were made with it, and they are all that the list has of its
-- clerk; and it knows the list as it was when stub and keeper last met, which is a beginning of the list.
use Rattle.std.specs.Prelude.{◌≡◌, ℕ, ◌≤◌, nat_eq, List, map, filter, length, count_by, sum_by, All}
use mathlib.Core.List.{IsPrefix}
use Rattle.atomic_table.specs.Seated.{TableId}
use Rattle.entry_cards.specs.declared.view.Card.{Card}

-- what a keeper shows: its name, which no other keeper has, how many clerks there are, how many of them were dealt
-- their stub, and all entries that were made since it was opened, each behind its clerk's number, in order
pub record Kept (E : Type 0) : Type 0 where
  pub name : TableId
  pub clerks : ℕ
  pub dealt : ℕ
  pub all : List (ℕ × E)

-- what a stub shows: its keeper's name, its clerk's number, the entries that were made with it, and all entries that
-- its keeper had when they last met, each in order
pub record Own (E : Type 0) : Type 0 where
  pub name : TableId
  pub clerk : ℕ
  pub made : List E
  pub met : List E

-- what a gathering shows: what its keeper did, and of each stub that was taken in, the last one first, what it knew
pub record Gathered (E : Type 0) : Type 0 where
  pub name : TableId
  pub clerks : ℕ
  pub dealt : ℕ
  pub all : List (ℕ × E)
  pub cards : List (Card E)

-- clerks are numbered from 1 to n
pub record IsClerk (n clerk : ℕ) : Type 0 where
  pub from_one : 1 ≤ clerk
  pub to_n : clerk ≤ n

module _ {E : Type 0} where
  -- all entries, without their clerks' numbers, in order
  abbrev pub entries_of : List (ℕ × E) → List E
  entries_of all = map (λ entry. entry.1) all

  -- the entries of one clerk, in order
  abbrev pub of_clerk : ℕ → List (ℕ × E) → List E
  of_clerk clerk all = map (λ entry. entry.1) (filter (λ entry. nat_eq entry.0 clerk) all)

  -- a card has all entries of its clerk
  abbrev pub HasAll : List (ℕ × E) → Card E → Type 0
  HasAll all card = card.made ≡ of_clerk card.clerk all

  -- what a card met is a beginning of all entries
  abbrev pub HasMet : List (ℕ × E) → Card E → Type 0
  HasMet all card = IsPrefix card.met (entries_of all)

  -- how many of the cards are a clerk's
  abbrev pub times : ℕ → List (Card E) → ℕ
  times clerk cards = count_by (λ card. nat_eq clerk card.clerk) cards

  -- the cards are those of the clerks from 1 to n, one of each, every card has all entries of its clerk, what it met
  -- begins all entries, and together they have all entries
  pub record AccountFor (n : ℕ) (all : List (ℕ × E)) (cards : List (Card E)) : Type 0 where
    pub agree : All (HasAll all) cards
    pub met : All (HasMet all) cards
    pub distinct : (clerk : ℕ) → IsClerk n clerk → times clerk cards ≡ 1
    pub known : All (λ entry. IsClerk n entry.0) all
    pub total : length all ≡ sum_by (λ card. length card.made) cards
