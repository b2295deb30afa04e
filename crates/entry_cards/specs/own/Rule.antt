-- The rule that ties the views of a keeper's table. Public contracts do not speak of it.
use Rattle.std.specs.Prelude.{◌≡◌, ℕ, zero, suc, ◌-◌, ◌≤◌, true, false, List, [], ◌∷◌, ◌++◌, length, take}
use Rattle.std.specs.Prelude.{sum_by}
use Rattle.std.specs.List.{AllByRecursion}
use mathlib.Core.Option.{Option, none, some}
use lib.ListN.{get_elem?}
use Rattle.atomic_table.specs.Table.{Me}
use Rattle.atomic_table.specs.Seated.{TableId}
use Rattle.entry_cards.specs.declared.view.View.{View}
use Rattle.entry_cards.specs.declared.view.Card.{Card}
use Rattle.entry_cards.specs.Cards.{IsClerk, HasAll, HasMet, entries_of, times}

-- what a table of cards shows: its name, and how many clerks there are
pub record Tied : Type 0 where
  pub name : TableId
  pub clerks : ℕ

module _ {E : Type 0} where
  -- a clerk's card with no entry, which has met none; and such cards, of so many clerks, whose numbers follow a number
  abbrev pub blank_card : ℕ → Card E
  blank_card clerk = record { clerk = clerk; made = []; met = [] }

  abbrev pub blank_cards : ℕ → ℕ → List (Card E)
  blank_cards before zero = []
  blank_cards before (suc n) = blank_card (suc before) ∷ blank_cards (suc before) n

  -- all views together: how many cards of a clerk they have, and how many cards
  abbrev pub cards_of : ℕ → List (View E) → ℕ
  cards_of clerk views = sum_by (λ view. times clerk view.cards) views

  abbrev pub number_of_cards : List (View E) → ℕ
  number_of_cards views = sum_by (λ view. length view.cards) views

  -- The rule of the views, for so many clerks, where all entries are `all`:
  --   one view, the keeper's, has the right to keep; it knows all entries, and how many clerks there are;
  --   each card has all entries of its clerk;
  --   what each card met is a beginning of all entries;
  --   each clerk's card stands in one view, once, and there are no other cards;
  --   all entries are of clerks.
  pub record IsKept (clerks : ℕ) (views : List (View E)) : Type 0 where
    pub keeper : ℕ
    pub all : List (ℕ × E)
    pub knows : (seat : ℕ) (view : View E) → get_elem? views seat ≡ some view → view.keeps ≡ true
        → (seat ≡ keeper) × (view.all ≡ all) × (view.clerks ≡ clerks)
    pub own : (seat : ℕ) (view : View E) → get_elem? views seat ≡ some view → AllByRecursion (HasAll all) view.cards
    pub met : (seat : ℕ) (view : View E) → get_elem? views seat ≡ some view → AllByRecursion (HasMet all) view.cards
    pub each_once : (clerk : ℕ) → cards_of clerk views ≡ times clerk (blank_cards 0 clerks)
    pub whole : number_of_cards views ≡ clerks
    pub of_clerks : AllByRecursion (λ entry. IsClerk clerks entry.0) all

  -- the view of who keeps; that of a stub, with its clerk's card; and the view of
  -- a seat whose card another has taken in
  abbrev pub keeper_view : ℕ → List (ℕ × E) → List (Card E) → View E
  keeper_view clerks all cards = record { clerks = clerks; keeps = true; all = all; cards = cards }

  abbrev pub stub_view : Card E → View E
  stub_view card = record { clerks = 0; keeps = false; all = []; cards = card ∷ [] }

  abbrev pub spent_view : View E
  spent_view = record { clerks = 0; keeps = false; all = []; cards = [] }

  -- the first card, and the others
  abbrev pub first_card : List (Card E) → Card E
  first_card [] = blank_card 0
  first_card (card ∷ cards) = card

  abbrev pub other_cards : List (Card E) → List (Card E)
  other_cards [] = []
  other_cards (card ∷ cards) = cards

  -- the card of a stub's one view
  abbrev pub card_in : List (View E) → Card E
  card_in [] = blank_card 0
  card_in (view ∷ views) = first_card view.cards

  -- a view with another's cards before its own; without its first card; with a first card that has met what the view
  -- knows; and with an entry more, of the first card's clerk, on that card too, which has met it
  abbrev pub joined : View E → View E → View E
  joined v w = record { clerks = v.clerks; keeps = v.keeps; all = v.all; cards = w.cards ++ v.cards }

  abbrev pub without_first : View E → View E
  without_first v = record { clerks = v.clerks; keeps = v.keeps; all = v.all; cards = other_cards v.cards }

  abbrev pub first_of : View E → View E
  first_of v = stub_view (first_card v.cards)

  abbrev pub with_met : Card E → List (ℕ × E) → Card E
  with_met card all = record { clerk = card.clerk; made = card.made; met = entries_of all }

  abbrev pub with_all_met : View E → View E
  with_all_met v = record {
    clerks = v.clerks;
    keeps = v.keeps;
    all = v.all;
    cards = with_met (first_card v.cards) v.all ∷ other_cards v.cards;
  }

  abbrev pub with_entry : Card E → E → Card E
  with_entry card entry = record { clerk = card.clerk; made = card.made ++ entry ∷ []; met = card.met }

  abbrev pub with_first : List (ℕ × E) → Card E → E → List (ℕ × E)
  with_first all card entry = all ++ (card.clerk, entry) ∷ []

  abbrev pub with_more : View E → Option E → View E
  with_more v none = v
  with_more v (some entry) = record {
    clerks = v.clerks;
    keeps = v.keeps;
    all = with_first v.all (first_card v.cards) entry;
    cards = with_met (with_entry (first_card v.cards) entry) (with_first v.all (first_card v.cards) entry)
        ∷ other_cards v.cards;
  }

  -- what who keeps may know of the cards in its view: each has all entries of its clerk, what it met begins all
  -- entries, and it is the only one of its clerk; where they are as many as the clerks, there is one of each; and all
  -- entries are of clerks
  pub record AreKnown (clerks : ℕ) (all : List (ℕ × E)) (cards : List (Card E)) : Type 0 where
    pub own : AllByRecursion (HasAll all) cards
    pub met : AllByRecursion (HasMet all) cards
    pub at_most_once : (clerk : ℕ) → times clerk cards ≤ times clerk (blank_cards 0 clerks)
    pub once : length cards ≡ clerks → (clerk : ℕ) → times clerk cards ≡ times clerk (blank_cards 0 clerks)
    pub of_clerks : AllByRecursion (λ entry. IsClerk clerks entry.0) all

  abbrev pub KnowsCards : View E → Type 0
  KnowsCards v = v.keeps ≡ true → AreKnown v.clerks v.all v.cards

  -- what a keeper has: the table's name and number of clerks, all entries, and the
  -- cards of the clerks that were not dealt
  pub record Keeps (cards : Tied) (name : TableId) (me : Me (Unit {0}) (View E)) (clerks dealt : ℕ) : Type 0 where
    pub clerks_are : cards.clerks ≡ clerks
    pub own : name ≡ cards.name
    pub at_most : dealt ≤ clerks
    pub mark : me ≡ (keeper_view clerks me.0.all (blank_cards dealt (clerks - dealt)), [])

  -- the cards that were taken in stand before those of the clerks that were not dealt; and what a gathering has
  abbrev pub taken_in : ℕ → ℕ → List (Card E) → List (Card E)
  taken_in clerks dealt cards = take (length cards - (clerks - dealt)) cards

  pub record KeepsTaken (cards : Tied) (name : TableId) (me : Me (Unit {0}) (View E)) (clerks dealt : ℕ) : Type 0 where
    pub clerks_are : cards.clerks ≡ clerks
    pub own : name ≡ cards.name
    pub at_most : dealt ≤ clerks
    pub mark : me
        ≡ (keeper_view clerks me.0.all (taken_in clerks dealt me.0.cards ++ blank_cards dealt (clerks - dealt)), [])
