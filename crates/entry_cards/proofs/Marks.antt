-- The mark of who keeps, after each step: the cards that it has stand before those of the clerks that were not dealt.
use Rattle.std.proofs.Common.{◌≡◌, sym, ◌∙◌, ap, subst, arith, ℕ, suc, ◌+◌, ◌-◌, ◌<◌, ◌≤◌, List, [], ◌∷◌}
use Rattle.std.proofs.Common.{◌++◌}
use mathlib.Core.Option.{some-injective}
use lib.ListN.{get_elem?}
use Rattle.atomic_table.specs.Table.{Me}
use Rattle.entry_cards.specs.declared.view.View.{View}
use Rattle.entry_cards.specs.declared.view.Card.{Card}
use Rattle.entry_cards.specs.Cards.{Gathered, IsClerk}
use Rattle.entry_cards.specs.own.Rule.{blank_cards, taken_in, keeper_view, stub_view, joined, without_first, other_cards, AreKnown}
use Rattle.entry_cards.proofs.Known.{taken_in_front, one_stub}

-- a list of one view, told twice
pub one_view : {V : Type 0} (views : List V) (v w : V) → views ≡ v ∷ [] → views ≡ w ∷ [] → v ≡ w
one_view views v w first second = some-injective v w (ap (λ l. get_elem? l 0) (sym first ∙ second))

module _ {E : Type 0} where
  -- a mark with these cards before those of the clerks that were not dealt
  abbrev pub IsMark : ℕ → ℕ → List (Card E) → Me (Unit {0}) (View E) → Type 0
  IsMark clerks dealt cards me = me ≡ (keeper_view clerks me.0.all (cards ++ blank_cards dealt (clerks - dealt)), [])

  settled : (clerks : ℕ) (all : List (ℕ × E)) (cards : List (Card E)) (me : Me (Unit {0}) (View E))
      → me ≡ (keeper_view clerks all cards, [])
      → me ≡ (keeper_view clerks me.0.all cards, [])
  settled clerks all cards me is = is ∙ ap (λ l. (keeper_view clerks l cards, [])) (sym (ap (λ m. m.0.all) is))

  next_blank : (before n m : ℕ) → n ≡ suc m → other_cards (blank_cards {E = E} before n) ≡ blank_cards (before + 1) m
  next_blank before n m more = ap (λ k. other_cards (blank_cards before k)) more ∙ ap (λ k. blank_cards k m) (omega arith)

  pub deals : (clerks dealt : ℕ) (me new : Me (Unit {0}) (View E)) → dealt < clerks → IsMark clerks dealt [] me
      → new ≡ (without_first me.0, me.1)
      → IsMark clerks (dealt + 1) [] new
  deals clerks dealt me new more is cut =
      let next = next_blank dealt (clerks - dealt) (clerks - (dealt + 1)) (omega (arith, more)) in
      let left = ap (λ cards. (keeper_view clerks me.0.all cards, [])) next in
      settled clerks me.0.all _ new (cut ∙ ap (λ m. (without_first m.0, m.1)) is ∙ left)

  pub takes : (clerks dealt : ℕ) (cards : List (Card E)) (card : Card E) (me new : Me (Unit {0}) (View E)) (other : View E)
      → IsMark clerks dealt cards me
      → other ≡ stub_view card → new ≡ (joined me.0 other, me.1) → IsMark clerks dealt (card ∷ cards) new
  takes clerks dealt cards card me new other is stub join =
      let all_cards : List (Card E) = cards ++ blank_cards dealt (clerks - dealt) in
      let taken = ap (λ v. (joined (keeper_view clerks me.0.all all_cards) v, [])) stub in
      settled clerks me.0.all _ new (join ∙ ap (λ m. (joined m.0 other, m.1)) is ∙ taken)

  pub taken_of : (clerks dealt : ℕ) (cards : List (Card E)) (me : Me (Unit {0}) (View E)) → IsMark clerks dealt cards me
      → taken_in clerks dealt me.0.cards ≡ cards
  taken_of clerks dealt cards me is = ap (λ m. taken_in clerks dealt m.0.cards) is ∙ taken_in_front clerks dealt cards

  pub keeps_taken : (clerks dealt : ℕ) (cards : List (Card E)) (me : Me (Unit {0}) (View E)) → IsMark clerks dealt cards me
      → IsMark clerks dealt (taken_in clerks dealt me.0.cards) me
  keeps_taken clerks dealt cards me is = subst (λ l. IsMark clerks dealt l me) (sym (taken_of clerks dealt cards me is)) is

  pub known_of : (clerks dealt : ℕ) (cards : List (Card E)) (me : Me (Unit {0}) (View E)) → IsMark clerks dealt cards me
      → AreKnown me.0.clerks me.0.all me.0.cards
      → AreKnown clerks me.0.all (cards ++ blank_cards dealt (clerks - dealt))
  known_of clerks dealt cards me is known = subst (λ m. AreKnown m.0.clerks m.0.all m.0.cards) is known

  -- a stub that is taken in is of a clerk to whom one was dealt
  pub is_dealt : (clerks dealt : ℕ) (card : Card E) (me new : Me (Unit {0}) (View E)) (other : View E) → dealt ≤ clerks
      → IsMark clerks dealt [] me → other ≡ stub_view card → new ≡ (joined me.0 other, me.1)
      → AreKnown new.0.clerks new.0.all new.0.cards → IsClerk dealt card.clerk
  is_dealt clerks dealt card me new other few is stub join known =
      let mark = takes clerks dealt [] card me new other is stub join in
      (one_stub clerks dealt new.0.all card few (known_of clerks dealt (card ∷ []) new mark known)).1

  -- a gathering with one card more
  abbrev pub with_card : Card E → Gathered E → Gathered E
  with_card card v = record { name = v.name; clerks = v.clerks; dealt = v.dealt; all = v.all; cards = card ∷ v.cards }

  pub shows_card : (v : Gathered E) (card : Card E) (all : List (ℕ × E)) (cards : List (Card E)) → all ≡ v.all
      → cards ≡ card ∷ v.cards
      → ◌≡◌ {A = Gathered E} record {
        name = v.name;
        clerks = v.clerks;
        dealt = v.dealt;
        all = all;
        cards =
            cards;
      } (with_card card v)
  shows_card v card all cards same taken i = record { name = v.name; clerks = v.clerks; dealt = v.dealt; all = same i; cards = taken i }
