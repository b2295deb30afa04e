-- Each step keeps the rule of the views.
use Rattle.std.proofs.Common.{◌≡◌, ⊎_elim, refl, sym, ◌∙◌, ap, subst, arith, ℕ, zero, suc, ◌+◌, ◌<◌, ◌≤◌}
use Rattle.std.proofs.Common.{Bool, true, false, List, [], ◌∷◌, ◌++◌, length, set, length-append}
use Rattle.std.specs.Prelude.{sum_by}
use Rattle.std.specs.List.{AllByRecursion}
use Rattle.std.proofs.lemmas.List.Sums.{sum_by-cons, sum_by_push}
use mathlib.Core.Option.{some, some-ne-none, some-injective}
use lib.ListN.{get_elem?}
use Rattle.atomic_table.proofs.Lists.{at_set, at_snoc, set_else, set_again}
use Rattle.entry_cards.specs.declared.view.View.{View}
use Rattle.entry_cards.specs.declared.view.Card.{Card}
use Rattle.entry_cards.specs.Cards.{IsClerk, HasAll, HasMet, times}
use Rattle.entry_cards.specs.own.Rule.{blank_cards, IsKept, keeper_view, stub_view, spent_view, joined, without_first}
use Rattle.entry_cards.specs.own.Rule.{first_of, with_met, with_all_met, with_entry, with_more, AreKnown, KnowsCards}
use Rattle.entry_cards.proofs.Lists.{all_append, times-cons, times-append, times_at_most, times_first}
use Rattle.entry_cards.proofs.Lists.{length-blank_cards, at_most_one, one_is_clerk, of_clerk_more, others_have_all}
use Rattle.entry_cards.proofs.Lists.{all_met_more, begins_all}
use Rattle.entry_cards.proofs.Sums.{sum_set, at_in, two_in, all_in_one}

true_is_not_false : {P : Type 0} → false ≡ true → P
true_is_not_false same = absurd (cc)

blank_have_all : (E : Type 0) (before n : ℕ) → AllByRecursion (HasAll {E = E} []) (blank_cards before n)
blank_have_all E before zero = tt
blank_have_all E before (suc n) = (refl, blank_have_all E (suc before) n)

blank_have_met : (E : Type 0) (before n : ℕ) → AllByRecursion (HasMet {E = E} []) (blank_cards before n)
blank_have_met E before zero = tt
blank_have_met E before (suc n) = (([], refl), blank_have_met E (suc before) n)

alone : {X : Type 0} (x y : X) (i : ℕ) → get_elem? (x ∷ []) i ≡ some y → (i ≡ 0) × (x ≡ y)
alone x y zero at = (refl, some-injective x y at)
alone x y (suc i) at = absurd (some-ne-none y (sym at))

module _ {E : Type 0} where
  -- how many cards of a clerk a view has, and how many cards
  abbrev its : ℕ → View E → ℕ
  its k view = times k view.cards

  abbrev size : View E → ℕ
  size view = length view.cards

  abbrev of : ℕ → Bool → List (ℕ × E) → List (Card E) → View E
  of clerks keeps all cards = record { clerks = clerks; keeps = keeps; all = all; cards = cards }

  -- ---- an entry is added
  pub adds : (clerks : ℕ) (views : List (View E)) (id n : ℕ) (keeps : Bool) (xs : List (ℕ × E))
      (cards : List (Card E)) (entry : E)
      → IsKept clerks views
      → get_elem? views id ≡ some (of n keeps xs cards) → keeps ≡ true → 0 < length cards
      → IsKept clerks (set views id (with_more (of n keeps xs cards) (some entry)))
  adds clerks views id n keeps xs [] entry kept at right some_card = absurd (omega (arith, some_card))
  adds clerks views id n keeps xs (card ∷ cards) entry kept at right some_card =
      let v = of n keeps xs (card ∷ cards) in
      let w = with_more v (some entry) in
      let k : ℕ = card.clerk in
      let all : List (ℕ × E) = kept.all ++ (k, entry) ∷ [] in
      let mine = kept.knows id v at right in
      let own = kept.own id v at in
      let total = kept.each_once k in
      let one = at_most_one E k clerks in
      let once : sum_by (its k) views ≤ 1 = omega (arith, total, one) in
      let first : times k (card ∷ cards) ≡ 1 + times k cards = times_first card cards in
      let here = at_in (its k) views id v at in
      record {
        keeper = kept.keeper;
        all = all;
        knows = λ seat u there keeps'. ⊎_elim
            (λ same. (
              same.0 ∙ mine.0,
              ap (λ (x : View E). x.all) (sym same.1) ∙ ap (λ l. l ++ (k, entry) ∷ []) mine.1,
              ap (λ (x : View E). x.clerks) (sym same.1) ∙ mine.2,
            ))
            (λ other. absurd (other.0 ((kept.knows seat u other.1 keeps').0 ∙ sym mine.0)))
            (at_set views id seat w u there);
        own = λ seat u there. ⊎_elim
            (λ same. subst (λ (x : View E). AllByRecursion (HasAll all) x.cards) same.1 (
              ap (λ l. l ++ entry ∷ []) own.0 ∙ sym (of_clerk_more k kept.all entry),
              others_have_all k kept.all entry cards (omega (arith, once, first, here)) own.1,
            ))
            (λ other.
            let both = two_in (its k) views id seat v u spent_view refl at other.1 other.0 in
            others_have_all k kept.all entry u.cards (omega (arith, once, first, both)) (kept.own seat u other.1))
            (at_set views id seat w u there);
        met = λ seat u there. ⊎_elim
            (λ same. subst (λ (x : View E). AllByRecursion (HasMet all) x.cards) same.1 (
              begins_all all w.all (ap (λ l. l ++ (k, entry) ∷ []) mine.1),
              all_met_more kept.all (k, entry) cards (kept.met id v at).1,
            ))
            (λ other. all_met_more kept.all (k, entry) u.cards (kept.met seat u other.1))
            (at_set views id seat w u there);
        each_once = λ j.
            let changed = sum_set (its j) views id v w at in
            let old = times-cons j card cards in
            let new = times-cons j (with_met (with_entry card entry) w.all) cards in
            let total = kept.each_once j in
            omega (arith, changed, old, new, total);
        whole = let changed = sum_set size views id v w at in let total = kept.whole in omega (arith, changed, total);
        of_clerks = all_append (λ (e : ℕ × E). IsClerk clerks e.0) kept.all ((k, entry) ∷ []) kept.of_clerks
            ((let total = kept.each_once k in one_is_clerk E k clerks (omega (arith, total, first, here))), tt);
      }

  -- ---- the first card meets who keeps
  pub meets : (clerks : ℕ) (views : List (View E)) (id n : ℕ) (keeps : Bool) (xs : List (ℕ × E)) (cards : List (Card E))
      → IsKept clerks views
      → get_elem? views id ≡ some (of n keeps xs cards) → keeps ≡ true → 0 < length cards
      → IsKept clerks (set views id (with_all_met (of n keeps xs cards)))
  meets clerks views id n keeps xs [] kept at right some_card = absurd (omega (arith, some_card))
  meets clerks views id n keeps xs (card ∷ cards) kept at right some_card =
      let v = of n keeps xs (card ∷ cards) in
      let w = with_all_met v in
      let mine = kept.knows id v at right in
      record {
        keeper = kept.keeper;
        all = kept.all;
        knows = λ seat u there keeps'. ⊎_elim
            (λ same. (
              same.0 ∙ mine.0,
              ap (λ (x : View E). x.all) (sym same.1) ∙ mine.1,
              ap (λ (x : View E). x.clerks) (sym same.1) ∙ mine.2,
            ))
            (λ other. kept.knows seat u other.1 keeps')
            (at_set views id seat w u there);
        own = λ seat u there. ⊎_elim
            (λ same. subst (λ (x : View E). AllByRecursion (HasAll kept.all) x.cards) same.1 (kept.own id v at))
            (λ other. kept.own seat u other.1)
            (at_set views id seat w u there);
        met = λ seat u there. ⊎_elim
            (λ same. subst (λ (x : View E). AllByRecursion (HasMet kept.all) x.cards) same.1 (
              begins_all kept.all xs mine.1,
              (kept.met id v at).1,
            ))
            (λ other. kept.met seat u other.1)
            (at_set views id seat w u there);
        each_once = λ j.
            let changed = sum_set (its j) views id v w at in
            let old = times-cons j card cards in
            let new = times-cons j (with_met card xs) cards in
            let total = kept.each_once j in
            omega (arith, changed, old, new, total);
        whole = let changed = sum_set size views id v w at in let total = kept.whole in omega (arith, changed, total);
        of_clerks = kept.of_clerks;
      }

  -- ---- the first card is cut off
  pub cuts : (clerks : ℕ) (views : List (View E)) (id n : ℕ) (keeps : Bool) (xs : List (ℕ × E)) (cards : List (Card E))
      → IsKept clerks views
      → get_elem? views id ≡ some (of n keeps xs cards) → 0 < length cards
      → IsKept clerks (set views id (without_first (of n keeps xs cards)) ++ first_of (of n keeps xs cards) ∷ [])
  cuts clerks views id n keeps xs [] kept at some_card = absurd (omega (arith, some_card))
  cuts clerks views id n keeps xs (card ∷ cards) kept at some_card =
      let v = of n keeps xs (card ∷ cards) in
      let w = of n keeps xs cards in
      let stub = stub_view card in
      let own = kept.own id v at in
      let met = kept.met id v at in
      record {
        keeper = kept.keeper;
        all = kept.all;
        knows = λ seat u there keeps'. ⊎_elim
            (λ before. ⊎_elim
            (λ same.
            let mine = kept.knows id v at (ap (λ (x : View E). x.keeps) same.1 ∙ keeps') in (
              same.0 ∙ mine.0,
              ap (λ (x : View E). x.all) (sym same.1) ∙ mine.1,
              ap (λ (x : View E). x.clerks) (sym same.1) ∙ mine.2,
            ))
            (λ other. kept.knows seat u other.1 keeps')
            (at_set views id seat w u before))
            (λ last. true_is_not_false (ap (λ (x : View E). x.keeps) last ∙ keeps'))
            (at_snoc (set views id w) stub u seat there);
        own = λ seat u there. ⊎_elim
            (λ before. ⊎_elim
            (λ same. subst (λ (x : View E). AllByRecursion (HasAll kept.all) x.cards) same.1 own.1)
            (λ other. kept.own seat u other.1)
            (at_set views id seat w u before))
            (λ last. subst (λ (x : View E). AllByRecursion (HasAll kept.all) x.cards) last (own.0, tt))
            (at_snoc (set views id w) stub u seat there);
        met = λ seat u there. ⊎_elim
            (λ before. ⊎_elim
            (λ same. subst (λ (x : View E). AllByRecursion (HasMet kept.all) x.cards) same.1 met.1)
            (λ other. kept.met seat u other.1)
            (at_set views id seat w u before))
            (λ last. subst (λ (x : View E). AllByRecursion (HasMet kept.all) x.cards) last (met.0, tt))
            (at_snoc (set views id w) stub u seat there);
        each_once = λ j.
            let more = sum_by_push (its j) (set views id w) stub in
            let changed = sum_set (its j) views id v w at in
            let old = times-cons j card cards in
            let new = times-cons j card [] in
            let total = kept.each_once j in
            omega (arith, more, changed, old, new, total);
        whole =
            (let more = sum_by_push size (set views id w) stub in
            let changed = sum_set size views id v w at in
            let total = kept.whole in
            omega (arith, more, changed, total));
        of_clerks = kept.of_clerks;
      }

  -- ---- another's cards are taken in
  pub joins : (clerks : ℕ) (views : List (View E)) (id : ℕ) (v : View E) (other : ℕ) (w : View E) → IsKept clerks views
      → get_elem? views id ≡ some v
      → (other ≡ id → ⊥) → get_elem? (set views id (joined v w)) other ≡ some w
      → IsKept clerks (set (set views id (joined v w)) other spent_view)
  joins clerks views id v other w kept at apart there =
      let both = joined v w in
      let first = set views id both in
      let there' : get_elem? views other ≡ some w = sym (set_else views id other both apart) ∙ there in
      let own = all_append (HasAll kept.all) w.cards v.cards (kept.own other w there') (kept.own id v at) in
      let met = all_append (HasMet kept.all) w.cards v.cards (kept.met other w there') (kept.met id v at) in
      record {
        keeper = kept.keeper;
        all = kept.all;
        knows = λ seat u stands keeps. ⊎_elim
            (λ spent. true_is_not_false (ap (λ (x : View E). x.keeps) spent.1 ∙ keeps))
            (λ left. ⊎_elim
            (λ same.
            let mine = kept.knows id v at (ap (λ (x : View E). x.keeps) same.1 ∙ keeps) in (
              same.0 ∙ mine.0,
              ap (λ (x : View E). x.all) (sym same.1) ∙ mine.1,
              ap (λ (x : View E). x.clerks) (sym same.1) ∙ mine.2,
            ))
            (λ apart'. kept.knows seat u apart'.1 keeps)
            (at_set views id seat both u left.1))
            (at_set first other seat spent_view u stands);
        own = λ seat u stands. ⊎_elim
            (λ spent. subst (λ (x : View E). AllByRecursion (HasAll kept.all) x.cards) spent.1 tt)
            (λ left. ⊎_elim
            (λ same. subst (λ (x : View E). AllByRecursion (HasAll kept.all) x.cards) same.1 own)
            (λ apart'. kept.own seat u apart'.1)
            (at_set views id seat both u left.1))
            (at_set first other seat spent_view u stands);
        met = λ seat u stands. ⊎_elim
            (λ spent. subst (λ (x : View E). AllByRecursion (HasMet kept.all) x.cards) spent.1 tt)
            (λ left. ⊎_elim
            (λ same. subst (λ (x : View E). AllByRecursion (HasMet kept.all) x.cards) same.1 met)
            (λ apart'. kept.met seat u apart'.1)
            (at_set views id seat both u left.1))
            (at_set first other seat spent_view u stands);
        each_once = λ j.
            let taken = sum_set (its j) views id v both at in
            let spent = sum_set (its j) first other w spent_view there in
            let sum = times-append j w.cards v.cards in
            let total = kept.each_once j in
            omega (arith, taken, spent, sum, total);
        whole =
            (let taken = sum_set size views id v both at in
            let spent = sum_set size first other w spent_view there in
            let sum = length-append w.cards v.cards in
            let total = kept.whole in
            omega (arith, taken, spent, sum, total));
        of_clerks = kept.of_clerks;
      }

  -- ---- cards are compared
  pub knows_cards : (clerks : ℕ) (views : List (View E)) (id : ℕ) (v : View E) → IsKept clerks views → get_elem? views id ≡ some v
      → KnowsCards v
  knows_cards clerks views id v kept at keeps =
      let mine = kept.knows id v at keeps in
      subst (λ n. AreKnown n v.all v.cards) (sym mine.2) (subst (λ all. AreKnown clerks all v.cards) (sym mine.1) record {
        own = kept.own id v at;
        met = kept.met id v at;
        at_most_once = λ k. let total = kept.each_once k in let here = at_in (its k) views id v at in omega (arith, total, here);
        once = λ all_cards k.
            let count = kept.whole in
            all_in_one size (its k) (λ u. times_at_most k u.cards) views id v spent_view refl at (omega (arith, count, all_cards))
            ∙ kept.each_once k;
        of_clerks = kept.of_clerks;
      })

  pub stays : (clerks : ℕ) (views : List (View E)) (id : ℕ) (v : View E) → IsKept clerks views → get_elem? views id ≡ some v
      → IsKept clerks (set views id v)
  stays clerks views id v kept at = subst (IsKept clerks) (sym (set_again views id v at)) kept

-- ---- the start
pub begins : (E : Type 0) (clerks : ℕ) → IsKept {E = E} clerks (keeper_view clerks [] (blank_cards 0 clerks) ∷ [])
begins E clerks =
    let view = keeper_view {E = E} clerks [] (blank_cards 0 clerks) in
    record {
      keeper = 0;
      all = [];
      knows = λ seat u here keeps.
          let at = alone view u seat here in
          (at.0, ap (λ (x : View E). x.all) (sym at.1), ap (λ (x : View E). x.clerks) (sym at.1));
      own = λ seat u here.
          subst (λ (x : View E). AllByRecursion (HasAll []) x.cards) (alone view u seat here).1 (blank_have_all E 0 clerks);
      met = λ seat u here.
          subst (λ (x : View E). AllByRecursion (HasMet []) x.cards) (alone view u seat here).1 (blank_have_met E 0 clerks);
      each_once = λ k. let one = sum_by-cons (its k) view [] in omega (arith, one);
      whole = let one = sum_by-cons size view [] in let count = length-blank_cards E 0 clerks in omega (arith, one, count);
      of_clerks = tt;
    }
