-- Each step keeps the rule of the words.
use Rattle.std.proofs.Common.{◌≡◌, ◌≢◌, inl, inr, ⊎_elim, refl, sym, ◌∙◌, ap, subst, arith, ℕ, zero, suc, ◌+◌}
use Rattle.std.proofs.Common.{◌-◌, ◌%◌, ◌^◌, ◌<◌, ◌≤◌, Bool, true, false, ◌&&◌, nat_eq, cond, List, [], ◌∷◌}
use Rattle.std.proofs.Common.{◌++◌, length, set, append_assoc, append-nil, length-set, length-append}
use Rattle.std.specs.Prelude.{slice_index, sum_by, replicate, IsPermutation}
use Rattle.std.specs.List.{AllByRecursion}
use Rattle.std.proofs.lemmas.Bool.{cases_eq, cases_lt, eqb-true, eq-eqb}
use Rattle.std.proofs.lemmas.List.{get_or-set_other}
use Rattle.std.proofs.lemmas.List.Sums.{sum_by-append}
use Rattle.std.proofs.lemmas.List.Sorted.{IsPermutation-refl, IsPermutation-sym, IsPermutation-trans}
use Rattle.std.proofs.lemmas.List.Sorted.{IsPermutation-cons, length_permutation}
use Rattle.std.proofs.lemmas.List.{length-replicate}
use Rattle.std.proofs.lemmas.Grind.{get_or-set_at}
use Rattle.std.proofs.Math.Nat.{mod-eq_of_lt}
use mathlib.Core.Option.{some, some-ne-none, some-injective}
use lib.ListN.{get_elem?}
use Rattle.std.proofs.lemmas.List.Concat.{flat_map-append}
use Rattle.atomic_table.proofs.Lists.{set_again, set_else}
use Rattle.overlay_claims.specs.declared.view.View.{View}
use Rattle.overlay_claims.specs.Claims.{claimed_places, all_places, places_of, notes_of, parts_of, times, IsFit}
use Rattle.overlay_claims.specs.Claims.{IsClaimed, view_of, with_fewer_parts, with_place, with_note, joined}
use Rattle.overlay_claims.specs.Claims.{spent_view, Claims, KnowsAll}
use Rattle.overlay_claims.proofs.Counts.{IsPermutation-cancel}
use Rattle.overlay_claims.proofs.Places.{none_claimed, one_more_claimed, no_more_claimed, all_claimed, few_claimed}
use Rattle.overlay_claims.proofs.Views.{all_at, all_set, all_index, sum_set, at_in, places_set, fewer_notes, whole_places}

abbrev same_place : ℕ × ℕ → ℕ × ℕ → Bool
same_place x y = nat_eq x.0 y.0 && nat_eq x.1 y.1

both_true : (a b : Bool) → (a && b) ≡ true → (a ≡ true) × (b ≡ true)
both_true true b e = (refl, e)
both_true false b e = absurd (cc)

place_same : (x y : ℕ × ℕ) → same_place x y ≡ true → x ≡ y
place_same x y e =
    let both = both_true (nat_eq x.0 y.0) (nat_eq x.1 y.1) e in
    let first = eqb-true x.0 y.0 both.0 in
    let second = eqb-true x.1 y.1 both.1 in
    λ i. (first i, second i)

place_itself : (x : ℕ × ℕ) → same_place x x ≡ true
place_itself x = ap (λ b. b && nat_eq x.1 x.1) (eq-eqb x.0 x.0 refl) ∙ eq-eqb x.1 x.1 refl

pub cancel : (zs xs ys : List (ℕ × ℕ)) → IsPermutation (zs ++ xs) (zs ++ ys) → IsPermutation xs ys
cancel = IsPermutation-cancel same_place place_same place_itself

-- ---- notes
times_more : (j list : ℕ) (notes : List ℕ) → times j (notes ++ list ∷ []) ≡ times j notes + cond (nat_eq j list) 1 0
times_more j list notes =
    let both : times j (notes ++ list ∷ []) ≡ times j notes + (0 + cond (nat_eq j list) 1 0) = sum_by-append _ notes (list ∷ []) in
    omega (arith, both)

pub times_more_here : (list : ℕ) (notes : List ℕ) → times list (notes ++ list ∷ []) ≡ times list notes + 1
times_more_here list notes = times_more list list notes ∙ ap (λ b. times list notes + cond b 1 0) (eq-eqb list list refl)

at_least : (b : Bool) (n : ℕ) → n ≤ n + cond b 1 0
at_least true n = omega arith
at_least false n = omega arith

pub times_grow : (j list : ℕ) (notes : List ℕ) → times j notes ≤ times j (notes ++ list ∷ [])
times_grow j list notes = let a = times_more j list notes in let b = at_least (nat_eq j list) (times j notes) in omega (arith, a, b)

other_false : (j list : ℕ) → j ≢ list → nat_eq j list ≡ false
other_false j list apart = either_way (nat_eq j list) refl
  where
    either_way : (b : Bool) → nat_eq j list ≡ b → b ≡ false
    either_way true e = absurd (apart (eqb-true j list e))
    either_way false e = refl

pub times_other : (j list : ℕ) (notes : List ℕ) → j ≢ list → times j (notes ++ list ∷ []) ≡ times j notes
times_other j list notes apart = times_more j list notes
    ∙ ap (λ b. times j notes + cond b 1 0) (other_false j list apart) ∙ omega arith

pub times_joined : (j : ℕ) (notes others : List ℕ) → times j (notes ++ others) ≡ times j notes + times j others
times_joined j notes others = sum_by-append _ notes others

-- ---- the start
pub begins : (lengths words : List ℕ) → words ≡ replicate (length lengths) 0
    → AllByRecursion (λ n. n + length lengths < 2 ^ 64) lengths
    → IsClaimed lengths words (view_of lengths (length lengths) ∷ [])
begins lengths words is short = record {
  a_word_each = ap length is ∙ length-replicate _ _;
  each_once = subst (IsPermutation []) (sym (ap (claimed_places 0 lengths) is ∙ none_claimed 0 lengths)) (IsPermutation-refl []);
  not_beyond = λ list. let none : slice_index words list ≡ 0 = ap (λ l. slice_index l list) is
      ∙ zeros (length lengths) list in omega (arith, none);
  at_the_end = λ list noted. absurd (omega arith);
  whole = omega arith;
  fit = (record { knows = λ h. refl; few_notes = λ list. omega arith; spent = λ h. refl }, tt);
  short = short;
}
  where
    zeros : (n i : ℕ) → slice_index (replicate n 0) i ≡ 0
    zeros zero i = refl
    zeros (suc n) zero = refl
    zeros (suc n) (suc i) = zeros n i

-- ---- an addition
-- less than the notes and the length that the list may have
may_add : (lengths words : List ℕ) (views : List View) (id list : ℕ) (v : View) → IsClaimed lengths words views
    → get_elem? views id ≡ some v
    → times list v.notes < v.parts → list < length lengths → (slice_index words list + 1) % 2 ^ 64 ≡ slice_index words list + 1
may_add lengths words views id list v kept at few here =
    let short = all_index (λ n. n + length lengths < 2 ^ 64) lengths list kept.short here in
    let notes = fewer_notes lengths list views id v kept.fit at few in
    let word = kept.not_beyond list in
    let whole = kept.whole in
    mod-eq_of_lt (omega (arith, short, notes, word, whole))

-- where only the places of a view change, the notes stay
notes_stay : (j : ℕ) (views : List View) (id : ℕ) (v w : View) → get_elem? views id ≡ some v → times j w.notes ≡ times j v.notes
    → notes_of j (set views id w) ≡ notes_of j views
notes_stay j views id v w at same = let e = sum_set (λ (u : View). times j u.notes) views id v w at in omega (arith, e, same)

parts_stay : (views : List View) (id : ℕ) (v w : View) → get_elem? views id ≡ some v → w.parts ≡ v.parts
    → parts_of (set views id w) ≡ parts_of views
parts_stay views id v w at same = let e = sum_set (λ (u : View). u.parts) views id v w at in omega (arith, e, same)

claims_place : (lengths words : List ℕ) (views : List View) (id list : ℕ) (v : View) → IsClaimed lengths words views
    → get_elem? views id ≡ some v
    → times list v.notes < v.parts → list < length lengths → slice_index words list < slice_index lengths list
    → IsClaimed lengths (set words list (slice_index words list + 1)) (set views id (with_place v list (slice_index words list)))
claims_place lengths words views id list v kept at few here less =
    let word = slice_index words list in
    let w = with_place v list word in
    let fit = all_at (IsFit lengths) views id v kept.fit at in
    let place : ℕ × ℕ = (list, word) in
    let in_words : list < length words = omega (arith, kept.a_word_each, here) in
    let others : (j : ℕ) → notes_of j (set views id w) ≡ notes_of j views = λ j. notes_stay j views id v w at refl in
    record {
      a_word_each = length-set words list (word + 1) ∙ kept.a_word_each;
      each_once =
          let moved = places_set views id v w at in
          let one_more = cancel v.places (place ∷ places_of views) (places_of (set views id w))
          (subst (λ l. IsPermutation l (v.places ++ places_of (set views id w))) (append_assoc v.places (place ∷ [])
          (places_of views)) moved) in
          let claimed = one_more_claimed 0 lengths words list kept.a_word_each less in
          let claimed' =
          subst (λ k. IsPermutation ((k, word) ∷ claimed_places 0 lengths words)
          (claimed_places 0 lengths (set words list (word + 1)))) (zero_plus list) claimed in
          IsPermutation-trans _ _ _ (IsPermutation-sym _ _ one_more)
          (IsPermutation-trans _ _ _ (IsPermutation-cons place _ _ kept.each_once) claimed');
      not_beyond = λ j. ⊎_elim
          (λ (e : j ≡ list).
          let new : slice_index (set words list (word + 1)) j ≡ word + 1 = get_or-set_at words list j (word + 1) 0 e in_words in
          let length_same : slice_index lengths j ≡ slice_index lengths list = ap (slice_index lengths) e in
          omega (arith, new, length_same, less))
          (λ (apart : j ≡ list → ⊥).
          let old : slice_index (set words list (word + 1)) j ≡ slice_index words j = get_or-set_other words list j (word + 1) 0 apart in
          let same = others j in
          let before = kept.not_beyond j in
          omega (arith, old, same, before))
          (cases_eq j list);
      at_the_end = λ j noted.
          let same = others j in
          let before = kept.at_the_end j (omega (arith, noted, same)) in
          ⊎_elim
          (λ (e : j ≡ list).
          let length_same : slice_index lengths j ≡ slice_index lengths list = ap (slice_index lengths) e in
          let word_same : slice_index words j ≡ slice_index words list = ap (slice_index words) e in
          absurd (omega (arith, length_same, word_same, before, less)))
          (λ (apart : j ≡ list → ⊥).
          let old : slice_index (set words list (word + 1)) j ≡ slice_index words j = get_or-set_other words list j (word + 1) 0 apart in
          omega (arith, old, before))
          (cases_eq j list);
      whole = parts_stay views id v w at refl ∙ kept.whole;
      fit = all_set (IsFit lengths) views id w kept.fit (record {
        knows = fit.knows;
        few_notes = fit.few_notes;
        spent = λ none. absurd (omega (arith, none, few));
      });
      short = kept.short;
    }
  where
    zero_plus : (n : ℕ) → 0 + n ≡ n
    zero_plus n = omega arith

notes_end : (lengths words : List ℕ) (views : List View) (id list : ℕ) (v : View) → IsClaimed lengths words views
    → get_elem? views id ≡ some v
    → times list v.notes < v.parts → list < length lengths → slice_index lengths list ≤ slice_index words list
    → IsClaimed lengths (set words list (slice_index words list + 1)) (set views id (with_note v list))
notes_end lengths words views id list v kept at few here more =
    let word = slice_index words list in
    let w = with_note v list in
    let fit = all_at (IsFit lengths) views id v kept.fit at in
    let in_words : list < length words = omega (arith, kept.a_word_each, here) in
    let noted_here : notes_of list (set views id w) ≡ notes_of list views + 1 =
    (let e = sum_set (λ (u : View). times list u.notes) views id v w at in let f = times_more_here list v.notes in omega (arith, e, f)) in
    let others : (j : ℕ) → (j ≡ list → ⊥) → notes_of j (set views id w) ≡ notes_of j views =
    λ j apart. notes_stay j views id v w at (times_other j list v.notes apart) in
    record {
      a_word_each = length-set words list (word + 1) ∙ kept.a_word_each;
      each_once =
          let same = cancel v.places (places_of views) (places_of (set views id w)) (places_set views id v w at) in
          subst (IsPermutation (places_of (set views id w))) (sym (no_more_claimed 0 lengths words list more))
          (IsPermutation-trans _ _ _ (IsPermutation-sym _ _ same) kept.each_once);
      not_beyond = λ j. ⊎_elim
          (λ (e : j ≡ list).
          let new : slice_index (set words list (word + 1)) j ≡ word + 1 = get_or-set_at words list j (word + 1) 0 e in_words in
          let length_same : slice_index lengths j ≡ slice_index lengths list = ap (slice_index lengths) e in
          let notes_same : notes_of j (set views id w) ≡ notes_of list (set views id w) = ap (λ k. notes_of k (set views id w)) e in
          let before = kept.not_beyond list in
          omega (arith, new, length_same, notes_same, noted_here, before))
          (λ (apart : j ≡ list → ⊥).
          let old : slice_index (set words list (word + 1)) j ≡ slice_index words j = get_or-set_other words list j (word + 1) 0 apart in
          let same = others j apart in
          let before = kept.not_beyond j in
          omega (arith, old, same, before))
          (cases_eq j list);
      at_the_end = λ j noted. ⊎_elim
          (λ (e : j ≡ list).
          let new : slice_index (set words list (word + 1)) j ≡ word + 1 = get_or-set_at words list j (word + 1) 0 e in_words in
          let length_same : slice_index lengths j ≡ slice_index lengths list = ap (slice_index lengths) e in
          omega (arith, new, length_same, more))
          (λ (apart : j ≡ list → ⊥).
          let old : slice_index (set words list (word + 1)) j ≡ slice_index words j = get_or-set_other words list j (word + 1) 0 apart in
          let same = others j apart in
          let before = kept.at_the_end j (omega (arith, noted, same)) in
          omega (arith, old, before))
          (cases_eq j list);
      whole = parts_stay views id v w at refl ∙ kept.whole;
      fit = all_set (IsFit lengths) views id w kept.fit (record {
        knows = fit.knows;
        few_notes = λ j. ⊎_elim
            (λ (e : j ≡ list). subst (λ k. times k (v.notes ++ list ∷ []) ≤ v.parts) (sym e) (let f =
            times_more_here list v.notes in omega (arith, f, few)))
            (λ (apart : j ≡ list → ⊥). let f = times_other j list v.notes apart in let g = fit.few_notes j in omega (arith, f, g))
            (cases_eq j list);
        spent = λ none. absurd (omega (arith, none, few));
      });
      short = kept.short;
    }

-- a view has no more places than the lists together
few_places : (lengths words : List ℕ) (views : List View) (id : ℕ) (v w : View) → get_elem? views id ≡ some v
    → IsClaimed lengths words (set views id w)
    → length w.places ≤ sum_by (λ n. n) lengths
few_places lengths words views id v w at kept =
    let moved = length_permutation _ _ (places_set views id v w at) in
    let new = length-append w.places (places_of views) in
    let old = length-append v.places (places_of (set views id w)) in
    let mine = places_in views id v at in
    let all = length_permutation _ _ kept.each_once in
    let few = few_claimed 0 lengths words in
    omega (arith, moved, new, old, mine, all, few)
  where
    places_in : (views : List View) (id : ℕ) (v : View) → get_elem? views id ≡ some v → length v.places ≤ length (places_of views)
    places_in [] id v at = absurd (some-ne-none v (sym at))
    places_in (x ∷ views) zero v at =
        let both = length-append x.places (places_of views) in
        let same : length x.places ≡ length v.places = ap (λ (u : View). length u.places) (some-injective x v at) in
        omega (arith, both, same)
    places_in (x ∷ views) (suc id) v at =
        let both = length-append x.places (places_of views) in
        let rest = places_in views id v at in
        omega (arith, both, rest)

pub adds : (lengths words : List ℕ) (views : List View) (id list : ℕ) (v : View) → IsClaimed lengths words views
    → get_elem? views id ≡ some v
    → times list v.notes < v.parts → list < length lengths
    → (w : View) × IsClaimed lengths (set words list ((slice_index words list + 1) % 2 ^ 64)) (set views id w)
    × Claims v list (slice_index words list) w
adds lengths words views id list v kept at few here =
    let word = slice_index words list in
    let no_wrap = may_add lengths words views id list v kept at few here in
    let fit = all_at (IsFit lengths) views id v kept.fit at in
    let known : v.lengths ≡ lengths = fit.knows (omega (arith, few)) in
    ⊎_elim
    (λ (less : word < slice_index lengths list).
    let after = claims_place lengths words views id list v kept at few here less in (
      with_place v list word,
      subst (λ n. IsClaimed lengths (set words list n) (set views id (with_place v list word))) (sym no_wrap) after,
      inl (
        subst (λ l. word < slice_index l list) (sym known) less,
        refl,
        subst (λ l. length (v.places ++ (list, word) ∷ []) ≤ sum_by (λ n. n) l) (sym known)
            (few_places lengths (set words list (word + 1)) views id v (with_place v list word) at after),
      ),
    ))
    (λ (more : slice_index lengths list ≤ word). (
      with_note v list,
      subst (λ n. IsClaimed lengths (set words list n) (set views id (with_note v list))) (sym no_wrap)
          (notes_end lengths words views id list v kept at few here more),
      inr (subst (λ l. slice_index l list ≤ word) (sym known) more, refl),
    ))
    (cases_lt word (slice_index lengths list))

-- ---- a part is cut off
pub parts_off : (lengths words : List ℕ) (views : List View) (id : ℕ) (v : View) → IsClaimed lengths words views
    → get_elem? views id ≡ some v
    → 1 < v.parts → v.notes ≡ [] → IsClaimed lengths words (set views id (with_fewer_parts v) ++ view_of v.lengths 1 ∷ [])
parts_off lengths words views id v kept at more nothing =
    let w = with_fewer_parts v in
    let new = view_of v.lengths 1 in
    let fit = all_at (IsFit lengths) views id v kept.fit at in
    let known : v.lengths ≡ lengths = fit.knows (omega (arith, more)) in
    let notes : (j : ℕ) → notes_of j (set views id w ++ new ∷ []) ≡ notes_of j views =
    (λ j. let e = sum_by-append (λ (u : View). times j u.notes) (set views id w) (new ∷ []) in let f =
    notes_stay j views id v w at refl in omega (arith, e, f)) in
    record {
      a_word_each = kept.a_word_each;
      each_once =
          let same = cancel v.places (places_of views) (places_of (set views id w)) (places_set views id v w at) in
          let whole : places_of (set views id w ++ new ∷ []) ≡ places_of (set views id w) =
          flat_map-append (λ (u : View). u.places) (set views id w) (new ∷ []) ∙ append-nil _ in
          subst (λ l. IsPermutation l (claimed_places 0 lengths words)) (sym whole)
          (IsPermutation-trans _ _ _ (IsPermutation-sym _ _ same) kept.each_once);
      not_beyond = λ j. let e = notes j in let before = kept.not_beyond j in omega (arith, e, before);
      at_the_end = λ j noted. let e = notes j in kept.at_the_end j (omega (arith, e, noted));
      whole =
          (let e = sum_by-append (λ (u : View). u.parts) (set views id w) (new ∷ []) in
          let f = sum_set (λ (u : View). u.parts) views id v w at in
          let all = kept.whole in
          omega (arith, e, f, all, more));
      fit = all_append (set views id w) (all_set (IsFit lengths) views id w kept.fit (record {
        knows = λ some. known;
        few_notes = λ j. subst (λ l. times j l ≤ v.parts - 1) (sym nothing) (omega arith);
        spent = λ none. absurd (omega (arith, none, more));
      })) (record { knows = λ some. known; few_notes = λ j. omega arith; spent = λ none. refl });
      short = kept.short;
    }
  where
    all_append : (us : List View) → AllByRecursion (IsFit lengths) us → IsFit lengths (view_of v.lengths 1)
        → AllByRecursion (IsFit lengths) (us ++ view_of v.lengths 1 ∷ [])
    all_append [] all one = (one, tt)
    all_append (u ∷ us) all one = (all.0, all_append us all.1 one)

-- ---- two marks are joined
pub joins : (lengths words : List ℕ) (views : List View) (id : ℕ) (v : View) (other : ℕ) (w : View)
    → IsClaimed lengths words views → get_elem? views id ≡ some v
    → (other ≡ id → ⊥) → get_elem? (set views id (joined v w)) other ≡ some w → 0 < v.parts
    → IsClaimed lengths words (set (set views id (joined v w)) other spent_view)
joins lengths words views id v other w kept at apart there some_parts =
    let both = joined v w in
    let first = set views id both in
    let fit = all_at (IsFit lengths) views id v kept.fit at in
    let fit' = all_at (IsFit lengths) views other w kept.fit (sym (set_else views id other both apart) ∙ there) in
    let known : v.lengths ≡ lengths = fit.knows some_parts in
    let notes : (j : ℕ) → notes_of j (set first other spent_view) ≡ notes_of j views =
    (λ j.
    let e = sum_set (λ (u : View). times j u.notes) views id v both at in
    let f = sum_set (λ (u : View). times j u.notes) first other w spent_view there in
    let t = times_joined j v.notes w.notes in
    omega (arith, e, f, t)) in
    record {
      a_word_each = kept.a_word_each;
      each_once =
          let one = cancel v.places (w.places ++ places_of views) (places_of first)
          (subst (λ l. IsPermutation l (v.places ++ places_of first))
          (append_assoc v.places w.places (places_of views)) (places_set views id v both at)) in
          let two = places_set first other w spent_view there in
          let same = cancel w.places (places_of views) (places_of (set first other spent_view)) (IsPermutation-trans _ _ _ one two) in
          IsPermutation-trans _ _ _ (IsPermutation-sym _ _ same) kept.each_once;
      not_beyond = λ j. let e = notes j in let before = kept.not_beyond j in omega (arith, e, before);
      at_the_end = λ j noted. let e = notes j in kept.at_the_end j (omega (arith, e, noted));
      whole =
          (let e = sum_set (λ (u : View). u.parts) views id v both at in
          let f = sum_set (λ (u : View). u.parts) first other w spent_view there in
          let all = kept.whole in
          omega (arith, e, f, all));
      fit = all_set (IsFit lengths) first other spent_view
          (all_set (IsFit lengths) views id both kept.fit (record {
            knows = λ some. known;
            few_notes = λ j. let t = times_joined j v.notes w.notes in let a = fit.few_notes j in let b =
                fit'.few_notes j in omega (arith, t, a, b);
            spent = λ none. absurd (omega (arith, none, some_parts));
          }))
          (record { knows = λ some. absurd (omega (arith, some)); few_notes = λ j. omega arith; spent = λ none. refl });
      short = kept.short;
    }

-- ---- all is known
pub knows_all : (lengths words : List ℕ) (views : List View) (id : ℕ) (v : View) → IsClaimed lengths words views
    → get_elem? views id ≡ some v → KnowsAll v
knows_all lengths words views id v kept at some_parts whole ended =
    let fit = all_at (IsFit lengths) views id v kept.fit at in
    let known : v.lengths ≡ lengths = fit.knows some_parts in
    let count : length v.lengths ≡ length lengths = ap length known in
    let mine = whole_places lengths views id v kept.fit at (let all = kept.whole in omega (arith, all, whole, count)) in
    let ends : (i : ℕ) → i < length lengths → slice_index lengths i ≤ slice_index words i =
    (λ i less. kept.at_the_end i (let some = ended i (omega (arith, less, count)) in let all =
    at_in (λ (u : View). times i u.notes) views id v at in omega (arith, some, all))) in
    subst (λ l. IsPermutation v.places (all_places 0 l)) (sym known)
    (subst (IsPermutation v.places) (all_claimed 0 lengths words kept.a_word_each ends)
    (subst (λ l. IsPermutation l (claimed_places 0 lengths words)) mine kept.each_once))

pub read_keeps : (lengths words : List ℕ) (views : List View) (id : ℕ) (v : View) → IsClaimed lengths words views
    → get_elem? views id ≡ some v
    → IsClaimed lengths words (set views id v)
read_keeps lengths words views id v kept at = subst (IsClaimed lengths words) (sym (set_again views id v at)) kept
