-- The words of the lists, sixteen apart: each is where its list's number says, and a step on one changes no other.
use Rattle.std.proofs.Common.{◌≡◌, refl, sym, ◌∙◌, ap, subst, arith, ℕ, zero, suc, ◌+◌, ◌-◌, ◌*◌}
use Rattle.std.proofs.Common.{◌%◌, ◌^◌, ◌<◌}
use Rattle.std.proofs.Common.{List, [], ◌∷◌, ◌++◌, length, length-set, set, drop, length-drop, lit<}
use Rattle.std.specs.Prelude.{slice_index, replicate}
use Rattle.std.proofs.lemmas.List.{get_or-drop, get_or-set_other}
use Rattle.std.proofs.lemmas.Grind.{get_or-set_at}
use Rattle.std.specs.List.{AllByRecursion}
use Rattle.std.proofs.lemmas.List.{set-get_or, length-replicate}
use lib.ListN.{get_elem?}
use mathlib.Core.Option.{some}
use Rattle.overlay_claims.specs.declared.view.View.{View}
use Rattle.overlay_claims.specs.Claims.{Claims, IsClaimed, KnowsAll, joined, spent_view, times, view_of, with_fewer_parts}
use Rattle.overlay_claims.specs.own.Spread.{word_of, words_of_lists, IsClaimedApart}
use Rattle.overlay_claims.proofs.Steps.{adds, begins, joins, knows_all, parts_off, read_keeps}

word_of_list : (n : ℕ) (words : List ℕ) (list : ℕ) → list < n
    → slice_index (words_of_lists n words) list ≡ slice_index words (word_of list)
word_of_list zero words list less = absurd (omega arith)
word_of_list (suc n) words zero less = refl
word_of_list (suc n) words (suc list) less =
    let there : 16 + word_of list ≡ word_of (suc list) = omega arith in
    word_of_list n (drop 16 words) list (omega arith) ∙ get_or-drop 16 words (word_of list) 0 ∙ ap (slice_index words) there

-- what is in front of a place that is set stays, and so does what is behind it
drop_set_front : (k : ℕ) (words : List ℕ) (i x : ℕ) → i < k → drop k (set words i x) ≡ drop k words
drop_set_front zero words i x less = absurd (omega arith)
drop_set_front (suc k) [] i x less = refl
drop_set_front (suc k) (w ∷ words) zero x less = refl
drop_set_front (suc k) (w ∷ words) (suc i) x less = drop_set_front k words i x (omega arith)

drop_set_behind : (k : ℕ) (words : List ℕ) (i j x : ℕ) → j ≡ k + i → drop k (set words j x) ≡ set (drop k words) i x
drop_set_behind zero words i j x is = ap (λ (m : ℕ). set words m x) (omega (arith, is))
drop_set_behind (suc k) [] i j x is = refl
drop_set_behind (suc k) (w ∷ words) i zero x is = absurd (omega (arith, is))
drop_set_behind (suc k) (w ∷ words) i (suc j) x is = drop_set_behind k words i j x (omega (arith, is))

set_word_of_list : (n : ℕ) (words : List ℕ) (list x : ℕ) → list < n → word_of list < length words
    → words_of_lists n (set words (word_of list) x) ≡ set (words_of_lists n words) list x
set_word_of_list zero words list x less short = absurd (omega arith)
set_word_of_list (suc n) words zero x less short =
    let here : slice_index (set words 8 x) 8 ≡ x = get_or-set_at words 8 8 x 0 refl short in
    let rest = drop_set_front 16 words 8 x (lit< tt) in
    ap (λ (w : ℕ). w ∷ words_of_lists n (drop 16 (set words 8 x))) here ∙ ap (λ ws. x ∷ words_of_lists n ws) rest
set_word_of_list (suc n) words (suc list) x less short =
    let place = word_of (suc list) in
    let behind : place ≡ 16 + word_of list = omega arith in
    let left : length (drop 16 words) ≡ length words - 16 = length-drop 16 words in
    let first : slice_index (set words place x) 8 ≡ slice_index words 8 =
    get_or-set_other words place 8 x 0 (λ (e : 8 ≡ place). omega (arith, e)) in
    let rest : drop 16 (set words place x) ≡ set (drop 16 words) (word_of list) x =
    drop_set_behind 16 words (word_of list) place x behind in
    let others = set_word_of_list n (drop 16 words) list x (omega arith) (omega (arith, left, behind, short)) in
    ap (λ (w : ℕ). w ∷ words_of_lists n (drop 16 (set words place x))) first
    ∙ ap (λ ws. slice_index words 8 ∷ words_of_lists n ws) rest ∙ ap (λ ws. slice_index words 8 ∷ ws) others

all_zero : (n i : ℕ) → slice_index (replicate n 0) i ≡ 0
all_zero zero i = refl
all_zero (suc n) zero = refl
all_zero (suc n) (suc i) = all_zero n i

drop_zeros : (k n m : ℕ) → m ≡ n - k → drop {A = ℕ} k (replicate n 0) ≡ replicate m 0
drop_zeros zero n m is = let same : n ≡ m = omega (arith, is) in ap (λ (j : ℕ). replicate {A = ℕ} j 0) same
drop_zeros (suc k) zero m is = let none : 0 ≡ m = omega (arith, is) in ap (λ (j : ℕ). replicate {A = ℕ} j 0) none
drop_zeros (suc k) (suc n) m is = drop_zeros k n m (omega (arith, is))

zero_words_of_lists : (n count : ℕ) → words_of_lists n (replicate count 0) ≡ replicate n 0
zero_words_of_lists zero count = refl
zero_words_of_lists (suc n) count =
    ap (λ (w : ℕ). w ∷ words_of_lists n (drop 16 (replicate count 0))) (all_zero count 8)
    ∙ ap (λ ws. 0 ∷ words_of_lists n ws) (drop_zeros 16 count (count - 16) refl)
    ∙ ap (λ ws. 0 ∷ ws) (zero_words_of_lists n (count - 16))

-- ---- what the rule of the lists' words says of all words
pub begins_apart : (lengths words : List ℕ) (count : ℕ) → count ≡ 16 * length lengths → words ≡ replicate count 0
    → AllByRecursion (λ n. n + length lengths < 2 ^ 64) lengths
    → IsClaimedApart lengths words (view_of lengths (length lengths) ∷ [])
begins_apart lengths words count sixteen zeros short = record {
  sixteen_each = ap length zeros ∙ length-replicate count 0 ∙ sixteen;
  claimed = begins lengths _ (ap (words_of_lists (length lengths)) zeros ∙ zero_words_of_lists (length lengths) count) short;
}

module _ (lengths words : List ℕ) (views : List View) (id : ℕ) (v : View) (kept : IsClaimedApart lengths words views)
    (at : get_elem? views id ≡ some v) where
  pub adds_apart : (list : ℕ) → times list v.notes < v.parts → list < length lengths
      → (w : View) × IsClaimedApart lengths (set words (word_of list) ((slice_index words (word_of list) + 1) % 2 ^ 64)) (set views id w)
      × Claims v list (slice_index words (word_of list)) w
  adds_apart list few here =
      let n = length lengths in
      let word = slice_index words (word_of list) in
      let inside : word_of list < length words = omega (arith, kept.sixteen_each, here) in
      let step = adds lengths (words_of_lists n words) views id list v kept.claimed at few here in
      let same : slice_index (words_of_lists n words) list ≡ word = word_of_list n words list here in
      let after : set (words_of_lists n words) list ((slice_index (words_of_lists n words) list + 1) % 2 ^ 64)
      ≡ words_of_lists n (set words (word_of list) ((word + 1) % 2 ^ 64)) =
      ap (λ (f : ℕ). set (words_of_lists n words) list ((f + 1) % 2 ^ 64)) same
      ∙ sym (set_word_of_list n words list ((word + 1) % 2 ^ 64) here inside) in (
        step.0,
        record {
          sixteen_each = length-set words (word_of list) ((word + 1) % 2 ^ 64) ∙ kept.sixteen_each;
          claimed = subst (λ l. IsClaimed lengths l (set views id step.0)) after step.1;
        },
        subst (λ (f : ℕ). Claims v list f step.0) same step.2,
      )

  pub reads_apart : IsClaimedApart lengths (set words 0 (slice_index words 0)) (set views id v)
  reads_apart = subst (λ l. IsClaimedApart lengths l (set views id v)) (sym (set-get_or words 0 0)) (record {
    sixteen_each = kept.sixteen_each;
    claimed = read_keeps lengths (words_of_lists (length lengths) words) views id v kept.claimed at;
  })

  pub knows_all_apart : KnowsAll v
  knows_all_apart = knows_all lengths (words_of_lists (length lengths) words) views id v kept.claimed at

  pub parts_off_apart : 1 < v.parts → v.notes ≡ []
      → IsClaimedApart lengths words (set views id (with_fewer_parts v) ++ view_of v.lengths 1 ∷ [])
  parts_off_apart more nothing = record {
    sixteen_each = kept.sixteen_each;
    claimed = parts_off lengths (words_of_lists (length lengths) words) views id v kept.claimed at more nothing;
  }

  pub joins_apart : (other : ℕ) (w : View) → (other ≡ id → ⊥)
      → get_elem? (set views id (joined v w)) other ≡ some w → 0 < v.parts
      → IsClaimedApart lengths words (set (set views id (joined v w)) other spent_view)
  joins_apart other w apart there some_parts = record {
    sixteen_each = kept.sixteen_each;
    claimed = joins lengths (words_of_lists (length lengths) words) views id v other w kept.claimed at apart there some_parts;
  }
