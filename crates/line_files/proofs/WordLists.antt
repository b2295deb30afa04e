-- The words of a line, by where its first space stands.
use Rattle.std.proofs.Common.{◌≡◌, ◌≢◌, ℕ, List, [], ◌∷◌, Bool, true, false, ◌==◌, cond, IsTrue, refl, ap, sym}
use Rattle.std.proofs.Common.{◌∙◌}
use Rattle.std.specs.List.{All, onto_first}
use Rattle.std.proofs.lemmas.Bool.{ne_eqb}
use Rattle.std.proofs.lemmas.List.Elements.{All-weaker}
use Rattle.std.proofs.lemmas.List.Splits.{slice_split_at, slice_split_none}
use Rattle.line_files.specs.ClerkFile.{words_of}
use Rattle.line_files.specs.own.Splitting.{IsSplitAt}

onto_first_some : (b : ℕ) (words : List (List ℕ)) → onto_first b words ≢ []
onto_first_some b [] e = absurd (cc)
onto_first_some b (word ∷ words) e = absurd (cc)

either_some : (t : Bool) (b : ℕ) (words others : List (List ℕ)) → cond t ([] ∷ others) (onto_first b words) ≢ []
either_some true b words others e = absurd (cc)
either_some false b words others e = onto_first_some b words e

-- each line has a word
pub some_word : (line : List ℕ) → words_of line ≢ []
some_word [] e = absurd (cc)
some_word (b ∷ bs) e = either_some (b == 32) b (words_of bs) (words_of bs) e

-- the first of more words
pub first_of_words : (line word behind : List ℕ) → IsSplitAt 32 line word behind → words_of line ≡ word ∷ words_of behind
first_of_words line word behind h = ap words_of h.whole
    ∙ slice_split_at (λ b. b == 32) word 32 behind (All-weaker (λ b. b ≢ 32) (λ b. (b == 32) ≡ false)
    (λ b. ne_eqb b 32) word h.lacks) refl

-- the last one
pub last_word : (line : List ℕ) → All (λ b. b ≢ 32) line → words_of line ≡ line ∷ []
last_word line h = slice_split_none (λ b. b == 32) line (All-weaker (λ b. b ≢ 32) (λ b. (b == 32) ≡ false)
    (λ b. ne_eqb b 32) line h)

-- ---- the words that are still to be read
pub is_left : (t : Bool) (left words : List (List ℕ)) → cond t [] words ≡ left → words ≢ []
    → (IsTrue t → left ≡ []) × (left ≡ [] → IsTrue t)
is_left true left words e some = (λ _. sym e, λ _. refl)
is_left false left words e some = (λ h. absurd (cc), λ h. absurd (some (e ∙ h)))

pub next_left : (t : Bool) (left words more : List (List ℕ)) (word : List ℕ) → cond t [] words ≡ left → t ≡ false
    → words ≡ word ∷ more
    → left ≡ word ∷ cond t [] more
next_left true left words more word e f h = absurd (cc)
next_left false left words more word e f h = sym e ∙ h

pub last_left : (t : Bool) (left words : List (List ℕ)) (word : List ℕ) → cond t [] words ≡ left → t ≡ false
    → words ≡ word ∷ []
    → left ≡ word ∷ []
last_left true left words word e f h = absurd (cc)
last_left false left words word e f h = sym e ∙ h
