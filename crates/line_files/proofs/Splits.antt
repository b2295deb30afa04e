-- The first line of a text, by where its first line feed stands.
use Rattle.std.proofs.Common.{◌≡◌, ◌≢◌, ℕ, List, [], ◌∷◌, ◌++◌, Bool, true, false, ◌==◌, ◌&&◌, cond, refl}
use Rattle.std.proofs.Common.{ap, ◌∙◌, ◌<◌, length, arith}
use Rattle.std.proofs.lemmas.Bool.{ne_eqb, and_right, cond-false}
use Rattle.std.proofs.lemmas.List.Elements.{recursion_from_All}
use Rattle.std.specs.List.{All, AllByRecursion}
use Rattle.line_files.specs.TextLines.{begins_with, with_first, lines_of}
use Rattle.line_files.specs.own.Splitting.{IsSplitAt, without_return}

-- a byte that is no line feed, and that no line feed follows, is of the first line
ordinary : (b : ℕ) (bs : List ℕ) → b ≢ 10 → begins_with 10 bs ≡ false → lines_of (b ∷ bs) ≡ with_first b (lines_of bs)
ordinary b bs ne e =
    cond-false (b == 10) _ _ (ne_eqb b 10 ne) ∙ cond-false ((b == 13) && begins_with 10 bs) _ _ (and_right (b == 13) _ e)

by_return : (t : Bool) (b : ℕ) (rest : List ℕ)
    → cond (t && true) ([] ∷ lines_of rest) ((b ∷ []) ∷ lines_of rest) ≡ cond t [] (b ∷ []) ∷ lines_of rest
by_return true b rest = refl
by_return false b rest = refl

-- the byte before a line feed
before_feed : (b : ℕ) (rest : List ℕ) → b ≢ 10 → lines_of (b ∷ 10 ∷ rest) ≡ without_return (b ∷ []) ∷ lines_of rest
before_feed b rest ne = cond-false (b == 10) _ _ (ne_eqb b 10 ne) ∙ by_return (b == 13) b rest

-- a line with its line feed
with_feed : (line rest : List ℕ) → AllByRecursion (λ b. b ≢ 10) line → lines_of (line ++ 10 ∷ rest)
    ≡ without_return line ∷ lines_of rest
with_feed [] rest h = refl
with_feed (b ∷ []) rest h = before_feed b rest h.0
with_feed (b ∷ c ∷ bs) rest h = ordinary b (c ∷ bs ++ 10 ∷ rest) h.0 (ne_eqb c 10 h.1.0)
    ∙ ap (with_first b) (with_feed (c ∷ bs) rest h.1)

-- the last line, without
without_feed : (b : ℕ) (bs : List ℕ) → AllByRecursion (λ b. b ≢ 10) (b ∷ bs) → lines_of (b ∷ bs) ≡ (b ∷ bs) ∷ []
without_feed b [] h = ordinary b [] h.0 refl
without_feed b (c ∷ bs) h = ordinary b (c ∷ bs) h.0 (ne_eqb c 10 h.1.0) ∙ ap (with_first b) (without_feed c bs h.1)

-- an empty text has no line
pub no_line : (text : List ℕ) → length text ≡ 0 → lines_of text ≡ []
no_line [] e = refl
no_line (b ∷ bs) e = absurd (omega (arith, e))

-- ---- a carriage return at a line's end
pub ends_with_return : (front : List ℕ) → without_return (front ++ 13 ∷ []) ≡ front
ends_with_return [] = refl
ends_with_return (b ∷ []) = refl
ends_with_return (b ∷ c ∷ bs) = ap (λ t. b ∷ t) (ends_with_return (c ∷ bs))

pub ends_otherwise : (front : List ℕ) (last : ℕ) → last ≢ 13 → without_return (front ++ last ∷ []) ≡ front ++ last ∷ []
ends_otherwise [] last ne = cond-false (last == 13) _ _ (ne_eqb last 13 ne)
ends_otherwise (b ∷ []) last ne = ap (λ t. b ∷ t) (ends_otherwise [] last ne)
ends_otherwise (b ∷ c ∷ bs) last ne = ap (λ t. b ∷ t) (ends_otherwise (c ∷ bs) last ne)

-- ---- what the code answers
pub first_of_more : (text line rest : List ℕ) → IsSplitAt 10 text line rest → lines_of text ≡ without_return line ∷ lines_of rest
first_of_more text line rest h = ap lines_of h.whole ∙ with_feed line rest (recursion_from_All (λ b. b ≢ 10) line h.lacks)

pub last_line : (text : List ℕ) → 0 < length text → All (λ b. b ≢ 10) text → lines_of text ≡ text ∷ []
last_line [] some h = absurd (omega arith)
last_line (b ∷ bs) some h = without_feed b bs (recursion_from_All (λ b. b ≢ 10) (b ∷ bs) h)
