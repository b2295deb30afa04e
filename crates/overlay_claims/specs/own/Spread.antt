-- Which of many words are those of the lists: they stand sixteen apart.
use Rattle.std.specs.Prelude.{◌≡◌, ℕ, zero, suc, ◌+◌, ◌*◌, List, [], ◌∷◌, length, slice_index, drop}
use Rattle.overlay_claims.specs.declared.view.View.{View}
use Rattle.overlay_claims.specs.Claims.{IsClaimed}

-- the number of a list's word
abbrev pub word_of : ℕ → ℕ
word_of list = 16 * list + 8

-- the words of so many lists, in order
abbrev pub words_of_lists : ℕ → List ℕ → List ℕ
words_of_lists zero words = []
words_of_lists (suc n) words = slice_index words 8 ∷ words_of_lists n (drop 16 words)

-- there are sixteen words for each list, and those of the lists keep their rule
pub record IsClaimedApart (lengths words : List ℕ) (views : List View) : Type 0 where
  pub sixteen_each : length words ≡ 16 * length lengths
  pub claimed : IsClaimed lengths (words_of_lists (length lengths) words) views
