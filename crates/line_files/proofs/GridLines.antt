-- The lines of a text, behind the one that names its grid.
use Rattle.std.proofs.Common.{◌≡◌, ℕ, ◌+◌, List, [], ◌∷◌, cond, sym, subst}
use Rattle.line_files.specs.TextLines.{lines_of, AreSaid, IsFirstBad, FirstSays}
use Rattle.line_files.specs.Grids.{grid_of, behind_grid}
use Rattle.line_files.specs.declared.grids.Grid.{Grid}
use Rattle.line_files.specs.declared.grids.Grid.TheVariants.{Millimetres, Centimetres}
use Rattle.line_files.specs.own.BehindGrid.{is_named, IsBehindGrid}
use Rattle.line_files.proofs.Said.{IsGrammar, AreRead, none_read, skipped_read}

-- ---- where reading begins
pub read_behind : {X : Type 0} (Says : ℕ → List ℕ → X → Type 0) → IsGrammar Says → (grid : Grid) (text rest : List ℕ) (number : ℕ)
    → IsBehindGrid text grid rest → number ≡ cond (is_named grid) 1 0
    → AreRead Says (behind_grid (lines_of text)) (number + 1) (lines_of rest) []
read_behind Says grammar Millimetres text rest number h e =
    subst (λ n. AreRead Says (behind_grid (lines_of text)) (n + 1) (lines_of rest) []) (sym e)
    (subst (λ all. AreRead Says all 1 (lines_of rest) []) (sym h.are_lines) (none_read Says (lines_of rest)))
read_behind Says grammar Centimetres text rest number h e =
    subst (λ n. AreRead Says (behind_grid (lines_of text)) (n + 1) (lines_of rest) []) (sym e)
    (subst (λ all. AreRead Says all 2 (lines_of rest) []) (sym h.are_lines)
    (skipped_read Says grammar ([] ∷ lines_of rest) 1 [] (lines_of rest) [] (none_read Says ([] ∷ lines_of rest)) tt))

-- ---- the grid that was found is the text's
module _ {X : Type 0} (Says : Grid → ℕ → List ℕ → X → Type 0) (grid : Grid) (text rest : List ℕ)
    (h : IsBehindGrid text grid rest) where
  pub said_on_it : (list : List X) → AreSaid (Says grid) 1 (behind_grid (lines_of text)) list
      → AreSaid (Says (grid_of (lines_of text))) 1 (behind_grid (lines_of text)) list
  said_on_it list k = subst (λ grid. AreSaid (Says grid) 1 (behind_grid (lines_of text)) list) h.is_grid k

  pub said_there : (list : List X) → AreSaid (Says (grid_of (lines_of text))) 1 (behind_grid (lines_of text)) list
      → AreSaid (Says grid) 1 (behind_grid (lines_of text)) list
  said_there list k = subst (λ grid. AreSaid (Says grid) 1 (behind_grid (lines_of text)) list) (sym h.is_grid) k

  pub bad_on_it : (n : ℕ) → IsFirstBad (Says grid) 1 (behind_grid (lines_of text)) n
      → IsFirstBad (Says (grid_of (lines_of text))) 1 (behind_grid (lines_of text)) n
  bad_on_it n k = subst (λ grid. IsFirstBad (Says grid) 1 (behind_grid (lines_of text)) n) h.is_grid k

  pub bad_there : (n : ℕ) → IsFirstBad (Says (grid_of (lines_of text))) 1 (behind_grid (lines_of text)) n
      → IsFirstBad (Says grid) 1 (behind_grid (lines_of text)) n
  bad_there n k = subst (λ grid. IsFirstBad (Says grid) 1 (behind_grid (lines_of text)) n) (sym h.is_grid) k

  pub first_on_it : FirstSays (Says grid) 1 (behind_grid (lines_of text))
      → FirstSays (Says (grid_of (lines_of text))) 1 (behind_grid (lines_of text))
  first_on_it k = subst (λ grid. FirstSays (Says grid) 1 (behind_grid (lines_of text))) h.is_grid k
