use Rattle.std.proofs.Common.{◌≢◌, ◌↔◌, ◌∙◌, ◌++◌, ap, sym, subst, ℕ, ◌<◌}
use Rattle.std.specs.List.{Contains, AllPairs}
use Rattle.cell_index.specs.Cells.{IsCellBetween, IsKeyBetween}
use Rattle.cell_index.specs.own.Ranges.{HasCell}
use Rattle.cell_index.proofs.Gathered.{all_exactly, all_once, found_beside}
use Rattle.cell_index.proofs.index.CellIndex.between.Goals as goal

pub returns-clause-found : goal.returns-clause-found
returns-clause-found g c = λ entries index key.
    let grid = c.args.self.now in let low = c.args.low in let high = c.args.high in let range = c.cells_toward-range.result in
    subst (λ items. Contains items key ↔ IsKeyBetween grid.area low high entries key)
    (sym (c.in_ok-gather_beside.ensures ∙ ap (λ keys. keys ++ found_beside grid.area range grid.beside) c.in_ok-keys.ensures))
    (all_exactly grid range entries index low high
    (subst (λ shown. (i j : ℕ) → i < 64 → j < 64 → HasCell range i j ↔ IsCellBetween shown.area low high i j)
    c.self.view_is c.cells_toward-range.ensures) key)

pub returns-clause-once : goal.returns-clause-once
returns-clause-once g c = λ entries index own.
    let grid = c.args.self.now in let range = c.cells_toward-range.result in
    subst (AllPairs (λ a b. a ≢ b))
    (sym (c.in_ok-gather_beside.ensures ∙ ap (λ keys. keys ++ found_beside grid.area range grid.beside) c.in_ok-keys.ensures))
    (all_once grid range entries index own)
