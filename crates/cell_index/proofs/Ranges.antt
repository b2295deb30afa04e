-- The cells of a range, one by one: each has a number of its own, and together they are the range's.
use Rattle.std.proofs.Common.{◌≡◌, ◌∙◌, sym, ap, ℕ, zero, suc, ◌+◌, ◌-◌, ◌*◌, ◌/◌, ◌%◌, ◌<◌, arith}
use Rattle.std.proofs.Math.Nat.{div-add-mod'}
use Rattle.std.proofs.lemmas.Nat.{div_below, mod_below, mul-add-lt, div-mul-add, mod-mul-add, same_from_place}
use Rattle.cell_index.specs.declared.axis.TheConstants.{ACROSS}
use Rattle.cell_index.specs.declared.range.CellRange.{CellRange}
use Rattle.cell_index.specs.own.Ranges.{HasCell, cell_count, column_at, row_at, number_at}

some_rows : (m n k : ℕ) → k < m * n → 0 < n
some_rows m zero k h = absurd (omega (arith, h))
some_rows m (suc n) k h = omega arith

module _ (range : CellRange) (n : ℕ) (below : n < cell_count range) where
  pub has_rows : 0 < range.rows.count
  has_rows = some_rows range.columns.count range.rows.count n below

  row_below : n % range.rows.count < range.rows.count
  row_below = mod_below n range.rows.count has_rows

  column_below : n / range.rows.count < range.columns.count
  column_below = div_below n range.rows.count range.columns.count has_rows below

  pub has_cell : HasCell range (column_at range n) (row_at range n)
  has_cell = record {
    from_column = omega arith;
    to_column = omega (arith, column_below);
    from_row = omega arith;
    to_row = omega (arith, row_below);
  }

  pub column_in_grid : column_at range n < ACROSS
  column_in_grid = omega (arith, column_below, range.columns.is_in_grid)

  pub row_in_grid : row_at range n < ACROSS
  row_in_grid = omega (arith, row_below, range.rows.is_in_grid)

-- two cells of one number are one
pub same_cell_number : (i j k l : ℕ) → j < 64 → l < 64 → 64 * i + j ≡ 64 * k + l → (i ≡ k) × (j ≡ l)
same_cell_number i j k l h b e = same_from_place i j k l 64 h b (omega (arith, e))

same_place : (m n r : ℕ) → m / r ≡ n / r → m % r ≡ n % r → m ≡ n
same_place m n r e f = sym (div-add-mod' m r) ∙ ap (λ q. q * r + m % r) e ∙ ap (λ q. n / r * r + q) f ∙ div-add-mod' n r

cancel : (a b c : ℕ) → a + b ≡ a + c → b ≡ c
cancel a b c e = omega (arith, e)

pub one_number : (range : CellRange) (m n : ℕ) → m < cell_count range → n < cell_count range → number_at range m
    ≡ number_at range n → m ≡ n
one_number range m n h b e =
    let same = same_cell_number (column_at range m) (row_at range m) (column_at range n) (row_at range n)
    (row_in_grid range m h) (row_in_grid range n b) e in
    same_place m n range.rows.count
    (cancel range.columns.first (m / range.rows.count) (n / range.rows.count) same.0)
    (cancel range.rows.first (m % range.rows.count) (n % range.rows.count) same.1)

-- each cell of the range is the n-th, for some n
pub nth_cell : (range : CellRange) (i j : ℕ) → HasCell range i j → (n : ℕ) × (n < cell_count range)
    × (column_at range n ≡ i) × (row_at range n ≡ j)
nth_cell range i j h =
    let a : ℕ = i - range.columns.first in
    let b : ℕ = j - range.rows.first in
    let r : ℕ = range.rows.count in
    let in_rows : b < r = omega (arith, h.from_row, h.to_row) in
    let in_columns : a < range.columns.count = omega (arith, h.from_column, h.to_column) in (
      a * r + b,
      omega (arith, mul-add-lt a r b range.columns.count in_columns in_rows),
      ap (λ q. range.columns.first + q) (div-mul-add a r b in_rows) ∙ omega (arith, h.from_column),
      ap (λ q. range.rows.first + q) (mod-mul-add a r b in_rows) ∙ omega (arith, h.from_row),
    )
