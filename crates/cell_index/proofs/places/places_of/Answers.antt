use Rattle.std.proofs.Common.{◌≡◌, ◌∙◌, ℕ, ◌<◌, ◌≤◌, true, false, nat_lt, arith}
use Rattle.std.proofs.lemmas.Bool.Decides.{nat_tests}
use Rattle.cell_index.proofs.KeptPlaces.{cells_hold, wide_holds}
use Rattle.cell_index.proofs.places.places_of.Goals as goal

above : (n m k : ℕ) → n < m → m ≡ k → nat_lt n k ≡ true
above n m k h e = grind (arith, nat_tests)

not_above : (n m k : ℕ) → m ≤ n → m ≡ k → nat_lt n k ≡ false
not_above n m k h e = grind (arith, nat_tests)

pub returns-then-count-gt-MOST_CELLS : goal.returns-then-count-gt-MOST_CELLS
returns-then-count-gt-MOST_CELLS c =
    wide_holds c.args.area c.args.bounds (above _ _ _ c.if-count-gt-MOST_CELLS.true (c.count.ensures ∙ c.cells_of-range.ensures.count))

pub returns-else-count-gt-MOST_CELLS : goal.returns-else-count-gt-MOST_CELLS
returns-else-count-gt-MOST_CELLS c =
    cells_hold c.args.area c.args.bounds c.cells_of-range.result c.cells_of-range.ensures.cells
    (not_above _ _ _ c.if-count-gt-MOST_CELLS.false (c.count.ensures ∙ c.cells_of-range.ensures.count))
