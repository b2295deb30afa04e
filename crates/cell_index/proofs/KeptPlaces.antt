-- The places of an entry, one by one: each has a number of its own, and they are the cells that the entry is kept in.
use Rattle.std.proofs.Common.{◌≡◌, ◌↔◌, ◌∙◌, sym, ap, subst, ℕ, ◌+◌, ◌*◌, ◌/◌, ◌%◌, ◌<◌, ◌≤◌}
use Rattle.std.proofs.Common.{◌==◌, arith, Bool, true, false, not, ◌&&◌, cond, ⊎_elim}
use Rattle.std.specs.Prelude.{IsTrue}
use Rattle.std.proofs.Math.Nat.{div-add-mod'}
use Rattle.std.proofs.lemmas.Bool.{cases_lt, false≢true}
use Rattle.std.proofs.lemmas.Bool.Decides.{nat_tests}
use Rattle.std.proofs.lemmas.Nat.{div_below, mod_below, div-mul-add, mod-mul-add}
use Rattle.geo_exact.specs.declared.bounds.Bounds.{Bounds}
use Rattle.cell_index.specs.declared.range.CellRange.{CellRange}
use Rattle.cell_index.specs.declared.places.Places.{Places}
use Rattle.cell_index.specs.declared.places.Places.TheVariants.{Cells, Wide}
use Rattle.cell_index.specs.Cells.{stands_in, is_wide}
use Rattle.cell_index.specs.own.Ranges.{HasCell, cell_count, column_at, row_at, number_at, is_kept_in, place_count, place_at, HasPlace}
use Rattle.cell_index.proofs.Ranges.{nth_cell, has_cell, row_in_grid, column_in_grid, same_cell_number, one_number}

pub one_place : (places : Places) (m n : ℕ) → m < place_count places → n < place_count places → place_at places m
    ≡ place_at places n → m ≡ n
one_place (Cells range) m n b c e = one_number range m n b c e
one_place Wide m n b c e = omega (arith, b, c)

pub by_lt : {P : Type 0} (a b : ℕ) → (a < b → P) → (b ≤ a → P) → P
by_lt a b when_less when_not = ⊎_elim when_less when_not (cases_lt a b)

-- the range's cells are those where the box stands
abbrev pub Covers : CellRange → Bounds → Bounds → Type 0
Covers range area box = (i j : ℕ) → i < 64 → j < 64 → HasCell range i j ↔ IsTrue (stands_in area i j box)

-- ---- the cells of the grid by number
pub whole : (k : ℕ) → 64 * (k / 64) + k % 64 ≡ k
whole k = omega (arith, div-add-mod' k 64)

column_of : (i j : ℕ) → j < 64 → (64 * i + j) / 64 ≡ i
column_of i j h = ap (λ n. n / 64) (swapped i j) ∙ div-mul-add i 64 j h
  where
    swapped : (i j : ℕ) → 64 * i + j ≡ i * 64 + j
    swapped i j = omega arith

row_of : (i j : ℕ) → j < 64 → (64 * i + j) % 64 ≡ j
row_of i j h = ap (λ n. n % 64) (swapped i j) ∙ mod-mul-add i 64 j h
  where
    swapped : (i j : ℕ) → 64 * i + j ≡ i * 64 + j
    swapped i j = omega arith

is_no_wide_cell : (k : ℕ) → k < 4096 → (k == 4096) ≡ false
is_no_wide_cell k h = grind (arith, nat_tests)

pub kept_in_grid : (area box : Bounds) (k : ℕ) → k < 4096 → is_kept_in area k box
    ≡ (not (is_wide area box) && stands_in area (k / 64) (k % 64) box)
kept_in_grid area box k h =
    ap (λ b. cond b (is_wide area box) (not (is_wide area box) && stands_in area (k / 64) (k % 64) box)) (is_no_wide_cell k h)

pub kept_in_cell : (area box : Bounds) (i j : ℕ) → i < 64 → j < 64
    → is_kept_in area (64 * i + j) box ≡ (not (is_wide area box) && stands_in area i j box)
kept_in_cell area box i j h k =
    kept_in_grid area box (64 * i + j) (omega (arith, h, k))
    ∙ ap (λ a. not (is_wide area box) && stands_in area a ((64 * i + j) % 64) box) (column_of i j k)
    ∙ ap (λ b. not (is_wide area box) && stands_in area i b box) (row_of i j k)

pub place_inside : (places : Places) (n : ℕ) → n < place_count places → place_at places n ≤ 4096
place_inside (Cells range) n b = omega (arith, column_in_grid range n b, row_in_grid range n b)
place_inside Wide n b = omega arith

-- ---- the places are those where the entry is kept
narrow_kept : (w s : Bool) → w ≡ false → s ≡ true → (not w && s) ≡ true
narrow_kept true s e f = absurd (false≢true (sym e))
narrow_kept false s e f = f

stands_if_kept : (w s : Bool) → (not w && s) ≡ true → s ≡ true
stands_if_kept true s e = absurd (false≢true e)
stands_if_kept false s e = e

not_kept : (w s : Bool) → w ≡ true → (not w && s) ≡ true → ⊥
not_kept true s e f = false≢true f
not_kept false s e f = false≢true e

pub cells_hold : (area box : Bounds) (range : CellRange) → Covers range area box → is_wide area box ≡ false
    → (k : ℕ) → k ≤ 4096 → HasPlace (Cells range) k ↔ IsTrue (is_kept_in area k box)
cells_hold area box range covers narrow k inside = by_lt k 4096
    (λ in_grid. (
      λ place.
          let same = same_cell_number (column_at range place.0) (row_at range place.0) (k / 64) (k % 64)
          (row_in_grid range place.0 place.1) (low_row k)
          (place.2 ∙ sym (whole k)) in
          kept_in_grid area box k in_grid ∙ narrow_kept (is_wide area box) (stands_in area (k / 64) (k % 64) box) narrow
          ((covers (k / 64) (k % 64) (low_column k in_grid) (low_row k)).0
          (subst (HasCell range (k / 64)) same.1 (subst (λ a. HasCell range a (row_at range place.0)) same.0
          (has_cell range place.0 place.1)))),
      λ t.
          let n = nth_cell range (k / 64) (k % 64) ((covers (k / 64) (k % 64) (low_column k in_grid) (low_row k)).1
          (stands_if_kept (is_wide area box) (stands_in area (k / 64) (k % 64) box) (sym (kept_in_grid area box k in_grid) ∙ t))) in
          (n.0, n.1, ap (λ a. 64 * a + row_at range n.0) n.2 ∙ ap (λ b. 64 * (k / 64) + b) n.3 ∙ whole k),
    ))
    (λ behind.
    let last : k ≡ 4096 = omega (arith, inside, behind) in (
      λ place. absurd (in_grid_only place.0 place.1 (place.2 ∙ last)),
      λ t. absurd (false≢true (sym narrow ∙ subst (λ n. is_kept_in area n box ≡ true) last t)),
    ))
  where
    low_row : (k : ℕ) → k % 64 < 64
    low_row k = mod_below k 64 (omega arith)

    low_column : (k : ℕ) → k < 4096 → k / 64 < 64
    low_column k h = div_below k 64 64 (omega arith) (omega (arith, h))

    in_grid_only : (n : ℕ) → n < cell_count range → number_at range n ≡ 4096 → ⊥
    in_grid_only n b e = omega (arith, row_in_grid range n b, column_in_grid range n b, e)

pub wide_holds : (area box : Bounds) → is_wide area box ≡ true → (k : ℕ) → k ≤ 4096 → HasPlace Wide k
    ↔ IsTrue (is_kept_in area k box)
wide_holds area box w k inside = (
  λ place. subst (λ n. is_kept_in area n box ≡ true) place.2 w,
  λ t. by_lt k 4096
      (λ in_grid. absurd (not_kept (is_wide area box) (stands_in area (k / 64) (k % 64) box) w
      (sym (kept_in_grid area box k in_grid) ∙ t)))
      (λ behind. (0, omega arith, omega (arith, inside, behind))),
)
