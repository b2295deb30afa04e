-- Which boxes stand in a cell, as tests; and the cells of a range, as those where a box stands.
use Rattle.std.proofs.Common.{◌≡◌, ◌↔◌, sym, subst, ℤ, ℕ, ◌+◌, ◌<◌, ◌≤◌, arith}
use Rattle.std.specs.Prelude.{nat_le, IsTrue}
use Rattle.std.specs.Bool.{Decides}
use Rattle.std.proofs.lemmas.Bool.Decides.{nat_tests, Decides-and}
use Rattle.geo_exact.specs.declared.bounds.Bounds.{Bounds}
use Rattle.geo_exact.specs.declared.corner.Corner.{Corner}
use Rattle.cell_index.specs.declared.range.CellRange.{CellRange}
use Rattle.cell_index.specs.Cells.{column, row, is_among, stands_in, brought_into, IsCellBetween}
use Rattle.cell_index.specs.own.Ranges.{HasCell}

Decides-nat_le : (a b : ℕ) → Decides (nat_le a b) (a ≤ b)
Decides-nat_le a b = (λ e. grind (arith, nat_tests), λ h. grind (arith, nat_tests))

Decides-is_among : (m n i : ℕ) → Decides (is_among m n i) ((m ≤ i) × (i ≤ n))
Decides-is_among m n i = Decides-and (nat_le m i) (nat_le i n) (Decides-nat_le m i) (Decides-nat_le i n)

-- the box stands there
abbrev pub Stands : Bounds → ℕ → ℕ → Bounds → Type 0
Stands area i j box =
    ((column area box.low.x ≤ i) × (i ≤ column area box.high.x)) × ((row area box.low.y ≤ j) × (j ≤ row area box.high.y))

pub Decides-stands : (area : Bounds) (i j : ℕ) (box : Bounds) → Decides (stands_in area i j box) (Stands area i j box)
Decides-stands area i j box =
    Decides-and (is_among (column area box.low.x) (column area box.high.x) i) (is_among (row area box.low.y) (row area box.high.y) j)
    (Decides-is_among (column area box.low.x) (column area box.high.x) i) (Decides-is_among (row area box.low.y) (row area box.high.y) j)

-- i is in the range exactly where it is from a to b
abbrev Spans : ℕ → ℕ → ℕ → ℕ → ℕ → Type 0
Spans first count a b i = ((first ≤ i) × (i < first + count)) ↔ ((a ≤ i) × (i ≤ b))

pub range_stands : (range : CellRange) (area box : Bounds) (i j : ℕ)
    → Spans range.columns.first range.columns.count (column area box.low.x) (column area box.high.x) i
    → Spans range.rows.first range.rows.count (row area box.low.y) (row area box.high.y) j
    → HasCell range i j ↔ IsTrue (stands_in area i j box)
range_stands range area box i j columns rows = (
  λ h. (Decides-stands area i j box).1 (columns.0 (h.from_column, h.to_column), rows.0 (h.from_row, h.to_row)),
  λ t. let s : Stands area i j box = (Decides-stands area i j box).0 t in
      record { from_column = (columns.1 s.0).0; to_column = (columns.1 s.0).1; from_row = (rows.1 s.1).0; to_row = (rows.1 s.1).1 },
)

-- w to e and s to n are the corners' coordinates, brought into the area
pub range_between : (range : CellRange) (area : Bounds) (low high : Corner) (w e s n : ℤ) (i j : ℕ)
    → w ≡ brought_into area.low.x area.high.x low.x → e ≡ brought_into area.low.x area.high.x high.x
    → s ≡ brought_into area.low.y area.high.y low.y → n ≡ brought_into area.low.y area.high.y high.y
    → Spans range.columns.first range.columns.count (column area w) (column area e) i
    → Spans range.rows.first range.rows.count (row area s) (row area n) j → HasCell range i j ↔ IsCellBetween area low high i j
range_between range area low high w e s n i j west east south north columns rows = (
  λ h. record {
    from_column = subst (λ z. column area z ≤ i) west (columns.0 (h.from_column, h.to_column)).0;
    to_column = subst (λ z. i ≤ column area z) east (columns.0 (h.from_column, h.to_column)).1;
    from_row = subst (λ z. row area z ≤ j) south (rows.0 (h.from_row, h.to_row)).0;
    to_row = subst (λ z. j ≤ row area z) north (rows.0 (h.from_row, h.to_row)).1;
  },
  λ b. back
      (columns.1 (subst (λ z. column area z ≤ i) (sym west) b.from_column, subst (λ z. i ≤ column area z) (sym east) b.to_column))
      (rows.1 (subst (λ z. row area z ≤ j) (sym south) b.from_row, subst (λ z. j ≤ row area z) (sym north) b.to_row)),
)
  where
    back : (range.columns.first ≤ i) × (i < range.columns.first + range.columns.count)
        → (range.rows.first ≤ j) × (j < range.rows.first + range.rows.count) → HasCell range i j
    back h k = record { from_column = h.0; to_column = h.1; from_row = k.0; to_row = k.1 }
