-- Cells along an axis: their order, those of the area, and numbers that are capped at the grid's end.
use Rattle.std.proofs.Common.{◌≡◌, ◌↔◌, sym, refl, ℕ, ◌+◌, ◌-◌, ◌/◌, ◌<◌, ◌≤◌, min, arith, true, false}
use Rattle.std.proofs.Common.{ℤ, ◌-ℤ◌}
use Rattle.std.specs.Prelude.{int_lt, unsigned_abs}
use Rattle.std.specs.Int.{int_min, int_max}
use Rattle.std.proofs.Math.Nat.{div-add-mod'}
use Rattle.std.proofs.lemmas.Int.{ints, by_lt_z, clamps}
use Rattle.std.proofs.lemmas.Nat.{div_below, le-div, mod_below}
use lib.Signed.{◌<ℤ◌, ◌≤ℤ◌}
use Rattle.geo_exact.specs.declared.bounds.Bounds.{Bounds}
use Rattle.geo_exact.specs.declared.corner.Corner.{Corner}
use Rattle.geo_exact.specs.Bounds.{HoldsCorner}
use Rattle.cell_index.specs.declared.axis.TheConstants.{ACROSS}
use Rattle.cell_index.specs.Cells.{distance, cell_of, column, row, brought_into, IsCellBetween}

-- numbers capped at n say the same of the numbers below n
pub capped : (n a b f l : ℕ) → f ≡ min n a → l ≡ min n b → (i : ℕ) → i < n → ((f ≤ i) × (i ≤ l))
    ↔ ((a ≤ i) × (i ≤ b))
capped n a b f l e g i h = (λ p. (omega (arith, e, p.0), omega (arith, g, p.1)), λ p. (omega (arith, e, p.0), omega (arith, g, p.1)))

pub count_capped : (n a b f l : ℕ) → f ≡ min n a → l ≡ min n b → min n (l + 1) - min n f ≡ min n (b + 1) - min n a
count_capped n a b f l e g = omega (arith, e, g)

under_cap : (n a f : ℕ) → f ≡ min n a → a < n → f ≡ a
under_cap n a f e h = omega (arith, e, h)

-- ---- distances
distance_up : (from to : ℤ) → from <ℤ to → distance from to ≡ unsigned_abs (to -ℤ from)
distance_up from to h = let e : true ≡ int_lt from to = omega (arith, ints) in rw (sym e) refl

distance_none : (from to : ℤ) → to ≤ℤ from → distance from to ≡ 0
distance_none from to h = let e : false ≡ int_lt from to = omega (arith, ints) in rw (sym e) refl

further : (from u v : ℤ) → from <ℤ u → u ≤ℤ v → unsigned_abs (u -ℤ from) ≤ unsigned_abs (v -ℤ from)
further from u v h k = omega (arith, ints)

pub distance_grows : (from u v : ℤ) → u ≤ℤ v → distance from u ≤ distance from v
distance_grows from u v h =
    by_lt_z from u
    (λ p. let q : from <ℤ v = omega (arith, ints, p, h) in
    omega (arith, distance_up from u p, distance_up from v q, further from u v p h))
    (λ p. omega (arith, distance_none from u p))

-- ---- cells
quotient_grows : (a b n : ℕ) → a ≤ b → a / (n + 1) ≤ b / (n + 1)
quotient_grows a b n h = le-div (a / (n + 1)) b (n + 1) (omega arith) (omega (arith, div-add-mod' a (n + 1), h))

pub cell_grows : (low high u v : ℤ) → u ≤ℤ v → cell_of low high u ≤ cell_of low high v
cell_grows low high u v h = quotient_grows (distance low u) (distance low v) (distance low high / ACROSS) (distance_grows low u v h)

last_cell : (a n : ℕ) → a ≤ n → a / (n / 64 + 1) < 64
last_cell a n h = div_below a (n / 64 + 1) 64 (omega arith) (omega (arith, div-add-mod' n 64, mod_below n 64 (omega arith), h))

-- what is not beyond the area is in a cell of the grid
pub cell_in_grid : (low high z : ℤ) → z ≤ℤ high → cell_of low high z < ACROSS
cell_in_grid low high z h = last_cell (distance low z) (distance low high) (distance_grows low z high h)

corner_in_grid : (area : Bounds) (corner : Corner) → HoldsCorner area corner → (column area corner.x < ACROSS)
    × (row area corner.y < ACROSS)
corner_in_grid area corner h = (cell_in_grid area.low.x area.high.x corner.x h.east, cell_in_grid area.low.y area.high.y corner.y h.north)

-- the column and the row of a corner of the area are below the cap, so that numbers capped there are theirs
pub cells_in_grid : (area : Bounds) (corner : Corner) (i j : ℕ) → HoldsCorner area corner
    → i ≡ min ACROSS (column area corner.x) → j ≡ min ACROSS (row area corner.y)
    → (i ≡ column area corner.x) × (j ≡ row area corner.y) × (column area corner.x < ACROSS) × (row area corner.y < ACROSS)
cells_in_grid area corner i j h e f =
    let inside = corner_in_grid area corner h in (
      under_cap ACROSS (column area corner.x) i e inside.0,
      under_cap ACROSS (row area corner.y) j f inside.1,
      inside.0,
      inside.1,
    )

-- ---- coordinates that are brought into the area
kept_in : (low high z : ℤ) → low ≤ℤ high → int_max low (int_min high z) ≤ℤ high
kept_in low high z h = omega (arith, ints, clamps, h)

at_low : (low high z : ℤ) → high <ℤ low → int_max low (int_min high z) ≡ low
at_low low high z h = omega (arith, ints, clamps, h)

no_quotient : (a n : ℕ) → a ≡ 0 → a / (n + 1) < 64
no_quotient a n e = div_below a (n + 1) 64 (omega arith) (omega (arith, e))

pub brought_in_grid : (low high z : ℤ) → cell_of low high (brought_into low high z) < ACROSS
brought_in_grid low high z =
    by_lt_z high low
    (λ empty. no_quotient (distance low (brought_into low high z)) (distance low high / ACROSS)
    (distance_none low (brought_into low high z) (not_above low (brought_into low high z) (at_low low high z empty))))
    (λ h. cell_in_grid low high (brought_into low high z) (kept_in low high z h))
  where
    not_above : (u v : ℤ) → v ≡ u → v ≤ℤ u
    not_above u v e = omega (arith, ints, e)

pub between_in_grid : (area : Bounds) (low high : Corner) (i j : ℕ) → IsCellBetween area low high i j → (i < ACROSS) × (j < ACROSS)
between_in_grid area low high i j h = (
  omega (arith, h.to_column, brought_in_grid area.low.x area.high.x high.x),
  omega (arith, h.to_row, brought_in_grid area.low.y area.high.y high.y),
)
