-- What a search of cells need not look at: boxes that do not stand there hold no place of it.
use Rattle.std.proofs.Common.{◌≡◌, ◌⊎◌, inl, inr, ℕ, ◌≤◌, max, arith, ℤ, pos, ◌*ℤ◌, List}
use Rattle.std.specs.Prelude.{IsTrue}
use Rattle.std.specs.Int.{int_min, int_max}
use Rattle.std.specs.List.{All}
use Rattle.std.proofs.lemmas.Int.{ints, by_lt_z, clamps}
use lib.Signed.{◌<ℤ◌, ◌≤ℤ◌}
use Rattle.geo_exact.specs.declared.bounds.Bounds.{Bounds}
use Rattle.geo_exact.specs.declared.corner.Corner.{Corner}
use Rattle.geo_exact.specs.Bounds.{HoldsCorner, IsBeyondBox, IsWider}
use Rattle.geo_exact.specs.Interiors.{InteriorsMeet}
use Rattle.geo_exact.specs.Point.{Point, corner_point}
use Rattle.geo_exact.specs.Turn.{IsOnRing}
use Rattle.geo_exact.specs.Winding.{winding, IsInterior}
use Rattle.geo_exact.proofs.boxes.BeyondBoxes.{beyond_box}
use Rattle.geo_exact.proofs.numbers.Signs.{mul_lt}
use Rattle.cell_index.specs.Cells.{cell_of, column, row, stands_at, brought_into, StandsBetween}
use Rattle.cell_index.proofs.Along.{cell_grows}
use Rattle.cell_index.proofs.BoxesInCells.{Decides-stands}

-- ---- one cell
short : (z l : ℤ) → z <ℤ l → z <ℤ (l *ℤ pos 1)
short z l h = omega (arith, ints, h)

past : (z l : ℤ) → l <ℤ z → (l *ℤ pos 1) <ℤ z
past z l h = omega (arith, ints, h)

pub beyond_or_stands : (area box : Bounds) (corner : Corner) → IsBeyondBox (corner_point corner) box
    ⊎ IsTrue (stands_at area corner box)
beyond_or_stands area box corner =
    by_lt_z corner.x box.low.x (λ h. inl (inl (short corner.x box.low.x h)))
    (λ west. by_lt_z box.high.x corner.x (λ h. inl (inr (inl (past corner.x box.high.x h))))
    (λ east. by_lt_z corner.y box.low.y (λ h. inl (inr (inr (inl (short corner.y box.low.y h)))))
    (λ south. by_lt_z box.high.y corner.y (λ h. inl (inr (inr (inr (past corner.y box.high.y h)))))
    (λ north. inr ((Decides-stands area (column area corner.x) (row area corner.y) box).1 (
      (cell_grows area.low.x area.high.x box.low.x corner.x west, cell_grows area.low.x area.high.x corner.x box.high.x east),
      (cell_grows area.low.y area.high.y box.low.y corner.y south, cell_grows area.low.y area.high.y corner.y box.high.y north),
    ))))))

not_wound : (w : ℤ) → w ≡ pos 0 → pos 1 ≤ℤ w → ⊥
not_wound w e h = omega (arith, ints, e, h)

pub off_ring : (p : Point) (box : Bounds) (ring : List Corner) → All (HoldsCorner box) ring → IsBeyondBox p box
    → (¬ IsOnRing p ring) × (¬ IsInterior p ring)
off_ring p box ring all beyond =
    let off = beyond_box p box ring all beyond in (off.0, λ i. not_wound (winding p ring) off.1 i.is_wound)

pub off_what_stands_elsewhere : (area box : Bounds) (ring : List Corner) (corner : Corner) → All (HoldsCorner box) ring
    → ¬ IsTrue (stands_at area corner box) → (¬ IsOnRing (corner_point corner) ring) × (¬ IsInterior (corner_point corner) ring)
off_what_stands_elsewhere area box ring corner all off = elim (beyond_or_stands area box corner) [
  | inl beyond ↦ off_ring (corner_point corner) box ring all beyond
  | inr stands ↦ absurd (off stands)
]

-- ---- cells between two corners
kept_high : (a b l h z : ℤ) → a ≤ℤ l → l ≤ℤ h → z ≤ℤ h → int_max a (int_min b z) ≤ℤ h
kept_high a b l h z p q r = omega (arith, ints, clamps, p, q, r)

kept_low : (a b l h z : ℤ) → l ≤ℤ h → h ≤ℤ b → l ≤ℤ z → l ≤ℤ int_max a (int_min b z)
kept_low a b l h z p q r = omega (arith, ints, clamps, p, q, r)

brought_grows : (a b u v : ℤ) → u ≤ℤ v → int_max a (int_min b u) ≤ℤ int_max a (int_min b v)
brought_grows a b u v h = omega (arith, ints, clamps, h)

-- along one axis: the area from a to b, in it a box from l to h, and corners at u and v
common_cell : (a b l h u v : ℤ) → a ≤ℤ l → h ≤ℤ b → l ≤ℤ h → u ≤ℤ v → l ≤ℤ v → u ≤ℤ h
    → (i : ℕ) × ((cell_of a b l ≤ i) × (i ≤ cell_of a b h)) × ((cell_of a b (brought_into a b u) ≤ i)
    × (i ≤ cell_of a b (brought_into a b v)))
common_cell a b l h u v al hb lh uv lv uh =
    let one : cell_of a b l ≤ cell_of a b h = cell_grows a b l h lh in
    let two : cell_of a b (brought_into a b u) ≤ cell_of a b h = cell_grows a b (brought_into a b u) h (kept_high a b l h u al lh uh) in
    let three : cell_of a b l ≤ cell_of a b (brought_into a b v) = cell_grows a b l (brought_into a b v) (kept_low a b l h v lh hb lv) in
    let four : cell_of a b (brought_into a b u) ≤ cell_of a b (brought_into a b v) =
    cell_grows a b (brought_into a b u) (brought_into a b v) (brought_grows a b u v uv) in (
      max (cell_of a b l) (cell_of a b (brought_into a b u)),
      (omega arith, omega (arith, one, two)),
      (omega arith, omega (arith, three, four)),
    )

-- what a place says of the two ends of a range that has it
unscaled : (d x u v : ℤ) → pos 0 <ℤ d → (x <ℤ (u *ℤ d) → ⊥) → ((v *ℤ d) <ℤ x → ⊥) → u ≤ℤ v
unscaled d x u v h low high =
    by_lt_z v u
    (λ less. absurd (by_lt_z x (u *ℤ d) low (λ p. high (le_lt (v *ℤ d) (u *ℤ d) x (mul_lt v u d h less) p))))
    (λ p. p)
  where
    le_lt : (s t r : ℤ) → s <ℤ t → t ≤ℤ r → s <ℤ r
    le_lt s t r h k = omega (arith, ints, h, k)

pub interiors_share_a_cell : (area box : Bounds) (low high : Corner) (ring other : List Corner)
    → All (HoldsCorner box) ring → IsWider box area
    → All (HoldsCorner (record { low = low; high = high })) other → InteriorsMeet ring other → StandsBetween area low high box
interiors_share_a_cell area box low high ring other all wider between (p, inner, outer) =
    let in_box : ¬ IsBeyondBox p box = λ b. (off_ring p box ring all b).1 inner in
    let in_search : ¬ IsBeyondBox p (record { low = low; high = high }) =
    λ b. (off_ring p (record { low = low; high = high }) other between b).1 outer in
    let i = common_cell area.low.x area.high.x box.low.x box.high.x low.x high.x wider.0.0 wider.0.1
    (unscaled p.d p.x box.low.x box.high.x p.d_positive (λ h. in_box (inl h)) (λ h. in_box (inr (inl h))))
    (unscaled p.d p.x low.x high.x p.d_positive (λ h. in_search (inl h)) (λ h. in_search (inr (inl h))))
    (unscaled p.d p.x box.low.x high.x p.d_positive (λ h. in_box (inl h)) (λ h. in_search (inr (inl h))))
    (unscaled p.d p.x low.x box.high.x p.d_positive (λ h. in_search (inl h)) (λ h. in_box (inr (inl h)))) in
    let j = common_cell area.low.y area.high.y box.low.y box.high.y low.y high.y wider.1.0 wider.1.1
    (unscaled p.d p.y box.low.y box.high.y p.d_positive (λ h. in_box (inr (inr (inl h)))) (λ h. in_box (inr (inr (inr h)))))
    (unscaled p.d p.y low.y high.y p.d_positive (λ h. in_search (inr (inr (inl h)))) (λ h. in_search (inr (inr (inr h)))))
    (unscaled p.d p.y box.low.y high.y p.d_positive (λ h. in_box (inr (inr (inl h)))) (λ h. in_search (inr (inr (inr h)))))
    (unscaled p.d p.y low.y box.high.y p.d_positive (λ h. in_search (inr (inr (inl h)))) (λ h. in_box (inr (inr (inr h))))) in (
      i.0,
      j.0,
      record { from_column = i.2.0; to_column = i.2.1; from_row = j.2.0; to_row = j.2.1 },
      (Decides-stands area i.0 j.0 box).1 (i.1, j.1),
    )
