-- How a place lies to a ring, edge after edge.
use Rattle.std.proofs.Common.{◌≡◌, ◌↔◌, inl, inr, ⊎_elim, refl, sym, ap, subst, [], ◌∷◌, arith, true, false, ℕ}
use Rattle.std.proofs.Common.{◌+◌, ◌<◌, ◌≤◌, List, length, drop, get_or, FitsSigned, to_z, of_z}
use Rattle.std.specs.Int.{w128, w64}
use Rattle.std.specs.Int.{int_min, int_max}
use Rattle.std.proofs.lemmas.Int.{ints, clamps, to_z-of_z}
use Rattle.std.proofs.lemmas.List.{drop_all}
use lib.IntN.{ℤ, pos, negsuc}
use lib.Signed.{◌≤ℤ◌, ◌<ℤ◌, le_z, lt_z}
use Rattle.geo_exact.specs.declared.corner.Corner.{Corner}
use Rattle.geo_exact.specs.Limit.{IsWithin, limit}
use Rattle.geo_exact.specs.Point.{Point, corner_point}
use Rattle.geo_exact.specs.Rings.{Edge, path}
use Rattle.geo_exact.specs.Turn.{turn, IsOnEdge, IsOnSome}
use Rattle.geo_exact.specs.Winding.{is_not_above, crossing}
use Rattle.geo_exact.proofs.numbers.Differences.{times_one}
use Rattle.geo_exact.proofs.numbers.Dropped.{drop_item}
use Rattle.geo_exact.proofs.corners_and_turns.TurnLaws.{turn_at_corner}

le_is : (u v : ℤ) → u ≤ℤ v → le_z u v ≡ true
le_is u v h = grind (arith, ints)

le_not : (u v : ℤ) → v <ℤ u → le_z u v ≡ false
le_not u v h = grind (arith, ints)

lt_is : (u v : ℤ) → u <ℤ v → lt_z u v ≡ true
lt_is u v h = grind (arith, ints)

lt_not : (u v : ℤ) → v ≤ℤ u → lt_z u v ≡ false
lt_not u v h = grind (arith, ints)

not_above : (a p : Corner) → a.y ≤ℤ p.y → is_not_above a (corner_point p) ≡ true
not_above a p h = rw times_one (le_is a.y p.y h)

above : (a p : Corner) → p.y <ℤ a.y → is_not_above a (corner_point p) ≡ false
above a p h = rw times_one (le_not a.y p.y h)

pub none_below : (a b p : Corner) → a.y ≤ℤ p.y → b.y ≤ℤ p.y → crossing (corner_point p) a b ≡ pos 0
none_below a b p h k = rw (not_above a p h, not_above b p k) refl

pub none_above : (a b p : Corner) → p.y <ℤ a.y → p.y <ℤ b.y → crossing (corner_point p) a b ≡ pos 0
none_above a b p h k = rw (above a p h, above b p k) refl

-- an edge wholly below or wholly above has the place not on it
pub off_below : (a b p : Corner) → a.y <ℤ p.y → b.y <ℤ p.y → ¬ IsOnEdge (corner_point p) a b
off_below a b p h k on = omega (arith, ints, clamps, h, k, times_one (int_max a.y b.y), on.to_y)

pub off_above : (a b p : Corner) → p.y <ℤ a.y → p.y <ℤ b.y → ¬ IsOnEdge (corner_point p) a b
off_above a b p h k on = omega (arith, ints, clamps, h, k, times_one (int_min a.y b.y), on.from_y)

pub passed_below : (a b p : Corner) → a.y <ℤ p.y → b.y <ℤ p.y
    → (¬ IsOnEdge (corner_point p) a b) × (crossing (corner_point p) a b ≡ pos 0)
passed_below a b p h k = (off_below a b p h k, none_below a b p (omega (arith, ints, h)) (omega (arith, ints, k)))

pub passed_above : (a b p : Corner) → p.y <ℤ a.y → p.y <ℤ b.y
    → (¬ IsOnEdge (corner_point p) a b) × (crossing (corner_point p) a b ≡ pos 0)
passed_above a b p h k = (off_above a b p h k, none_above a b p h k)

pub upward : (a b p : Corner) → a.y ≤ℤ p.y → p.y <ℤ b.y → pos 0 <ℤ turn a b p → crossing (corner_point p) a b ≡ pos 1
upward a b p h k l = rw (not_above a p h, above b p k, turn_at_corner a b p, lt_is (pos 0) (turn a b p) l) refl

pub not_upward : (a b p : Corner) → a.y ≤ℤ p.y → p.y <ℤ b.y → turn a b p ≤ℤ pos 0 → crossing (corner_point p) a b
    ≡ pos 0
not_upward a b p h k l = rw (not_above a p h, above b p k, turn_at_corner a b p, lt_not (pos 0) (turn a b p) l) refl

pub downward : (a b p : Corner) → p.y <ℤ a.y → b.y ≤ℤ p.y → turn a b p <ℤ pos 0 → crossing (corner_point p) a b ≡ negsuc 0
downward a b p h k l = rw (above a p h, not_above b p k, turn_at_corner a b p, lt_is (turn a b p) (pos 0) l) refl

pub not_downward : (a b p : Corner) → p.y <ℤ a.y → b.y ≤ℤ p.y → pos 0 ≤ℤ turn a b p → crossing (corner_point p) a b
    ≡ pos 0
not_downward a b p h k l = rw (above a p h, not_above b p k, turn_at_corner a b p, lt_not (turn a b p) (pos 0) l) refl

-- the path to the end, one corner further
pub path-drop : (from item to : Corner) (rest : List Corner) (i : ℕ) → i < length rest → item ≡ get_or rest i item
    → path from (drop i rest) to ≡ record { from = from; to = item } ∷ path item (drop (i + 1) rest) to
path-drop from item to rest i h e = ap (λ corners. path from corners to) (drop_item rest i item h e)

pub path-end : (from to : Corner) (rest : List Corner) (i : ℕ) → length rest ≤ i
    → path from (drop i rest) to ≡ record { from = from; to = to } ∷ []
path-end from to rest i h = ap (λ corners. path from corners to) (drop_all i rest h)

-- on some of the edges, where it is not on the first
pub not_first : (p : Point) (edge : Edge) (rest es : List Edge) (T : Type 0) → es ≡ edge ∷ rest → ¬ IsOnEdge p edge.from edge.to
    → (IsOnSome p es ↔ T) → (IsOnSome p rest ↔ T)
not_first p edge rest es T e off h = (
  λ on. h.0 (subst (IsOnSome p) (sym e) (inr on)),
  λ t. ⊎_elim (λ here. absurd (off here)) (λ later. later) (subst (IsOnSome p) e (h.1 t)),
)

pub is_first : (p : Point) (edge : Edge) (rest es : List Edge) (T : Type 0) → es ≡ edge ∷ rest → IsOnEdge p edge.from edge.to
    → (IsOnSome p es ↔ T) → T
is_first p edge rest es T e on h = h.0 (subst (IsOnSome p) (sym e) (inl on))

-- what a test of the machine's bits says of the number
pub above_zero : (z : ℤ) → FitsSigned w128 z → lt_z (pos 0) (to_z w128 (of_z w128 z)) ≡ true → pos 0 <ℤ z
above_zero z fits h = let e = simp to_z-of_z at h in grind (arith, ints)

pub not_above_zero : (z : ℤ) → FitsSigned w128 z → lt_z (pos 0) (to_z w128 (of_z w128 z)) ≡ false → z ≤ℤ pos 0
not_above_zero z fits h = let e = simp to_z-of_z at h in grind (arith, ints)

pub below_zero : (z : ℤ) → FitsSigned w128 z → lt_z (to_z w128 (of_z w128 z)) (pos 0) ≡ true → z <ℤ pos 0
below_zero z fits h = let e = simp to_z-of_z at h in grind (arith, ints)

pub not_below_zero : (z : ℤ) → FitsSigned w128 z → lt_z (to_z w128 (of_z w128 z)) (pos 0) ≡ false → pos 0 ≤ℤ z
not_below_zero z fits h = let e = simp to_z-of_z at h in grind (arith, ints)

-- the same of two coordinates
pub at_most : (u v : ℤ) → IsWithin limit u → IsWithin limit v → le_z (to_z w64 (of_z w64 u)) (to_z w64 (of_z w64 v))
    ≡ true → u ≤ℤ v
at_most u v s t h =
    let x : FitsSigned w64 u = omega (arith, ints) in
    let y : FitsSigned w64 v = omega (arith, ints) in
    let e = simp to_z-of_z at h in grind (arith, ints)

pub not_at_most : (u v : ℤ) → IsWithin limit u → IsWithin limit v
    → le_z (to_z w64 (of_z w64 u)) (to_z w64 (of_z w64 v)) ≡ false → v <ℤ u
not_at_most u v s t h =
    let x : FitsSigned w64 u = omega (arith, ints) in
    let y : FitsSigned w64 v = omega (arith, ints) in
    let e = simp to_z-of_z at h in grind (arith, ints)
