-- A ring that turns left at its least corner goes round no point clockwise, and has a positive area.
use Rattle.std.proofs.Common.{◌≡◌, ◌⊎◌, inl, inr, ℕ, zero, suc, ◌+◌, ◌-◌, ◌<◌, ◌≤◌, ◌∙◌, sym, subst}
use Rattle.std.proofs.Common.{refl, arith}
use Rattle.std.proofs.Common.{List, [], ◌∷◌, length}
use Rattle.std.specs.List.{remove}
use Rattle.std.proofs.lemmas.Int.{ints}
use lib.IntN.{ℤ, pos, ◌+ℤ◌}
use lib.Signed.{◌<ℤ◌, ◌≤ℤ◌}
use Rattle.geo_exact.specs.declared.corner.Corner.{Corner}
use Rattle.geo_exact.specs.Point.{Point}
use Rattle.geo_exact.specs.Turn.{turn}
use Rattle.geo_exact.specs.Winding.{winding}
use Rattle.geo_exact.specs.Area.{edge_area2, area2}
use Rattle.geo_exact.specs.Places.{corner_at}
use Rattle.geo_exact.proofs.rings.EdgeSums.{edge_of}
use Rattle.geo_exact.proofs.rings.Crossings.{crossing_back, crossing_cut, edge_area2_back, edge_area2_cut, edge_area2_triangle}
use Rattle.geo_exact.proofs.corners_and_turns.TurnLaws.{turn_cycle}
use Rattle.geo_exact.proofs.rings.Windings.{crossing_of}
use Rattle.geo_exact.proofs.rings.Triangles.{triangle_winds_at_most_once}
use Rattle.ring_core.specs.Simple.{MeetOnlyAsNeighbours}
use Rattle.ring_core.specs.Clipping.{previous, next}
use Rattle.ring_core.proofs.clipping.ClipSteps.{one_less}
use Rattle.ring_core.proofs.clipping.Clipped.{flat_out, triangle_out}
use Rattle.ring_core.proofs.ears.EarWords.{IsLeftAtLeast, IsFlatOrEar, HaveEarsOff}
use Rattle.ring_core.proofs.ears.LeftSimple.{clipped_simple}
use Rattle.ring_core.proofs.ears.LeastCorners.{stays_left}
use Rattle.ring_core.proofs.ears.WithoutCorner.{number_left}

-- the ring goes round no point clockwise, and has a positive area
pub record GoesForward (ring : List Corner) : Type 0 where
  pub windings : (q : Point) → pos 0 ≤ℤ winding q ring
  pub area : pos 0 <ℤ area2 ring

-- ---- a triangle that turns left
zero_or_one : (w : ℤ) → (w ≡ pos 0) ⊎ (w ≡ pos 1) → pos 0 ≤ℤ w
zero_or_one w (inl e) = omega (arith, ints)
zero_or_one w (inr e) = omega (arith, ints)

pub triangle_area : (a b c : Corner) → area2 (a ∷ b ∷ c ∷ []) ≡ turn a b c
triangle_area a b c =
    grouped (edge_area2 (edge_of a b)) (edge_area2 (edge_of b c)) (edge_area2 (edge_of c a)) ∙ edge_area2_triangle a b c
  where
    grouped : (x y z : ℤ) → x +ℤ (y +ℤ (z +ℤ pos 0)) ≡ x +ℤ y +ℤ z
    grouped x y z = omega (arith, ints)

triangle_forward : (a b c : Corner) → pos 0 <ℤ turn a b c → GoesForward (a ∷ b ∷ c ∷ [])
triangle_forward a b c h = record {
  windings = λ q. zero_or_one (winding q (a ∷ b ∷ c ∷ [])) (triangle_winds_at_most_once a b c q h);
  area = subst (λ z. pos 0 <ℤ z) (sym (triangle_area a b c)) h;
}

-- a ring of three corners, left at one of them
three_forward : (ring : List Corner) (v : ℕ) → length ring ≡ 3 → IsLeftAtLeast ring v → GoesForward ring
three_forward [] v e left = absurd (omega arith)
three_forward (a ∷ []) v e left = absurd (omega arith)
three_forward (a ∷ b ∷ []) v e left = absurd (omega arith)
three_forward (a ∷ b ∷ c ∷ []) zero e left =
    triangle_forward a b c (subst (λ z. pos 0 <ℤ z) (sym (turn_cycle c a b)) left.turns_left)
three_forward (a ∷ b ∷ c ∷ []) (suc zero) e left = triangle_forward a b c left.turns_left
three_forward (a ∷ b ∷ c ∷ []) (suc (suc zero)) e left = triangle_forward a b c
    (subst (λ z. pos 0 <ℤ z) (turn_cycle a b c) left.turns_left)
three_forward (a ∷ b ∷ c ∷ []) (suc (suc (suc v))) e left = absurd (let b = left.below in omega arith)
three_forward (a ∷ b ∷ c ∷ d ∷ rest) v e left = absurd (omega arith)

-- ---- a corner taken out, flat or an ear
same_sign : (x y : ℤ) → x ≡ y → pos 0 ≤ℤ y → pos 0 ≤ℤ x
same_sign x y e h = omega (arith, ints)

with_both : (x y z : ℤ) → x ≡ y +ℤ z → pos 0 ≤ℤ y → pos 0 ≤ℤ z → pos 0 ≤ℤ x
with_both x y z e h i = omega (arith, ints)

with_both_positive : (x y z : ℤ) → x ≡ y +ℤ z → pos 0 <ℤ y → pos 0 <ℤ z → pos 0 <ℤ x
with_both_positive x y z e h i = omega (arith, ints)

forward_with : (ring : List Corner) (k : ℕ) → 2 < length ring → k < length ring → IsFlatOrEar ring k → GoesForward (remove ring k)
    → GoesForward ring
forward_with ring k big below (inl flat) rest = record {
  windings = λ q. same_sign (winding q ring) (winding q (remove ring k))
      (flat_out (crossing_of q) (crossing_back q) ring k big below
      (crossing_cut q (previous ring k) (next ring k) (corner_at ring k) flat)) (rest.windings q);
  area = subst (λ z. pos 0 <ℤ z)
      (sym (flat_out edge_area2 edge_area2_back ring k big below
      (edge_area2_cut (previous ring k) (next ring k) (corner_at ring k) flat))) rest.area;
}
forward_with ring k big below (inr ear) rest =
    let triangle = triangle_forward (previous ring k) (corner_at ring k) (next ring k) ear.turns_left in record {
      windings = λ q. with_both (winding q ring) (winding q (remove ring k))
          (winding q (previous ring k ∷ corner_at ring k ∷ next ring k ∷ []))
          (triangle_out (crossing_of q) (crossing_back q) ring k big below) (rest.windings q) (triangle.windings q);
      area = with_both_positive (area2 ring) (area2 (remove ring k)) (area2 (previous ring k ∷ corner_at ring k ∷ next ring k ∷ []))
          (triangle_out edge_area2 edge_area2_back ring k big below) rest.area triangle.area;
    }

-- ---- by the number of corners
forward : (e : ℕ) → ((m : ℕ) → 2 < m → m ≤ e + 3 → HaveEarsOff m) → (ring : List Corner) (v : ℕ) → length ring ≡ e + 3
    → MeetOnlyAsNeighbours ring → IsLeftAtLeast ring v → GoesForward ring
forward zero ears ring v l simple left = three_forward ring v l left
forward (suc e) ears ring v l simple left =
    let k = ears (e + 4) (omega arith) (omega arith) ring v (omega arith) simple left v (let b = left.below in omega arith) in
    let below : k.0 < length ring = (let b = k.1 in omega arith) in
    forward_with ring k.0 (omega arith) below k.4
    (forward e (λ m a b. ears m a (omega arith)) (remove ring k.0) (number_left k.0 v)
    (let f = one_less ring (remove ring k.0) k.0 below refl in omega arith)
    (clipped_simple ring k.0 (omega arith) below simple k.4)
    (stays_left ring v k.0 (omega arith) simple left below k.2 k.4))

pub winds_forward : (n : ℕ) → 2 < n → ((m : ℕ) → 2 < m → m ≤ n → HaveEarsOff m) → (ring : List Corner) (v : ℕ)
    → length ring ≡ n
    → MeetOnlyAsNeighbours ring → IsLeftAtLeast ring v → GoesForward ring
winds_forward n big ears ring v l simple left =
    forward (n - 3) (λ m a b. ears m a (omega arith)) ring v (omega arith) simple left
