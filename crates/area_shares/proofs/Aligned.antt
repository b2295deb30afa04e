-- The zones of a parcel's pairs, and the parcel's area in them: the other zones have none of it.
use Rattle.std.proofs.Common.{◌≡◌, ◌∙◌, ⊎_elim, refl, sym, ap, subst, arith, ℕ, ◌<◌, ◌≤◌, length, List, [], ◌∷◌}
use Rattle.std.specs.List.{AllByRecursion, Contains}
use Rattle.std.proofs.lemmas.Bool.Decides.{eqb_tells}
use lib.IntN.{pos, ◌+ℤ◌, ◌*ℤ◌}
use Rattle.geo_exact.specs.declared.corner.Corner.{Corner}
use Rattle.geo_exact.specs.Layers.{NumberedRing}
use Rattle.geo_exact.proofs.numbers.Polynomials.{var, lit, add, mul, same_by}
use Rattle.edge_chains.proofs.nodings.NodedEdges.{none_in_nil, Contains-here, Contains-there, Contains-cases}
use Rattle.fabric_core.specs.Rows.{numbers}
use Rattle.fabric_core.specs.Tiling.{corner_lists}
use Rattle.fabric_core.specs.own.Balanced.{Ascend}
use Rattle.fabric_core.proofs.tilings.OneParcel.{of_each}
use Rattle.fabric_core.proofs.rows.RowLists.{AllByRecursion-weaker, Contains-from_mapped}
use Rattle.common_areas.specs.Fractions.{Fraction, plus, AreEqual}
use Rattle.common_areas.specs.Common.{common_area2}
use Rattle.common_areas.specs.Sums.{common_with}

-- ---- fractions
equal_plus : (f a b : Fraction) → AreEqual a b → AreEqual (plus f a) (plus f b)
equal_plus f a b e =
    same_by (f.n ∷ f.d ∷ a.n ∷ a.d ∷ b.d ∷ [])
    (mul (add (mul (var 0) (var 3)) (mul (var 2) (var 1))) (mul (var 1) (var 4)))
    (add (mul (mul (var 0) (var 3)) (mul (var 1) (var 4))) (mul (mul (var 1) (var 1)) (mul (var 2) (var 4)))) refl
    ∙ ap (λ z. f.n *ℤ a.d *ℤ (f.d *ℤ b.d) +ℤ f.d *ℤ f.d *ℤ z) e
    ∙ same_by (f.n ∷ f.d ∷ b.n ∷ a.d ∷ b.d ∷ [])
    (add (mul (mul (var 0) (var 3)) (mul (var 1) (var 4))) (mul (mul (var 1) (var 1)) (mul (var 2) (var 3))))
    (mul (add (mul (var 0) (var 4)) (mul (var 2) (var 1))) (mul (var 1) (var 3))) refl

-- a fraction of nothing is left out
equal_left_out : (f a b : Fraction) → f.n ≡ pos 0 → AreEqual a b → AreEqual (plus f a) b
equal_left_out f a b zero e =
    ap (λ n. (n *ℤ a.d +ℤ a.n *ℤ f.d) *ℤ b.d) zero
    ∙ same_by (f.d ∷ a.n ∷ a.d ∷ b.d ∷ [])
    (mul (add (mul (lit (pos 0)) (var 2)) (mul (var 1) (var 0))) (var 3)) (mul (var 0) (mul (var 1) (var 3))) refl
    ∙ ap (λ z. f.d *ℤ z) e
    ∙ same_by (f.d ∷ b.n ∷ a.d ∷ []) (mul (var 0) (mul (var 1) (var 2))) (mul (var 1) (mul (var 0) (var 2))) refl

-- ---- the zones of ascending numbers
abbrev pub Rise : List ℕ → Type 0
Rise [] = Unit {0}
Rise (n ∷ ns) = AllByRecursion (λ later. n < later) ns × Rise ns

-- the zones with these numbers, which have all that the zones have of r
pub record Own (r : List Corner) (ns : List ℕ) (zones : List NumberedRing) : Type 0 where
  pub own : List NumberedRing
  pub are_numbered : numbers own ≡ ns
  pub are_zones : AllByRecursion (Contains zones) own
  pub few : length own ≤ length zones
  pub area : AreEqual (common_with r (corner_lists zones)) (common_with r (corner_lists own))

-- numbers that are all above the first zone's are of the others
of_others : (zone : NumberedRing) (zones : List NumberedRing) (ns : List ℕ) → AllByRecursion (λ n. zone.number < n) ns
    → AllByRecursion (Contains (numbers (zone ∷ zones))) ns → AllByRecursion (Contains (numbers zones)) ns
of_others zone zones [] above named = tt
of_others zone zones (n ∷ ns) above named = (
  ⊎_elim (λ e. absurd (omega (arith, above.0, e))) (λ c. c) (Contains-cases zone.number (numbers zones) n named.0),
  of_others zone zones ns above.1 named.1,
)

above_all : (m n : ℕ) (ns : List ℕ) → m < n → AllByRecursion (λ later. n < later) ns → AllByRecursion (λ later. m < later) ns
above_all m n ns h up = AllByRecursion-weaker (λ later. n < later) (λ later. m < later) (λ later l. omega (arith, h, l)) ns up

number_above : (zone : NumberedRing) (zones : List NumberedRing) → Ascend (zone ∷ zones) → (n : ℕ) → Contains (numbers zones) n
    → zone.number < n
number_above zone zones up n c =
    let w = Contains-from_mapped (λ (row : NumberedRing). row.number) zones n c in
    let l : zone.number < w.0.number = of_each (λ (later : NumberedRing). zone.number < later.number) zones w.0 up.0 w.1 in
    subst (λ k. zone.number < k) w.2 l

below : (n : ℕ) (ns : List ℕ) → AllByRecursion (λ later. n < later) ns → ¬ Contains ns n
below n ns up c = let l : n < n = of_each (λ later. n < later) ns n up c in omega (arith, l)

module _ (r : List Corner) where
  -- the first zone has none of it
  left_out : (ns : List ℕ) (zone : NumberedRing) (zones : List NumberedRing) → AllByRecursion (λ n. zone.number < n) ns
      → (¬ Contains ns zone.number → (common_area2 r zone.corners).n ≡ pos 0) → Own r ns zones → Own r ns (zone ∷ zones)
  left_out ns zone zones above none later = record {
    own = later.own;
    are_numbered = later.are_numbered;
    few = omega (arith, later.few);
    are_zones = AllByRecursion-weaker (Contains zones) (Contains (zone ∷ zones)) (λ z c. Contains-there zone zones z c) later.own
        later.are_zones;
    area = equal_left_out (common_area2 r zone.corners) (common_with r (corner_lists zones)) (common_with r (corner_lists later.own))
        (none (below zone.number ns above)) later.area;
  }

  -- the first zone has the first number
  taken_in : (ns : List ℕ) (zone : NumberedRing) (zones : List NumberedRing) → Own r ns zones → Own r (zone.number ∷ ns) (zone ∷ zones)
  taken_in ns zone zones later = record {
    own = zone ∷ later.own;
    are_numbered = ap (λ numbers. zone.number ∷ numbers) later.are_numbered;
    few = omega (arith, later.few);
    are_zones = (
      Contains-here zone zones,
      AllByRecursion-weaker (Contains zones) (Contains (zone ∷ zones)) (λ z c. Contains-there zone zones z c) later.own later.are_zones,
    );
    area = equal_plus (common_area2 r zone.corners) (common_with r (corner_lists zones)) (common_with r (corner_lists later.own))
        later.area;
  }

  pub own_zones : (ns : List ℕ) (zones : List NumberedRing) → Rise ns → Ascend zones → AllByRecursion (Contains (numbers zones)) ns
      → ((zone : NumberedRing) → Contains zones zone → ¬ Contains ns zone.number → (common_area2 r zone.corners).n ≡ pos 0)
      → Own r ns zones
  own_zones [] [] rise up named none = record { own = []; are_numbered = refl; are_zones = tt; few = omega arith; area = refl }
  own_zones (n ∷ ns) [] rise up named none = absurd (none_in_nil n named.0)
  own_zones [] (zone ∷ zones) rise up named none =
      left_out [] zone zones tt (none zone (Contains-here zone zones))
      (own_zones [] zones tt up.1 tt (λ z c. none z (Contains-there zone zones z c)))
  own_zones (n ∷ ns) (zone ∷ zones) rise up named none = ⊎_elim
      (λ same. subst (λ k. Own r (k ∷ ns) (zone ∷ zones)) (sym same.1)
      (let above : AllByRecursion (λ m. zone.number < m) ns = subst (λ k. AllByRecursion (λ m. k < m) ns) same.1 rise.0 in
      taken_in ns zone zones (own_zones ns zones rise.1 up.1 (of_others zone zones ns above named.1)
      (λ z c off. none z (Contains-there zone zones z c) (λ k. ⊎_elim
      (λ e. let l : zone.number < z.number = of_each (λ (later : NumberedRing). zone.number < later.number) zones z up.0 c in
      omega (arith, l, e, same.1)) off (Contains-cases n ns z.number k))))))
      (λ other.
      let first : zone.number < n = ⊎_elim (λ e. absurd (other.1 (sym e))) (number_above zone zones up n)
      (Contains-cases zone.number (numbers zones) n named.0) in
      let above : AllByRecursion (λ m. zone.number < m) (n ∷ ns) = (first, above_all zone.number n ns first rise.0) in
      left_out (n ∷ ns) zone zones above (none zone (Contains-here zone zones))
      (own_zones (n ∷ ns) zones rise up.1 (of_others zone zones (n ∷ ns) above named) (λ z c. none z (Contains-there zone zones z c))))
      (eqb_tells n zone.number)
