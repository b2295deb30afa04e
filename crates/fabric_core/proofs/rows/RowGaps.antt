-- Equal net edges, and limits, of rows and of their rings.
use Rattle.std.proofs.Common.{◌≡◌, ap, arith, ℕ, suc, ◌≤◌, ℤ, pos, ◌-ℤ◌, List, [], ◌∷◌, length}
use Rattle.std.specs.List.{AllByRecursion}
use Rattle.std.proofs.lemmas.Int.{ints}
use Rattle.geo_exact.specs.declared.corner.Corner.{Corner}
use Rattle.geo_exact.specs.declared.limits.TheConstants.{LAYER_CORNERS, RING_CORNERS}
use Rattle.edge_chains.specs.Net.{net_count}
use Rattle.edge_chains.specs.Noding.{all_corners}
use Rattle.edge_chains.specs.Counts.{Counts, net_at, AreNetOf}
use Rattle.fabric_core.specs.Limits.{AreWithinLimits}
use Rattle.fabric_core.specs.own.Lists.{numbered_rows}
use Rattle.fabric_core.specs.own.Checks.{HaveEqualNets}
use Rattle.fabric_core.proofs.rows.Lists.{lists_of_rows, count_of_corners}

-- ---- from the counts
pub equal_nets : (sum : Counts) (rings : List (List Corner)) (refined : List Corner) → AreNetOf sum rings (refined ∷ [])
    → ((a b : Corner) → net_at sum.counts a b ≡ pos 0) → HaveEqualNets rings refined
equal_nets sum rings refined h z a b = equal (net_at sum.counts a b) (net_count rings a b) (net_count (refined ∷ []) a b) (h a b) (z a b)
  where
    equal : (n x y : ℤ) → n ≡ x -ℤ y → n ≡ pos 0 → x ≡ y
    equal n x y h k = omega (arith, ints)

-- ---- limits
pub short_rings : (ids : List ℕ) (rings : List (List Corner)) → length ids ≡ length rings
    → AreWithinLimits (numbered_rows ids rings)
    → AllByRecursion (λ ring. length ring ≤ RING_CORNERS) rings
short_rings ids rings e within = each ids rings e within.each
  where
    less : (m n : ℕ) → suc m ≡ suc n → m ≡ n
    less m n k = omega (arith, k)

    each : (ids : List ℕ) (rings : List (List Corner)) → length ids ≡ length rings
        → AllByRecursion (λ row. length row.corners ≤ RING_CORNERS) (numbered_rows ids rings)
        → AllByRecursion (λ ring. length ring ≤ RING_CORNERS) rings
    each [] [] e h = tt
    each [] (ring ∷ rings) e h = absurd (omega (arith, e))
    each (id ∷ ids) [] e h = tt
    each (id ∷ ids) (ring ∷ rings) e h = (h.0, each ids rings (less (length ids) (length rings) e) h.1)

pub few_corners : (ids : List ℕ) (rings : List (List Corner)) → length ids ≡ length rings
    → AreWithinLimits (numbered_rows ids rings)
    → length (all_corners rings) ≤ LAYER_CORNERS
few_corners ids rings e within =
    let count = count_of_corners (numbered_rows ids rings) in
    let lists = ap (λ xs. length (all_corners xs)) (lists_of_rows ids rings e) in
    omega (arith, count, lists, within.together)
