-- A ring has one fault at most, and a city's ring too.
use Rattle.std.proofs.Common.{◌≡◌, inl, inr, ⊎_elim, refl, sym, ◌∙◌, ap, subst, arith, ℕ, ◌<◌, pos, List, length}
use Rattle.std.proofs.lemmas.Int.{ints}
use Rattle.std.proofs.lemmas.Bool.{cases_lt}
use lib.Signed.{◌<ℤ◌}
use Rattle.geo_exact.specs.declared.corner.Corner.{Corner}
use Rattle.geo_exact.specs.Area.{area2}
use Rattle.geo_exact.specs.First.{IsFirstPair}
use Rattle.ring_core.specs.declared.ring.RingFault.{RingFault}
use Rattle.ring_core.specs.declared.ring.RingFault.TheVariants.{ZeroArea, Clockwise, EdgesMeet}
use Rattle.ring_core.specs.declared.triangle.Tri.{Tri}
use Rattle.ring_core.specs.Simple.{IsSimpleRing}
use Rattle.ring_core.specs.Faults.{IsRingFault}
use Rattle.ring_core.specs.Clipping.{IsClippedTo}
use Rattle.ring_core.proofs.clipping.ClipUnique.{one_way}
use Rattle.tri_overlap.specs.Folding.{OverlapAt, HasNoOverlap, IsFirstOverlap}
use Rattle.fabric_core.specs.declared.city.CityFault.{CityFault}
use Rattle.fabric_core.specs.declared.city.CityFault.TheVariants.{Ring, Folded, NoMemory}
use Rattle.fabric_core.specs.Faults.{IsCityFault}

-- ---- pairs of numbers
same_number : (i k : ℕ) → (i < k → ⊥) → (k < i → ⊥) → i ≡ k
same_number i k h l = ⊎_elim (λ m. absurd (h m)) (λ m. ⊎_elim (λ n. absurd (l n)) (λ n. omega (arith, m, n))
    (cases_lt k i)) (cases_lt i k)

pub first_pair_is_one : (P : ℕ → ℕ → Type 0) (n i j k l : ℕ) → IsFirstPair P n i j → IsFirstPair P n k l → (i ≡ k)
    × (j ≡ l)
first_pair_is_one P n i j k l f g =
    let e : i ≡ k = same_number i k (λ m. g.is_first i j f.ordered f.below (inl m) f.has)
    (λ m. f.is_first k l g.ordered g.below (inl m) g.has) in (
      e,
      same_number j l (λ m. g.is_first i j f.ordered f.below (inr (e, m)) f.has)
          (λ m. f.is_first k l g.ordered g.below (inr (sym e, m)) g.has),
    )

-- ---- rings
pub one_ring_fault : (ring : List Corner) (f g : RingFault) → IsRingFault ring f → IsRingFault ring g → f ≡ g
one_ring_fault ring ZeroArea ZeroArea h k = refl
one_ring_fault ring ZeroArea Clockwise h k = absurd (omega (arith, ints, h, k))
one_ring_fault ring ZeroArea (EdgesMeet i j) h k = absurd (omega (arith, ints, h, k.0))
one_ring_fault ring Clockwise ZeroArea h k = absurd (omega (arith, ints, h, k))
one_ring_fault ring Clockwise Clockwise h k = refl
one_ring_fault ring Clockwise (EdgesMeet i j) h k = absurd (omega (arith, ints, h, k.0))
one_ring_fault ring (EdgesMeet i j) ZeroArea h k = absurd (omega (arith, ints, h.0, k))
one_ring_fault ring (EdgesMeet i j) Clockwise h k = absurd (omega (arith, ints, h.0, k))
one_ring_fault ring (EdgesMeet i j) (EdgesMeet k l) h m = same (first_pair_is_one _ (length ring) i j k l h.1 m.1)
  where
    same : (i ≡ k) × (j ≡ l) → EdgesMeet i j ≡ EdgesMeet k l
    same e = ap (λ n. EdgesMeet n j) e.0 ∙ ap (λ n. EdgesMeet k n) e.1

pub simple_has_no_fault : (ring : List Corner) (f : RingFault) → IsSimpleRing ring → IsRingFault ring f → ⊥
simple_has_no_fault ring ZeroArea s h = let a : pos 0 <ℤ area2 ring = s.counterclockwise in omega (arith, ints, h, a)
simple_has_no_fault ring Clockwise s h = let a : pos 0 <ℤ area2 ring = s.counterclockwise in omega (arith, ints, h, a)
simple_has_no_fault ring (EdgesMeet i j) s h = s.simple i j h.1.ordered h.1.below h.1.has

-- ---- cities
-- a ring that is no simple one has that fault alone
pub same_ring_fault : (ring : List Corner) (f : RingFault) (fault : CityFault) → IsRingFault ring f
    → IsCityFault ring fault → Ring f ≡ fault
same_ring_fault ring f (Ring g) h k = ap Ring (one_ring_fault ring f g h k)
same_ring_fault ring f (Folded i j) h k = absurd (simple_has_no_fault ring f k.0 h)
same_ring_fault ring f NoMemory h k = absurd k

-- and a folded one its first two triangles that overlap
pub same_fold : (ring : List Corner) (ts : List Tri) (i j : ℕ) (fault : CityFault) → IsSimpleRing ring
    → IsClippedTo ring ts → IsFirstOverlap ts i j
    → IsCityFault ring fault → Folded i j ≡ fault
same_fold ring ts i j (Ring g) s c h k = absurd (simple_has_no_fault ring g s k)
same_fold ring ts i j (Folded m n) s c h k =
    same (first_pair_is_one (OverlapAt ts) (length ts) i j m n h (subst (λ us. IsFirstOverlap us m n)
    (one_way ring k.1.0 ts k.1.1 c) k.1.2))
  where
    same : (i ≡ m) × (j ≡ n) → Folded i j ≡ Folded m n
    same e = ap (λ l. Folded l j) e.0 ∙ ap (λ l. Folded m l) e.1
same_fold ring ts i j NoMemory s c h k = absurd k

pub no_city_fault : (ring : List Corner) (ts : List Tri) (fault : CityFault) → IsSimpleRing ring → IsClippedTo ring ts
    → HasNoOverlap ts
    → IsCityFault ring fault → ⊥
no_city_fault ring ts (Ring g) s c none k = simple_has_no_fault ring g s k
no_city_fault ring ts (Folded m n) s c none k =
    let h : IsFirstOverlap ts m n = subst (λ us. IsFirstOverlap us m n) (one_way ring k.1.0 ts k.1.1 c) k.1.2 in
    none m n h.ordered h.below h.has
no_city_fault ring ts NoMemory s c none k = absurd k
