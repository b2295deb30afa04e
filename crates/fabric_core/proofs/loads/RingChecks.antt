-- Rings that are checked one after the other.
use Rattle.std.proofs.Common.{◌≡◌, refl, sym, ◌∙◌, ap, subst, arith, ℕ, suc, List, [], ◌∷◌, ◌++◌, length, get_or}
use Rattle.std.specs.List.{AllByRecursion}
use Rattle.geo_exact.specs.declared.corner.Corner.{Corner}
use Rattle.geo_exact.specs.Layers.{numbered}
use Rattle.ring_core.specs.declared.ring.Ring.{Ring}
use Rattle.ring_core.specs.declared.ring.RingFault.{RingFault}
use Rattle.parcel_table.specs.declared.parcels.Parcel.{Parcel}
use Rattle.ring_core.specs.Faults.{IsRingFault}
use Rattle.fabric_core.specs.Faults.{AreSimple, IsFirstFaulty}
use Rattle.fabric_core.specs.own.Lists.{numbered_rows, corners_of_rings}
use Rattle.parcel_table.specs.Table.{rows_of_keyed}
use Rattle.fabric_core.proofs.tilings.Tilings.{IsMadeUp}

-- the first faulty ring stands behind those that are simple
faulty_behind : {A : Type 0} (ids : List ℕ) (done : List (Ring A)) (ring : List Corner) (back : List (List Corner)) (fault : RingFault)
    → length ids ≡ length (corners_of_rings done ++ ring ∷ back) → IsRingFault ring fault
    → IsFirstFaulty (numbered_rows ids (corners_of_rings done ++ ring ∷ back)) (get_or ids (length done) 0) fault
faulty_behind [] [] ring back fault e h = absurd (omega (arith, e))
faulty_behind [] (d ∷ done) ring back fault e h = absurd (omega (arith, e))
faulty_behind (n ∷ ids) [] ring back fault e h = record {
  before = [];
  row = numbered n ring;
  behind = numbered_rows ids back;
  are_all = refl;
  has_number = refl;
  is_fault = h;
  simple_before = tt;
}
faulty_behind (n ∷ ids) (d ∷ done) ring back fault e h =
    let w = faulty_behind ids done ring back fault (less (length ids) (length (corners_of_rings done ++ ring ∷ back)) e) h in record {
      before = numbered n d.corners ∷ w.before;
      row = w.row;
      behind = w.behind;
      are_all = ap (λ rows. numbered n d.corners ∷ rows) w.are_all;
      has_number = w.has_number;
      is_fault = w.is_fault;
      simple_before = (d.is_simple, w.simple_before);
    }
  where
    less : (m n : ℕ) → suc m ≡ suc n → m ≡ n
    less m n k = omega (arith, k)

pub faulty_at : {A : Type 0} (ids : List ℕ) (rings left back : List (List Corner)) (done : List (Ring A)) (k : ℕ)
    (ring : List Corner) (fault : RingFault)
    → length ids ≡ length rings → corners_of_rings done ++ left ≡ rings → left ≡ ring ∷ back → k ≡ length done
    → IsRingFault ring fault
    → IsFirstFaulty (numbered_rows ids rings) (get_or ids k 0) fault
faulty_at ids rings left back done k ring fault many so_far here at h =
    let whole : corners_of_rings done ++ ring ∷ back ≡ rings = ap (λ xs. corners_of_rings done ++ xs) (sym here) ∙ so_far in
    subst (λ n. IsFirstFaulty (numbered_rows ids rings) (get_or ids n 0) fault) (sym at)
    (subst (λ xs. IsFirstFaulty (numbered_rows ids xs) (get_or ids (length done) 0) fault) whole
    (faulty_behind ids done ring back fault (many ∙ ap length (sym whole)) h))

-- rings that are checked are simple, under whatever numbers
pub simple_rows : {A : Type 0} (ids : List ℕ) (rings : List (Ring A)) → AreSimple (numbered_rows ids (corners_of_rings rings))
simple_rows [] rings = tt
simple_rows (id ∷ ids) [] = tt
simple_rows (id ∷ ids) (ring ∷ rings) = (ring.is_simple, simple_rows ids rings)

-- and parcels are made up of triangles
pub made_rows : {A : Type 0} (parcels : List (ℕ × Parcel A)) → AllByRecursion IsMadeUp (rows_of_keyed parcels)
made_rows [] = tt
made_rows (parcel ∷ parcels) = ((parcel.1.shape.triangles, parcel.1.shape.made_up), made_rows parcels)
