-- Rings that are checked in slices, by several threads.
use Rattle.std.proofs.Common.{◌≡◌, ◌⊎◌, inl, inr, refl, sym, ◌∙◌, ap, subst, arith, ℕ, zero, suc, ◌<◌, ◌≤◌, List, [], ◌∷◌, ◌++◌}
use Rattle.std.proofs.Common.{length, get_or, take, drop, append_assoc, Result, Err, Vec}
use Rattle.std.specs.List.{AllByRecursion, AllZip}
use Rattle.std.specs.Result.{IfOk, IfErr}
use Rattle.std.proofs.lemmas.List.{take-append-drop, take_all, drop_all}
use Rattle.geo_exact.specs.declared.corner.Corner.{Corner}
use Rattle.geo_exact.specs.declared.limits.TheConstants.{RING_CORNERS}
use Rattle.geo_exact.specs.Layers.{NumberedRing, numbered}
use Rattle.geo_exact.proofs.PassedOn.{ok_more}
use Rattle.ring_core.specs.declared.ring.Ring.{Ring}
use Rattle.ring_core.specs.Simple.{IsSimpleRing}
use Rattle.edge_chains.specs.own.Slices.{AreOfSlices, AreJoined}
use Rattle.fabric_core.specs.declared.all_faults.Asked.{Asked}
use Rattle.fabric_core.specs.declared.all_faults.LoadRefusal.{LoadRefusal}
use Rattle.fabric_core.specs.Faults.{AreSimple, IsOutOfMemory}
use Rattle.fabric_core.specs.Tiling.{corner_lists}
use Rattle.fabric_core.specs.own.Checks.{IsToldOfRings}
use Rattle.fabric_core.specs.own.Lists.{numbered_rows, corners_of_rings}
use Rattle.fabric_core.specs.own.RingSlices.{IsSliceOf, IsCheckedSlice}
use Rattle.fabric_core.proofs.loads.LoadRefusals.{asked_apart}
use Rattle.fabric_core.proofs.loads.Loaded.{rows_few}
use Rattle.fabric_core.proofs.loads.OneLoadFault.{head_of}
use Rattle.fabric_core.proofs.rows.Lists.{lists_of_rows}
use Rattle.fabric_core.proofs.rows.RowLists.{AllByRecursion-append}

-- ---- numbers and rings that are cut
pub slice_front : (n : ℕ) (ids : List ℕ) (rings : List (List Corner)) → length ids ≡ length rings
    → AllByRecursion (λ ring. length ring ≤ RING_CORNERS) rings
    → IsSliceOf (take n (numbered_rows ids rings)) (take n ids) (take n rings)
slice_front zero ids rings e short = record { are_rows = refl; numbered = refl; short = tt }
slice_front (suc n) [] [] e short = record { are_rows = refl; numbered = refl; short = tt }
slice_front (suc n) [] (ring ∷ rings) e short = absurd (omega (arith, e))
slice_front (suc n) (id ∷ ids) [] e short = absurd (omega (arith, e))
slice_front (suc n) (id ∷ ids) (ring ∷ rings) e short =
    let w = slice_front n ids rings (omega (arith, e)) short.1 in record {
      are_rows = ap (λ rows. numbered id ring ∷ rows) w.are_rows;
      numbered = ap suc w.numbered;
      short = (short.0, w.short);
    }

pub slice_rest : (n : ℕ) (ids : List ℕ) (rings : List (List Corner)) → length ids ≡ length rings
    → AllByRecursion (λ ring. length ring ≤ RING_CORNERS) rings
    → IsSliceOf (drop n (numbered_rows ids rings)) (drop n ids) (drop n rings)
slice_rest zero ids rings e short = record { are_rows = refl; numbered = e; short = short }
slice_rest (suc n) [] [] e short = record { are_rows = refl; numbered = refl; short = tt }
slice_rest (suc n) [] (ring ∷ rings) e short = absurd (omega (arith, e))
slice_rest (suc n) (id ∷ ids) [] e short = absurd (omega (arith, e))
slice_rest (suc n) (id ∷ ids) (ring ∷ rings) e short = slice_rest n ids rings (omega (arith, e)) short.1

-- what fits into one slice is cut no more
pub slice_last : (n : ℕ) (ids : List ℕ) (rings : List (List Corner)) → length ids ≡ length rings
    → AllByRecursion (λ ring. length ring ≤ RING_CORNERS) rings → length rings ≤ n
    → IsSliceOf (take n (numbered_rows ids rings)) ids rings × (drop n (numbered_rows ids rings) ≡ [])
slice_last n ids rings e short fits =
    let few : length (numbered_rows ids rings) ≤ n = omega (arith, rows_few ids rings, e, fits) in (
      record { are_rows = sym (take_all n (numbered_rows ids rings) few); numbered = e; short = short },
      drop_all n (numbered_rows ids rings) few,
    )

-- what holds of the job of each slice holds of the job at each place
pub each_slice : {X J : Type 0} (Q : List X → J → Type 0) (P : J → Type 0) (size : ℕ) (xs : List X) (js : List J)
    → AreOfSlices Q size xs js → ((slice : List X) (j : J) → Q slice j → P j) → (i : ℕ) (d : J) → i < length js → P (get_or js i d)
each_slice Q P size xs [] h w i d l = absurd (omega (arith, l))
each_slice Q P size xs (j ∷ js) h w zero d l = w (take size xs) j h.0
each_slice Q P size xs (j ∷ js) h w (suc i) d l = each_slice Q P size (drop size xs) js h.1 w i d (omega (arith, l))

-- ---- one slice that was checked
pub checked_slice : {A : Type 0} (rows : List NumberedRing) (ids : List ℕ) (rings : List (List Corner))
    (result : Result (Vec (Ring A) A) (LoadRefusal A)) → IsSliceOf rows ids rings
    → IfOk result (λ checked. corners_of_rings checked.items ≡ rings)
    → IfErr result (λ refusal. IsToldOfRings Asked.First (numbered_rows ids rings) refusal ⊎ IsOutOfMemory refusal)
    → IsCheckedSlice rows result
checked_slice rows ids rings result h ok err = record {
  ok = ok_more (λ checked. corners_of_rings checked.items ≡ rings) (λ checked. corners_of_rings checked.items ≡ corner_lists rows)
      result (λ checked same. same ∙ sym (ap corner_lists (sym h.are_rows) ∙ lists_of_rows ids rings h.numbered)) ok;
  err = subst (λ rs. IfErr result (λ refusal. IsToldOfRings Asked.First rs refusal ⊎ IsOutOfMemory refusal)) h.are_rows err;
}

-- ---- all slices
pub zip_of_rings : {A : Type 0} (rows : List NumberedRing) (checked : List (Ring A)) → corners_of_rings checked ≡ corner_lists rows
    → AllZip (λ row ring. ring.corners ≡ row.corners) rows checked
zip_of_rings [] [] e = tt
zip_of_rings [] (ring ∷ checked) e = absurd (omega (arith, ap length e))
zip_of_rings (row ∷ rows) [] e = absurd (omega (arith, ap length e))
zip_of_rings (row ∷ rows) (ring ∷ checked) e = (
  head_of ring.corners row.corners (corners_of_rings checked) (corner_lists rows) e,
  zip_of_rings rows checked (ap (drop 1) e),
)

pub rings_of_zip : {A : Type 0} (rows : List NumberedRing) (checked : List (Ring A))
    → AllZip (λ row ring. ring.corners ≡ row.corners) rows checked → corners_of_rings checked ≡ corner_lists rows
rings_of_zip [] [] h = refl
rings_of_zip [] (ring ∷ checked) h = absurd h
rings_of_zip (row ∷ rows) [] h = absurd h
rings_of_zip (row ∷ rows) (ring ∷ checked) h =
    ap (λ corners. corners ∷ corners_of_rings checked) h.0 ∙ ap (λ rest. row.corners ∷ rest) (rings_of_zip rows checked h.1)

simple_of_zip : {A : Type 0} (rows : List NumberedRing) (checked : List (Ring A))
    → AllZip (λ row ring. ring.corners ≡ row.corners) rows checked → AreSimple rows
simple_of_zip [] [] h = tt
simple_of_zip [] (ring ∷ checked) h = absurd h
simple_of_zip (row ∷ rows) [] h = absurd h
simple_of_zip (row ∷ rows) (ring ∷ checked) h = (subst IsSimpleRing h.0 ring.is_simple, simple_of_zip rows checked h.1)

-- the first fault of a slice behind simple rings is the first of all
told_behind : {A : Type 0} (before slice behind rows : List NumberedRing) (refusal : LoadRefusal A)
    → before ++ (slice ++ behind) ≡ rows → AreSimple before → IsToldOfRings Asked.First slice refusal
    → IsToldOfRings Asked.First rows refusal
told_behind before slice behind rows refusal all simple h =
    let f = h.is_faulty in record {
      number = h.number;
      fault = h.fault;
      is_first = h.is_first;
      is_faulty = record {
        before = before ++ f.before;
        row = f.row;
        behind = f.behind ++ behind;
        are_all = sym all ∙ ap (λ rs. before ++ (rs ++ behind)) f.are_all
            ∙ ap (λ rs. before ++ rs) (append_assoc f.before (f.row ∷ f.behind) behind)
            ∙ sym (append_assoc before f.before (f.row ∷ (f.behind ++ behind)));
        has_number = f.has_number;
        is_fault = f.is_fault;
        simple_before =
            AllByRecursion-append (λ (row : NumberedRing). IsSimpleRing row.corners) before f.before simple f.simple_before;
      };
      is_alone = h.is_alone;
      has_all = λ all. absurd (asked_apart all);
    }

pub told_of_slice : {A : Type 0} (size : ℕ) (rows : List NumberedRing) (result : Result (Vec (Ring A) A) (LoadRefusal A))
    (results : List (Result (Vec (Ring A) A) (LoadRefusal A))) (checked : List (Ring A)) (refusal : LoadRefusal A)
    → AreJoined (λ row ring. ring.corners ≡ row.corners) (λ slice one. IsCheckedSlice slice one) size rows (result ∷ results) checked
    → result ≡ Err refusal → IsToldOfRings Asked.First rows refusal ⊎ IsOutOfMemory refusal
told_of_slice size rows result results checked refusal h is =
    let (done, left, all, rest, so_far) = h in
    elim (subst (λ one. IfErr one (λ r. IsToldOfRings Asked.First (take size left) r ⊎ IsOutOfMemory r)) is rest.0.err) [
      | inl told ↦ inl (told_behind done (take size left) (drop size left) rows refusal
          (ap (λ rs. done ++ rs) (take-append-drop size left) ∙ all) (simple_of_zip done checked so_far) told)
      | inr memory ↦ inr memory
    ]
