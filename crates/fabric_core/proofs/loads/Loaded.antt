-- A layer that passes all checks of loading.
use Rattle.std.proofs.Common.{◌≡◌, refl, sym, ◌∙◌, ap, subst, arith, ℕ, zero, suc, ◌<◌, ◌≤◌, ◌+◌, List, [], ◌∷◌, length}
use Rattle.std.proofs.Common.{slice_index, add-one}
use Rattle.std.specs.List.Sorted.{IsStrictlyIncreasing}
use Rattle.std.proofs.lemmas.List.{length-map}
use Rattle.geo_exact.specs.declared.corner.Corner.{Corner}
use Rattle.ring_core.specs.declared.ring.Ring.{Ring}
use Rattle.ring_edits.proofs.StaySimple.{noded_simple}
use Rattle.parcel_table.specs.declared.parcels.Parcel.{Parcel}
use Rattle.fabric_core.specs.Tiling.{corner_lists, IsTiling}
use Rattle.geo_exact.specs.Layers.{NumberedRing, NumbersRise}
use Rattle.geo_exact.specs.declared.limits.TheConstants.{LAYER_RECORDS}
use Rattle.fabric_core.specs.Rows.{numbers}
use Rattle.fabric_core.specs.Limits.{AreWithinLimits}
use Rattle.fabric_core.specs.Faults.{AreSimple}
use Rattle.fabric_core.specs.own.Checks.{HaveEqualNets, HaveNoFault, IsRefinedCity, IsChecked}
use Rattle.fabric_core.specs.own.Lists.{numbered_rows, corners_of_rings}
use Rattle.fabric_core.specs.own.Kept.{IsKept, ids_by_key, by_ids}
use Rattle.parcel_table.specs.Table.{rows_of_keyed, entries_of}
use Rattle.std.specs.List.{All, AllZip, AllByRecursion}
use Rattle.geo_exact.specs.declared.bounds.Bounds.{Bounds}
use Rattle.geo_exact.specs.Bounds.{HoldsCorner, IsLeastBox}
use Rattle.cell_index.specs.Cells.{Grid, Indexes, HaveOwnKeys}
use Rattle.fabric_core.specs.GridIndex.{IsEntryOf, IsIndexed}
use Rattle.fabric_core.proofs.loads.ByIds.{entries_by_id, stands_by_ids}
use Rattle.fabric_core.proofs.tilings.InTheCity.{rows_in_box}
use Rattle.fabric_core.proofs.rows.Alikes.{alike_from_nets}
use Rattle.fabric_core.proofs.rows.Lists.{numbers_of_rows, lists_of_rows}
use Rattle.fabric_core.proofs.loads.RingChecks.{made_rows, simple_rows}
use Rattle.fabric_core.proofs.tilings.Tilings.{tiles_on_ground, noded_ground}

pub loaded : {A : Type 0} (numbers : List ℕ) (rings : List (List Corner)) (parcels : List (ℕ × Parcel A)) (city refined : List Corner)
    → rows_of_keyed parcels ≡ numbered_rows numbers rings → IsChecked numbers rings city refined
    → HaveNoFault (rows_of_keyed parcels) refined
loaded number_list rings parcels city refined same h = record {
  within = subst AreWithinLimits (sym same) h.within;
  simple = subst AreSimple (sym same) h.simple;
  nets = subst (λ lists. HaveEqualNets lists refined) (sym (ap corner_lists same
      ∙ lists_of_rows number_list rings h.same_length)) h.nets;
}

-- what is kept tiles the city
pub kept_tiles : {A : Type 0} (parcels : List (ℕ × Parcel A)) (city refined : List Corner) (index : Grid)
    → IsKept parcels city refined index
    → IsTiling (rows_of_keyed parcels) city
kept_tiles parcels city refined index h = tiles_on_ground (rows_of_keyed parcels) city refined
    (made_rows parcels) h.wound_once h.ground h.alike

-- the entries of parcels under their ids are their rows'
entries_of_rows : {A : Type 0} (parcels : List (ℕ × Parcel A)) → AllZip IsEntryOf (rows_of_keyed parcels) (entries_by_id parcels)
entries_of_rows [] = tt
entries_of_rows (parcel ∷ parcels) = (record { has_id = refl; is_its_box = parcel.1.shape.least_box }, entries_of_rows parcels)

pub is_indexed : {A : Type 0} (parcels : List (ℕ × Parcel A)) (city refined : List Corner) (index : Grid)
    → IsKept parcels city refined index
    → HaveOwnKeys (entries_of parcels) → IsIndexed (rows_of_keyed parcels) city (by_ids (ids_by_key parcels) index)
is_indexed parcels city refined index h own = record {
  area = h.area;
  entries = entries_by_id parcels;
  are_theirs = entries_of_rows parcels;
  stand = stands_by_ids parcels index own h.indexed;
}

-- there are no more rows than numbers
pub rows_few : (numbers : List ℕ) (rings : List (List Corner)) → length (numbered_rows numbers rings) ≤ length numbers
rows_few [] rings = omega arith
rows_few (number ∷ rest) [] = omega arith
rows_few (number ∷ rest) (ring ∷ rings) = omega (arith, rows_few rest rings)

pub kept : {A : Type 0} (numbers : List ℕ) (rings : List (List Corner)) (parcels : List (ℕ × Parcel A))
    (city refined : List Corner) (area : Bounds)
    (index : Grid) → rows_of_keyed parcels ≡ numbered_rows numbers rings → IsChecked numbers rings city refined
    → IsLeastBox area city
    → index.area ≡ area → Indexes index (entries_of parcels) → IsKept parcels city refined index
kept number_list rings parcels city refined area index same h least e indexed =
    let all = loaded number_list rings parcels city refined same h in
    let ground = noded_ground city h.is_city.corners refined h.is_city.is_noded in
    let alike = alike_from_nets (corner_lists (rows_of_keyed parcels)) refined all.nets in record {
      ids_rise = subst IsStrictlyIncreasing (sym (ap numbers same ∙ numbers_of_rows number_list rings h.same_length)) h.rise;
      within = all.within;
      alike = alike;
      simple_city = noded_simple city h.is_city.corners refined h.is_city.simple h.is_city.is_noded;
      wound_once = h.is_city.wound_once;
      ground = ground;
      area = subst (λ box. IsLeastBox box city) (sym e) least;
      in_area = subst (λ box. AllByRecursion (λ row. All (HoldsCorner box) row.corners) (rows_of_keyed parcels)) (sym e)
          (rows_in_box (rows_of_keyed parcels) city refined area all.simple ground alike least.holds);
      indexed = indexed;
    }

-- what was checked, of the values that the steps of loading hand on
pub checked_from : {A : Type 0} (ids d5 : List ℕ) (rings : List (List Corner)) (d : List ℕ) (d2 : List (List Corner))
    (checked d4 : List (Ring A))
    (slice city refined : List Corner) → d ≡ ids → d2 ≡ rings → AreWithinLimits (numbered_rows d d2)
    → corners_of_rings checked ≡ rings → d4 ≡ checked
    → slice ≡ refined → HaveEqualNets (corners_of_rings d4) slice → d5 ≡ ids → length ids ≡ length rings
    → IsStrictlyIncreasing ids → length ids ≤ LAYER_RECORDS
    → IsRefinedCity city refined → IsChecked d5 (corners_of_rings checked) city refined
checked_from ids d5 rings d d2 checked d4 slice city refined e e2 within f e4 s nets e5 same rise few is_city =
    subst (λ xs. IsChecked xs (corners_of_rings checked) city refined) (sym e5)
    (subst (λ xs. IsChecked ids xs city refined) (sym f) (record {
      same_length = same;
      few = few;
      rise = rise;
      is_city = is_city;
      within = subst (λ xs. AreWithinLimits (numbered_rows xs rings)) e (subst (λ xs. AreWithinLimits (numbered_rows d xs)) e2 within);
      simple = subst (λ xs. AreSimple (numbered_rows ids xs)) f (simple_rows ids checked);
      nets = subst (λ xs. HaveEqualNets xs refined) (ap corners_of_rings e4
          ∙ f) (subst (λ xs. HaveEqualNets (corners_of_rings d4) xs) s nets);
    }))

-- numbers that rise
rising : (above last : ℕ) (records : List NumberedRing) → NumbersRise above last records → (k : ℕ)
    → suc k < length (numbers records)
    → slice_index (numbers records) k < slice_index (numbers records) (suc k)
rising above last [] h k l = absurd (omega (arith, l))
rising above last (a ∷ []) h k l = absurd (omega (arith, l))
rising above last (a ∷ b ∷ records) h zero l = h.2.0
rising above last (a ∷ b ∷ records) h (suc k) l = rising a.number last (b ∷ records) h.2 k (omega (arith, l))

-- numbers that rise above one number, and are at most another, are no more than lie between them
few_between : (above last : ℕ) (records : List NumberedRing) → above ≤ last → NumbersRise above last records
    → above + length records ≤ last
few_between above last [] below h = omega (arith, below)
few_between above last (a ∷ records) below h = omega (arith, h.0, few_between a.number last records h.1 h.2)

pub few_numbers : (records : List NumberedRing) → NumbersRise 0 LAYER_RECORDS records → length (numbers records) ≤ LAYER_RECORDS
few_numbers records h =
    omega (arith, length-map records (λ row. row.number), few_between 0 LAYER_RECORDS records (omega arith) h)

pub numbers_rising : (records : List NumberedRing) → NumbersRise 0 LAYER_RECORDS records → IsStrictlyIncreasing (numbers records)
numbers_rising records h k l = rw add-one (rising 0 LAYER_RECORDS records h k (omega (arith, l)))
