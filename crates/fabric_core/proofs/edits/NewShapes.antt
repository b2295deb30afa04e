-- New rows whose rings are checked and clipped one after the other.
use Rattle.std.proofs.Common.{◌≡◌, refl, sym, ◌∙◌, ap, arith, ℕ, zero, suc, ◌<◌, ◌≤◌, List, [], ◌∷◌, ◌++◌}
use Rattle.std.proofs.Common.{length, get_or, take, subst}
use Rattle.std.specs.List.{AllByRecursion}
use Rattle.geo_exact.specs.declared.limits.TheConstants.{RING_CORNERS}
use Rattle.geo_exact.specs.Layers.{NumberedRing}
use Rattle.ring_core.specs.declared.ring.RingFault.{RingFault}
use Rattle.ring_core.specs.declared.shape.Shape.{Shape}
use Rattle.ring_core.specs.Simple.{IsSimpleRing}
use Rattle.ring_core.specs.Faults.{IsRingFault}
use Rattle.fabric_core.specs.declared.journal.Row.{Row}
use Rattle.fabric_core.specs.JournalRows.{row_of}
use Rattle.fabric_core.specs.own.EntryRows.{rows_of_entry}
use Rattle.fabric_core.specs.Refusals.{IsFirstBadRing}
use Rattle.fabric_core.specs.Tiling.{corner_lists}
use Rattle.fabric_core.specs.own.Changes.{rings_of_shapes}

-- a simple ring before the others
behind_one : (row : NumberedRing) (rows : List NumberedRing) (n : ℕ) (fault : RingFault) → IsSimpleRing row.corners
    → IsFirstBadRing rows n fault
    → IsFirstBadRing (row ∷ rows) (suc n) fault
behind_one row rows n fault simple h = record {
  before = row ∷ h.before;
  row = h.row;
  behind = h.behind;
  are_all = ap (λ xs. row ∷ xs) h.are_all;
  is_number = omega (arith, h.is_number);
  is_fault = h.is_fault;
  simple_before = (simple, h.simple_before);
}

module _ {A : Type 0} where
  -- one shape more
  pub shaped_more : (rows : List (Row A)) (shapes : List (Shape A)) (k : ℕ) (row : Row A) (shape : Shape A) → k < length rows
      → row ≡ get_or rows k row → rings_of_shapes shapes ≡ take k (corner_lists (rows_of_entry rows))
      → shape.ring.corners ≡ row.corners
      → rings_of_shapes (shapes ++ shape ∷ []) ≡ take (suc k) (corner_lists (rows_of_entry rows))
  shaped_more [] shapes k row shape h is so_far same = absurd (omega (arith, h))
  shaped_more (r ∷ rows) [] zero row shape h is so_far same = ap (λ ring. ring ∷ []) same ∙ ap (λ (x : Row A). x.corners ∷ []) is
  shaped_more (r ∷ rows) (s ∷ shapes) zero row shape h is so_far same = absurd (cc)
  shaped_more (r ∷ rows) [] (suc k) row shape h is so_far same = absurd (cc)
  shaped_more (r ∷ rows) (s ∷ shapes) (suc k) row shape h is so_far same =
      let head : s.ring.corners ≡ r.corners = cc in
      let tail : rings_of_shapes shapes ≡ take k (corner_lists (rows_of_entry rows)) = cc in
      ap (λ ring. ring ∷ rings_of_shapes (shapes ++ shape ∷ [])) head
      ∙ ap (λ rest. r.corners ∷ rest) (shaped_more rows shapes k row shape (omega (arith, h)) is tail same)

  -- each row has few corners
  pub short_at : (rows : List (Row A)) (k : ℕ) (row : Row A) → k < length rows → row ≡ get_or rows k row
      → AllByRecursion (λ row. length row.corners ≤ RING_CORNERS) (rows_of_entry rows) → length row.corners ≤ RING_CORNERS
  short_at [] k row h is short = absurd (omega (arith, h))
  short_at (r ∷ rows) zero row h is short = subst (λ (x : Row A). length x.corners ≤ RING_CORNERS) (sym is) short.0
  short_at (r ∷ rows) (suc k) row h is short = short_at rows k row (omega (arith, h)) is short.1

  -- the first ring that is not simple stands behind those that are
  pub bad_at : (rows : List (Row A)) (shapes : List (Shape A)) (k : ℕ) (row : Row A) (fault : RingFault) → k < length rows
      → row ≡ get_or rows k row → rings_of_shapes shapes ≡ take k (corner_lists (rows_of_entry rows))
      → IsRingFault row.corners fault
      → IsFirstBadRing (rows_of_entry rows) (suc k) fault
  bad_at [] shapes k row fault h is so_far bad = absurd (omega (arith, h))
  bad_at (r ∷ rows) shapes zero row fault h is so_far bad = record {
    before = [];
    row = row_of r;
    behind = rows_of_entry rows;
    are_all = refl;
    is_number = omega arith;
    is_fault = subst (λ (x : Row A). IsRingFault x.corners fault) is bad;
    simple_before = tt;
  }
  bad_at (r ∷ rows) [] (suc k) row fault h is so_far bad = absurd (cc)
  bad_at (r ∷ rows) (s ∷ shapes) (suc k) row fault h is so_far bad =
      let head : s.ring.corners ≡ r.corners = cc in
      let tail : rings_of_shapes shapes ≡ take k (corner_lists (rows_of_entry rows)) = cc in
      behind_one (row_of r) (rows_of_entry rows) (suc k) fault (subst IsSimpleRing head s.ring.is_simple)
      (bad_at rows shapes k row fault (omega (arith, h)) is tail bad)
