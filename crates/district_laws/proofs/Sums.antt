-- What a tiling says at every point, on edges, too, in winding numbers alone: none of a row is negative, and together
-- they are the city's, which is 0 or 1. A point has the winding numbers of the same point moved a little, which is off
-- all edges.
use Rattle.std.proofs.Common.{◌≡◌, ⊎_elim, refl, sym, ◌∙◌, ap, subst, arith, pos, ◌+ℤ◌, List, [], ◌∷◌, ◌++◌, map}
use Rattle.std.specs.List.{AllByRecursion, Contains}
use Rattle.std.proofs.lemmas.Int.{ints, by_lt_z}
use lib.Signed.{◌≤ℤ◌}
use Rattle.geo_exact.specs.declared.corner.Corner.{Corner}
use Rattle.geo_exact.specs.Point.{Point}
use Rattle.geo_exact.specs.Turn.{IsOnRing}
use Rattle.geo_exact.specs.Winding.{winding, IsInterior}
use Rattle.geo_exact.specs.Area.{area2}
use Rattle.geo_exact.specs.Layers.{NumberedRing}
use Rattle.geo_exact.proofs.corners_and_turns.Moved.{moved, moved_winding}
use Rattle.edge_chains.specs.Net.{winding_of_rings, area2_of_rings}
use Rattle.edge_chains.proofs.nodings.NodedEdges.{none_in_nil, Contains-here, Contains-there, Contains-cases}
use Rattle.ring_edits.specs.Edits.{CoversAlike}
use Rattle.fabric_core.specs.Tiling.{corner_lists, IsOffEdges, IsInNone, IsInOne, IsTiling, IsWoundAtMostOnce}
use Rattle.fabric_core.proofs.rows.RowLists.{Contains-mapped}
use Rattle.fabric_core.proofs.tilings.OneRow.{moved_off}
use Rattle.fabric_core.proofs.tilings.Tilings.{in_none, AreNotNegative}

-- no ring's winding number at p is negative
abbrev pub NoneNegative : Point → List (List Corner) → Type 0
NoneNegative p rings = AllByRecursion (λ ring. pos 0 ≤ℤ winding p ring) rings

-- none of the rings is negative at p, and together they go round p as often as the city, which is once or not at all
pub record IsSummed (p : Point) (rings : List (List Corner)) (city : List Corner) : Type 0 where
  pub none_negative : NoneNegative p rings
  pub sums : winding_of_rings p rings ≡ winding p city
  pub once : IsWoundAtMostOnce p city

-- ---- off all edges
none_summed : (p : Point) (rows : List NumberedRing) → IsInNone p rows
    → NoneNegative p (corner_lists rows) × (winding_of_rings p (corner_lists rows) ≡ pos 0)
none_summed p [] h = (tt, refl)
none_summed p (row ∷ rows) h =
    let rest = none_summed p rows h.1 in (
      (omega (arith, ints, h.0), rest.0),
      omega (arith, ints, h.0, rest.1),
    )

one_summed : (p : Point) (before : List NumberedRing) (row : NumberedRing) (behind : List NumberedRing)
    → winding p row.corners ≡ pos 1 → IsInNone p before → IsInNone p behind
    → NoneNegative p (corner_lists (before ++ row ∷ behind)) × (winding_of_rings p (corner_lists (before ++ row ∷ behind)) ≡ pos 1)
one_summed p [] row behind one h k =
    let rest = none_summed p behind k in ((omega (arith, ints, one), rest.0), omega (arith, ints, one, rest.1))
one_summed p (first ∷ before) row behind one h k =
    let rest = one_summed p before row behind one h.1 k in
    ((omega (arith, ints, h.0), rest.0), omega (arith, ints, h.0, rest.1))

summed_off : (rows : List NumberedRing) (city : List Corner) → IsTiling rows city → (p : Point) → IsOffEdges p rows city
    → IsSummed p (corner_lists rows) city
summed_off rows city tiling p off =
    by_lt_z (pos 0) (winding p city)
    (λ some. inner (tiling.inside p off (record { off_edges = off.off_city; is_wound = omega (arith, ints, some) })))
    (λ none. outer (tiling.outside p off (λ i. let w : pos 1 ≤ℤ winding p city = i.is_wound in omega (arith, ints, w, none))))
  where
    inner : (winding p city ≡ pos 1) × IsInOne p rows → IsSummed p (corner_lists rows) city
    inner h =
        let one = h.1 in
        let summed = one_summed p one.before one.row one.behind one.is_in_row one.none_before one.none_behind in record {
          none_negative = subst (λ all. NoneNegative p (corner_lists all)) (sym one.are_all) summed.0;
          sums = ap (λ all. winding_of_rings p (corner_lists all)) one.are_all ∙ summed.1 ∙ sym h.0;
          once = (omega (arith, ints, h.0), omega (arith, ints, h.0));
        }

    outer : (winding p city ≡ pos 0) × IsInNone p rows → IsSummed p (corner_lists rows) city
    outer h =
        let summed = none_summed p rows h.1 in record {
          none_negative = summed.0;
          sums = summed.1 ∙ sym h.0;
          once = (omega (arith, ints, h.0), omega (arith, ints, h.0));
        }

-- ---- from a point moved a little back to the point
back_none_negative : (p : Point) (rings : List (List Corner)) → NoneNegative (moved p) rings → NoneNegative p rings
back_none_negative p [] h = tt
back_none_negative p (ring ∷ rings) h = (subst (λ w. pos 0 ≤ℤ w) (moved_winding ring p) h.0, back_none_negative p rings h.1)

sums_moved : (p : Point) (rings : List (List Corner)) → winding_of_rings (moved p) rings ≡ winding_of_rings p rings
sums_moved p [] = refl
sums_moved p (ring ∷ rings) =
    ap (λ w. w +ℤ winding_of_rings (moved p) rings) (moved_winding ring p)
    ∙ ap (λ w. winding p ring +ℤ w) (sums_moved p rings)

pub summed : (rows : List NumberedRing) (city : List Corner) → IsTiling rows city → (p : Point) → IsSummed p (corner_lists rows) city
summed rows city tiling p =
    let far = summed_off rows city tiling (moved p) (moved_off rows city p) in record {
      none_negative = back_none_negative p (corner_lists rows) far.none_negative;
      sums = sym (sums_moved p (corner_lists rows)) ∙ far.sums ∙ moved_winding city p;
      once = subst (λ w. (pos 0 ≤ℤ w) × (w ≤ℤ pos 1)) (moved_winding city p) far.once;
    }

-- ---- and from there to a tiling
rows_not_negative : (p : Point) (rows : List NumberedRing) → NoneNegative p (corner_lists rows) → AreNotNegative p rows
rows_not_negative p [] h = tt
rows_not_negative p (row ∷ rows) h = (h.0, rows_not_negative p rows h.1)

sum_not_negative : (p : Point) (rings : List (List Corner)) → NoneNegative p rings → pos 0 ≤ℤ winding_of_rings p rings
sum_not_negative p [] h = omega (arith, ints)
sum_not_negative p (ring ∷ rings) h = omega (arith, ints, h.0, sum_not_negative p rings h.1)

in_one : (p : Point) (rows : List NumberedRing) → NoneNegative p (corner_lists rows) → winding_of_rings p (corner_lists rows)
    ≡ pos 1 → IsInOne p rows
in_one p [] h e = absurd (omega (arith, ints, e))
in_one p (row ∷ rows) h e =
    let rest : pos 0 ≤ℤ winding_of_rings p (corner_lists rows) = sum_not_negative p (corner_lists rows) h.1 in
    let here : pos 0 ≤ℤ winding p row.corners = h.0 in
    by_lt_z (pos 0) (winding p row.corners)
    (λ some. record {
      before = [];
      row = row;
      behind = rows;
      are_all = refl;
      is_in_row = omega (arith, ints, some, rest, e);
      none_before = tt;
      none_behind = in_none p rows (rows_not_negative p rows h.1) (omega (arith, ints, some, rest, e));
    })
    (λ none. behind (omega (arith, ints, here, none)) (in_one p rows h.1 (omega (arith, ints, here, none, e))))
  where
    behind : winding p row.corners ≡ pos 0 → IsInOne p rows → IsInOne p (row ∷ rows)
    behind zero w = record {
      before = row ∷ w.before;
      row = w.row;
      behind = w.behind;
      are_all = ap (λ rs. row ∷ rs) w.are_all;
      is_in_row = w.is_in_row;
      none_before = (zero, w.none_before);
      none_behind = w.none_behind;
    }

pub tiles_where_summed : (rows : List NumberedRing) (city : List Corner) → ((p : Point) → IsSummed p (corner_lists rows) city)
    → area2_of_rings (corner_lists rows) ≡ area2 city → IsTiling rows city
tiles_where_summed rows city at areas = record {
  inside = λ p off i.
      let one : winding p city ≡ pos 1 = omega (arith, ints, i.is_wound, (at p).once.1) in
      (one, in_one p rows (at p).none_negative ((at p).sums ∙ one));
  outside = λ p off o.
      let none : winding p city ≡ pos 0 = not_wound p off.off_city o in
      (none, in_none p rows (rows_not_negative p rows (at p).none_negative) ((at p).sums ∙ none));
  areas = areas;
}
  where
    not_wound : (p : Point) → ¬ IsOnRing p city → ¬ IsInterior p city → winding p city ≡ pos 0
    not_wound p off outer =
        by_lt_z (pos 0) (winding p city)
        (λ some. absurd (outer (record { off_edges = off; is_wound = omega (arith, ints, some) })))
        (λ none. omega (arith, ints, none, (at p).once.0))

-- ---- other rows, or another ring, that cover alike
pub renumbered : (rows others : List NumberedRing) (city : List Corner) → corner_lists others ≡ corner_lists rows
    → IsTiling rows city → IsTiling others city
renumbered rows others city same tiling =
    tiles_where_summed others city
    (λ p. subst (λ rings. IsSummed p rings city) (sym same) (summed rows city tiling p))
    (ap area2_of_rings same ∙ tiling.areas)

pub tiles_alike : (rows : List NumberedRing) (outline city : List Corner) → CoversAlike outline city → IsTiling rows outline
    → IsTiling rows city
tiles_alike rows outline city alike tiling =
    tiles_where_summed rows city
    (λ p. let s = summed rows outline tiling p in record {
      none_negative = s.none_negative;
      sums = s.sums ∙ sym (alike.winding_number p);
      once = subst (λ w. (pos 0 ≤ℤ w) × (w ≤ℤ pos 1)) (sym (alike.winding_number p)) s.once;
    })
    (tiling.areas ∙ sym alike.signed_area)

-- ---- what one row says of the sum, and the sum of some row
-- where a ring goes round p, so do all together
pub wound_together : (p : Point) (rings : List (List Corner)) (ring : List Corner) → NoneNegative p rings → Contains rings ring
    → pos 1 ≤ℤ winding p ring → pos 1 ≤ℤ winding_of_rings p rings
wound_together p [] ring h c some = absurd (none_in_nil ring c)
wound_together p (first ∷ rings) ring h c some = ⊎_elim
    (λ e. let here : pos 1 ≤ℤ winding p first = subst (λ r. pos 1 ≤ℤ winding p r) (sym e) some in
    omega (arith, ints, here, sum_not_negative p rings h.1))
    (λ later. let there : pos 1 ≤ℤ winding_of_rings p rings = wound_together p rings ring h.1 later some in
    let first_one : pos 0 ≤ℤ winding p first = h.0 in omega (arith, ints, there, first_one))
    (Contains-cases first rings ring c)

-- where all together go round p, so does a row
pub wound_by_one : (p : Point) (rows : List NumberedRing) → pos 1 ≤ℤ winding_of_rings p (corner_lists rows)
    → (row : NumberedRing) × Contains rows row × (pos 1 ≤ℤ winding p row.corners)
wound_by_one p [] some = absurd (omega (arith, ints, some))
wound_by_one p (row ∷ rows) some =
    by_lt_z (pos 0) (winding p row.corners)
    (λ here. (row, Contains-here row rows, omega (arith, ints, here)))
    (λ none. let w = wound_by_one p rows (omega (arith, ints, some, none)) in (w.0, Contains-there row rows w.0 w.1, w.2))

-- of things with rows that go round p once at most together, one alone goes round it
pub one_goes_round : {X : Type 0} (row_of : X → NumberedRing) (p : Point) (xs : List X) (x y : X)
    → NoneNegative p (corner_lists (map row_of xs)) → winding_of_rings p (corner_lists (map row_of xs)) ≤ℤ pos 1
    → Contains xs x → Contains xs y → pos 1 ≤ℤ winding p (row_of x).corners → pos 1 ≤ℤ winding p (row_of y).corners → x ≡ y
one_goes_round row_of p [] x y h most c d some other = absurd (none_in_nil x c)
one_goes_round {X = X} row_of p (first ∷ xs) x y h most c d some other = ⊎_elim
    (λ e. ⊎_elim (λ f. sym e ∙ f) (λ later. absurd (too_many x y e later some other)) (Contains-cases first xs y d))
    (λ later. ⊎_elim (λ f. absurd (too_many y x f later other some))
    (λ also. one_goes_round row_of p xs x y h.1 (fewer h.0 most) later also some other)
    (Contains-cases first xs y d))
    (Contains-cases first xs x c)
  where
    fewer : pos 0 ≤ℤ winding p (row_of first).corners
        → (winding p (row_of first).corners +ℤ winding_of_rings p (corner_lists (map row_of xs))) ≤ℤ pos 1
        → winding_of_rings p (corner_lists (map row_of xs)) ≤ℤ pos 1
    fewer one all = omega (arith, ints, one, all)

    too_many : (u w : X) → first ≡ u → Contains xs w → pos 1 ≤ℤ winding p (row_of u).corners
        → pos 1 ≤ℤ winding p (row_of w).corners → ⊥
    too_many u w e later one two =
        let here : pos 1 ≤ℤ winding p (row_of first).corners = subst (λ v. pos 1 ≤ℤ winding p (row_of v).corners) (sym e) one in
        let there : pos 1 ≤ℤ winding_of_rings p (corner_lists (map row_of xs)) =
        wound_together p (corner_lists (map row_of xs)) (row_of w).corners h.1
        (Contains-mapped (λ (row : NumberedRing). row.corners) (map row_of xs) (row_of w) (Contains-mapped row_of xs w later)) two in
        omega (arith, ints, here, there, most)
