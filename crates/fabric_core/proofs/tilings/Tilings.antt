-- Why rows tile a city: made of triangles, no row's winding number is negative, and where all together have the
-- city's, at most one has another than 0.
use Rattle.std.proofs.Common.{◌≡◌, ◌≢◌, ◌⊎◌, inl, inr, refl, sym, ◌∙◌, ap, arith, ℤ, pos, ◌+ℤ◌, ◌-ℤ◌}
use Rattle.std.proofs.Common.{List, [], ◌∷◌, ◌++◌}
use Rattle.std.specs.List.{AllByRecursion}
use Rattle.std.proofs.lemmas.Int.{ints, by_lt_z}
use Rattle.std.proofs.lemmas.List.Elements.{recursion_from_All}
use lib.Signed.{◌≤ℤ◌}
use Rattle.geo_exact.specs.declared.corner.Corner.{Corner}
use Rattle.geo_exact.specs.Point.{Point}
use Rattle.geo_exact.specs.Rings.{edges}
use Rattle.geo_exact.specs.Turn.{IsOnSome, IsOnRing}
use Rattle.geo_exact.specs.Winding.{winding, IsInterior}
use Rattle.geo_exact.specs.Area.{area2}
use Rattle.geo_exact.specs.Layers.{NumberedRing}
use Rattle.ring_core.specs.declared.triangle.Tri.{Tri}
use Rattle.ring_core.specs.Sums.{winding_of_triangles as triangles_winding, IsRoundAtMostOnce, MakeUp}
use Rattle.edge_chains.specs.Net.{all_edges, net_count, winding_of_rings, area2_of_rings}
use Rattle.edge_chains.specs.Noding.{IsNoded, AreFullyNoded}
use Rattle.edge_chains.specs.Jump.{net_difference, IsJump}
use Rattle.geo_exact.proofs.rings.OnRings.{IsOnSome-left, IsOnSome-right}
use Rattle.edge_chains.proofs.nodings.NodedRings.{winding_noded, area2_noded, boundary_noded}
use Rattle.edge_chains.proofs.jumps.Jumps.{jump_beside}
use Rattle.fabric_core.specs.Tiling.{corner_lists, IsOffEdges, IsInNone, IsInOne, IsTiling, IsWoundAtMostOnce}
use Rattle.ring_edits.specs.Edits.{CoversAlike}
use Rattle.fabric_core.specs.Rows.{IsUntiledBeside}
use Rattle.fabric_core.specs.own.Alike.{GoAlike}
use Rattle.fabric_core.proofs.rows.Alikes.{alike_from_nets}

-- ---- rows of triangles
triangles_not_negative : (p : Point) (ts : List Tri) → AllByRecursion (IsRoundAtMostOnce p) ts → pos 0 ≤ℤ triangles_winding p ts
triangles_not_negative p [] h = omega (arith, ints)
triangles_not_negative p (t ∷ ts) h = omega (arith, ints, h.0.0, triangles_not_negative p ts h.1)

-- no row's winding number at p is negative
abbrev pub AreNotNegative : Point → List NumberedRing → Type 0
AreNotNegative p rows = AllByRecursion (λ row. pos 0 ≤ℤ winding p row.corners) rows

-- the row is made up of triangles
abbrev pub IsMadeUp : NumberedRing → Type 0
IsMadeUp row = (ts : List Tri) × MakeUp ts row.corners

pub rows_not_negative : (p : Point) (rows : List NumberedRing) → AllByRecursion IsMadeUp rows → AreNotNegative p rows
rows_not_negative p [] h = tt
rows_not_negative p (row ∷ rows) h = (
  rw (h.0.1.windings p) (triangles_not_negative p h.0.0 (recursion_from_All (IsRoundAtMostOnce p) h.0.0 (h.0.1.each_once p))),
  rows_not_negative p rows h.1,
)

-- ---- sums of 0 and of 1
sum_not_negative : (p : Point) (rows : List NumberedRing) → AreNotNegative p rows → pos 0 ≤ℤ winding_of_rings p (corner_lists rows)
sum_not_negative p [] h = omega (arith, ints)
sum_not_negative p (row ∷ rows) h = omega (arith, ints, h.0, sum_not_negative p rows h.1)

pub in_none : (p : Point) (rows : List NumberedRing) → AreNotNegative p rows → winding_of_rings p (corner_lists rows)
    ≡ pos 0 → IsInNone p rows
in_none p [] h e = tt
in_none p (row ∷ rows) h e =
    let rest : pos 0 ≤ℤ winding_of_rings p (corner_lists rows) = sum_not_negative p rows h.1 in
    let here : pos 0 ≤ℤ winding p row.corners = h.0 in
    (omega (arith, ints, here, rest, e), in_none p rows h.1 (omega (arith, ints, here, rest, e)))

in_one : (p : Point) (rows : List NumberedRing) → AreNotNegative p rows → winding_of_rings p (corner_lists rows)
    ≡ pos 1 → IsInOne p rows
in_one p [] h e = absurd (omega (arith, ints, e))
in_one p (row ∷ rows) h e =
    let rest : pos 0 ≤ℤ winding_of_rings p (corner_lists rows) = sum_not_negative p rows h.1 in
    let here : pos 0 ≤ℤ winding p row.corners = h.0 in
    by_lt_z (pos 0) (winding p row.corners)
    (λ some. record {
      before = [];
      row = row;
      behind = rows;
      are_all = refl;
      is_in_row = omega (arith, ints, some, rest, e);
      none_before = tt;
      none_behind = in_none p rows h.1 (omega (arith, ints, some, rest, e));
    })
    (λ none. let w = in_one p rows h.1 (omega (arith, ints, here, none, e)) in record {
      before = row ∷ w.before;
      row = w.row;
      behind = w.behind;
      are_all = ap (λ rs. row ∷ rs) w.are_all;
      is_in_row = w.is_in_row;
      none_before = (omega (arith, ints, here, none), w.none_before);
      none_behind = w.none_behind;
    })

-- ---- the tiling
pub tiles_where_sums_are_equal : (rows : List NumberedRing) (city : List Corner) → AllByRecursion IsMadeUp rows
    → ((p : Point) → IsWoundAtMostOnce p city)
    → ((p : Point) → winding_of_rings p (corner_lists rows) ≡ winding p city) → area2_of_rings (corner_lists rows)
    ≡ area2 city → IsTiling rows city
tiles_where_sums_are_equal rows city made once sums areas = record {
  inside = λ p off inner. let one : winding p city ≡ pos 1 = omega (arith, ints, inner.is_wound, (once p).1) in
      (one, in_one p rows (rows_not_negative p rows made) (sums p ∙ one));
  outside = λ p off outer. let none : winding p city ≡ pos 0 = not_wound p off.off_city outer in
      (none, in_none p rows (rows_not_negative p rows made) (sums p ∙ none));
  areas = areas;
}
  where
    not_wound : (p : Point) → ¬ IsOnRing p city → ¬ IsInterior p city → winding p city ≡ pos 0
    not_wound p off outer =
        by_lt_z (pos 0) (winding p city)
        (λ some. absurd (outer (record { off_edges = off; is_wound = omega (arith, ints, some) })))
        (λ none. omega (arith, ints, none, (once p).0))

plus_nothing : (z : ℤ) → z +ℤ pos 0 ≡ z
plus_nothing z = omega (arith, ints)

-- a noded ring has the same ground
pub noded_ground : (city corners refined : List Corner) → IsNoded city corners refined → CoversAlike city refined
noded_ground city corners refined h = record {
  winding_number = λ p. winding_noded p city corners refined h;
  boundary = λ p. boundary_noded p city corners refined h;
  signed_area = area2_noded city corners refined h;
}

-- one side is a single ring, that of the city's ground
pub city_alone : (p : Point) (city refined : List Corner) → CoversAlike city refined
    → winding_of_rings p (refined ∷ []) ≡ winding p city
city_alone p city refined h = plus_nothing (winding p refined) ∙ h.winding_number p

pub tiles_on_ground : (rows : List NumberedRing) (city refined : List Corner) → AllByRecursion IsMadeUp rows
    → ((p : Point) → IsWoundAtMostOnce p city) → CoversAlike city refined
    → GoAlike (corner_lists rows) refined → IsTiling rows city
tiles_on_ground rows city refined made once ground alike =
    tiles_where_sums_are_equal rows city made once
    (λ p. alike.windings p ∙ city_alone p city refined ground)
    (alike.areas ∙ plus_nothing (area2 refined) ∙ ground.signed_area)

pub tiles_where_nets_are_equal : (rows : List NumberedRing) (city corners refined : List Corner) → AllByRecursion IsMadeUp rows
    → ((p : Point) → IsWoundAtMostOnce p city) → IsNoded city corners refined
    → ((a b : Corner) → net_count (corner_lists rows) a b ≡ net_count (refined ∷ []) a b) → IsTiling rows city
tiles_where_nets_are_equal rows city corners refined made once noded nets =
    tiles_on_ground rows city refined made once (noded_ground city corners refined noded)
    (alike_from_nets (corner_lists rows) refined nets)

-- ---- no tiling
none_sum : (p : Point) (rows : List NumberedRing) → IsInNone p rows → winding_of_rings p (corner_lists rows) ≡ pos 0
none_sum p [] h = refl
none_sum p (row ∷ rows) h = omega (arith, ints, h.0, none_sum p rows h.1)

one_sum : (p : Point) (before : List NumberedRing) (row : NumberedRing) (behind : List NumberedRing) → winding p row.corners ≡ pos 1
    → IsInNone p before → IsInNone p behind → winding_of_rings p (corner_lists (before ++ row ∷ behind)) ≡ pos 1
one_sum p [] row behind one h k = omega (arith, ints, one, none_sum p behind k)
one_sum p (first ∷ before) row behind one h k = omega (arith, ints, h.0, one_sum p before row behind one h.1 k)

-- where rows tile a city, their winding numbers sum to the city's off all edges
sums_are_equal : (rows : List NumberedRing) (city : List Corner) → IsTiling rows city → (p : Point) → IsOffEdges p rows city
    → winding_of_rings p (corner_lists rows) ≡ winding p city
sums_are_equal rows city tiling p off =
    by_lt_z (pos 0) (winding p city)
    (λ some. inner (tiling.inside p off (record { off_edges = off.off_city; is_wound = omega (arith, ints, some) })))
    (λ none. outer (tiling.outside p off (λ i. let w : pos 1 ≤ℤ winding p city = i.is_wound in omega (arith, ints, w, none))))
  where
    inner : (winding p city ≡ pos 1) × IsInOne p rows → winding_of_rings p (corner_lists rows) ≡ winding p city
    inner h =
        ap (λ rs. winding_of_rings p (corner_lists rs)) h.1.are_all
        ∙ one_sum p h.1.before h.1.row h.1.behind h.1.is_in_row h.1.none_before h.1.none_behind ∙ sym h.0

    outer : (winding p city ≡ pos 0) × IsInNone p rows → winding_of_rings p (corner_lists rows) ≡ winding p city
    outer h = none_sum p rows h.1 ∙ sym h.0

pub no_tiling_beside : (rows : List NumberedRing) (city refined : List Corner) (a b : Corner)
    → IsUntiledBeside rows city refined a b → IsTiling rows city → ⊥
no_tiling_beside rows city refined a b h tiling = either h.differs
  where
    either : (winding_of_rings h.left (corner_lists rows) ≢ winding h.left city)
        ⊎ (winding_of_rings h.right (corner_lists rows) ≢ winding h.right city) → ⊥
    either (inl differs) = differs (sums_are_equal rows city tiling h.left h.left_is_off)
    either (inr differs) = differs (sums_are_equal rows city tiling h.right h.right_is_off)

-- ---- beside an unbalanced edge
off_rows : (p : Point) (rows : List NumberedRing) (others : List (List Corner)) → ¬ IsOnSome p (all_edges (corner_lists rows ++ others))
    → AllByRecursion (λ row. ¬ IsOnRing p row.corners) rows
off_rows p [] others h = tt
off_rows p (row ∷ rows) others h = (
  λ on. h (IsOnSome-left p (edges row.corners) (all_edges (corner_lists rows ++ others)) on),
  off_rows p rows others (λ on. h (IsOnSome-right p (edges row.corners) (all_edges (corner_lists rows ++ others)) on)),
)

off_last : (p : Point) (rows : List NumberedRing) (refined : List Corner)
    → ¬ IsOnSome p (all_edges (corner_lists rows ++ refined ∷ []))
    → ¬ IsOnRing p refined
off_last p [] refined h on = h (IsOnSome-left p (edges refined) [] on)
off_last p (row ∷ rows) refined h on =
    off_last p rows refined (λ some. h (IsOnSome-right p (edges row.corners) (all_edges (corner_lists rows ++ refined ∷ [])) some)) on

off_edges : (p : Point) (rows : List NumberedRing) (city corners refined : List Corner) → IsNoded city corners refined
    → ¬ IsOnSome p (all_edges (corner_lists rows ++ refined ∷ [])) → IsOffEdges p rows city
off_edges p rows city corners refined noded h = record {
  off_city = λ on. off_last p rows refined h ((boundary_noded p city corners refined noded).1 on);
  off_rows = off_rows p rows (refined ∷ []) h;
}

-- a difference that changes is not 0 on both sides
one_differs : (x x' y y' n : ℤ) → (x -ℤ x') -ℤ (y -ℤ y') ≡ n → n ≢ pos 0 → (x ≢ x') ⊎ (y ≢ y')
one_differs x x' y y' n e some =
    by_lt_z x x' (λ l. inl (λ same. omega (arith, ints, l, same)))
    (λ m. by_lt_z x' x (λ l. inl (λ same. omega (arith, ints, l, same)))
    (λ l. inr (λ same. some (omega (arith, ints, l, m, same, e)))))

pub untiled_beside : (rows : List NumberedRing) (city corners refined : List Corner) (a b : Corner) → IsNoded city corners refined
    → AreFullyNoded (corner_lists rows ++ refined ∷ []) → net_difference (corner_lists rows) (refined ∷ []) a b ≢ pos 0
    → IsUntiledBeside rows city refined a b
untiled_beside rows city corners refined a b noded full some = from (jump_beside (corner_lists rows) (refined ∷ []) full a b some)
  where
    from : (left : Point) × (right : Point) × IsJump (corner_lists rows) (refined ∷ []) a b left right
        → IsUntiledBeside rows city refined a b
    from w = record {
      left = w.0;
      right = w.1;
      beside = w.2.beside;
      left_is_off = off_edges w.0 rows city corners refined noded w.2.left_is_off;
      right_is_off = off_edges w.1 rows city corners refined noded w.2.right_is_off;
      no_other_between = w.2.no_other_between;
      differs =
          one_differs (winding_of_rings w.0 (corner_lists rows)) (winding w.0 city)
          (winding_of_rings w.1 (corner_lists rows)) (winding w.1 city)
          (net_difference (corner_lists rows) (refined ∷ []) a b)
          (rw (
            ← city_alone w.0 city refined (noded_ground city corners refined noded),
            ← city_alone w.1 city refined (noded_ground city corners refined noded),
          ) w.2.changes) some;
    }
