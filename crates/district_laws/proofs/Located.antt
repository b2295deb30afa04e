-- Where a point lies among the rows of all districts: inside a district as among its rows, on a district's edge on an
-- edge of one of its rows, and outside all districts outside all rows.
use Rattle.std.proofs.Common.{◌≡◌, ◌≢◌, ⊎_elim, refl, sym, subst, arith, ℕ, ℤ, pos, List, [], ◌∷◌}
use Rattle.std.specs.Prelude.{◌↔◌}
use Rattle.std.specs.List.{Contains}
use Rattle.std.proofs.lemmas.Int.{ints}
use Rattle.std.proofs.lemmas.List.Elements.{Contains-append_left, Contains-append_right, Contains-append_cases}
use lib.Signed.{◌≤ℤ◌}
use Rattle.geo_exact.specs.declared.corner.Corner.{Corner}
use Rattle.geo_exact.specs.Layers.{NumberedRing}
use Rattle.geo_exact.specs.Point.{Point}
use Rattle.geo_exact.specs.Turn.{IsOnRing}
use Rattle.geo_exact.specs.Winding.{winding, IsInterior}
use Rattle.ring_core.specs.Simple.{IsSimpleRing}
use Rattle.edge_chains.specs.Net.{winding_of_rings}
use Rattle.edge_chains.proofs.nodings.NodedEdges.{none_in_nil, Contains-here, Contains-there, Contains-cases}
use Rattle.fabric_core.specs.declared.locate.At.{At}
use Rattle.fabric_core.specs.declared.locate.At.TheVariants.{Inside, OnEdge, Outside}
use Rattle.fabric_core.specs.Faults.{AreSimple}
use Rattle.fabric_core.specs.Locate.{IsOnEdgeOf, IsInsideOf, AreAllOnEdge, IsLocatedAt}
use Rattle.fabric_core.specs.Tiling.{corner_lists, IsTiling}
use Rattle.fabric_core.proofs.rows.RowLists.{Contains-mapped}
use Rattle.fabric_core.proofs.tilings.OneParcel.{of_each}
use Rattle.fabric_core.proofs.tilings.OnOneOnly.{on_no_edge}
use Rattle.district_laws.specs.Districts.{District, IsDistrict, AreDistricts, AreSimpleDistricts, district_rows, all_rows}
use Rattle.district_laws.proofs.Sums.{summed, tiles_alike, wound_together, one_goes_round}
use Rattle.district_laws.proofs.boundaries.Within.{ring_on_rows, inside_within, edge_within}

-- ---- the rows of all districts and those of one
pub row_of_some : (districts : List District) (row : NumberedRing) → Contains (all_rows districts) row
    → (district : District) × Contains districts district × Contains district.rows row
row_of_some [] row c = absurd (none_in_nil row c)
row_of_some (first ∷ districts) row c = ⊎_elim
    (λ here. (first, Contains-here first districts, here))
    (λ later. let w = row_of_some districts row later in (w.0, Contains-there first districts w.0 w.1, w.2))
    (Contains-append_cases first.rows (all_rows districts) row c)

pub row_of_all : (districts : List District) (district : District) (row : NumberedRing) → Contains districts district
    → Contains district.rows row → Contains (all_rows districts) row
row_of_all [] district row c d = absurd (none_in_nil district c)
row_of_all (first ∷ districts) district row c d = ⊎_elim
    (λ e. Contains-append_left first.rows (all_rows districts) row (subst (λ (z : District). Contains z.rows row) (sym e) d))
    (λ later. Contains-append_right first.rows (all_rows districts) row (row_of_all districts district row later d))
    (Contains-cases first districts district c)

pub inside_of_some : (districts : List District) (p : Point) (id : ℕ) → IsInsideOf (all_rows districts) p id
    ↔ ((district : District) × Contains districts district × IsInsideOf district.rows p id)
inside_of_some districts p id = (
  λ h. let w = row_of_some districts h.row h.is_row in
      (w.0, w.1, record { row = h.row; is_row = w.2; has_id = h.has_id; is_inside = h.is_inside }),
  λ w. record {
    row = w.2.row;
    is_row = row_of_all districts w.0 w.2.row w.1 w.2.is_row;
    has_id = w.2.has_id;
    is_inside = w.2.is_inside;
  },
)

pub on_edge_of_some : (districts : List District) (p : Point) (id : ℕ) → IsOnEdgeOf (all_rows districts) p id
    ↔ ((district : District) × Contains districts district × IsOnEdgeOf district.rows p id)
on_edge_of_some districts p id = (
  λ h. let w = row_of_some districts h.row h.is_row in
      (w.0, w.1, record { row = h.row; is_row = w.2; has_id = h.has_id; is_on_edge = h.is_on_edge }),
  λ w. record {
    row = w.2.row;
    is_row = row_of_all districts w.0 w.2.row w.1 w.2.is_row;
    has_id = w.2.has_id;
    is_on_edge = w.2.is_on_edge;
  },
)

-- the rows of a district tile its row, too
pub tiles_itself : (district : District) → IsDistrict district → IsTiling district.rows district.row.corners
tiles_itself district h = tiles_alike district.rows district.outline district.row.corners h.covers h.tiling

-- where a row of a district goes round p, the district does
pub goes_round : (district : District) → IsDistrict district → (p : Point) (row : NumberedRing) → Contains district.rows row
    → pos 1 ≤ℤ winding p row.corners → pos 1 ≤ℤ winding p district.row.corners
goes_round district h p row c some =
    let s = summed district.rows district.row.corners (tiles_itself district h) p in
    subst (λ z. pos 1 ≤ℤ z) s.sums
    (wound_together p (corner_lists district.rows) row.corners s.none_negative
    (Contains-mapped (λ (r : NumberedRing). r.corners) district.rows row c) some)

-- ---- answers that say the same of two lists of rows
on_edges_alike : (rows others : List NumberedRing) (p : Point) → ((id : ℕ) → IsOnEdgeOf rows p id ↔ IsOnEdgeOf others p id)
    → (ids : List ℕ) → AreAllOnEdge rows p ids → AreAllOnEdge others p ids
on_edges_alike rows others p same ids h = record {
  ascend = h.ascend;
  exactly = λ id. (λ c. (same id).0 ((h.exactly id).0 c), λ on. (h.exactly id).1 ((same id).1 on));
}

located_alike : {A : Type 0} (rows others : List NumberedRing) (p : Point)
    → ((id : ℕ) → IsOnEdgeOf rows p id ↔ IsOnEdgeOf others p id) → ((id : ℕ) → IsInsideOf rows p id ↔ IsInsideOf others p id)
    → (at : At A) → IsLocatedAt rows p at → IsLocatedAt others p at
located_alike rows others p edges inside (OnEdge ids) h = (on_edges_alike rows others p edges ids.items h.0, h.1)
located_alike rows others p edges inside (Inside id) h = (on_edges_alike rows others p edges [] h.0, (inside id).0 h.1)
located_alike rows others p edges inside Outside h =
    (on_edges_alike rows others p edges [] h.0, λ id i. h.1 id ((inside id).1 i))

back : {P Q : ℕ → Type 0} → ((id : ℕ) → P id ↔ Q id) → (id : ℕ) → Q id ↔ P id
back h id = ((h id).1, (h id).0)

-- a point on an edge is located on edges
on_edge_located : {A : Type 0} (rows : List NumberedRing) (p : Point) (id : ℕ) → IsOnEdgeOf rows p id → (at : At A)
    → IsLocatedAt rows p at → ((other : ℕ) → at ≢ Inside other) × (at ≢ Outside)
on_edge_located rows p id on (OnEdge ids) h = (λ other e. cc, λ e. cc)
on_edge_located rows p id on (Inside one) h = absurd (none_in_nil id ((h.0.exactly id).1 on))
on_edge_located rows p id on Outside h = absurd (none_in_nil id ((h.0.exactly id).1 on))

-- ---- districts of a city
module _ (districts : List District) (city : List Corner) (h : AreDistricts districts city) where
  is_district : (district : District) → Contains districts district → IsDistrict district
  is_district district c = of_each IsDistrict districts district h.each c

  -- no two districts go round one point
  pub same_district : (p : Point) (one other : District) → Contains districts one → Contains districts other
      → pos 1 ≤ℤ winding p one.row.corners → pos 1 ≤ℤ winding p other.row.corners → one ≡ other
  same_district p one other c d i j =
      let s = summed (district_rows districts) city h.tiling p in
      one_goes_round (λ (district : District). district.row) p districts one other s.none_negative
      (most (winding_of_rings p (corner_lists (district_rows districts))) (winding p city) s.sums s.once.1) c d i j
    where
      most : (z w : ℤ) → z ≡ w → w ≤ℤ pos 1 → z ≤ℤ pos 1
      most z w e k = omega (arith, ints, e, k)

  -- of all rows, those that have inside what is inside a district are its own
  pub own_row_inside : (district : District) (p : Point) (row : NumberedRing) → Contains districts district
      → IsInterior p district.row.corners → Contains (all_rows districts) row → IsInterior p row.corners → Contains district.rows row
  own_row_inside district p row c i d k =
      let w = row_of_some districts row d in
      let there = goes_round w.0 (is_district w.0 w.1) p row w.2 k.is_wound in
      let same : w.0 ≡ district = same_district p w.0 district w.1 c there i.is_wound in
      subst (λ (z : District). Contains z.rows row) same w.2

  pub inside_alike : (district : District) (p : Point) → Contains districts district → IsInterior p district.row.corners → (id : ℕ)
      → IsInsideOf (all_rows districts) p id ↔ IsInsideOf district.rows p id
  inside_alike district p c i id = (
    λ k. record {
      row = k.row;
      is_row = own_row_inside district p k.row c i k.is_row k.is_inside;
      has_id = k.has_id;
      is_inside = k.is_inside;
    },
    λ k. (inside_of_some districts p id).1 (district, c, k),
  )

  module _ (simple : AreSimple (district_rows districts)) where
    simple_row : (district : District) → Contains districts district → IsSimpleRing district.row.corners
    simple_row district c =
        of_each (λ (row : NumberedRing). IsSimpleRing row.corners) (district_rows districts) district.row simple
        (Contains-mapped (λ (d : District). d.row) districts district c)

    -- on a district's edge, on an edge of a row of it
    pub on_its_rows : (district : District) (p : Point) → Contains districts district → IsOnRing p district.row.corners
        → (id : ℕ) × IsOnEdgeOf district.rows p id
    on_its_rows district p c on =
        let w = ring_on_rows district.rows district.row.corners (simple_row district c)
        (tiles_itself district (is_district district c)) p on in
        (w.0.number, record { row = w.0; is_row = w.1; has_id = refl; is_on_edge = w.2 })

    pub located_on_edges : {A : Type 0} (district : District) (p : Point) (at : At A) → Contains districts district
        → IsOnRing p district.row.corners → IsLocatedAt (all_rows districts) p at → ((id : ℕ) → at ≢ Inside id) × (at ≢ Outside)
    located_on_edges district p at c on h =
        let w = on_its_rows district p c on in
        on_edge_located (all_rows districts) p w.0 ((on_edge_of_some districts p w.0).1 (district, c, w.1)) at h

  module _ (simple : AreSimpleDistricts districts) where
    simple_rows : (district : District) → Contains districts district → AreSimple district.rows
    simple_rows district c = of_each (λ (d : District). AreSimple d.rows) districts district simple.rows c

    within : (district : District) (p : Point) (row : NumberedRing) → Contains districts district → Contains district.rows row
        → IsInterior p row.corners → IsInterior p district.row.corners
    within district p row c d i =
        inside_within district.rows district.row.corners (simple_row simple.themselves district c) (simple_rows district c)
        (tiles_itself district (is_district district c)) p row d i

    edge_or_within : (district : District) (p : Point) (row : NumberedRing) → Contains districts district → Contains district.rows row
        → IsOnRing p row.corners → ¬ IsOnRing p district.row.corners → IsInterior p district.row.corners
    edge_or_within district p row c d on off =
        edge_within district.rows district.row.corners (simple_row simple.themselves district c) (simple_rows district c)
        (tiles_itself district (is_district district c)) p row d on off

    -- what is inside a district is on no other district's edge
    on_no_other : (one other : District) (p : Point) → Contains districts one → Contains districts other
        → IsInterior p one.row.corners → ¬ IsOnRing p other.row.corners
    on_no_other one other p c d i on =
        on_no_edge (district_rows districts) city simple.themselves h.tiling p one.row.number other.row.number
        (record {
          row = one.row;
          is_row = Contains-mapped (λ (z : District). z.row) districts one c;
          has_id = refl;
          is_inside = i;
        })
        (record {
          row = other.row;
          is_row = Contains-mapped (λ (z : District). z.row) districts other d;
          has_id = refl;
          is_on_edge = on;
        })

    -- what is on a district's edge is inside no row, and on no row's edge of a district that does not have it on its own
    pub edge_inside_none : (district : District) (p : Point) → Contains districts district → IsOnRing p district.row.corners
        → (id : ℕ) → ¬ IsInsideOf (all_rows districts) p id
    edge_inside_none district p c on id k =
        let w = row_of_some districts k.row k.is_row in
        on_no_other w.0 district p w.1 c (within w.0 p k.row w.1 w.2 k.is_inside) on

    pub edge_of_no_other : (one other : District) (p : Point) → Contains districts one → Contains districts other
        → IsOnRing p one.row.corners → ¬ IsOnRing p other.row.corners → (id : ℕ) → ¬ IsOnEdgeOf other.rows p id
    edge_of_no_other one other p c d on off id k =
        on_no_other other one p d c (edge_or_within other p k.row d k.is_row k.is_on_edge off) on

    -- of all rows, those that have on an edge what is inside a district are its own
    pub own_row_on_edge : (district : District) (p : Point) (row : NumberedRing) → Contains districts district
        → IsInterior p district.row.corners → Contains (all_rows districts) row → IsOnRing p row.corners → Contains district.rows row
    own_row_on_edge district p row c i d on =
        let w = row_of_some districts row d in
        let there = edge_or_within w.0 p row w.1 w.2 on (on_no_other district w.0 p c w.1 i) in
        let same : w.0 ≡ district = same_district p w.0 district w.1 c there.is_wound i.is_wound in
        subst (λ (z : District). Contains z.rows row) same w.2

    pub edges_alike : (district : District) (p : Point) → Contains districts district → IsInterior p district.row.corners → (id : ℕ)
        → IsOnEdgeOf (all_rows districts) p id ↔ IsOnEdgeOf district.rows p id
    edges_alike district p c i id = (
      λ k. record {
        row = k.row;
        is_row = own_row_on_edge district p k.row c i k.is_row k.is_on_edge;
        has_id = k.has_id;
        is_on_edge = k.is_on_edge;
      },
      λ k. (on_edge_of_some districts p id).1 (district, c, k),
    )

    pub located_there : {A : Type 0} (district : District) (p : Point) (at : At A) → Contains districts district
        → IsInterior p district.row.corners → IsLocatedAt (all_rows districts) p at ↔ IsLocatedAt district.rows p at
    located_there district p at c i = (
      λ k. located_alike (all_rows districts) district.rows p (edges_alike district p c i) (inside_alike district p c i) at k,
      λ k. located_alike district.rows (all_rows districts) p (back (edges_alike district p c i)) (back (inside_alike district p c i))
          at k,
    )

    -- outside all districts
    pub inside_none : (p : Point) → ((id : ℕ) → ¬ IsInsideOf (district_rows districts) p id) → (id : ℕ)
        → ¬ IsInsideOf (all_rows districts) p id
    inside_none p none id k =
        let w = (inside_of_some districts p id).0 k in
        none w.0.row.number
        (record {
          row = w.0.row;
          is_row = Contains-mapped (λ (z : District). z.row) districts w.0 w.1;
          has_id = refl;
          is_inside = within w.0 p w.2.row w.1 w.2.is_row w.2.is_inside;
        })

    pub on_none : (p : Point) → ((id : ℕ) → ¬ IsInsideOf (district_rows districts) p id)
        → ((id : ℕ) → ¬ IsOnEdgeOf (district_rows districts) p id) → (id : ℕ) → ¬ IsOnEdgeOf (all_rows districts) p id
    on_none p none off id k =
        let w = (on_edge_of_some districts p id).0 k in
        let there = Contains-mapped (λ (z : District). z.row) districts w.0 w.1 in
        none w.0.row.number
        (record {
          row = w.0.row;
          is_row = there;
          has_id = refl;
          is_inside = edge_or_within w.0 p w.2.row w.1 w.2.is_row w.2.is_on_edge
              (λ on. off w.0.row.number (record { row = w.0.row; is_row = there; has_id = refl; is_on_edge = on }));
        })

    pub located_outside : {A : Type 0} (p : Point) (at : At A) → at ≡ Outside → IsLocatedAt (district_rows districts) p at
        → IsLocatedAt (all_rows districts) p at
    located_outside {A = A} p at e h =
        subst (IsLocatedAt {A = A} (all_rows districts) p) (sym e)
        (outside (subst (IsLocatedAt {A = A} (district_rows districts) p) e h))
      where
        outside : IsLocatedAt {A = A} (district_rows districts) p Outside → IsLocatedAt {A = A} (all_rows districts) p Outside
        outside k = (
          record {
            ascend = k.0.ascend;
            exactly = λ id. (
              λ c. absurd (none_in_nil id c),
              λ on. absurd (on_none p k.1 (λ other edge. none_in_nil other ((k.0.exactly other).1 edge)) id on),
            );
          },
          λ id i. inside_none p k.1 id i,
        )
