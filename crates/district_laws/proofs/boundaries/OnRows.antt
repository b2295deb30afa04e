-- Where rows together go round each point as often as a simple ring, each point of the ring lies on an edge of a row.
-- All are noded for all their corners; then each edge has one net number in the ring and in the rows, and of an edge
-- of a simple ring, which runs one way only, that is not 0.
use Rattle.std.proofs.Common.{◌≡◌, ◌≢◌, inl, inr, ⊎_elim, refl, sym, ap, subst, arith, Bool, true, false, ℕ, ◌+◌, ◌<◌}
use Rattle.std.proofs.Common.{ℤ, pos, ◌+ℤ◌, ◌-ℤ◌, List, [], ◌∷◌, if◌then◌else◌}
use Rattle.std.specs.List.{Contains, AllZip}
use Rattle.std.proofs.lemmas.Bool.{cases_lt}
use Rattle.std.proofs.lemmas.Int.{ints, by_lt_z}
use Rattle.std.proofs.lemmas.List.Elements.{Contains-append_right, Contains-append_cases}
use Rattle.geo_exact.specs.declared.corner.Corner.{Corner}
use Rattle.geo_exact.specs.Layers.{NumberedRing}
use Rattle.geo_exact.specs.Point.{Point}
use Rattle.geo_exact.specs.Rings.{Edge, edges}
use Rattle.geo_exact.specs.Turn.{IsOnEdge, IsOnSome, IsOnRing}
use Rattle.geo_exact.specs.Winding.{winding}
use Rattle.geo_exact.proofs.rings.EdgeSums.{edge_of}
use Rattle.ring_core.specs.Simple.{IsSimpleRing}
use Rattle.edge_chains.specs.Jump.{winding_difference, net_difference}
use Rattle.edge_chains.specs.Net.{edge_count, runs_from_to, all_edges, net_count, winding_of_rings}
use Rattle.edge_chains.specs.Noding.{IsNoded, all_corners, AreFullyNoded}
use Rattle.edge_chains.proofs.jumps.Jumps.{jump_beside}
use Rattle.edge_chains.proofs.nets.Balance.{find_edge}
use Rattle.edge_chains.proofs.nets.Changes.{Decides-is_same_edge}
use Rattle.edge_chains.proofs.nodings.NodedEdges.{none_in_nil, Contains-here, Contains-there, Contains-cases}
use Rattle.edge_chains.proofs.nodings.NodedRings.{winding_noded, boundary_noded, AreFullyNoded-noded}
use Rattle.ring_edits.proofs.RoundNets.{net_of_one}
use Rattle.fabric_core.specs.Tiling.{corner_lists}
use Rattle.district_laws.proofs.boundaries.Nodings.{node_ring, node_rings}
use Rattle.district_laws.proofs.boundaries.OneWay.{runs_one_way}

-- ---- points and edges of a list
on_one : (p : Point) (es : List Edge) → IsOnSome p es → (e : Edge) × Contains es e × IsOnEdge p e.from e.to
on_one p [] on = absurd on
on_one p (e ∷ es) (inl on) = (e, Contains-here e es, on)
on_one p (e ∷ es) (inr on) = let w = on_one p es on in (w.0, Contains-there e es w.0 w.1, w.2)

on_some : (p : Point) (es : List Edge) (e : Edge) → Contains es e → IsOnEdge p e.from e.to → IsOnSome p es
on_some p [] e c on = absurd (none_in_nil e c)
on_some p (f ∷ es) e c on = ⊎_elim (λ s. inl (subst (λ (g : Edge). IsOnEdge p g.from g.to) (sym s) on))
    (λ later. inr (on_some p es e later on)) (Contains-cases f es e c)

counted : (es : List Edge) (e : Edge) → Contains es e → 0 < edge_count es e.from e.to
counted [] e c = absurd (none_in_nil e c)
counted (f ∷ es) e c = ⊎_elim
    (λ s. one (runs_from_to e.from e.to f) (edge_count es e.from e.to)
    ((Decides-is_same_edge (f.from, f.to) (e.from, e.to)).1 (ap (λ (g : Edge). g.from) s, ap (λ (g : Edge). g.to) s)))
    (λ later. let h : 0 < edge_count es e.from e.to = counted es e later in omega (arith, h))
    (Contains-cases f es e c)
  where
    one : (t : Bool) (n : ℕ) → t ≡ true → 0 < (if t then 1 else 0) + n
    one true n s = omega arith
    one false n s = cc

has_edge : (es : List Edge) (a b : Corner) → 0 < edge_count es a b → Contains es (edge_of a b)
has_edge es a b h =
    let w = find_edge es a b h in
    subst (λ fs. Contains fs (edge_of a b)) (sym w.is)
    (Contains-append_right w.front (edge_of a b ∷ w.back) (edge_of a b) (Contains-here (edge_of a b) w.back))

-- ---- noded rings
sums_noded : (p : Point) (corners : List Corner) (rings noded : List (List Corner))
    → AllZip (λ ring out. IsNoded ring corners out) rings noded → winding_of_rings p noded ≡ winding_of_rings p rings
sums_noded p corners [] [] h = refl
sums_noded p corners [] (out ∷ noded) h = absurd h
sums_noded p corners (ring ∷ rings) [] h = absurd h
sums_noded p corners (ring ∷ rings) (out ∷ noded) h =
    omega (arith, ints, winding_noded p ring corners out h.0, sums_noded p corners rings noded h.1)

abbrev pub IsOnARow : Point → List NumberedRing → Type 0
IsOnARow p rows = (row : NumberedRing) × Contains rows row × IsOnRing p row.corners

-- a point on an edge of the noded rows is on a row
row_of_edge : (p : Point) (corners : List Corner) (rows : List NumberedRing) (noded : List (List Corner))
    → AllZip (λ ring out. IsNoded ring corners out) (corner_lists rows) noded → (e : Edge) → Contains (all_edges noded) e
    → IsOnEdge p e.from e.to → IsOnARow p rows
row_of_edge p corners [] [] h e c on = absurd (none_in_nil e c)
row_of_edge p corners [] (out ∷ noded) h e c on = absurd h
row_of_edge p corners (row ∷ rows) [] h e c on = absurd h
row_of_edge p corners (row ∷ rows) (out ∷ noded) h e c on = ⊎_elim
    (λ here. (row, Contains-here row rows, (boundary_noded p row.corners corners out h.0).0 (on_some p (edges out) e here on)))
    (λ later. let w = row_of_edge p corners rows noded h.1 e later on in (w.0, Contains-there row rows w.0 w.1, w.2))
    (Contains-append_cases (edges out) (all_edges noded) e c)

-- ---- numbers
zero_unless : (z : ℤ) → (z ≢ pos 0 → ⊥) → z ≡ pos 0
zero_unless z h =
    by_lt_z z (pos 0) (λ l. absurd (h (λ e. omega (arith, ints, l, e))))
    (λ l. by_lt_z (pos 0) z (λ m. absurd (h (λ e. omega (arith, ints, m, e)))) (λ m. omega (arith, ints, l, m)))

no_change : (x y n : ℤ) → x -ℤ y ≡ n → x ≡ pos 0 → y ≡ pos 0 → n ≡ pos 0
no_change x y n e h k = omega (arith, ints, e, h, k)

counted_there : (onward back there away : ℕ) (one : ℤ) → one ≡ pos onward -ℤ pos back → one -ℤ (pos there -ℤ pos away) ≡ pos 0
    → 0 < onward → (0 < back → ⊥) → 0 < there
counted_there onward back there away one e h some none =
    let nothing : back ≡ 0 = ⊎_elim (λ l. absurd (none l)) (λ l. omega (arith, l)) (cases_lt 0 back) in
    omega (arith, ints, e, h, some, nothing)

module _ (rows : List NumberedRing) (ring : List Corner) (simple : IsSimpleRing ring)
    (sums : (p : Point) → winding_of_rings p (corner_lists rows) ≡ winding p ring) where
  abbrev corners : List Corner
  corners = all_corners (ring ∷ corner_lists rows)

  noded : (out : List Corner) × IsNoded ring corners out
  noded = node_ring corners ring

  others : (out : List (List Corner)) × AllZip (λ one noded. IsNoded one corners noded) (corner_lists rows) out
  others = node_rings corners (corner_lists rows)

  fully_noded : AreFullyNoded (noded.0 ∷ others.0)
  fully_noded = AreFullyNoded-noded corners (ring ∷ corner_lists rows) (noded.0 ∷ others.0) (noded.1, others.1) (λ c k. k)

  alike : (p : Point) → winding_difference p (noded.0 ∷ []) others.0 ≡ pos 0
  alike p =
      difference (winding p noded.0) (winding p ring) (winding_of_rings p others.0) (winding_of_rings p (corner_lists rows))
      (winding_noded p ring corners noded.0 noded.1) (sums_noded p corners (corner_lists rows) others.0 others.1) (sums p)
    where
      difference : (one ring many rows : ℤ) → one ≡ ring → many ≡ rows → rows ≡ ring → (one +ℤ pos 0) -ℤ many ≡ pos 0
      difference one ring many rows e f g = omega (arith, ints, e, f, g)

  nets : (a b : Corner) → net_difference (noded.0 ∷ []) others.0 a b ≡ pos 0
  nets a b = zero_unless (net_difference (noded.0 ∷ []) others.0 a b)
      (λ some. let w = jump_beside (noded.0 ∷ []) others.0 fully_noded a b some in
      some (no_change (winding_difference w.0 (noded.0 ∷ []) others.0) (winding_difference w.1 (noded.0 ∷ []) others.0)
      (net_difference (noded.0 ∷ []) others.0 a b) w.2.changes (alike w.0) (alike w.1)))

  -- an edge of the noded ring is one of the noded rows
  in_rows : (e : Edge) → Contains (edges noded.0) e → Contains (all_edges others.0) e
  in_rows e c = has_edge (all_edges others.0) e.from e.to
      (counted_there (edge_count (edges noded.0) e.from e.to) (edge_count (edges noded.0) e.to e.from)
      (edge_count (all_edges others.0) e.from e.to) (edge_count (all_edges others.0) e.to e.from)
      (net_count (noded.0 ∷ []) e.from e.to) (net_of_one noded.0 e.from e.to) (nets e.from e.to)
      (counted (edges noded.0) e c)
      (λ back. runs_one_way corners ring noded.0 simple noded.1 e.from e.to c (has_edge (edges noded.0) e.to e.from back)))

  pub on_a_row : (p : Point) → IsOnRing p ring → IsOnARow p rows
  on_a_row p on =
      let w = on_one p (edges noded.0) ((boundary_noded p ring corners noded.0 noded.1).1 on) in
      row_of_edge p corners rows others.0 others.1 w.0 (in_rows w.0 w.1) w.2
