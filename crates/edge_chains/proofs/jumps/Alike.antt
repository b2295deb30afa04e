-- Rings that go round each point alike: noded for all their corners they have the same net edges, and so each measure that adds up along
-- an edge and changes its sign with the edge's direction has the same sum over them, noded or not.
use Rattle.std.proofs.Common.{◌≡◌, ⊎_elim, sym, ◌∙◌, arith, ℤ, pos, ◌-ℤ◌, List, [], ◌∷◌, ◌++◌}
use Rattle.std.specs.Ordering.{int_eq}
use Rattle.std.proofs.lemmas.Bool.Decides.{Decides-int_eq, not_from_Decides}
use Rattle.std.proofs.lemmas.Int.{ints}
use Rattle.geo_exact.specs.declared.corner.Corner.{Corner}
use Rattle.geo_exact.specs.Point.{Point}
use Rattle.geo_exact.specs.Rings.{Edge, edges, sum_over}
use Rattle.geo_exact.specs.Winding.{crossing}
use Rattle.geo_exact.proofs.corners_and_turns.CornerOrder.{cases_of}
use Rattle.geo_exact.proofs.rings.Crossings.{crossing_cut}
use Rattle.geo_exact.proofs.rings.EdgeSums.{sum_over-append}
use Rattle.edge_chains.specs.Jump.{net_difference}
use Rattle.edge_chains.specs.Net.{all_edges, net_count, winding_of_rings}
use Rattle.edge_chains.specs.Noding.{all_corners, AreFullyNoded}
use Rattle.edge_chains.proofs.jumps.Jumps.{jump_beside}
use Rattle.edge_chains.proofs.nets.Balance.{ChangesSign, sum_over-balanced, sum_of_rings-edges}
use Rattle.edge_chains.proofs.nodings.EachNoded.{all_noded}
use Rattle.edge_chains.proofs.nodings.NodedLists.{AreNodedFor}
use Rattle.edge_chains.proofs.nodings.NodedRings.{AddsUp, sum_over-noded, AreFullyNoded-noded}

-- the rings go round each point as often as the others
abbrev pub WindAlike : List (List Corner) → List (List Corner) → Type 0
WindAlike added taken = (p : Point) → winding_of_rings p added ≡ winding_of_rings p taken

-- ---- noded rings
pub nets_alike : (added taken : List (List Corner)) → AreFullyNoded (added ++ taken) → WindAlike added taken
    → (a b : Corner) → net_count added a b ≡ net_count taken a b
nets_alike added taken full alike a b =
    ⊎_elim
    (λ e. equal (net_count added a b) (net_count taken a b) e)
    (λ f. let apart = not_from_Decides (int_eq (net_difference added taken a b) (pos 0))
    (Decides-int_eq (net_difference added taken a b) (pos 0)) f in
    let jump = jump_beside added taken full a b apart in
    absurd (apart (none (winding_of_rings jump.0 added) (winding_of_rings jump.0 taken) (winding_of_rings jump.1 added)
    (winding_of_rings jump.1 taken) (net_difference added taken a b) (alike jump.0) (alike jump.1) jump.2.changes)))
    (cases_of (int_eq (net_difference added taken a b) (pos 0)) (Decides-int_eq (net_difference added taken a b) (pos 0)))
  where
    equal : (x y : ℤ) → x -ℤ y ≡ pos 0 → x ≡ y
    equal x y e = omega (arith, ints)

    none : (l m r s n : ℤ) → l ≡ m → r ≡ s → (l -ℤ m) -ℤ (r -ℤ s) ≡ n → n ≡ pos 0
    none l m r s n e f h = omega (arith, ints)

-- ---- all rings
sums_noded : (measure : Edge → ℤ) → AddsUp measure → (corners : List Corner) (rings noded : List (List Corner))
    → AreNodedFor corners rings noded → sum_over measure (all_edges noded) ≡ sum_over measure (all_edges rings)
sums_noded measure adds corners [] [] h = omega (arith, ints)
sums_noded measure adds corners [] (out ∷ noded) h = absurd h
sums_noded measure adds corners (ring ∷ rings) [] h = absurd h
sums_noded measure adds corners (ring ∷ rings) (out ∷ noded) h = omega (
  arith,
  ints,
  sum_over-append measure (edges out) (all_edges noded),
  sum_over-append measure (edges ring) (all_edges rings),
  sum_over-noded measure adds corners ring out h.0,
  sums_noded measure adds corners rings noded h.1,
)

winding_noded_all : (p : Point) (corners : List Corner) (rings noded : List (List Corner)) → AreNodedFor corners rings noded
    → winding_of_rings p noded ≡ winding_of_rings p rings
winding_noded_all p corners rings noded h =
    let crossing_of : Edge → ℤ = λ edge. crossing p edge.from edge.to in
    sum_of_rings-edges crossing_of noded
    ∙ sums_noded crossing_of (λ a b c i. crossing_cut p a b c i.on_edge) corners rings noded h
    ∙ sym (sum_of_rings-edges crossing_of rings)

joined : (corners : List Corner) (added taken out others : List (List Corner)) → AreNodedFor corners added out
    → AreNodedFor corners taken others → AreNodedFor corners (added ++ taken) (out ++ others)
joined corners [] taken [] others h k = k
joined corners [] taken (x ∷ out) others h k = absurd h
joined corners (ring ∷ added) taken [] others h k = absurd h
joined corners (ring ∷ added) taken (x ∷ out) others h k = (h.0, joined corners added taken out others h.1 k)

pub sums_alike : (measure : Edge → ℤ) → ChangesSign measure → AddsUp measure → (added taken : List (List Corner))
    → WindAlike added taken → sum_over measure (all_edges added) ≡ sum_over measure (all_edges taken)
sums_alike measure turns adds added taken alike =
    let corners = all_corners (added ++ taken) in
    let w = all_noded corners added in
    let v = all_noded corners taken in
    let full : AreFullyNoded (w.0 ++ v.0) = AreFullyNoded-noded corners (added ++ taken) (w.0 ++ v.0)
    (joined corners added taken w.0 v.0 w.1 v.1) (λ c k. k) in
    let nets = nets_alike w.0 v.0 full (λ p.
    winding_noded_all p corners added w.0 w.1 ∙ alike p ∙ sym (winding_noded_all p corners taken v.0 v.1)) in
    sym (sums_noded measure adds corners added w.0 w.1)
    ∙ sum_over-balanced measure turns (all_edges w.0) (all_edges v.0) nets
    ∙ sums_noded measure adds corners taken v.0 v.1
