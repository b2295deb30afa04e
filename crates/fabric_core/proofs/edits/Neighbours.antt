-- Parcels that share edges: with one shared run they share an edge, and no parcel shares one with itself.
use Rattle.std.proofs.Common.{◌≡◌, ◌≢◌, sym, ◌∙◌, ap, subst, arith, ℕ, ◌<◌, List, length}
use Rattle.std.proofs.lemmas.Bool.Decides.{nat_tests}
use Rattle.std.specs.List.{Contains}
use Rattle.geo_exact.specs.declared.corner.Corner.{Corner}
use Rattle.geo_exact.specs.Places.{after}
use Rattle.geo_exact.specs.Layers.{NumberedRing, numbered}
use Rattle.ring_core.specs.Simple.{IsSimpleRing}
use Rattle.ring_core.proofs.ears.BegunElsewhere.{number_from}
use Rattle.ring_core.proofs.edges.RoundNumbers.{after_in}
use Rattle.ring_edits.specs.Round.{HasApartCorners}
use Rattle.ring_edits.specs.Edits.{IsMerge, IsMove, ShareOneRun, AreNeighbours, IsBorderPath}
use Rattle.ring_edits.proofs.Apart.{has_apart_corners}
use Rattle.ring_edits.proofs.Borders.{one_run, from_in}
use Rattle.ring_edits.proofs.SameRuns.{same_number}
use Rattle.fabric_core.specs.own.Balanced.{Ascend}
use Rattle.fabric_core.specs.Faults.{AreSimple}
use Rattle.fabric_core.proofs.rows.RowLists.{one_ring}
use Rattle.fabric_core.proofs.tilings.OneParcel.{of_each}

-- rings with one shared run share an edge
pub run_has_edge : (a b : List Corner) → ShareOneRun a b → AreNeighbours a b
run_has_edge a b h = let run = one_run a b h in (
  number_from (length a) run.s 0,
  from_in (length a) run.s 0 run.s_below (omega (arith, run.s_below)),
  (run.exactly 0 (omega (arith, run.s_below))).1 run.m_some,
)

pub merged_run : (a b out : List Corner) → IsMerge a b out → ShareOneRun a b
merged_run a b out h = (h.u, h.v, (h.run, h.of_a, h.shared))

pub moved_run : (a b path out_a out_b : List Corner) → IsMove a b path out_a out_b → ShareOneRun a b
moved_run a b path out_a out_b h = (h.u, h.v, (h.run, h.of_a, h.shared))

-- and the path to which it is moved goes from one end of it to the other
pub moved_path : (a b path out_a out_b : List Corner) → IsMove a b path out_a out_b → IsBorderPath a b path
moved_path a b path out_a out_b h = (h.u, h.v, h.between, (h.run, h.of_a, h.shared), h.is_path)

-- ---- a ring has no edge in both directions
not_two_back : (n k : ℕ) → 2 < n → k < n → after n (after n k) ≢ k
not_two_back n k h l e = grind (arith, nat_tests)

no_border_with_itself : (ring : List Corner) → HasApartCorners ring → AreNeighbours ring ring → ⊥
no_border_with_itself ring apart h =
    let n = length ring in
    let k = h.0 in
    let edge = h.2.1 in
    let j : h.2.0 ≡ after n k = same_number ring apart.apart h.2.0 (after n k) edge.in_ring (after_in n k h.1) edge.from in
    let back : after n h.2.0 ≡ k = same_number ring apart.apart (after n h.2.0) k (after_in n h.2.0 edge.in_ring) h.1 edge.to in
    not_two_back n k (omega (arith, apart.three)) h.1 (ap (after n) (sym j) ∙ back)

pub ring_is_simple : (rows : List NumberedRing) (id : ℕ) (ring : List Corner) → AreSimple rows → Contains rows (numbered id ring)
    → IsSimpleRing ring
ring_is_simple rows id ring simple h = of_each (λ row. IsSimpleRing row.corners) rows (numbered id ring) simple h

-- so parcels that share an edge are two
pub two_parcels : (rows : List NumberedRing) (a b : ℕ) (ring_a ring_b : List Corner) → AreSimple rows → Ascend rows
    → Contains rows (numbered a ring_a) → Contains rows (numbered b ring_b) → AreNeighbours ring_a ring_b → a ≢ b
two_parcels rows a b ring_a ring_b simple up has_a has_b h e =
    no_border_with_itself ring_a
    (has_apart_corners ring_a (ring_is_simple rows a ring_a simple has_a))
    (subst (λ ring. AreNeighbours ring_a ring)
    (one_ring rows a ring_b ring_a up (subst (λ id. Contains rows (numbered id ring_b)) (sym e) has_b) has_a) h)
