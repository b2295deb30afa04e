-- What noding a list of rings keeps, and what it leaves no more, where it comes to an end.
use Rattle.std.proofs.Common.{◌≡◌, ◌↔◌, List, Result, Vec, IfOk}
use Rattle.std.specs.List.{Contains, AllZip}
use Rattle.std.proofs.lemmas.Result.{IfOk-weaker}
use Rattle.geo_exact.specs.declared.corner.Corner.{Corner}
use Rattle.geo_exact.specs.Point.{Point}
use Rattle.geo_exact.specs.Rings.{edges}
use Rattle.geo_exact.specs.Turn.{IsOnRing}
use Rattle.geo_exact.specs.Winding.{winding}
use Rattle.geo_exact.specs.Area.{area2}
use Rattle.edge_chains.specs.Noding.{IsNoded, all_corners, AreFullyNoded}
use Rattle.edge_chains.proofs.nodings.NodedEdges.{AllZip-weaker, AreNodedEdges-alike}
use Rattle.edge_chains.proofs.nodings.NodedRings.{winding_noded, boundary_noded, area2_noded, AreFullyNoded-noded}

-- the rings are noded for these corners
abbrev pub AreNodedFor : List Corner → List (List Corner) → List (List Corner) → Type 0
AreNodedFor corners rings noded = AllZip (λ ring out. IsNoded ring corners out) rings noded

pub noded_alike : (kept corners : List Corner) → ((c : Corner) → Contains kept c ↔ Contains corners c)
    → (rings noded : List (List Corner)) → AreNodedFor kept rings noded → AreNodedFor corners rings noded
noded_alike kept corners same rings noded h =
    AllZip-weaker (λ ring out. IsNoded ring kept out) (λ ring out. IsNoded ring corners out)
    (λ ring out k. AreNodedEdges-alike kept corners same (edges ring) out k) rings noded h

pub windings_noded : (corners : List Corner) (rings noded : List (List Corner)) → AreNodedFor corners rings noded
    → AllZip (λ ring out. (p : Point) → winding p out ≡ winding p ring) rings noded
windings_noded corners rings noded h =
    AllZip-weaker (λ ring out. IsNoded ring corners out) (λ ring out. (p : Point) → winding p out ≡ winding p ring)
    (λ ring out k p. winding_noded p ring corners out k) rings noded h

pub boundaries_noded : (corners : List Corner) (rings noded : List (List Corner)) → AreNodedFor corners rings noded
    → AllZip (λ ring out. (p : Point) → IsOnRing p out ↔ IsOnRing p ring) rings noded
boundaries_noded corners rings noded h =
    AllZip-weaker (λ ring out. IsNoded ring corners out) (λ ring out. (p : Point) → IsOnRing p out ↔ IsOnRing p ring)
    (λ ring out k p. boundary_noded p ring corners out k) rings noded h

pub areas_noded : (corners : List Corner) (rings noded : List (List Corner)) → AreNodedFor corners rings noded
    → AllZip (λ ring out. area2 out ≡ area2 ring) rings noded
areas_noded corners rings noded h =
    AllZip-weaker (λ ring out. IsNoded ring corners out) (λ ring out. area2 out ≡ area2 ring)
    (λ ring out k. area2_noded ring corners out k) rings noded h

pub cuts_noded : (kept corners : List Corner) → ((c : Corner) → Contains kept c ↔ Contains corners c)
    → (rings noded : List (List Corner)) → AreNodedFor kept rings noded
    → ((c : Corner) → Contains (all_corners rings) c → Contains corners c) → AreFullyNoded noded
cuts_noded kept corners same rings noded h all =
    AreFullyNoded-noded kept rings noded h (λ corner k. (same corner).1 (all corner k))
