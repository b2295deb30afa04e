-- The interiors of two rings meet exactly where the interiors of two of the triangles that make them up do.
use Rattle.std.proofs.Common.{◌≡◌, arith, inl, inr, ◌⊎◌, List, [], ◌∷◌}
use Rattle.std.proofs.lemmas.Int.{ints}
use lib.IntN.{pos}
use lib.Signed.{◌≤ℤ◌}
use Rattle.geo_exact.specs.declared.corner.Corner.{Corner}
use Rattle.geo_exact.specs.Point.{Point}
use Rattle.geo_exact.specs.Rings.{Edge, edges}
use Rattle.geo_exact.specs.Turn.{IsOnSome}
use Rattle.geo_exact.specs.Winding.{winding, IsInterior}
use Rattle.geo_exact.specs.Interiors.{InteriorsMeet}
use Rattle.geo_exact.proofs.rings.Triangles.{triangle_winds_at_most_once}
use Rattle.geo_exact.proofs.corners_and_turns.Moved.{moved, moved_off_some, moved_interior}
use Rattle.ring_core.specs.declared.triangle.Tri.{Tri}
use Rattle.ring_core.specs.Sums.{triangle_ring, winding_of_triangles, MakeUp}
use Rattle.tri_overlap.specs.own.Bounding.{InSome}
use Rattle.tri_overlap.specs.own.Pairs.{MeetsSome, SomePairMeets}

-- p is on no edge, of whatever ring
abbrev pub IsOffEdges : Point → Type 0
IsOffEdges p = (es : List Edge) → IsOnSome p es → ⊥

pub round_once : (p : Point) (t : Tri) → (winding p (triangle_ring t) ≡ pos 0) ⊎ (winding p (triangle_ring t) ≡ pos 1)
round_once p t = triangle_winds_at_most_once t.a t.b t.c p t.turns_left

sum_not_negative : (p : Point) (ts : List Tri) → pos 0 ≤ℤ winding_of_triangles p ts
sum_not_negative p [] = omega (arith, ints)
sum_not_negative p (t ∷ ts) = elim (round_once p t) [
  | inl e ↦ omega (arith, ints, e, sum_not_negative p ts)
  | inr e ↦ omega (arith, ints, e, sum_not_negative p ts)
]

pub in_some : (p : Point) → IsOffEdges p → (ts : List Tri) → pos 1 ≤ℤ winding_of_triangles p ts → InSome p ts
in_some p off [] h = absurd (omega (arith, ints, h))
in_some p off (t ∷ ts) h = elim (round_once p t) [
  | inl e ↦ inr (in_some p off ts (omega (arith, ints, e, h)))
  | inr e ↦ inl (record { off_edges = off (edges (triangle_ring t)); is_wound = omega (arith, ints, e) })
]

wound_in_some : (p : Point) (ts : List Tri) → InSome p ts → pos 1 ≤ℤ winding_of_triangles p ts
wound_in_some p [] h = absurd h
wound_in_some p (t ∷ ts) (inl h) = omega (arith, ints, h.is_wound, sum_not_negative p ts)
wound_in_some p (t ∷ ts) (inr h) = elim (round_once p t) [
  | inl e ↦ omega (arith, ints, e, wound_in_some p ts h)
  | inr e ↦ omega (arith, ints, e, wound_in_some p ts h)
]

one_meets : (p : Point) (t : Tri) (us : List Tri) → IsInterior p (triangle_ring t) → InSome p us → MeetsSome t us
one_meets p t [] i h = h
one_meets p t (u ∷ us) i (inl h) = inl (p, i, h)
one_meets p t (u ∷ us) i (inr h) = inr (one_meets p t us i h)

pub pair_meets : (p : Point) (ts us : List Tri) → InSome p ts → InSome p us → SomePairMeets ts us
pair_meets p [] us h k = h
pair_meets p (t ∷ ts) us (inl h) k = inl (one_meets p t us h k)
pair_meets p (t ∷ ts) us (inr h) k = inr (pair_meets p ts us h k)

-- a common point of two lists that is on no edge
abbrev pub CommonPoint : List Tri → List Tri → Type 0
CommonPoint ts us = (p : Point) × IsOffEdges p × InSome p ts × InSome p us

pub off_edges : (p : Point) → IsOffEdges (moved p)
off_edges p es = moved_off_some es p

meeting_point : (t u : Tri) → InteriorsMeet (triangle_ring t) (triangle_ring u)
    → (p : Point) × IsOffEdges p × IsInterior p (triangle_ring t) × IsInterior p (triangle_ring u)
meeting_point t u m = (moved m.0, off_edges m.0, moved_interior (triangle_ring t) m.0 m.1, moved_interior (triangle_ring u) m.0 m.2)

pub point_of_one : (t : Tri) (us : List Tri) → MeetsSome t us → (p : Point) × IsOffEdges p
    × IsInterior p (triangle_ring t) × InSome p us
point_of_one t [] h = absurd h
point_of_one t (u ∷ us) (inl h) = let w = meeting_point t u h in (w.0, w.1, w.2, inl w.3)
point_of_one t (u ∷ us) (inr h) = let w = point_of_one t us h in (w.0, w.1, w.2, inr w.3)

pub point_of_pair : (ts us : List Tri) → SomePairMeets ts us → CommonPoint ts us
point_of_pair [] us h = absurd h
point_of_pair (t ∷ ts) us (inl h) = let w = point_of_one t us h in (w.0, w.1, inl w.2, w.3)
point_of_pair (t ∷ ts) us (inr h) = let w = point_of_pair ts us h in (w.0, w.1, inr w.2, w.3)

inside_of_ring : (p : Point) (ring : List Corner) (ts : List Tri) → MakeUp ts ring → IsInterior p ring → IsOffEdges p → InSome p ts
inside_of_ring p ring ts m i off = in_some p off ts (rw (← m.windings p) i.is_wound)

pub ring_inside : (p : Point) (ring : List Corner) (ts : List Tri) → MakeUp ts ring → InSome p ts → IsOffEdges p → IsInterior p ring
ring_inside p ring ts m i off = record { off_edges = off (edges ring); is_wound = rw (m.windings p) (wound_in_some p ts i) }

pub pair_of_rings : (r s : List Corner) (ts us : List Tri) → MakeUp ts r → MakeUp us s → InteriorsMeet r s → SomePairMeets ts us
pair_of_rings r s ts us m n h =
    let p = moved h.0 in
    pair_meets p ts us
    (inside_of_ring p r ts m (moved_interior r h.0 h.1) (off_edges h.0))
    (inside_of_ring p s us n (moved_interior s h.0 h.2) (off_edges h.0))

pub rings_of_pair : (r s : List Corner) (ts us : List Tri) → MakeUp ts r → MakeUp us s → SomePairMeets ts us → InteriorsMeet r s
rings_of_pair r s ts us m n h =
    let w = point_of_pair ts us h in
    (w.0, ring_inside w.0 r ts m w.2 w.1, ring_inside w.0 s us n w.3 w.1)
