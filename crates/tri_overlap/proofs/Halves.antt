-- Two lists of triangles, the second cut in two: what the first has in common with either part.
use Rattle.std.proofs.Common.{◌≡◌, arith, inl, inr, ◌⊎◌, ◌↔◌, ℕ, List, [], ◌∷◌, ◌++◌, take, drop, ◌<◌}
use Rattle.std.proofs.Common.{length, get_or}
use Rattle.std.proofs.lemmas.List.{take-append-drop}
use Rattle.std.proofs.lemmas.List.Elements.{All-tail}
use Rattle.geo_exact.specs.Point.{Point}
use Rattle.geo_exact.specs.Winding.{IsInterior}
use Rattle.geo_exact.proofs.numbers.Dropped.{drop_item}
use Rattle.ring_core.specs.declared.triangle.Tri.{Tri}
use Rattle.ring_core.specs.Sums.{triangle_ring}
use Rattle.std.specs.List.{All}
use Rattle.geo_exact.specs.declared.bounds.Bounds.{Bounds}
use Rattle.geo_exact.specs.Bounds.{IsInsideBox, BoxesAreApart}
use Rattle.geo_exact.proofs.boxes.InBoxes.{not_in_both}
use Rattle.ring_core.specs.Boxes.{HoldsTriangle}
use Rattle.tri_overlap.specs.own.Bounding.{InSome}
use Rattle.tri_overlap.specs.own.Pairs.{SomePairMeets}
use Rattle.tri_overlap.proofs.Boxes.{inside_box}
use Rattle.tri_overlap.proofs.RingPairs.{pair_meets, point_of_pair}

in_front : (p : Point) (ts us : List Tri) → InSome p ts → InSome p (ts ++ us)
in_front p [] us h = absurd h
in_front p (t ∷ ts) us (inl h) = inl h
in_front p (t ∷ ts) us (inr h) = inr (in_front p ts us h)

in_back : (p : Point) (ts us : List Tri) → InSome p us → InSome p (ts ++ us)
in_back p [] us h = h
in_back p (t ∷ ts) us h = inr (in_back p ts us h)

in_either : (p : Point) (ts us : List Tri) → InSome p (ts ++ us) → InSome p ts ⊎ InSome p us
in_either p [] us h = inr h
in_either p (t ∷ ts) us (inl h) = inl (inl h)
in_either p (t ∷ ts) us (inr h) = elim (in_either p ts us h) [
  | inl k ↦ inl (inr k)
  | inr k ↦ inr k
]

-- what is in one of the parts is in the list
pub of_front : (p : Point) (i : ℕ) (us : List Tri) → InSome p (take i us) → InSome p us
of_front p i us h = rw (take-append-drop i us) at (in_front p (take i us) (drop i us) h)

pub of_back : (p : Point) (i : ℕ) (us : List Tri) → InSome p (drop i us) → InSome p us
of_back p i us h = rw (take-append-drop i us) at (in_back p (take i us) (drop i us) h)

-- what is in an item of the list is in the list
pub in_item : (p : Point) (ts : List Tri) (i : ℕ) (t : Tri) → i < length ts → t ≡ get_or ts i t
    → IsInterior p (triangle_ring t) → InSome p ts
in_item p ts i t h e k = of_back p i ts (rw (drop_item ts i t h e) (inl k))

-- some pair meets exactly where one does of a half and the other list
pub halves_meet : (i : ℕ) (ts us : List Tri)
    → (SomePairMeets (take i us) ts ⊎ SomePairMeets (drop i us) ts) ↔ SomePairMeets ts us
halves_meet i ts us = (
  λ h. elim h [
    | inl m ↦ let w = point_of_pair (take i us) ts m in pair_meets w.0 ts us w.3 (of_front w.0 i us w.2)
    | inr m ↦ let w = point_of_pair (drop i us) ts m in pair_meets w.0 ts us w.3 (of_back w.0 i us w.2)
  ],
  λ m. let w = point_of_pair ts us m in elim (in_either w.0 (take i us) (drop i us) (rw (take-append-drop i us) w.3)) [
    | inl k ↦ inl (pair_meets w.0 (take i us) ts k w.2)
    | inr k ↦ inr (pair_meets w.0 (drop i us) ts k w.2)
  ],
)

-- a box that holds all triangles has each point that is inside one of them
pub inside_all : (box : Bounds) (us : List Tri) → All (HoldsTriangle box) us → (p : Point) → InSome p us → IsInsideBox p box
inside_all box [] h p j = absurd j
inside_all box (u ∷ us) h p (inl j) = inside_box u p box (h 0 u (omega arith)) j
inside_all box (u ∷ us) h p (inr j) = inside_all box us (All-tail (HoldsTriangle box) u us h) p j

-- lists of triangles in boxes that are apart have no two that meet
pub apart_lists : (box other : Bounds) (ts us : List Tri) → All (HoldsTriangle box) ts → All (HoldsTriangle other) us
    → BoxesAreApart box other
    → ¬ SomePairMeets ts us
apart_lists box other ts us h k a m =
    let w = point_of_pair ts us m in
    not_in_both w.0 box other a (inside_all box ts h w.0 w.2) (inside_all other us k w.0 w.3)
