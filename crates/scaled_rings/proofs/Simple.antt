-- A simple ring, each corner ten times, is simple.
use Rattle.std.proofs.Common.{◌≡◌, ◌⊎◌, inl, inr, refl, sym, ◌∙◌, ap, subst, arith, ℕ, ◌<◌, pos, List, [], ◌∷◌, map, length}
use Rattle.std.proofs.lemmas.Int.{ints}
use Rattle.std.proofs.lemmas.List.{length-map}
use Rattle.geo_exact.specs.declared.corner.Corner.{Corner}
use Rattle.geo_exact.specs.Point.{Point, IsPlaceOf}
use Rattle.geo_exact.specs.Places.{corner_at, after}
use Rattle.geo_exact.specs.Turn.{IsOnEdge}
use Rattle.ring_core.specs.Simple.{IsOnEdgeAt, IsSharedCorner, MeetOtherwise, IsSimpleRing}
use Rattle.scaled_rings.specs.Tenfold.{AreTenTimes}
use Rattle.scaled_rings.proofs.Scaling.{ten, AreNear, near_of, tens_of}
use Rattle.scaled_rings.proofs.Lists.{at_ten, near_at}
use Rattle.scaled_rings.proofs.Points.{tenth, on_edge_ten, place_ten, area_ten}

next_at : (ring : List Corner) (i : ℕ)
    → corner_at (map ten ring) (after (length (map ten ring)) i) ≡ ten (corner_at ring (after (length ring) i))
next_at ring i = ap (λ n. corner_at (map ten ring) (after n i)) (length-map ring ten) ∙ at_ten ring (after (length ring) i)

on_at : (p : Point) (ring : List Corner) (i : ℕ) → AreNear ring → IsOnEdgeAt p (map ten ring) i → IsOnEdgeAt (tenth p) ring i
on_at p ring i h e =
    (on_edge_ten (corner_at ring i) (corner_at ring (after (length ring) i)) p (near_at ring i h)
    (near_at ring (after (length ring) i) h)).0
    (subst (λ c. IsOnEdge p c (ten (corner_at ring (after (length ring) i)))) (at_ten ring i)
    (subst (λ c. IsOnEdge p (corner_at (map ten ring) i) c) (next_at ring i) e))

place_at : (p : Point) (ring : List Corner) (i : ℕ) → AreNear ring → IsPlaceOf (tenth p) (corner_at ring i)
    → IsPlaceOf p (corner_at (map ten ring) i)
place_at p ring i h e = subst (IsPlaceOf p) (sym (at_ten ring i)) ((place_ten (corner_at ring i) p (near_at ring i h)).1 e)

shared_at : (p : Point) (ring : List Corner) (i j : ℕ) → AreNear ring → IsSharedCorner (tenth p) ring i j
    → IsSharedCorner p (map ten ring) i j
shared_at p ring i j h (inl e) =
    inl (e.0 ∙ ap (λ n. after n i) (sym (length-map ring ten)), place_at p ring j h e.1)
shared_at p ring i j h (inr e) =
    inr (e.0 ∙ ap (λ n. after n j) (sym (length-map ring ten)), place_at p ring i h e.1)

meet_at : (ring : List Corner) (i j : ℕ) → AreNear ring → MeetOtherwise (map ten ring) i j → MeetOtherwise ring i j
meet_at ring i j h m = (
  tenth m.0,
  on_at m.0 ring i h m.1,
  on_at m.0 ring j h m.2,
  λ s. m.3 (shared_at m.0 ring i j h s),
)

pub simple_ten : (ring : List Corner) → AreNear ring → IsSimpleRing ring → IsSimpleRing (map ten ring)
simple_ten ring h s = record {
  counterclockwise = omega (arith, ints, area_ten ring h, s.counterclockwise);
  simple = λ i j l m k. s.simple i j l (subst (λ n. j < n) (length-map ring ten) m) (meet_at ring i j h k);
}

pub simple_of_ten : (ring other : List Corner) → AreTenTimes ring other → IsSimpleRing ring → IsSimpleRing other
simple_of_ten ring other h s = subst IsSimpleRing (sym (tens_of ring other h)) (simple_ten ring (near_of ring other h) s)
