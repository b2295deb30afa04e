-- Rings that are clipped in slices, by several threads.
use Rattle.std.proofs.Common.{◌≡◌, refl, sym, ◌∙◌, ap, subst, arith, ℕ, ◌+◌, ◌<◌, List, [], ◌∷◌, ◌++◌, length, take, drop, get_or}
use Rattle.std.proofs.lemmas.List.{length-append}
use Rattle.std.proofs.lemmas.Grind.{get_or_tail}
use Rattle.ring_core.specs.declared.ring.Ring.{Ring}
use Rattle.ring_core.specs.declared.shape.Shape.{Shape}
use Rattle.edge_chains.specs.own.Slices.{AreOfSlices}
use Rattle.fabric_core.specs.own.Lists.{AreShapesOfRings, corners_of_rings, corners_of_shapes}

pub corners_of_clipped : {A : Type 0} (rings : List (Ring A)) (shapes : List (Shape A)) → AreShapesOfRings rings shapes
    → corners_of_shapes shapes ≡ corners_of_rings rings
corners_of_clipped [] [] h = refl
corners_of_clipped [] (shape ∷ shapes) h = absurd h
corners_of_clipped (ring ∷ rings) [] h = absurd h
corners_of_clipped (ring ∷ rings) (shape ∷ shapes) h =
    ap (λ corners. corners ∷ corners_of_shapes shapes) h.0
    ∙ ap (λ rest. ring.corners ∷ rest) (corners_of_clipped rings shapes h.1)

-- the item at a place behind the first
later : {X : Type 0} (x : X) (xs : List X) (i : ℕ) (d : X) → get_or (x ∷ xs) (i + 1) d ≡ get_or xs i d
later x xs i d = get_or_tail x xs (i + 1) d (omega arith) ∙ ap (λ k. get_or xs k d) (omega arith)

-- where each slice is a job's, and what a job gives is what is wanted of its slice, the results are those of the slices
pub of_jobs : {X J Y : Type 0} (Q : List X → J → Type 0) (R : List X → Y → Type 0) (size : ℕ) (xs : List X) (js : List J) (ys : List Y)
    → length ys ≡ length js → AreOfSlices Q size xs js
    → ((i : ℕ) (j : J) (y : Y) → i < length js → (slice : List X) → Q slice (get_or js i j) → R slice (get_or ys i y))
    → AreOfSlices R size xs ys
of_jobs Q R size xs [] [] e h each = h
of_jobs Q R size xs [] (y ∷ ys) e h each = absurd (omega (arith, e))
of_jobs Q R size xs (j ∷ js) [] e h each = absurd (omega (arith, e))
of_jobs Q R size xs (j ∷ js) (y ∷ ys) e h each = (
  each 0 j y (omega arith) (take size xs) h.0,
  of_jobs Q R size (drop size xs) js ys (omega (arith, e)) h.1
      (λ i d b l slice q. subst (R slice) (later y ys i b)
      (each (i + 1) d b (omega (arith, l)) slice (subst (Q slice) (sym (later j js i d)) q))),
)

pub last_alike : {X : Type 0} (xs ys : List X) (x y : X) → xs ++ x ∷ [] ≡ ys ++ y ∷ [] → x ≡ y
last_alike [] [] x y e = cc
last_alike [] (b ∷ ys) x y e = absurd (omega (arith, ap length e, length-append ys (y ∷ [])))
last_alike (a ∷ xs) [] x y e = absurd (omega (arith, ap length e, length-append xs (x ∷ [])))
last_alike (a ∷ xs) (b ∷ ys) x y e = last_alike xs ys x y (ap (drop 1) e)
