-- Points on one of many edges, and on a ring begun at another corner.
use Rattle.std.proofs.Common.{◌⊎◌, ◌↔◌, ⊎_elim, inl, inr, sym, subst, ℕ, ◌≤◌, List, [], ◌∷◌, ◌++◌, length}
use Rattle.std.proofs.Common.{take, drop}
use Rattle.std.proofs.lemmas.List.{take-append-drop}
use Rattle.geo_exact.specs.declared.corner.Corner.{Corner}
use Rattle.geo_exact.specs.Point.{Point}
use Rattle.geo_exact.specs.Rings.{Edge, edges, begun_at}
use Rattle.geo_exact.specs.Turn.{IsOnSome, IsOnRing}
use Rattle.geo_exact.proofs.rings.Begun.{edges_begun}

pub IsOnSome-left : (p : Point) (es fs : List Edge) → IsOnSome p es → IsOnSome p (es ++ fs)
IsOnSome-left p [] fs h = absurd h
IsOnSome-left p (e ∷ es) fs (inl h) = inl h
IsOnSome-left p (e ∷ es) fs (inr h) = inr (IsOnSome-left p es fs h)

pub IsOnSome-right : (p : Point) (es fs : List Edge) → IsOnSome p fs → IsOnSome p (es ++ fs)
IsOnSome-right p [] fs h = h
IsOnSome-right p (e ∷ es) fs h = inr (IsOnSome-right p es fs h)

pub IsOnSome-either : (p : Point) (es fs : List Edge) → IsOnSome p (es ++ fs) → IsOnSome p es ⊎ IsOnSome p fs
IsOnSome-either p [] fs h = inr h
IsOnSome-either p (e ∷ es) fs (inl h) = inl (inl h)
IsOnSome-either p (e ∷ es) fs (inr h) = ⊎_elim (λ k. inl (inr k)) (λ k. inr k) (IsOnSome-either p es fs h)

swapped : (p : Point) (es fs : List Edge) → IsOnSome p (es ++ fs) → IsOnSome p (fs ++ es)
swapped p es fs h = ⊎_elim (IsOnSome-right p fs es) (IsOnSome-left p fs es) (IsOnSome-either p es fs h)

pub on_ring_begun : (k : ℕ) (p : Point) (ring : List Corner) → k ≤ length ring → IsOnRing p (begun_at k ring) ↔ IsOnRing p ring
on_ring_begun k p ring h =
    let es = edges ring in (
      λ on. subst (IsOnSome p) (take-append-drop k es) (swapped p (drop k es) (take k es) (subst (IsOnSome p) (edges_begun k ring h) on)),
      λ on. subst (IsOnSome p) (sym (edges_begun k ring h)) (swapped p (take k es) (drop k es)
          (subst (IsOnSome p) (sym (take-append-drop k es)) on)),
    )
