-- The passes over a ring's edges that look for an edge, and that put a corner in.
use Rattle.std.proofs.Common.{◌≡◌, sym, ◌∙◌, ap, arith, Bool, true, false, ◌||◌, if◌then◌else◌, ℕ, ◌+◌, ◌<◌}
use Rattle.std.proofs.Common.{◌≤◌}
use Rattle.std.proofs.Common.{List, [], ◌∷◌, ◌++◌, length, drop, get_or, append_assoc, append-nil}
use Rattle.std.specs.List.{list_any}
use Rattle.std.proofs.lemmas.List.{drop_all}
use Rattle.std.proofs.lemmas.Option.{slice_get-get_or}
use Rattle.geo_exact.specs.declared.corner.Corner.{Corner}
use Rattle.geo_exact.specs.Places.{corner_at, after}
use Rattle.geo_exact.specs.Rings.{edges}
use Rattle.geo_exact.proofs.rings.Begun.{ring_count}
use Rattle.geo_exact.proofs.numbers.Dropped.{drop_item}
use Rattle.geo_exact.proofs.rings.EdgeSums.{edge_of}
use Rattle.ring_core.proofs.edges.EdgeNumbers.{ring_joins}
use Rattle.ring_edits.specs.Edits.{joins, has_edge_between, put_along, put_between}
use Rattle.ring_edits.specs.own.Between.{edge_at}

-- edge i of the ring, among its edges
pub edge_here : (ring : List Corner) (i : ℕ) → i < length ring → drop i (edges ring) ≡ edge_at ring i ∷ drop (i + 1) (edges ring)
edge_here ring i h =
    let b : i < length (edges ring) = omega (arith, ring_count ring) in
    let e = get_or (edges ring) i (edge_at ring i) in
    let j = ring_joins ring i e (slice_get-get_or (edges ring) i (edge_at ring i) b) in
    drop_item (edges ring) i (edge_at ring i) b
    (ap (λ (x : Corner). edge_of x (corner_at ring (after (length ring) i))) (sym j.0)
    ∙ ap (λ (y : Corner). edge_of e.from y) (sym j.1))

-- no edge is left behind the last
pub no_more : (ring : List Corner) (i : ℕ) → length ring ≤ i → drop i (edges ring) ≡ []
no_more ring i h = drop_all i (edges ring) (omega (arith, ring_count ring))

-- ---- looking for an edge
pub found_here : (u v : Corner) (ring : List Corner) (i : ℕ) (r : Bool) → i < length ring
    → r ≡ joins u v (edge_at ring i) → r ≡ true
    → list_any (joins u v) (drop i (edges ring)) ≡ has_edge_between u v ring → true ≡ has_edge_between u v ring
found_here u v ring i r h e k l =
    ap (λ b. b || list_any (joins u v) (drop (i + 1) (edges ring))) (sym k ∙ e)
    ∙ sym (ap (list_any (joins u v)) (edge_here ring i h)) ∙ l

pub not_here : (u v : Corner) (ring : List Corner) (i : ℕ) (r : Bool) → i < length ring
    → r ≡ joins u v (edge_at ring i) → r ≡ false
    → list_any (joins u v) (drop i (edges ring)) ≡ has_edge_between u v ring
    → list_any (joins u v) (drop (i + 1) (edges ring)) ≡ has_edge_between u v ring
not_here u v ring i r h e k l =
    ap (λ b. b || list_any (joins u v) (drop (i + 1) (edges ring))) (sym k ∙ e)
    ∙ sym (ap (list_any (joins u v)) (edge_here ring i h)) ∙ l

pub not_anywhere : (u v : Corner) (ring : List Corner) (i : ℕ) → length ring ≤ i
    → list_any (joins u v) (drop i (edges ring)) ≡ has_edge_between u v ring → false ≡ has_edge_between u v ring
not_anywhere u v ring i h l = sym (ap (list_any (joins u v)) (no_more ring i h)) ∙ l

-- ---- putting the corner in
put_step : (b : Bool) (xs ys zs : List Corner) (c at : Corner) → zs ≡ (if b then (xs ++ c ∷ []) ++ at ∷ [] else xs ++ c ∷ [])
    → zs ++ ys ≡ xs ++ c ∷ (if b then at ∷ ys else ys)
put_step true xs ys zs c at h = ap (λ l. l ++ ys) h ∙ append_assoc (xs ++ c ∷ []) (at ∷ []) ys
    ∙ append_assoc xs (c ∷ []) (at ∷ ys)
put_step false xs ys zs c at h = ap (λ l. l ++ ys) h ∙ append_assoc xs (c ∷ []) ys

pub put_more : (u v at : Corner) (ring xs zs : List Corner) (i : ℕ) (c : Corner) → i < length ring → c ≡ corner_at ring i
    → zs ≡ (if joins u v (edge_at ring i) then (xs ++ c ∷ []) ++ at ∷ [] else xs ++ c ∷ [])
    → xs ++ put_along u v at (drop i (edges ring)) ≡ put_between u v at ring
    → zs ++ put_along u v at (drop (i + 1) (edges ring)) ≡ put_between u v at ring
put_more u v at ring xs zs i c h e s l =
    let ys = put_along u v at (drop (i + 1) (edges ring)) in
    put_step (joins u v (edge_at ring i)) xs ys zs c at s
    ∙ ap (λ x. xs ++ x ∷ (if joins u v (edge_at ring i) then at ∷ ys else ys)) e
    ∙ ap (λ es. xs ++ put_along u v at es) (sym (edge_here ring i h)) ∙ l

pub put_end : (u v at : Corner) (ring xs : List Corner) (i : ℕ) → length ring ≤ i
    → xs ++ put_along u v at (drop i (edges ring)) ≡ put_between u v at ring → xs ≡ put_between u v at ring
put_end u v at ring xs i h l = sym (append-nil xs) ∙ ap (λ es. xs ++ put_along u v at es) (sym (no_more ring i h)) ∙ l
