-- Net numbers of edges round rings: by their runs, and where a path is walked there and back.
use Rattle.std.proofs.Common.{◌≡◌, sym, ◌∙◌, ap, arith, ℕ, ◌≤◌, ℤ, ◌+ℤ◌, List, [], ◌∷◌, ◌++◌, length}
use Rattle.std.proofs.Common.{take, drop, reverse}
use Rattle.std.proofs.lemmas.Int.{ints}
use Rattle.std.proofs.lemmas.List.{take-append-drop, reverse-append, append-nil}
use lib.IntN.{pos}
use Rattle.geo_exact.specs.declared.corner.Corner.{Corner}
use Rattle.geo_exact.specs.Rings.{path, edges, begun_at, begun_at_least}
use Rattle.geo_exact.proofs.rings.EdgeSums.{edge_of, path-join}
use Rattle.geo_exact.proofs.rings.Begun.{edges_begun, least_within}
use Rattle.edge_chains.specs.Net.{net_of_edges, net_count}
use Rattle.edge_chains.proofs.nets.Nets.{net_of_append}
use Rattle.edge_chains.proofs.nets.Changes.{net_of_turned}
use Rattle.ring_edits.specs.Round.{GoesRound}
use Rattle.ring_edits.proofs.Borders.{edges_round}

-- a ring begun elsewhere has the same net numbers
pub net_begun : (k : ℕ) (ring : List Corner) (c d : Corner) → k ≤ length ring
    → net_of_edges (edges (begun_at k ring)) c d ≡ net_of_edges (edges ring) c d
net_begun k ring c d h =
    let es = edges ring in
    ap (λ xs. net_of_edges xs c d) (edges_begun k ring h) ∙ net_of_append (drop k es) (take k es) c d
    ∙ swap (net_of_edges (drop k es) c d) (net_of_edges (take k es) c d)
    ∙ sym (net_of_append (take k es) (drop k es) c d)
    ∙ ap (λ xs. net_of_edges xs c d) (take-append-drop k es)
  where
    swap : (x y : ℤ) → x +ℤ y ≡ y +ℤ x
    swap x y = omega (arith, ints)

pub net_at_least : (ring : List Corner) (c d : Corner) → net_of_edges (edges (begun_at_least ring)) c d ≡ net_of_edges (edges ring) c d
net_at_least ring c d =
    let h = least_within ring in ap (λ xs. net_of_edges (edges xs) c d) h.2 ∙ net_begun h.0 ring c d h.1

-- the net numbers of a ring are those of its two runs
pub net_closed : (u v : Corner) (onward back : List Corner) (c d : Corner)
    → net_of_edges (edges (u ∷ onward ++ v ∷ back)) c d ≡ net_of_edges (path u onward v) c d +ℤ net_of_edges (path v back u) c d
net_closed u v onward back c d =
    ap (λ xs. net_of_edges xs c d) (edges_round u v onward back) ∙ net_of_append (path u onward v) (path v back u) c d

pub net_round : (ring : List Corner) (u v : Corner) (onward back : List Corner) (c d : Corner) → GoesRound ring u onward v back
    → net_of_edges (edges ring) c d ≡ net_of_edges (path u onward v) c d +ℤ net_of_edges (path v back u) c d
net_round ring u v onward back c d h =
    sym (net_begun h.start ring c d (omega (arith, h.within))) ∙ ap (λ xs. net_of_edges (edges xs) c d) h.round
    ∙ net_closed u v onward back c d

-- an edge the other way has the opposite net numbers
pub net_turned : (u v c d : Corner) → net_of_edges (edge_of u v ∷ []) c d +ℤ net_of_edges (edge_of v u ∷ []) c d ≡ pos 0
net_turned u v c d = omega (arith, ints, net_of_turned u v c d)

-- and so has a path walked back
pub net_back : (u v : Corner) (xs : List Corner) (c d : Corner)
    → net_of_edges (path u xs v) c d +ℤ net_of_edges (path v (reverse xs) u) c d ≡ pos 0
net_back u v [] c d = net_turned u v c d
net_back u v (x ∷ xs) c d =
    let first : net_of_edges (path u (x ∷ xs) v) c d ≡ net_of_edges (edge_of u x ∷ []) c d +ℤ net_of_edges (path x xs v) c d =
    net_of_append (edge_of u x ∷ []) (path x xs v) c d in
    let last : net_of_edges (path v (reverse (x ∷ xs)) u) c d
    ≡ net_of_edges (path v (reverse xs) x) c d +ℤ net_of_edges (edge_of x u ∷ []) c d =
    ap (λ ys. net_of_edges (path v ys u) c d) (reverse-append (x ∷ []) xs)
    ∙ ap (λ es. net_of_edges es c d) (path-join v x u (reverse xs) [])
    ∙ net_of_append (path v (reverse xs) x) (edge_of x u ∷ []) c d in
    total (net_of_edges (path u (x ∷ xs) v) c d) (net_of_edges (path v (reverse (x ∷ xs)) u) c d)
    (net_of_edges (edge_of u x ∷ []) c d)
    (net_of_edges (edge_of x u ∷ []) c d) (net_of_edges (path x xs v) c d) (net_of_edges (path v (reverse xs) x) c d)
    first last (net_turned u x c d) (net_back x v xs c d)
  where
    total : (a b e f p q : ℤ) → a ≡ e +ℤ p → b ≡ q +ℤ f → e +ℤ f ≡ pos 0 → p +ℤ q ≡ pos 0 → a +ℤ b ≡ pos 0
    total a b e f p q h k l m = omega (arith, ints)

-- the net numbers of two rings together
pub net_of_two : (one two : List Corner) (c d : Corner)
    → net_count (one ∷ two ∷ []) c d ≡ net_of_edges (edges one) c d +ℤ net_of_edges (edges two) c d
net_of_two one two c d =
    ap (λ es. net_of_edges (edges one ++ es) c d) (append-nil (edges two)) ∙ net_of_append (edges one) (edges two) c d

pub net_of_one : (one : List Corner) (c d : Corner) → net_count (one ∷ []) c d ≡ net_of_edges (edges one) c d
net_of_one one c d = ap (λ es. net_of_edges es c d) (append-nil (edges one))
