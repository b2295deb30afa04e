-- Sums of a measure over the edges of paths and rings.
use Rattle.std.proofs.Common.{◌≡◌, refl, ◌∙◌, ap, arith, List, [], ◌∷◌, ◌++◌, reverse}
use Rattle.std.proofs.lemmas.Int.{ints}
use Rattle.std.proofs.lemmas.List.{reverse-append}
use lib.IntN.{ℤ, ◌+ℤ◌, neg_ℤ}
use Rattle.geo_exact.specs.declared.corner.Corner.{Corner}
use Rattle.geo_exact.specs.Rings.{Edge, path, edges, sum_over, turned_round}

-- the edge from a to b
abbrev pub edge_of : Corner → Corner → Edge
edge_of a b = record { from = a; to = b }

-- the edge the other way
abbrev pub turned_edge : Edge → Edge
turned_edge edge = record { from = edge.to; to = edge.from }

pub sum_over-append : (measure : Edge → ℤ) (xs ys : List Edge) → sum_over measure (xs ++ ys) ≡ sum_over measure xs
    +ℤ sum_over measure ys
sum_over-append measure [] ys = omega (arith, ints)
sum_over-append measure (x ∷ xs) ys = omega (arith, ints, sum_over-append measure xs ys)

-- measures that agree on every edge
pub sum_over-same : (f g : Edge → ℤ) (es : List Edge) → ((edge : Edge) → f edge ≡ g edge) → sum_over f es ≡ sum_over g es
sum_over-same f g [] h = refl
sum_over-same f g (edge ∷ es) h = omega (arith, ints, h edge, sum_over-same f g es h)

pub sum_over-neg : (measure : Edge → ℤ) (es : List Edge) → sum_over (λ edge. neg_ℤ (measure edge)) es
    ≡ neg_ℤ (sum_over measure es)
sum_over-neg measure [] = refl
sum_over-neg measure (edge ∷ es) = omega (arith, ints, sum_over-neg measure es)

pub sum_over-plus : (f g : Edge → ℤ) (es : List Edge) → sum_over (λ edge. f edge +ℤ g edge) es ≡ sum_over f es +ℤ sum_over g es
sum_over-plus f g [] = refl
sum_over-plus f g (edge ∷ es) = omega (arith, ints, sum_over-plus f g es)

-- a path through m is the path to m, then the path from m
pub path-join : (from m to : Corner) (xs ys : List Corner) → path from (xs ++ m ∷ ys) to ≡ path from xs m ++ path m ys to
path-join from m to [] ys = refl
path-join from m to (x ∷ xs) ys = ap (λ es. edge_of from x ∷ es) (path-join x m to xs ys)

pub sum_over-path : (measure : Edge → ℤ) (from m to : Corner) (xs ys : List Corner)
    → sum_over measure (path from (xs ++ m ∷ ys) to) ≡ sum_over measure (path from xs m) +ℤ sum_over measure (path m ys to)
sum_over-path measure from m to xs ys = ap (sum_over measure) (path-join from m to xs ys)
    ∙ sum_over-append measure (path from xs m) (path m ys to)

-- a path walked back has the same edges, each the other way
pub sum_over-back : (measure : Edge → ℤ) (from to : Corner) (xs : List Corner)
    → sum_over measure (path to (reverse xs) from) ≡ sum_over (λ edge. measure (turned_edge edge)) (path from xs to)
sum_over-back measure from to [] = refl
sum_over-back measure from to (x ∷ xs) =
    ap (λ back. sum_over measure (path to back from)) (reverse-append (x ∷ []) xs)
    ∙ omega (arith, ints, sum_over-path measure to x from (reverse xs) [], sum_over-back measure x to xs)

pub sum_over-turned_round : (measure : Edge → ℤ) (ring : List Corner)
    → sum_over measure (edges (turned_round ring)) ≡ sum_over (λ edge. measure (turned_edge edge)) (edges ring)
sum_over-turned_round measure [] = refl
sum_over-turned_round measure (first ∷ rest) = sum_over-back measure first first rest

-- a measure that changes its sign with the edge's direction does so with the ring's
pub sum_over-turned_sign : (measure : Edge → ℤ) (ring : List Corner)
    → ((edge : Edge) → measure (turned_edge edge) ≡ neg_ℤ (measure edge))
    → sum_over measure (edges (turned_round ring)) ≡ neg_ℤ (sum_over measure (edges ring))
sum_over-turned_sign measure ring h =
    sum_over-turned_round measure ring
    ∙ sum_over-same (λ edge. measure (turned_edge edge)) (λ edge. neg_ℤ (measure edge)) (edges ring) h
    ∙ sum_over-neg measure (edges ring)

-- where the edge from a to b is replaced by the edges a m and m b, and the measure of the three agrees
pub sum_over-path_inserts : (measure : Edge → ℤ) (from to : Corner) (front back : List Corner) (a b m : Corner)
    → measure (edge_of a m) +ℤ measure (edge_of m b) ≡ measure (edge_of a b)
    → sum_over measure (path from (front ++ a ∷ m ∷ b ∷ back) to) ≡ sum_over measure (path from (front ++ a ∷ b ∷ back) to)
sum_over-path_inserts measure from to [] back a b m h = omega (arith, ints, h)
sum_over-path_inserts measure from to (next ∷ front) back a b m h =
    ap (λ z. measure (edge_of from next) +ℤ z) (sum_over-path_inserts measure next to front back a b m h)

pub sum_over-inserts : (measure : Edge → ℤ) (front back : List Corner) (a b m : Corner)
    → measure (edge_of a m) +ℤ measure (edge_of m b) ≡ measure (edge_of a b)
    → sum_over measure (edges (front ++ a ∷ m ∷ b ∷ back)) ≡ sum_over measure (edges (front ++ a ∷ b ∷ back))
sum_over-inserts measure [] back a b m h = omega (arith, ints, h)
sum_over-inserts measure (first ∷ front) back a b m h = sum_over-path_inserts measure first first front back a b m h
