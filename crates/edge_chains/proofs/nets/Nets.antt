-- Net numbers over lists of edges and of rings, one after another.
use Rattle.std.proofs.Common.{◌≡◌, refl, sym, ◌∙◌, ap, arith, ◌+◌, ℤ, pos, ◌+ℤ◌, ◌-ℤ◌, List, [], ◌∷◌}
use Rattle.std.proofs.Common.{◌++◌, append_assoc}
use Rattle.std.proofs.lemmas.Int.{ints}
use Rattle.geo_exact.specs.declared.corner.Corner.{Corner}
use Rattle.geo_exact.specs.Rings.{Edge, edges}
use Rattle.edge_chains.specs.Net.{edge_count, all_edges, net_of_edges, net_count}
use Rattle.edge_chains.specs.Counts.{Counts, net_at, AreNetOf}

pub edge_count-append : (es fs : List Edge) (a b : Corner) → edge_count (es ++ fs) a b ≡ edge_count es a b + edge_count fs a b
edge_count-append [] fs a b = omega arith
edge_count-append (e ∷ es) fs a b = omega (arith, edge_count-append es fs a b)

pub net_of_append : (es fs : List Edge) (a b : Corner) → net_of_edges (es ++ fs) a b ≡ net_of_edges es a b +ℤ net_of_edges fs a b
net_of_append es fs a b = omega (arith, ints, edge_count-append es fs a b, edge_count-append es fs b a)

pub net_of_nil : (a b : Corner) → net_of_edges [] a b ≡ pos 0
net_of_nil a b = refl

pub all_edges-append : (rings others : List (List Corner)) → all_edges (rings ++ others) ≡ all_edges rings ++ all_edges others
all_edges-append [] others = refl
all_edges-append (ring ∷ rings) others = ap (λ es. edges ring ++ es) (all_edges-append rings others)
    ∙ sym (append_assoc (edges ring) (all_edges rings) (all_edges others))

pub net_count-append : (rings others : List (List Corner)) (a b : Corner) → net_count (rings ++ others) a b
    ≡ net_count rings a b +ℤ net_count others a b
net_count-append rings others a b = ap (λ es. net_of_edges es a b) (all_edges-append rings others)
    ∙ net_of_append (all_edges rings) (all_edges others) a b

net_count-one : (ring : List Corner) (a b : Corner) → net_count (ring ∷ []) a b ≡ net_of_edges (edges ring) a b
net_count-one ring a b = net_of_append (edges ring) [] a b ∙ plus_zero (net_of_edges (edges ring) a b)
  where
    plus_zero : (z : ℤ) → z +ℤ pos 0 ≡ z
    plus_zero z = omega (arith, ints)

pub net_count-push : (rings : List (List Corner)) (ring : List Corner) (a b : Corner)
    → net_count (rings ++ ring ∷ []) a b ≡ net_count rings a b +ℤ net_of_edges (edges ring) a b
net_count-push rings ring a b = net_count-append rings (ring ∷ []) a b ∙ ap (λ z. net_count rings a b +ℤ z) (net_count-one ring a b)

pub AreNetOf-added : (old new : Counts) (ring : List Corner)
    → ((a b : Corner) → net_at new.counts a b ≡ net_at old.counts a b +ℤ net_of_edges (edges ring) a b)
    → (added taken : List (List Corner)) → AreNetOf old added taken → AreNetOf new (added ++ ring ∷ []) taken
AreNetOf-added old new ring h added taken k a b =
    total (net_at new.counts a b) (net_at old.counts a b) (net_of_edges (edges ring) a b) (net_count added a b)
    (net_count (added ++ ring ∷ []) a b)
    (net_count taken a b) (h a b) (k a b) (net_count-push added ring a b)
  where
    total : (new old one many all taken : ℤ) → new ≡ old +ℤ one → old ≡ many -ℤ taken → all ≡ many +ℤ one
        → new ≡ all -ℤ taken
    total new old one many all taken h k l = omega (arith, ints)

pub AreNetOf-taken : (old new : Counts) (ring : List Corner)
    → ((a b : Corner) → net_at new.counts a b ≡ net_at old.counts a b -ℤ net_of_edges (edges ring) a b)
    → (added taken : List (List Corner)) → AreNetOf old added taken → AreNetOf new added (taken ++ ring ∷ [])
AreNetOf-taken old new ring h added taken k a b =
    total (net_at new.counts a b) (net_at old.counts a b) (net_of_edges (edges ring) a b) (net_count taken a b)
    (net_count (taken ++ ring ∷ []) a b)
    (net_count added a b) (h a b) (k a b) (net_count-push taken ring a b)
  where
    total : (new old one many all added : ℤ) → new ≡ old -ℤ one → old ≡ added -ℤ many → all ≡ many +ℤ one
        → new ≡ added -ℤ all
    total new old one many all added h k l = omega (arith, ints)
