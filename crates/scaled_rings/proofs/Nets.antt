-- Net numbers of directed edges: rings with equal nets have them, each corner ten times, too.
use Rattle.std.proofs.Common.{◌≡◌, ◌⊎◌, inl, inr, refl, sym, ◌∙◌, ap, subst, arith, Bool, true, false, ◌&&◌, if◌then◌else◌}
use Rattle.std.proofs.Common.{ℕ, ◌+◌, ℤ, pos, ◌-ℤ◌, List, [], ◌∷◌, ◌++◌, map}
use Rattle.std.specs.List.{AllByRecursion}
use Rattle.std.proofs.lemmas.List.{map-append}
use Rattle.std.proofs.lemmas.Bool.{false≢true}
use Rattle.geo_exact.specs.declared.corner.Corner.{Corner}
use Rattle.geo_exact.specs.Order.{is_same}
use Rattle.geo_exact.specs.Rings.{Edge, edges}
use Rattle.geo_exact.proofs.corners_and_turns.CornerOrder.{same_from_test}
use Rattle.edge_chains.specs.Net.{runs_from_to, edge_count, all_edges, net_of_edges, net_count}
use Rattle.scaled_rings.specs.Tenfold.{IsNear}
use Rattle.scaled_rings.proofs.Scaling.{ten, ten_same, AreNear}
use Rattle.scaled_rings.proofs.Lists.{ten_edge, IsNearEdge, AreNearEdges, edges_ten, near_edges}

abbrev pub ten_rings : List (List Corner) → List (List Corner)
ten_rings rings = map (λ ring. map ten ring) rings

abbrev pub AreNearRings : List (List Corner) → Type 0
AreNearRings rings = AllByRecursion AreNear rings

all_edges_ten : (rings : List (List Corner)) → all_edges (ten_rings rings) ≡ map ten_edge (all_edges rings)
all_edges_ten [] = refl
all_edges_ten (ring ∷ rings) =
    ap (λ es. es ++ all_edges (ten_rings rings)) (edges_ten ring) ∙ ap (λ es. map ten_edge (edges ring) ++ es) (all_edges_ten rings)
    ∙ sym (map-append ten_edge (edges ring) (all_edges rings))

near_edges_append : (es fs : List Edge) → AreNearEdges es → AreNearEdges fs → AreNearEdges (es ++ fs)
near_edges_append [] fs h k = k
near_edges_append (e ∷ es) fs h k = (h.0, near_edges_append es fs h.1 k)

near_all_edges : (rings : List (List Corner)) → AreNearRings rings → AreNearEdges (all_edges rings)
near_all_edges [] h = tt
near_all_edges (ring ∷ rings) h = near_edges_append (edges ring) (all_edges rings) (near_edges ring h.0) (near_all_edges rings h.1)

-- ---- an edge, ten times, runs between two corners, ten times, where it ran between them
pub runs_ten : (a b : Corner) (e : Edge) → IsNear a → IsNear b → IsNearEdge e
    → runs_from_to (ten a) (ten b) (ten_edge e) ≡ runs_from_to a b e
runs_ten a b e h k n = let p = ten_same e.from a n.from h in let q = ten_same e.to b n.to k in cc

counts_ten : (es : List Edge) (a b : Corner) → AreNearEdges es → IsNear a → IsNear b
    → edge_count (map ten_edge es) (ten a) (ten b) ≡ edge_count es a b
counts_ten [] a b n h k = refl
counts_ten (e ∷ es) a b n h k =
    ap (λ (t : Bool). (if t then 1 else 0) + edge_count (map ten_edge es) (ten a) (ten b)) (runs_ten a b e h k n.0)
    ∙ ap (λ m. (if runs_from_to a b e then 1 else 0) + m) (counts_ten es a b n.1 h k)

-- the corners are two near ones, ten times
record AreTens (a b : Corner) : Type 0 where
  pub u : Corner
  pub v : Corner
  pub near_u : IsNear u
  pub near_v : IsNear v
  pub is_u : a ≡ ten u
  pub is_v : b ≡ ten v

turned : (a b : Corner) → AreTens a b → AreTens b a
turned a b h = record { u = h.v; v = h.u; near_u = h.near_v; near_v = h.near_u; is_u = h.is_v; is_v = h.is_u }

none_or_tens : (es : List Edge) (a b : Corner) → AreNearEdges es → (edge_count (map ten_edge es) a b ≡ 0) ⊎ AreTens a b
none_or_tens [] a b n = inl refl
none_or_tens (e ∷ es) a b n = split (is_same (ten e.from) a) (is_same (ten e.to) b) refl refl (none_or_tens es a b n.1)
  where
    split : (p q : Bool) → is_same (ten e.from) a ≡ p → is_same (ten e.to) b ≡ q
        → (edge_count (map ten_edge es) a b ≡ 0) ⊎ AreTens a b
        → ((if p && q then 1 else 0) + edge_count (map ten_edge es) a b ≡ 0) ⊎ AreTens a b
    split true true i j rest = inr (record {
      u = e.from;
      v = e.to;
      near_u = n.0.from;
      near_v = n.0.to;
      is_u = sym (same_from_test (ten e.from) a i);
      is_v = sym (same_from_test (ten e.to) b j);
    })
    split true false i j (inl z) = inl (omega arith)
    split true false i j (inr t) = inr t
    split false q i j (inl z) = inl (omega arith)
    split false q i j (inr t) = inr t

-- ---- nets
net_at_tens : (es fs : List Edge) → AreNearEdges es → AreNearEdges fs
    → ((a b : Corner) → net_of_edges es a b ≡ net_of_edges fs a b)
    → (a b : Corner) → AreTens a b → net_of_edges (map ten_edge es) a b ≡ net_of_edges (map ten_edge fs) a b
net_at_tens es fs n m same a b h =
    at es n ∙ same h.u h.v ∙ sym (at fs m)
  where
    at : (es : List Edge) → AreNearEdges es → net_of_edges (map ten_edge es) a b ≡ net_of_edges es h.u h.v
    at es n =
        ap (λ c. net_of_edges (map ten_edge es) c b) h.is_u ∙ ap (λ c. net_of_edges (map ten_edge es) (ten h.u) c) h.is_v
        ∙ ap (λ k. pos k -ℤ pos (edge_count (map ten_edge es) (ten h.v) (ten h.u))) (counts_ten es h.u h.v n h.near_u h.near_v)
        ∙ ap (λ k. pos (edge_count es h.u h.v) -ℤ pos k) (counts_ten es h.v h.u n h.near_v h.near_u)

edge_nets_ten : (es fs : List Edge) → AreNearEdges es → AreNearEdges fs
    → ((a b : Corner) → net_of_edges es a b ≡ net_of_edges fs a b)
    → (a b : Corner) → net_of_edges (map ten_edge es) a b ≡ net_of_edges (map ten_edge fs) a b
edge_nets_ten es fs n m same a b =
    one (none_or_tens es a b n) (none_or_tens es b a n) (none_or_tens fs a b m) (none_or_tens fs b a m)
  where
    there : AreTens a b → net_of_edges (map ten_edge es) a b ≡ net_of_edges (map ten_edge fs) a b
    there = net_at_tens es fs n m same a b

    one : (edge_count (map ten_edge es) a b ≡ 0) ⊎ AreTens a b → (edge_count (map ten_edge es) b a ≡ 0) ⊎ AreTens b a
        → (edge_count (map ten_edge fs) a b ≡ 0) ⊎ AreTens a b → (edge_count (map ten_edge fs) b a ≡ 0) ⊎ AreTens b a
        → net_of_edges (map ten_edge es) a b ≡ net_of_edges (map ten_edge fs) a b
    one (inr t) q r s = there t
    one p (inr t) r s = there (turned b a t)
    one p q (inr t) s = there t
    one p q r (inr t) = there (turned b a t)
    one (inl p) (inl q) (inl r) (inl s) = cc

pub nets_ten : (rings others : List (List Corner)) → AreNearRings rings → AreNearRings others
    → ((a b : Corner) → net_count rings a b ≡ net_count others a b)
    → (a b : Corner) → net_count (ten_rings rings) a b ≡ net_count (ten_rings others) a b
nets_ten rings others h k same a b =
    ap (λ es. net_of_edges es a b) (all_edges_ten rings)
    ∙ edge_nets_ten (all_edges rings) (all_edges others) (near_all_edges rings h) (near_all_edges others k) same a b
    ∙ sym (ap (λ es. net_of_edges es a b) (all_edges_ten others))
