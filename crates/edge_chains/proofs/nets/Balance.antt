-- Where net numbers are equal, so are the sums of each measure that changes its sign with an edge's direction.
use Rattle.std.proofs.Common.{◌≡◌, ◌⊎◌, inl, inr, refl, sym, ◌∙◌, ap, arith, Bool, true, false, if◌then◌else◌}
use Rattle.std.proofs.Common.{◌&&◌, ℕ}
use Rattle.std.proofs.Common.{zero, suc, ◌+◌, ◌<◌, ◌≤◌, length, length-append, ℤ, pos, neg_ℤ, ◌+ℤ◌, ◌-ℤ◌}
use Rattle.std.proofs.Common.{List, [], ◌∷◌, ◌++◌}
use Rattle.std.proofs.lemmas.Int.{ints}
use Rattle.std.proofs.lemmas.Bool.Decides.{not_from_Decides}
use Rattle.geo_exact.specs.declared.corner.Corner.{Corner}
use Rattle.geo_exact.specs.Point.{Point}
use Rattle.geo_exact.specs.Rings.{Edge, edges, sum_over}
use Rattle.geo_exact.specs.Winding.{crossing}
use Rattle.geo_exact.specs.Area.{edge_area2}
use Rattle.geo_exact.proofs.rings.EdgeSums.{edge_of, turned_edge, sum_over-append}
use Rattle.geo_exact.proofs.rings.Crossings.{crossing_back, edge_area2_back}
use Rattle.edge_chains.specs.Net.{runs_from_to, edge_count, all_edges, net_of_edges, net_count, sum_of_rings}
use Rattle.edge_chains.specs.Net.{winding_of_rings, area2_of_rings}
use Rattle.geo_exact.specs.Order.{is_same}
use Rattle.edge_chains.specs.Counts.{Counts, net_at, AreNetOf}
use Rattle.geo_exact.proofs.corners_and_turns.CornerOrder.{cases_of, Decides-is_same, is_same_itself}
use Rattle.edge_chains.proofs.nets.Changes.{Decides-is_same_edge, net_of_cons, net_of_turned, net_of_no_length}
use Rattle.edge_chains.proofs.nets.Nets.{net_of_append, edge_count-append}

-- the measure changes its sign with the edge's direction
abbrev pub ChangesSign : (Edge → ℤ) → Type 0
ChangesSign measure = (edge : Edge) → measure (turned_edge edge) ≡ neg_ℤ (measure edge)

-- no directed edge is left over
abbrev pub CancelsOut : List Edge → Type 0
CancelsOut es = (a b : Corner) → net_of_edges es a b ≡ pos 0

-- an edge that runs from a to b, with the edges in front of it and behind it
pub record HasEdge (es : List Edge) (a b : Corner) : Type 0 where
  pub front : List Edge
  pub back : List Edge
  pub is : es ≡ front ++ edge_of a b ∷ back

pub find_edge : (es : List Edge) (a b : Corner) → 0 < edge_count es a b → HasEdge es a b
find_edge [] a b h = absurd (omega arith)
find_edge (e ∷ es) a b h = choose (runs_from_to a b e) (Decides-is_same_edge (e.from, e.to) (a, b)).0 h (λ k. find_edge es a b k)
  where
    choose : (t : Bool) → (t ≡ true → (e.from ≡ a) × (e.to ≡ b)) → 0 < (if t then 1 else 0) + edge_count es a b
        → (0 < edge_count es a b → HasEdge es a b) → HasEdge (e ∷ es) a b
    choose true same k later = record {
      front = [];
      back = es;
      is =
          ap (λ (x : Corner). edge_of x e.to ∷ es) (same refl).0 ∙ ap (λ (y : Corner). edge_of a y ∷ es) (same refl).1;
    }
    choose false same k later = let w = later (omega arith) in record {
      front = e ∷ w.front;
      back = w.back;
      is =
          ap (λ xs. e ∷ xs) w.is;
    }

-- an edge with two ends counts once among those from its start to its end
counts_itself : (a b : Corner) → (a ≡ b → ⊥) → net_of_edges (edge_of a b ∷ []) a b ≡ pos 1
counts_itself a b h =
    read (is_same a a) (is_same b b) (is_same a b) (is_same b a) (is_same_itself a) (is_same_itself b) (λ e. h ((Decides-is_same a b).0 e))
  where
    read : (aa bb ab ba : Bool) → aa ≡ true → bb ≡ true → (ab ≡ true → ⊥)
        → pos ((if aa && bb then 1 else 0) + 0) -ℤ pos ((if ab && ba then 1 else 0) + 0) ≡ pos 1
    read true true true ba x y z = absurd (z refl)
    read true true false ba x y z = refl
    read true false ab ba x y z = cc
    read false bb ab ba x y z = cc

there_is_one : (from to back : ℤ) (n m : ℕ) → from ≡ pos 1 → to ≡ pos 0 → to ≡ from +ℤ back → back ≡ pos n -ℤ pos m
    → 0 < m
there_is_one from to back n m h k l e = omega (arith, ints)

same_sum : (measure : Edge → ℤ) (front back : List Edge) (e : Edge) → sum_over measure (front ++ e ∷ back)
    ≡ measure e +ℤ sum_over measure (front ++ back)
same_sum measure front back e = omega (arith, ints, sum_over-append measure front (e ∷ back), sum_over-append measure front back)

same_net : (front back : List Edge) (e : Edge) (a b : Corner)
    → net_of_edges (front ++ e ∷ back) a b ≡ net_of_edges (e ∷ []) a b +ℤ net_of_edges (front ++ back) a b
same_net front back e a b = omega (
  arith,
  ints,
  edge_count-append front (e ∷ back) a b,
  edge_count-append front
      (e ∷ back) b a,
  edge_count-append front back a b,
  edge_count-append front back b a,
)

own_negative : (z : ℤ) → z ≡ neg_ℤ z → z ≡ pos 0
own_negative z h = omega (arith, ints)

-- an edge of no length, which no measure counts
cancelled_flat : (measure : Edge → ℤ) → ChangesSign measure → (e : Edge) (es : List Edge) → e.from ≡ e.to
    → CancelsOut (e ∷ es)
    → (CancelsOut es → sum_over measure es ≡ pos 0) → measure e +ℤ sum_over measure es ≡ pos 0
cancelled_flat measure turns e es s h others =
    let one : measure e ≡ pos 0 = own_negative (measure e) (ap measure
    (ap (λ (x : Corner). edge_of x e.to) s ∙ ap (λ (y : Corner). edge_of e.to y) (sym s)) ∙ turns e) in
    omega (
      arith,
      ints,
      one,
      others (λ a b. left_over (net_of_edges (e ∷ es) a b) (net_of_edges (e ∷ []) a b) (net_of_edges es a b) (h a b)
          (net_of_cons e es a b) (net_of_no_length e.from e.to a b s)),
    )
  where
    left_over : (all one others : ℤ) → all ≡ pos 0 → all ≡ one +ℤ others → one ≡ pos 0 → others ≡ pos 0
    left_over all one others h k l = omega (arith, ints)

-- an edge with two ends, and one that runs back
cancelled_pair : (measure : Edge → ℤ) → ChangesSign measure → (n : ℕ) (e : Edge) (es : List Edge) → length es ≤ n
    → CancelsOut (e ∷ es)
    → HasEdge es e.to e.from
    → ((fs : List Edge) → length fs ≤ n → CancelsOut fs → sum_over measure fs ≡ pos 0)
    → measure e +ℤ sum_over measure es ≡ pos 0
cancelled_pair measure turns n e es l h w others =
    let back : Edge = edge_of e.to e.from in
    let sum : sum_over measure es ≡ measure back +ℤ sum_over measure (w.front ++ w.back) = ap (sum_over measure) w.is
    ∙ same_sum measure w.front w.back back in
    let short : length (w.front ++ w.back) ≤ n = shorter (length w.front) (length w.back) (length es)
    (ap length w.is ∙ length-append w.front (back ∷ w.back)) in
    let nets : CancelsOut (w.front ++ w.back) =
    λ a b. left_over (net_of_edges (e ∷ es) a b) (net_of_edges (e ∷ []) a b) (net_of_edges es a b)
    (net_of_edges (back ∷ []) a b) (net_of_edges (w.front ++ w.back) a b)
    (h a b) (net_of_cons e es a b) (ap (λ xs. net_of_edges xs a b) w.is ∙ same_net w.front w.back back a b)
    (net_of_turned e.from e.to a b) in
    omega (arith, ints, sum, turns e, others (w.front ++ w.back) short nets)
  where
    shorter : (f b m : ℕ) → m ≡ f + suc b → length (w.front ++ w.back) ≤ n
    shorter f b m k = omega (arith, ap length w.is, length-append w.front (edge_of e.to e.from ∷ w.back), length-append w.front w.back)

    left_over : (all one es back rest : ℤ) → all ≡ pos 0 → all ≡ one +ℤ es → es ≡ back +ℤ rest → back ≡ neg_ℤ one
        → rest ≡ pos 0
    left_over all one es back rest h k l m = omega (arith, ints)

pub cancelled : (measure : Edge → ℤ) → ChangesSign measure → (n : ℕ) (es : List Edge) → length es ≤ n → CancelsOut es
    → sum_over measure es ≡ pos 0
cancelled measure turns n [] l h = refl
cancelled measure turns zero (e ∷ es) l h = absurd (omega arith)
cancelled measure turns (suc n) (e ∷ es) l h =
    let l' : length es ≤ n = omega arith in
    step e es l' h (λ fs k m. cancelled measure turns n fs k m) (cases_of (is_same e.from e.to) (Decides-is_same e.from e.to))
  where
    step : (e : Edge) (es : List Edge) → length es ≤ n → CancelsOut (e ∷ es) → ((fs : List Edge) → length fs ≤ n
        → CancelsOut fs → sum_over measure fs ≡ pos 0)
        → (e.from ≡ e.to) ⊎ (is_same e.from e.to ≡ false) → measure e +ℤ sum_over measure es ≡ pos 0
    step e es l h others (inl s) = cancelled_flat measure turns e es s h (others es l)
    step e es l h others (inr s) =
        let apart : (e.from ≡ e.to → ⊥) = not_from_Decides (is_same e.from e.to) (Decides-is_same e.from e.to) s in
        cancelled_pair measure turns n e es l h
        (find_edge es e.to e.from
        (there_is_one (net_of_edges (e ∷ []) e.from e.to) (net_of_edges (e ∷ es) e.from e.to) (net_of_edges es e.from e.to)
        (edge_count es e.from e.to) (edge_count es e.to e.from)
        (counts_itself e.from e.to apart) (h e.from e.to) (net_of_cons e es e.from e.to) refl))
        others

-- ---- two sides
-- the edges the other way
abbrev turned_edges : List Edge → List Edge
turned_edges [] = []
turned_edges (e ∷ es) = turned_edge e ∷ turned_edges es

sum_over-turned : (measure : Edge → ℤ) → ChangesSign measure → (es : List Edge) → sum_over measure (turned_edges es)
    ≡ neg_ℤ (sum_over measure es)
sum_over-turned measure turns [] = refl
sum_over-turned measure turns (e ∷ es) = omega (arith, ints, turns e, sum_over-turned measure turns es)

net_of_turned_edges : (es : List Edge) (a b : Corner) → net_of_edges (turned_edges es) a b ≡ neg_ℤ (net_of_edges es a b)
net_of_turned_edges [] a b = refl
net_of_turned_edges (e ∷ es) a b =
    total (net_of_edges (turned_edge e ∷ turned_edges es) a b) (net_of_edges (turned_edge e ∷ []) a b)
    (net_of_edges (turned_edges es) a b)
    (net_of_edges (e ∷ es) a b) (net_of_edges (e ∷ []) a b) (net_of_edges es a b)
    (net_of_cons (turned_edge e) (turned_edges es) a b) (net_of_cons e es a b) (net_of_turned e.from e.to a b) (net_of_turned_edges es a b)
  where
    total : (all' one' others' all one others : ℤ) → all' ≡ one' +ℤ others' → all ≡ one +ℤ others → one' ≡ neg_ℤ one
        → others' ≡ neg_ℤ others
        → all' ≡ neg_ℤ all
    total all' one' others' all one others h k l m = omega (arith, ints)

-- lists of edges with the same net numbers have the same sum
pub sum_over-balanced : (measure : Edge → ℤ) → ChangesSign measure → (es fs : List Edge)
    → ((a b : Corner) → net_of_edges es a b ≡ net_of_edges fs a b) → sum_over measure es ≡ sum_over measure fs
sum_over-balanced measure turns es fs h =
    let z : sum_over measure (es ++ turned_edges fs) ≡ pos 0 =
    cancelled measure turns (length (es ++ turned_edges fs)) (es ++ turned_edges fs) (omega arith)
    (λ a b. nothing (net_of_edges (es ++ turned_edges fs) a b) (net_of_edges es a b) (net_of_edges fs a b)
    (net_of_edges (turned_edges fs) a b)
    (net_of_append es (turned_edges fs) a b) (h a b) (net_of_turned_edges fs a b)) in
    omega (arith, ints, z, sum_over-append measure es (turned_edges fs), sum_over-turned measure turns fs)
  where
    nothing : (all x y z : ℤ) → all ≡ x +ℤ z → x ≡ y → z ≡ neg_ℤ y → all ≡ pos 0
    nothing all x y z h k l = omega (arith, ints)

pub sum_of_rings-edges : (measure : Edge → ℤ) (rings : List (List Corner))
    → sum_of_rings (λ ring. sum_over measure (edges ring)) rings ≡ sum_over measure (all_edges rings)
sum_of_rings-edges measure [] = refl
sum_of_rings-edges measure (ring ∷ rings) =
    ap (λ z. sum_over measure (edges ring) +ℤ z) (sum_of_rings-edges measure rings)
    ∙ sym (sum_over-append measure (edges ring) (all_edges rings))

-- sets of rings with the same net numbers go round each point equally often, and have the same area
pub winding_of_rings-balanced : (added taken : List (List Corner))
    → ((a b : Corner) → net_count added a b ≡ net_count taken a b) → (p : Point)
    → winding_of_rings p added ≡ winding_of_rings p taken
winding_of_rings-balanced added taken h p =
    let crossing_of : Edge → ℤ = λ edge. crossing p edge.from edge.to in
    sum_of_rings-edges crossing_of added
    ∙ sum_over-balanced crossing_of (λ edge. crossing_back p edge.from edge.to) (all_edges added) (all_edges taken) h
    ∙ sym (sum_of_rings-edges crossing_of taken)

pub area2_of_rings-balanced : (added taken : List (List Corner))
    → ((a b : Corner) → net_count added a b ≡ net_count taken a b) → area2_of_rings added ≡ area2_of_rings taken
area2_of_rings-balanced added taken h =
    sum_of_rings-edges edge_area2 added
    ∙ sum_over-balanced edge_area2 (λ edge. edge_area2_back edge.from edge.to) (all_edges added) (all_edges taken) h
    ∙ sym (sum_of_rings-edges edge_area2 taken)

-- where the counts of both sides are all 0, the two sides have the same net numbers
pub balanced_where_zero : (sum : Counts) (added taken : List (List Corner)) → AreNetOf sum added taken
    → ((a b : Corner) → net_at sum.counts a b ≡ pos 0)
    → (a b : Corner) → net_count added a b ≡ net_count taken a b
balanced_where_zero sum added taken h z a b = equal (net_at sum.counts a b) (net_count added a b) (net_count taken a b) (h a b) (z a b)
  where
    equal : (n x y : ℤ) → n ≡ x -ℤ y → n ≡ pos 0 → x ≡ y
    equal n x y h k = omega (arith, ints)
