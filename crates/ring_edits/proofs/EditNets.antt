-- The net numbers of directed edges that the edits keep.
use Rattle.std.proofs.Common.{◌≡◌, sym, ◌∙◌, ap, arith, ℤ, ◌+ℤ◌, List, [], ◌∷◌, ◌++◌, reverse}
use Rattle.std.proofs.lemmas.Int.{ints}
use lib.IntN.{pos}
use Rattle.geo_exact.specs.declared.corner.Corner.{Corner}
use Rattle.geo_exact.specs.Rings.{path, edges, begun_at_least}
use Rattle.edge_chains.specs.Net.{net_of_edges, net_count}
use Rattle.ring_core.specs.Simple.{IsSimpleRing}
use Rattle.ring_edits.specs.Edits.{IsSplit, IsMerge, IsMove}
use Rattle.ring_edits.proofs.RoundNets.{net_at_least, net_closed, net_round, net_back, net_of_two, net_of_one}
use Rattle.ring_edits.proofs.SameRuns.{shared_back}

-- the net numbers of a new ring are those of its two parts
net_made : (out : List Corner) (u v : Corner) (xs ys : List Corner) (c d : Corner) → out ≡ begun_at_least (u ∷ xs ++ v ∷ ys)
    → net_of_edges (edges out) c d ≡ net_of_edges (path u xs v) c d +ℤ net_of_edges (path v ys u) c d
net_made out u v xs ys c d h =
    ap (λ ring. net_of_edges (edges ring) c d) h ∙ net_at_least (u ∷ xs ++ v ∷ ys) c d ∙ net_closed u v xs ys c d

pub split_nets : (ring corners left right : List Corner) → IsSplit ring corners left right → (c d : Corner)
    → net_count (left ∷ right ∷ []) c d ≡ net_count (ring ∷ []) c d
split_nets ring corners left right h c d =
    net_of_two left right c d
    ∙ total (net_of_edges (edges left) c d) (net_of_edges (edges right) c d) (net_of_edges (edges ring) c d)
    (net_of_edges (path h.from h.between h.to) c d) (net_of_edges (path h.to (reverse h.between) h.from) c d)
    (net_of_edges (path h.from h.onward h.to) c d) (net_of_edges (path h.to h.back h.from) c d)
    (net_made left h.from h.to h.between h.back c d h.left_is)
    (net_made right h.from h.to h.onward (reverse h.between) c d h.right_is)
    (net_round ring h.from h.to h.onward h.back c d h.round)
    (net_back h.from h.to h.between c d)
    ∙ sym (net_of_one ring c d)
  where
    total : (left right ring there here onward back : ℤ) → left ≡ there +ℤ back → right ≡ onward +ℤ here
        → ring ≡ onward +ℤ back
        → there +ℤ here ≡ pos 0 → left +ℤ right ≡ ring
    total left right ring there here onward back h k l m = omega (arith, ints)

-- the run and its reverse in the other ring cancel
run_cancels : (u v : Corner) (run back : List Corner) (c d : Corner) → run ≡ reverse back
    → net_of_edges (path u run v) c d +ℤ net_of_edges (path v back u) c d ≡ pos 0
run_cancels u v run back c d h =
    ap (λ xs. net_of_edges (path u xs v) c d +ℤ net_of_edges (path v back u) c d) h
    ∙ turn (net_of_edges (path v back u) c d) (net_of_edges (path u (reverse back) v) c d) (net_back v u back c d)
  where
    turn : (x y : ℤ) → x +ℤ y ≡ pos 0 → y +ℤ x ≡ pos 0
    turn x y h = omega (arith, ints)

pub merge_nets : (a b out : List Corner) → IsSimpleRing a → IsSimpleRing b → IsMerge a b out → (c d : Corner)
    → net_count (out ∷ []) c d ≡ net_count (a ∷ b ∷ []) c d
merge_nets a b out simple_a simple_b h c d =
    net_of_one out c d
    ∙ total (net_of_edges (edges out) c d) (net_of_edges (edges a) c d) (net_of_edges (edges b) c d)
    (net_of_edges (path h.u h.run h.v) c d) (net_of_edges (path h.v h.of_a h.u) c d)
    (net_of_edges (path h.u h.of_b h.v) c d) (net_of_edges (path h.v h.back h.u) c d)
    (net_made out h.v h.u h.of_a h.of_b c d h.out_is)
    (net_round a h.u h.v h.run h.of_a c d h.shared.round)
    (net_round b h.u h.v h.of_b h.back c d h.round_b)
    (run_cancels h.u h.v h.run h.back c d (shared_back a b h.u h.v h.run h.of_a h.of_b h.back simple_a simple_b h.shared h.round_b))
    ∙ sym (net_of_two a b c d)
  where
    total : (out a b run of_a of_b back : ℤ) → out ≡ of_a +ℤ of_b → a ≡ run +ℤ of_a → b ≡ of_b +ℤ back
        → run +ℤ back ≡ pos 0 → out ≡ a +ℤ b
    total out a b run of_a of_b back h k l m = omega (arith, ints)

pub move_nets : (a b corners out_a out_b : List Corner) → IsSimpleRing a → IsSimpleRing b
    → IsMove a b corners out_a out_b → (c d : Corner)
    → net_count (out_a ∷ out_b ∷ []) c d ≡ net_count (a ∷ b ∷ []) c d
move_nets a b corners out_a out_b simple_a simple_b h c d =
    net_of_two out_a out_b c d
    ∙ total (net_of_edges (edges out_a) c d) (net_of_edges (edges out_b) c d) (net_of_edges (edges a) c d) (net_of_edges (edges b) c d)
    (net_of_edges (path h.u h.between h.v) c d) (net_of_edges (path h.v (reverse h.between) h.u) c d)
    (net_of_edges (path h.u h.run h.v) c d) (net_of_edges (path h.v h.of_a h.u) c d)
    (net_of_edges (path h.u h.of_b h.v) c d) (net_of_edges (path h.v h.back h.u) c d)
    (net_made out_a h.u h.v h.between h.of_a c d h.out_a_is)
    (net_made out_b h.v h.u (reverse h.between) h.of_b c d h.out_b_is)
    (net_round a h.u h.v h.run h.of_a c d h.shared.round)
    (net_round b h.u h.v h.of_b h.back c d h.round_b)
    (net_back h.u h.v h.between c d)
    (run_cancels h.u h.v h.run h.back c d (shared_back a b h.u h.v h.run h.of_a h.of_b h.back simple_a simple_b h.shared h.round_b))
    ∙ sym (net_of_two a b c d)
  where
    total : (out_a out_b a b there here run of_a of_b back : ℤ) → out_a ≡ there +ℤ of_a → out_b ≡ here +ℤ of_b
        → a ≡ run +ℤ of_a
        → b ≡ of_b +ℤ back → there +ℤ here ≡ pos 0 → run +ℤ back ≡ pos 0 → out_a +ℤ out_b ≡ a +ℤ b
    total out_a out_b a b there here run of_a of_b back h k l m n o = omega (arith, ints)
