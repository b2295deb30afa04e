use Rattle.std.proofs.Common.{◌≡◌, sym, ◌∙◌, pos, neg_ℤ, ◌+ℤ◌, ◌+◌, true, ℤ, [], ◌∷◌, arith}
use Rattle.std.proofs.lemmas.Int.{ints}
use Rattle.geo_exact.specs.Limit.{IsWithin}
use Rattle.geo_exact.proofs.rings.EdgeSums.{edge_of}
use Rattle.edge_chains.specs.Net.{net_of_edges}
use Rattle.edge_chains.specs.Counts.{net_at}
use Rattle.geo_exact.specs.Order.{is_before}
use Rattle.geo_exact.proofs.corners_and_turns.CornerOrder.{Decides-is_before, same_unless_before}
use Rattle.edge_chains.proofs.nets.Changes.{net_at_up, net_at_down, net_of_no_length, AreCounts-changed, AreCounts-upto}
use Rattle.edge_chains.proofs.edge_sum.count_directed.Goals as goal

one : IsWithin 1 (pos 1)
one = record { low = omega (arith, ints); high = omega (arith, ints) }

minus_one : IsWithin 1 (neg_ℤ (pos 1))
minus_one = record { low = omega (arith, ints); high = omega (arith, ints) }

pub change-requires-clause-small : goal.change-requires-clause-small
change-requires-clause-small g c = c.requires.kept.small (c.args.from, c.args.to)

pub change-requires-then-comes_before-2-clause-small : goal.change-requires-then-comes_before-2-clause-small
change-requires-then-comes_before-2-clause-small g c = c.requires.kept.small (c.args.to, c.args.from)

pub returns-then-comes_before-clause-net : goal.returns-then-comes_before-clause-net
returns-then-comes_before-clause-net g c =
    let t : is_before c.args.from c.args.to ≡ true = sym c.comes_before.ensures ∙ c.if-comes_before.true in
    λ a b. net_at_up c.args.numbers.now.entries c.change.new.numbers.entries c.args.from c.args.to
    ((Decides-is_before c.args.from c.args.to).0 t) c.change.ensures.changed a b

pub returns-then-comes_before-clause-kept : goal.returns-then-comes_before-clause-kept
returns-then-comes_before-clause-kept g c =
    let t : is_before c.args.from c.args.to ≡ true = sym c.comes_before.ensures ∙ c.if-comes_before.true in
    λ n k. AreCounts-changed c.args.numbers.now.entries c.change.new.numbers.entries c.args.from c.args.to (pos 1) n
    ((Decides-is_before c.args.from c.args.to).0 t) one c.change.ensures.changed k

pub returns-then-comes_before-2-clause-net : goal.returns-then-comes_before-2-clause-net
returns-then-comes_before-2-clause-net g c =
    let t : is_before c.args.to c.args.from ≡ true = sym c.comes_before-else-comes_before.ensures ∙ c.if-comes_before-2.true in
    λ a b. net_at_down c.args.numbers.now.entries c.change-then-comes_before-2.new.numbers.entries c.args.to c.args.from
    ((Decides-is_before c.args.to c.args.from).0 t) c.change-then-comes_before-2.ensures.changed a b

pub returns-then-comes_before-2-clause-kept : goal.returns-then-comes_before-2-clause-kept
returns-then-comes_before-2-clause-kept g c =
    let t : is_before c.args.to c.args.from ≡ true = sym c.comes_before-else-comes_before.ensures ∙ c.if-comes_before-2.true in
    λ n k. AreCounts-changed c.args.numbers.now.entries c.change-then-comes_before-2.new.numbers.entries c.args.to
    c.args.from (neg_ℤ (pos 1)) n
    ((Decides-is_before c.args.to c.args.from).0 t) minus_one c.change-then-comes_before-2.ensures.changed k

pub returns-else-comes_before-2-clause-net : goal.returns-else-comes_before-2-clause-net
returns-else-comes_before-2-clause-net g c =
    let e : c.args.from ≡ c.args.to = same_unless_before c.args.from c.args.to (sym c.comes_before.ensures ∙ c.if-comes_before.false)
    (sym c.comes_before-else-comes_before.ensures ∙ c.if-comes_before-2.false) in
    λ a b. unmoved (net_at c.args.numbers.now.entries a b) (net_of_edges (edge_of c.args.from c.args.to ∷ []) a b)
    (net_of_no_length c.args.from c.args.to a b e)
  where
    unmoved : (x y : ℤ) → y ≡ pos 0 → x ≡ x +ℤ y
    unmoved x y h = omega (arith, ints)

pub returns-else-comes_before-2-clause-kept : goal.returns-else-comes_before-2-clause-kept
returns-else-comes_before-2-clause-kept g c = λ n k. AreCounts-upto c.args.numbers.now.entries n (n + 1) (omega arith) k
