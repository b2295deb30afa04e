use Rattle.std.proofs.Common.{◌≡◌, ◌≢◌, sym, ap, ◌∙◌, cond, pos, ◌+ℤ◌, arith, Some, to_z, of_z, w64}
use Rattle.std.specs.Map.{lookup}
use Rattle.std.proofs.lemmas.Int.{ints}
use Rattle.edge_chains.specs.Counts.{is_same_edge, number_at}
use Rattle.edge_chains.proofs.nets.Changes.{entry_of_zero, entry_of_other, from_on_ok}
use Rattle.edge_chains.proofs.edge_sum.change.Goals as goal

pub returns-then-number-eq0-clause-changed : goal.returns-then-number-eq0-clause-changed
returns-then-number-eq0-clause-changed g c =
    let m : c.unwrap_or.result ≡ number_at c.args.numbers.now.entries c.args.edge.0 c.args.edge.1 = cc in
    let z : number_at c.args.numbers.now.entries c.args.edge.0 c.args.edge.1 +ℤ c.args.by ≡ pos 0 = omega (arith, ints, m) in
    λ q. c.remove.ensures.updates.0 q
    ∙ ap (λ w. cond (is_same_edge c.args.edge q) w (lookup (is_same_edge q) c.args.numbers.now.entries))
    (sym (entry_of_zero _ z))

pub returns-else-number-eq0-clause-changed : goal.returns-else-number-eq0-clause-changed
returns-else-number-eq0-clause-changed g c =
    let m : c.unwrap_or.result ≡ number_at c.args.numbers.now.entries c.args.edge.0 c.args.edge.1 = cc in
    let n : to_z w64 (of_z w64 (to_z w64 (of_z w64 c.unwrap_or.result) +ℤ to_z w64
    (of_z w64 c.args.by))) ≡ number_at c.args.numbers.now.entries c.args.edge.0 c.args.edge.1 +ℤ c.args.by = omega (arith, ints, m) in
    let z : number_at c.args.numbers.now.entries c.args.edge.0 c.args.edge.1 +ℤ c.args.by ≢ pos 0 =
    λ e. c.if-number-eq0.false (omega (arith, ints, m, e)) in
    let u = from_on_ok _ c.insert-kept.result (c.insert-kept.ensures.succeeds c.requires.room) c.insert-kept.ensures.updates in
    λ q. u.0 q ∙ ap (λ w. cond (is_same_edge c.args.edge q) w (lookup (is_same_edge q) c.args.numbers.now.entries))
    (ap Some n ∙ sym (entry_of_other _ z))
