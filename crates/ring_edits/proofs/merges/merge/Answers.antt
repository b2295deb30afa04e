use Rattle.ring_edits.proofs.Ends.{is_merge, one_run_between}
use Rattle.ring_edits.proofs.merges.merge.Goals as goal

pub returns-clause-ring : goal.returns-clause-ring
returns-clause-ring g c =
    let border = c.in_ok-border.border in
    is_merge c.args.a.now c.args.b.now c.in_ok-ring.ring border.from_in_a border.to_in_a border.from_in_b border.to_in_b
    c.in_ok-border.ensures.border c.in_ok-ring.ensures

pub returns-in_err-ring-clause-memory : goal.returns-in_err-ring-clause-memory
returns-in_err-ring-clause-memory g c = λ none.
    let border = c.in_ok-border.border in
    one_run_between c.args.a.now c.args.b.now border.from_in_a border.to_in_a c.in_ok-border.ensures.border.shared
