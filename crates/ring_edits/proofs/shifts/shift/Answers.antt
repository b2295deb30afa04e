use Rattle.std.proofs.Common.{refl, sym, ◌∙◌, ap, inr, ◌++◌}
use Rattle.std.proofs.lemmas.Bool.{false≢true}
use Rattle.geo_exact.specs.Rings.{begun_at_least}
use Rattle.ring_edits.specs.own.Between.{between}
use Rattle.ring_edits.proofs.Ends.{border_path, corners_apart, is_move, no_border}
use Rattle.ring_edits.proofs.shifts.shift.Goals as goal

pub joins-requires-clause-apart : goal.joins-requires-clause-apart
joins-requires-clause-apart g c =
    let border = c.in_ok-border.border in
    corners_apart c.args.a.now c.args.b.now border.from_in_a border.to_in_a c.requires c.in_ok-border.ensures.border.shared

pub returns-then-not-joins-clause-err : goal.returns-then-not-joins-clause-err
returns-then-not-joins-clause-err g c =
    let border = c.in_ok-border.border in
    inr (inr (
      refl,
      no_border c.args.a.now c.args.b.now c.args.path.now border.from_in_a border.to_in_a c.in_ok-border.ensures.border.shared
          (λ m. false≢true (sym c.if-not-joins.true ∙ c.joins.ensures.1 m)),
    ))

pub returns-clause-rings : goal.returns-clause-rings
returns-clause-rings g c =
    let border = c.in_ok-border.border in
    let path = c.joins.ensures.0 c.if-not-joins.false in
    is_move c.args.a.now c.args.b.now c.args.path.now path.0 c.in_ok-of_a.of_a c.in_ok-of_b.of_b border.from_in_a border.to_in_a
    border.from_in_b
    border.to_in_b c.in_ok-border.ensures.border path.1 c.in_ok-of_a.ensures
    (c.in_ok-of_b.ensures ∙ ap (λ xs. begun_at_least (xs ++ between c.args.b.now border.from_in_b border.to_in_b))
    (c.deref.ensures.value ∙ c.in_ok-back.ensures))

pub returns-in_err-of_a-clause-memory : goal.returns-in_err-of_a-clause-memory
returns-in_err-of_a-clause-memory g c = λ none.
    let border = c.in_ok-border.border in
    border_path c.args.a.now c.args.b.now c.args.path.now border.from_in_a border.to_in_a c.in_ok-border.ensures.border.shared
    (c.joins.ensures.0 c.if-not-joins.false)

pub returns-in_err-back-clause-memory : goal.returns-in_err-back-clause-memory
returns-in_err-back-clause-memory g c = λ none.
    let border = c.in_ok-border.border in
    border_path c.args.a.now c.args.b.now c.args.path.now border.from_in_a border.to_in_a c.in_ok-border.ensures.border.shared
    (c.joins.ensures.0 c.if-not-joins.false)

pub returns-in_err-of_b-clause-memory : goal.returns-in_err-of_b-clause-memory
returns-in_err-of_b-clause-memory g c = λ none.
    let border = c.in_ok-border.border in
    border_path c.args.a.now c.args.b.now c.args.path.now border.from_in_a border.to_in_a c.in_ok-border.ensures.border.shared
    (c.joins.ensures.0 c.if-not-joins.false)
