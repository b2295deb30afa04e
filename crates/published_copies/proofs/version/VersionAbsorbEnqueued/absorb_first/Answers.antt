use Rattle.std.proofs.Common.{◌≡◌, sym, ◌∙◌, ap, arith, ◌+◌, [], ◌∷◌, ◌++◌, length, length-append}
use Rattle.entry_history.proofs.Beginnings.{longer_by_one}
use Rattle.published_copies.proofs.version.VersionAbsorbEnqueued.absorb_first.Goals as goal

pub invariant_of-self-2 : goal.invariant_of-self-2
invariant_of-self-2 g c =
    let more : length c.operation.inside.front ≡ length c.self.inside.front + 1 =
    let split = length-append c.operation.invariant.before (c.operation.inside.entry ∷ []) in
    omega (arith, c.len.ensures, c.len-2.ensures, c.if-len.false, ap length c.operation.invariant.ends, split) in
    c.in_ok-follow.ensures.followed
    ∙ ap (λ xs. xs ++ c.operation.inside.entry ∷ []) c.self.invariant
    ∙ sym (longer_by_one c.self.inside.front c.operation.inside.front c.learn.new.self c.operation.invariant.before
    c.operation.inside.entry
    c.operation.invariant.ends more c.learn.ensures.one c.learn.ensures.this c.learn.ensures.that)

pub returns-clause-absorbed : goal.returns-clause-absorbed
returns-clause-absorbed g c =
    let more : length c.operation.inside.front ≡ length c.self.inside.front + 1 =
    let split = length-append c.operation.invariant.before (c.operation.inside.entry ∷ []) in
    omega (arith, c.len.ensures, c.len-2.ensures, c.if-len.false, ap length c.operation.invariant.ends, split) in
    rw (← c.self.view_is, ← c.operation.view_is)
    (longer_by_one c.self.inside.front c.operation.inside.front c.learn.new.self c.operation.invariant.before c.operation.inside.entry
    c.operation.invariant.ends more c.learn.ensures.one c.learn.ensures.this c.learn.ensures.that)
