use Rattle.std.proofs.Common.{arith}
use Rattle.std.proofs.lemmas.List.{get_or-set_same, get_or-set_other}
use Rattle.ring_core.specs.declared.kind.Kind.TheVariants.{Flat}
use Rattle.ring_core.proofs.clipping.KindsTell.{marked_set, seen_set}
use Rattle.ring_core.proofs.kind.look_at.Goals as goal

pub returns-clause-here : goal.returns-clause-here
returns-clause-here c = λ numbers.
    rw (get_or-set_same c.args.kinds.now c.args.k c.kind_at-kind.result Flat (omega (arith, c.requires.in_rest, c.requires.same_length)))
    (c.kind_at-kind.ensures.is_kind numbers)

pub returns-clause-others : goal.returns-clause-others
returns-clause-others c = λ j off. get_or-set_other c.args.kinds.now c.args.k j c.kind_at-kind.result Flat off

pub returns-clause-marked : goal.returns-clause-marked
returns-clause-marked c = λ numbers marks marked.
    marked_set c.args.kinds.now numbers marks c.args.k c.kind_at-kind.result
    (omega (arith, c.requires.in_rest, c.requires.same_length)) marked
    (λ n e. absurd (c.kind_at-kind.ensures.unblocked n e))

pub returns-clause-seen : goal.returns-clause-seen
returns-clause-seen c =
    seen_set c.args.kinds.now c.args.seen c.with.result c.args.k c.kind_at-kind.result
    (omega (arith, c.requires.in_rest, c.requires.same_length)) c.requires.seen
    c.with.ensures.flats c.with.ensures.candidates c.with.ensures.flat c.with.ensures.candidate
