use Rattle.std.proofs.Common.{◌∙◌}
use Rattle.std.proofs.lemmas.List.{get_or_default}
use Rattle.geo_exact.specs.Places.{origin}
use Rattle.ring_edits.proofs.Ends.{begins_in_other, ends_in_other, border_at}
use Rattle.ring_edits.proofs.border.border_of.Goals as goal

pub unreachable-requires : goal.unreachable-requires
unreachable-requires c =
    let h = c.in_ok-from_in_a.ensures.run in
    c.in_default.ensures (begins_in_other c.args.a.now c.args.b.now c.in_ok-from_in_a.from_in_a c.in_ok-from_in_a.to_in_a
    c.index-a-from_in_a.result h
    (c.index-a-from_in_a.is ∙ get_or_default c.args.a.now c.in_ok-from_in_a.from_in_a c.index-a-from_in_a.result origin h.i_in_ring))

pub unreachable-requires-in_default-place_of : goal.unreachable-requires-in_default-place_of
unreachable-requires-in_default-place_of c =
    let h = c.in_ok-from_in_a.ensures.run in
    c.in_default-place_of.ensures (ends_in_other c.args.a.now c.args.b.now c.in_ok-from_in_a.from_in_a c.in_ok-from_in_a.to_in_a
    c.index-a-to_in_a.result h
    (c.index-a-to_in_a.is ∙ get_or_default c.args.a.now c.in_ok-from_in_a.to_in_a c.index-a-to_in_a.result origin h.j_in_ring))

pub returns-clause-border : goal.returns-clause-border
returns-clause-border c =
    let h = c.in_ok-from_in_a.ensures.run in
    let k = c.in-Some.ensures in
    let l = c.in-Some-place_of.ensures in
    border_at c.args.a.now c.args.b.now c.in_ok-from_in_a.from_in_a c.in_ok-from_in_a.to_in_a c.in-Some.from_in_b c.in-Some-place_of.to_in_b
    c.requires h k.0
    (k.1 ∙ c.index-a-from_in_a.is ∙ get_or_default c.args.a.now c.in_ok-from_in_a.from_in_a c.index-a-from_in_a.result
    origin h.i_in_ring)
    l.0
    (l.1 ∙ c.index-a-to_in_a.is ∙ get_or_default c.args.a.now c.in_ok-from_in_a.to_in_a c.index-a-to_in_a.result origin h.j_in_ring)
