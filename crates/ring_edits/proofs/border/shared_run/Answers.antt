use Rattle.std.proofs.Common.{◌∙◌}
use Rattle.std.proofs.lemmas.List.{get_or_default}
use Rattle.geo_exact.specs.Places.{origin}
use Rattle.ring_edits.proofs.Borders.{shared_ends}
use Rattle.ring_edits.proofs.border.shared_run.Goals as goal

pub returns-clause-run : goal.returns-clause-run
returns-clause-run c =
    let h = c.in_ok-i.ensures.run in
    shared_ends c.args.a.now c.args.b.now c.in_ok-i.i c.in_ok-i.j c.index-a-i.result c.index-a-j.result h
    (c.index-a-i.is ∙ get_or_default c.args.a.now c.in_ok-i.i c.index-a-i.result origin h.i_in_ring)
    (c.index-a-j.is ∙ get_or_default c.args.a.now c.in_ok-i.j c.index-a-j.result origin h.j_in_ring)
