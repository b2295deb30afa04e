use Rattle.std.proofs.Common.{sym, ◌∙◌}
use Rattle.std.proofs.lemmas.Bool.{false≢true}
use Rattle.std.proofs.lemmas.Bool.Decides.{Decides-not}
use Rattle.ring_core.proofs.edges.EdgePoints.{not_one_side}
use Rattle.ring_core.proofs.edges.CommonPoints.{have_common_point}
use Rattle.ring_core.proofs.meeting.have_common_point.Goals as goal

pub returns-then-are_on_one_side : goal.returns-then-are_on_one_side
returns-then-are_on_one_side g =
    let a = g.args.a in let b = g.args.b in let c = g.args.c in let d = g.args.d in
    (λ e. absurd (false≢true e), λ h. absurd (not_one_side a b c d h.0 h.1 h.2 (g.are_on_one_side.ensures.0 g.if-are_on_one_side.true)))

pub returns : goal.returns
returns g =
    let a = g.args.a in let b = g.args.b in let c = g.args.c in let d = g.args.d in
    let last = Decides-not g.are_on_one_side-2.result g.are_on_one_side-2.ensures in (
      λ e. have_common_point a b c d g.requires.0 g.requires.1 (λ s. false≢true (sym g.if-are_on_one_side.false
          ∙ g.are_on_one_side.ensures.1 s)) (last.0 e),
      λ h. last.1 (λ s. not_one_side c d a b h.0 h.2 h.1 s),
    )
