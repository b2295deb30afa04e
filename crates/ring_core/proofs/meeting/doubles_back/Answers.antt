use Rattle.std.proofs.Common.{sym, ◌∙◌, inl, inr, refl}
use Rattle.std.proofs.lemmas.Bool.{false≢true}
use Rattle.ring_core.proofs.edges.DoubledBack.{doubles_back_by_end, end_of_doubling_back}
use Rattle.ring_core.proofs.meeting.doubles_back.Goals as goal

pub returns-then-is_short_of_end : goal.returns-then-is_short_of_end
returns-then-is_short_of_end g =
    let a = g.args.a in let b = g.args.b in let c = g.args.c in
    (λ e. doubles_back_by_end a b c (inl (g.is_short_of_end.ensures.0 g.if-is_short_of_end.true)), λ h. refl)

pub returns : goal.returns
returns g =
    let a = g.args.a in let b = g.args.b in let c = g.args.c in (
      λ e. doubles_back_by_end a b c (inr (g.is_short_of_end-2.ensures.0 e)),
      λ h. elim (end_of_doubling_back a b c h) [
        | inl q ↦ absurd (false≢true (sym g.if-is_short_of_end.false ∙ g.is_short_of_end.ensures.1 q))
        | inr q ↦ g.is_short_of_end-2.ensures.1 q
      ],
    )
