use Rattle.std.proofs.Common.{sym, ◌∙◌, ap, subst, arith, ◌+◌}
use Rattle.std.proofs.lemmas.Bool.{false≢true}
use Rattle.edge_chains.proofs.edges.Inside.{Decides-is_strictly_inside}
use Rattle.edge_chains.proofs.edges.OnLines.{AreOnly, HasUpTo, only_pushed, has_pushed, has_passed, between_all, not_before_here}
use Rattle.edge_chains.proofs.lines.between.Goals.{then-is_strictly_inside+in_ok-push, else-is_strictly_inside}
use Rattle.edge_chains.proofs.lines.between.Goals.{then-loop-at-test+else-is_before_ranked, else-loop-at-test}
use Rattle.edge_chains.proofs.lines.between.Goals as goal

pub loop-at-preserved : goal.loop-at-preserved
loop-at-preserved g c =
    let ranked = c.args.ranked.now in
    let a = c.args.low.corner in
    let b = c.args.high.corner in
    let i = c.loop-at.at in
    let it = c.index-ranked-at-in-loop-at.result in
    let is = c.index-ranked-at-in-loop-at.is in
    let inv = c.loop-at.invariant in
    let found = c.loop-at.found.items in
    let start = c.first_behind-at.result in
    let inside = Decides-is_strictly_inside it.corner a b in
    record {
      in_range = omega (arith, c.loop-at-test.true);
      only = elim c.if-is_strictly_inside.branch [
        | then-is_strictly_inside+in_ok-push w ↦
            subst (AreOnly ranked a b) (sym (ap (λ v. v.items) w.found-is ∙ w.in_ok-push.ensures.items))
            (only_pushed ranked a b found i it c.loop-at-test.true is (inside.0 (sym c.is_strictly_inside.ensures
            ∙ w.if-is_strictly_inside.true)) inv.only)
        | else-is_strictly_inside w ↦ subst (AreOnly ranked a b) (sym (ap (λ v. v.items) w.found-is)) inv.only
      ];
      has = elim c.if-is_strictly_inside.branch [
        | then-is_strictly_inside+in_ok-push w ↦
            subst (HasUpTo ranked a b start (i + 1)) (sym (ap (λ v. v.items) w.found-is ∙ w.in_ok-push.ensures.items))
            (has_pushed ranked a b found start i it c.loop-at-test.true is inv.has)
        | else-is_strictly_inside w ↦ subst (HasUpTo ranked a b start (i + 1)) (sym (ap (λ v. v.items) w.found-is))
            (has_passed ranked a b found start i it c.loop-at-test.true is
            (λ h. false≢true (sym w.if-is_strictly_inside.false ∙ c.is_strictly_inside.ensures ∙ inside.1 h)) inv.has)
      ];
    }

pub returns : goal.returns
returns g c =
    let ranked = c.args.ranked.now in
    let inv = c.loop-at.invariant in
    between_all ranked c.args.low c.args.high c.loop-at.found.items c.first_behind-at.result c.loop-at.at c.requires
    c.first_behind-at.ensures.others
    (elim c.loop-at-test.branch [
      | then-loop-at-test+else-is_before_ranked w ↦
          λ k d l m. not_before_here ranked c.args.high c.loop-at.at k d w.index-ranked-at.result c.requires l m
          w.index-ranked-at.is (sym w.is_before_ranked.ensures ∙ w.if-is_before_ranked.false)
      | else-loop-at-test w ↦ λ k d l m. absurd (omega (arith, w.loop-at-test.false, l, m))
    ])
    inv.only inv.has
