use Rattle.std.proofs.Common.{◌≡◌, ◌∷◌, ◌+◌, ◌∙◌, suc, refl, sym, ap, drop, add-one}
use Rattle.std.proofs.Math.Seq.{drop-cons}
use Rattle.std.proofs.lemmas.Bool.{and_parts}
use Rattle.std.proofs.lemmas.List.{drop_all}
use Rattle.std.proofs.lemmas.List.Elements.{All-nil, All-cons, All-same}
use Rattle.entry_history.proofs.Beginnings.{begins_itself, begins_whole}
use Rattle.clerk_runs.specs.own.Windows.{IsLearnt}
use Rattle.clerk_runs.proofs.locating.learn_all.Goals as goal

pub loop-receipt-init : goal.loop-receipt-init
loop-receipt-init g c = record {
  opening = refl;
  begins = begins_itself c.args.window.now.seen;
  learnt = λ all later begins are. are;
}

pub loop-receipt-preserved : goal.loop-receipt-preserved
loop-receipt-preserved g c =
    let receipts = c.args.receipts.now in
    let i = c.loop-receipt.receipt-index in
    let left : drop i receipts ≡ c.receipt-item.result ∷ drop (i + 1) receipts =
    rw (add-one, drop-cons receipts i c.receipt-item.result c.loop-receipt-test.true)
    (ap (λ r. r ∷ drop (suc i) receipts) (sym c.receipt-item.is)) in
    record {
      opening = c.learn.ensures.opening ∙ c.loop-receipt.invariant.opening;
      begins = begins_whole _ _ _ c.loop-receipt.invariant.begins c.learn.ensures.longer.begins;
      learnt = λ all later more are.
          let both = and_parts _ _ all in
          let first : IsLearnt later c.receipt-item.result = record {
            published = sym c.published-all.ensures ∙ both.1;
            begins = begins_whole _ _ _ c.learn.ensures.longer.other_begins more;
          } in
          c.loop-receipt.invariant.learnt both.0 later (begins_whole _ _ _ c.learn.ensures.longer.begins more)
          (All-same (IsLearnt later) (drop i receipts) (c.receipt-item.result ∷ drop (i + 1) receipts) left
          (All-cons (IsLearnt later) c.receipt-item.result (drop (i + 1) receipts) first are));
    }

pub returns-clause-learnt : goal.returns-clause-learnt
returns-clause-learnt g c = λ all.
    c.loop-receipt.invariant.learnt all _ (begins_itself _)
    (rw (drop_all c.loop-receipt.receipt-index c.args.receipts.now c.loop-receipt-test.false) (All-nil _))
