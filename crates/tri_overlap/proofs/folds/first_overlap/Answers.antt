use Rattle.std.proofs.Common.{ℕ, ◌<◌, sym, arith, below_more, inl, inr, subst}
use Rattle.tri_overlap.specs.Folding.{OverlapAt}
use Rattle.tri_overlap.proofs.Numbered.{second_in_list}
use Rattle.tri_overlap.proofs.folds.first_overlap.Goals as goal

pub returns-in-Some : goal.returns-in-Some
returns-in-Some c =
    let ts = c.args.triangles.now in let e = c.in-Some.ensures in
    record {
      ordered = e.0;
      below = second_in_list ts c.loop-i.i c.in-Some.j e.1;
      has = e.1;
      is_first = λ k l o _ s. elim s [
        | inl q ↦ c.loop-i.invariant k l q o
        | inr q ↦ let P : ℕ → Type 0 = λ m. m < l → ¬ OverlapAt ts m l in subst P (sym q.0) (λ r. e.2 l r q.1) o
      ];
    }

pub loop-i-preserved : goal.loop-i-preserved
loop-i-preserved c =
    let ts = c.args.triangles.now in
    λ k m h o. below_more (λ n. n < m → ¬ OverlapAt ts n m) c.loop-i.i (λ n q r. c.loop-i.invariant n m q r)
    (λ r. c.in_default.ensures m r) k h o

pub returns : goal.returns
returns c = λ i j o b h. c.loop-i.invariant i j (omega arith) o h
