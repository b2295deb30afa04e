use Rattle.std.proofs.Common.{◌≡◌, ◌<◌, ◌∷◌, [], ◌++◌, arith, ap, sym, subst, ◌∙◌, drop, length, length-append}
use Rattle.std.proofs.lemmas.Bool.Decides.{nat_tests}
use Rattle.std.proofs.lemmas.List.{length-drop}
use mathlib.Core.List.{IsPrefix}
use Rattle.desk_lock.proofs.Behind.{next_handed}
use Rattle.desk_lock.proofs.FirstEntries.{handed_first}
use Rattle.desk_lock.proofs.desk.hand_on.Goals as goal

pub loop-place-preserved : goal.loop-place-preserved
loop-place-preserved g c =
    let rest = length-drop c.args.from c.args.journal.now in
    let more : c.hand_on.new.self.handed ≡ c.loop-place.publisher.handed ++ c.index-journal-from.result ∷ [] =
    c.in-Ok-hand_on.ensures.handed ∙ ap (λ entry. c.loop-place.publisher.handed ++ entry ∷ []) c.in-Ok.ensures.cases in
    let less : c.loop-place.place < length (drop c.args.from c.args.journal.now) =
    grind (arith, nat_tests, rest, c.loop-place-test.true, c.requires.from) in
    record {
      begins = subst (λ l. IsPrefix l (drop c.args.from c.args.journal.now)) (sym more)
          (next_handed c.loop-place.publisher.handed c.args.journal.now c.args.from c.loop-place.place c.index-journal-from.result
          c.loop-place.invariant.begins c.loop-place.invariant.count less c.index-journal-from.is);
      count = omega (
        arith,
        ap length more,
        length-append c.loop-place.publisher.handed (c.index-journal-from.result ∷ []),
        c.loop-place.invariant.count,
      );
      few = grind (arith, nat_tests, c.loop-place-test.true);
      shown = c.in-Ok-hand_on.ensures.shown ∙ c.loop-place.invariant.shown;
    }

pub returns-clause-all : goal.returns-clause-all
returns-clause-all g c =
    handed_first c.args.count c.loop-place.publisher.handed (drop c.args.from c.args.journal.now) c.loop-place.invariant.begins
    (grind (arith, nat_tests, c.loop-place.invariant.count, c.loop-place.invariant.few, c.loop-place-test.false))
