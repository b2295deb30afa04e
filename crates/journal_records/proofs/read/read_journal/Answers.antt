use Rattle.std.proofs.Common.{◌≡◌, ◌+◌, ◌-◌, ◌%◌, ◌∷◌, [], ◌++◌, ◌∙◌, inl, ap, sym, subst, length, arith, rules, true, false}
use Rattle.std.proofs.lemmas.Bool.{false≢true}
use Rattle.std.proofs.lemmas.List.{length-append}
use Rattle.journal_records.specs.Journals.{IsReadWhole, longest, ended}
use Rattle.journal_records.specs.Tails.{IsTail}
use Rattle.journal_records.proofs.Records.{whole_more, longest_more, has_header}
use Rattle.journal_records.proofs.read.read_journal.Goals as goal

pub returns-then-not-branch-clause-fault : goal.returns-then-not-branch-clause-fault
returns-then-not-branch-clause-fault g c = has_header c.args.layer.now.digits c.args.text.now c.loop-number.records.items
    c.loop-number.seal.digits c.loop-number.rest.now c.loop-number.invariant.journal

pub returns-in_default-clause-read : goal.returns-in_default-clause-read
returns-in_default-clause-read g c =
    let rest = c.loop-number.rest.now in
    let place = (length c.args.text.now - length rest) % 512 in
    let tail : IsTail c.loop-number.number (c.saturating_sub-place.result % 512) c.loop-number.longest rest =
    c.in_ok-is_tail.ensures (search rules) in
    record {
      is_read = c.loop-number.invariant.journal;
      is_tail = subst (λ n. IsTail n place (longest c.args.layer.now.digits c.loop-number.records.items) rest) c.loop-number.invariant.count
          (subst (λ m. IsTail c.loop-number.number place m rest) c.loop-number.invariant.longest
          (subst (λ p. IsTail c.loop-number.number (p % 512) c.loop-number.longest rest) c.saturating_sub-place.ensures tail));
      is_ended = λ no. absurd (false≢true no);
    }

pub returns-then-lacks_end-clause-read : goal.returns-then-lacks_end-clause-read
returns-then-lacks_end-clause-read g c =
    let read = c.in-Some.read in
    let last : read.rest.now ≡ [] = (rw c.in-Some.is at c.in_ok-read.ensures.last) c.if-lacks_end.true in
    record {
      is_read = rw c.in_ok-push.ensures.items (whole_more c.args.layer.now.digits c.args.text.now c.loop-number.records.items
          c.loop-number.seal.digits c.loop-number.rest.now c.loop-number.number read.record read.seal.digits read.rest.now read.lacks_end
          c.loop-number.invariant.journal (rw c.in-Some.is at c.in_ok-read.ensures.found) c.loop-number.invariant.count);
      is_tail = inl last;
      is_ended = λ _. last;
    }

pub loop-number-preserved : goal.loop-number-preserved
loop-number-preserved g c =
    let layer = c.args.layer.now.digits in
    let text = c.args.text.now in
    let read = c.in-Some.read in
    let before = c.loop-number.records.items in
    let more : length (before ++ read.record ∷ []) ≡ length before + 1 = length-append before (read.record ∷ []) in
    let whole : IsReadWhole layer (ended read.lacks_end text) (before ++ read.record ∷ []) read.seal.digits read.rest.now =
    whole_more layer text before c.loop-number.seal.digits c.loop-number.rest.now c.loop-number.number read.record read.seal.digits
    read.rest.now read.lacks_end c.loop-number.invariant.journal (rw c.in-Some.is at c.in_ok-read.ensures.found)
    c.loop-number.invariant.count in
    record {
      journal = rw c.in_ok-push.ensures.items (subst (λ lacks. IsReadWhole layer (ended lacks text) (before ++ read.record ∷ [])
          read.seal.digits read.rest.now) c.if-lacks_end.false whole);
      count = rw c.in_ok-push.ensures.items (omega (arith, c.loop-number.invariant.count, more));
      longest = rw c.in_ok-push.ensures.items (c.longer-longest.ensures ∙ longest_more layer c.loop-number.seal.digits before read.record
          c.loop-number.longest read.length c.loop-number.invariant.longest c.loop-number.invariant.journal.is_read.is_seal
          (rw c.in-Some.is at c.in_ok-read.ensures.length));
    }
