use Rattle.std.proofs.Common.{◌≡◌, ◌∷◌, ◌+◌, ◌∙◌, suc, sym, ap, drop, get_or, length, arith, rules, true, false, []}
use Rattle.std.proofs.Common.{drop-cons}
use Rattle.std.proofs.lemmas.List.{drop_all}
use Rattle.journal_records.specs.Tails.{are_torn_blocks, may_stand, next_place}
use Rattle.journal_records.proofs.Torn.{torn_step, torn_stop, torn_end}
use Rattle.journal_records.proofs.tails.is_torn_in_blocks.Goals as goal

pub returns-then-not-may_follow : goal.returns-then-not-may_follow
returns-then-not-may_follow c =
    let text = c.args.text.now in
    let i = c.loop-byte.byte-index in
    let byte = get_or text i 0 in
    let may : may_stand c.loop-byte.was c.loop-byte.at byte ≡ false = sym c.may_follow.ensures ∙ search rules in
    sym (c.loop-byte.invariant ∙ ap (λ rest. are_torn_blocks c.loop-byte.was c.loop-byte.at rest) (drop-cons text i 0 c.loop-byte-test.true)
    ∙ torn_stop c.loop-byte.was c.loop-byte.at byte (drop (suc i) text) may)

pub loop-byte-preserved : goal.loop-byte-preserved
loop-byte-preserved c =
    let text = c.args.text.now in
    let i = c.loop-byte.byte-index in
    let byte = get_or text i 0 in
    let may : may_stand c.loop-byte.was c.loop-byte.at byte ≡ true = sym c.may_follow.ensures ∙ search rules in
    let next : suc i ≡ i + 1 = omega arith in
    c.loop-byte.invariant ∙ ap (λ rest. are_torn_blocks c.loop-byte.was c.loop-byte.at rest) (drop-cons text i 0 c.loop-byte-test.true)
    ∙ torn_step c.loop-byte.was c.loop-byte.at byte (drop (suc i) text) may
    ∙ ap (λ n. are_torn_blocks byte (next_place c.loop-byte.at) (drop n text)) next
    ∙ ap (λ at. are_torn_blocks byte at (drop (i + 1) text)) (sym c.next_at-at.ensures)

pub returns : goal.returns
returns c =
    let text = c.args.text.now in
    sym (c.loop-byte.invariant ∙ ap (λ rest. are_torn_blocks c.loop-byte.was c.loop-byte.at rest)
    (drop_all c.loop-byte.byte-index text (omega (arith, c.loop-byte-test.false))) ∙ torn_end c.loop-byte.was c.loop-byte.at)
