use Rattle.std.proofs.Common.{◌≡◌, ◌∙◌, sym, length, eqb-true, rules}
use Rattle.std.proofs.lemmas.List.{nil_from_length}
use Rattle.journal_records.proofs.Torn.{two_lines}
use Rattle.journal_records.proofs.tails.is_two_lines.Goals as goal

pub returns : goal.returns
returns c = λ _. two_lines c.args.text.now c.in-Some.first.now c.in-Some.rest.now c.in-Some-before_line_feed.second.now
    c.in-Some-before_line_feed.end.now c.in-Some.ensures.0 c.in-Some-before_line_feed.ensures.0
    (nil_from_length _ (eqb-true (length c.in-Some-before_line_feed.end.now) 0 (sym c.is_empty.ensures ∙ search rules)))
    (c.is_in_line.ensures (search rules)) (c.is_in_line-else-not-is_in_line.ensures (search rules))
