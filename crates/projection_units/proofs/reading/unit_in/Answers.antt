use Rattle.std.proofs.Common.{◌+◌, ◌∙◌, false, ap, sym}
use Rattle.projection_units.proofs.Readings.{at_the_end, reads_on, read_whole, says, before_the_plane}
use Rattle.projection_units.specs.Tokens.{tokens}
use Rattle.projection_units.proofs.reading.unit_in.Goals as goal

pub loop-at-preserved : goal.loop-at-preserved
loop-at-preserved c = record {
  whole = ap (at_the_end c.args.text.now (c.loop-at.at + 1)) c.next-reading.ensures.next
      ∙ reads_on c.args.text.now c.loop-at.at c.loop-at-test.true c.loop-at.reading c.loop-at.invariant.word
      ∙ c.loop-at.invariant.whole;
  word = c.next-reading.ensures.word;
}

pub returns : goal.returns
returns c =
    let text = c.args.text.now in
    c.said.ensures
    ∙ ap says (sym (read_whole text c.loop-at.at c.loop-at.reading c.loop-at-test.false) ∙ c.loop-at.invariant.whole)
    ∙ before_the_plane (tokens text) false
