use Rattle.std.proofs.Common.{arith, rules}
use Rattle.std.proofs.lemmas.Grind.{common_steps}
use Rattle.text_pieces.proofs.Puts.{more_put}
use Rattle.text_pieces.proofs.put.put_all.Goals as goal

pub loop-rest-preserved : goal.loop-rest-preserved
loop-rest-preserved g c = record {
  written = more_put _ _ _ _ c.loop-rest.rest.now _ c.in_ok-count.count c.loop-rest.invariant.written
      c.in_ok-count.ensures.bytes (grind (arith, common_steps));
  no_failure = search rules;
}
