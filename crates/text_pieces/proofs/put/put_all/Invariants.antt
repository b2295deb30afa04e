use Rattle.std.proofs.Common.{◌≡◌, length}
use Rattle.text_pieces.proofs.Puts.{HasPut}
use Rattle.text_pieces.proofs.put.put_all.Given as goal

abbrev pub invariant-loop-rest : goal.invariant-loop-rest
invariant-loop-rest g l = record {
  written : HasPut (g.W.ByteOut.written l.initial.out) (g.W.ByteOut.written l.out) l.text l.rest;
  no_failure : g.W.ByteOut.failure_count l.out ≡ g.W.ByteOut.failure_count l.initial.out;
}

abbrev pub decreases-loop-rest : goal.decreases-loop-rest
decreases-loop-rest g l = length l.rest
