use Rattle.std.proofs.Common.{◌≡◌, ◌≤◌, ◌+◌, length, take, ap, arith, rules, ◌∙◌}
use Rattle.shp_files.proofs.layers.PulledBehind.{consumes_behind, longer_same}
use Rattle.shp_files.proofs.source.read_all.Goals as goal
use Rattle.shp_files.proofs.source.read_all.Goals.{then-filled-len+in_ok-widen, else-filled-len}

pub loop-filled-preserved : goal.loop-filled-preserved
loop-filled-preserved g c =
    let f = c.loop-filled.filled in
    let n = c.in_ok-count.count in
    let xs = c.deref_mut.result.now in
    let same : take f xs ≡ take f c.loop-filled.bytes.items = elim c.if-filled-len.branch [
      | then-filled-len+in_ok-widen w ↦ ap (take f) (c.deref_mut.ensures.value ∙ ap (λ v. v.items) w.bytes-is)
          ∙ longer_same c.loop-filled.bytes.items w.widen.new.bytes.items f
          (omega (arith, w.if-filled-len.true, c.len.ensures)) w.in_ok-widen.ensures.kept
      | else-filled-len w ↦ ap (take f) (c.deref_mut.ensures.value ∙ ap (λ v. v.items) w.bytes-is)
    ] in
    let within : f ≤ length xs = search rules in
    let room : f + n ≤ c.if-filled-len.bytes.len = search rules in
    record {
      consumed = consumes_behind _ _ _ c.loop-filled.bytes.items xs c.pull.new.buffer _ _ f n
          c.if-filled-len.bytes.len within c.in_ok-count.ensures.bound room same c.loop-filled.invariant.consumed
          c.in_ok-count.ensures.bytes.0;
      failures = c.in_ok-count.ensures.failures ∙ c.loop-filled.invariant.failures;
      bound = omega (arith, c.if-filled-count.false, c.loop-filled.invariant.bound);
      room = room;
    }
