use Rattle.std.proofs.Common.{◌≡◌, ◌≢◌, ◌<◌, ◌∙◌, ap, arith, below_more, length, get_or, slice_set}
use Rattle.std.proofs.lemmas.List.{get_or_default, get_or-set_same, get_or-set_other}
use Rattle.ring_core.specs.declared.blocks.Span.{Span}
use Rattle.ring_core.specs.own.Blocks.{number_less}
use Rattle.ring_core.proofs.searches.BlocksKept.{IsLess, blocks_kept}
use Rattle.ring_core.proofs.blocks.close_gap.Goals as goal

pub loop-b-preserved : goal.loop-b-preserved
loop-b-preserved c =
    let spans = c.loop-b.spans in let b = c.loop-b.b in let less = c.without.result in let inv = c.loop-b.invariant in
    let here : b < length spans = omega (arith, c.loop-b.auto.spans) in
    record {
      done = below_more (λ i. (d : Span) → IsLess c.args.k (get_or c.args.spans.now i d) (get_or (slice_set spans b less) i d)) b
          (λ i q d. let ne : i ≢ b = omega arith in rw (get_or-set_other spans b i less d ne) (inv.done i q d))
          (λ d.
          let read : get_or spans b (record { start = 0; end = 0 }) ≡ get_or c.args.spans.now b d =
          get_or_default spans b (record { start = 0; end = 0 }) d here ∙ inv.unread b (omega arith) d in
          rw (get_or-set_same spans b less d here) (record {
            start = c.without.ensures.start ∙ ap (λ (s : Span). number_less c.args.k s.start) read;
            end = c.without.ensures.end ∙ ap (λ (s : Span). number_less c.args.k s.end) read;
          }));
      unread = λ i q d. let ne : i ≢ b = omega arith in get_or-set_other spans b i less d ne ∙ inv.unread i (omega arith) d;
    }

pub returns : goal.returns
returns c = λ whole rest boxes below is_rest are.
    blocks_kept whole rest c.args.k below is_rest c.args.spans.now c.loop-b.spans boxes c.loop-b.auto.spans
    (λ i q. c.loop-b.invariant.done i (omega (arith, c.loop-b.auto.spans))) are
