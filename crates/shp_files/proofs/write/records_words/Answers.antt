use Rattle.std.proofs.Common.{◌+◌, arith}
use Rattle.shp_files.proofs.layers.Rings.{ring_corners, ring_small, words_from, words_all, words_end}
use Rattle.shp_files.proofs.write.records_words.Goals as goal

pub loop-ring-init : goal.loop-ring-init
loop-ring-init g c = omega arith

pub content_words-requires : goal.content_words-requires
content_words-requires g c =
    ring_small ring_corners c.args.rings.now c.loop-ring.ring-index c.ring-item.result _ c.loop-ring-test.true
    c.ring-item.is c.as_slice.ensures c.requires.corners

pub overflow_add-words : goal.overflow_add-words
overflow_add-words g c =
    let step = words_from ring_corners c.args.rings.now c.loop-ring.ring-index _ c.ring-item.result _
    c.loop-ring-test.true c.ring-item.is c.as_slice.ensures c.content_words.ensures in
    let all = words_all ring_corners c.args.rings.now 1 c.requires.rings c.requires.corners in
    omega (arith, step, all, c.loop-ring.invariant)

pub overflow_add-words-in-loop-ring : goal.overflow_add-words-in-loop-ring
overflow_add-words-in-loop-ring g c =
    let step = words_from ring_corners c.args.rings.now c.loop-ring.ring-index _ c.ring-item.result _
    c.loop-ring-test.true c.ring-item.is c.as_slice.ensures c.content_words.ensures in
    let all = words_all ring_corners c.args.rings.now 1 c.requires.rings c.requires.corners in
    omega (arith, step, all, c.loop-ring.invariant)

pub loop-ring-preserved : goal.loop-ring-preserved
loop-ring-preserved g c =
    let step = words_from ring_corners c.args.rings.now c.loop-ring.ring-index _ c.ring-item.result _
    c.loop-ring-test.true c.ring-item.is c.as_slice.ensures c.content_words.ensures in
    omega (arith, step, c.loop-ring.invariant)

pub returns-clause-value : goal.returns-clause-value
returns-clause-value g c =
    let done = words_end ring_corners c.args.rings.now c.loop-ring.ring-index (c.loop-ring.ring-index + 1) c.loop-ring-test.false in
    omega (arith, done, c.loop-ring.invariant)

pub returns-clause-bound : goal.returns-clause-bound
returns-clause-bound g c =
    let all = words_all ring_corners c.args.rings.now 1 c.requires.rings c.requires.corners in
    omega (arith, all, c.loop-ring.invariant)
