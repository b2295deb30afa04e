use Rattle.std.proofs.Common.{arith, refl}
use Rattle.shp_files.proofs.layers.Rings.{ring_corners, ring_small, words_from, words_all, index_step, index_end}
use Rattle.shp_files.proofs.write.put_index_records.Goals as goal

pub loop-ring-init : goal.loop-ring-init
loop-ring-init g c = record { place = refl; so_far = refl }

pub content_words-words-requires : goal.content_words-words-requires
content_words-words-requires g c =
    ring_small ring_corners c.args.rings.now c.loop-ring.ring-index c.ring-item.result _ c.loop-ring-test.true
    c.ring-item.is c.as_slice.ensures c.requires.corners

pub overflow_add-place : goal.overflow_add-place
overflow_add-place g c =
    let step = words_from ring_corners c.args.rings.now c.loop-ring.ring-index _ c.ring-item.result _
    c.loop-ring-test.true c.ring-item.is c.as_slice.ensures c.content_words-words.ensures in
    let all = words_all ring_corners c.args.rings.now 1 c.requires.rings c.requires.corners in
    omega (arith, step, all, c.loop-ring.invariant.place)

pub overflow_add-place-in-loop-ring : goal.overflow_add-place-in-loop-ring
overflow_add-place-in-loop-ring g c =
    let step = words_from ring_corners c.args.rings.now c.loop-ring.ring-index _ c.ring-item.result _
    c.loop-ring-test.true c.ring-item.is c.as_slice.ensures c.content_words-words.ensures in
    let all = words_all ring_corners c.args.rings.now 1 c.requires.rings c.requires.corners in
    omega (arith, step, all, c.loop-ring.invariant.place)

pub loop-ring-preserved : goal.loop-ring-preserved
loop-ring-preserved g c =
    let step = words_from ring_corners c.args.rings.now c.loop-ring.ring-index _ c.ring-item.result _
    c.loop-ring-test.true c.ring-item.is c.as_slice.ensures c.content_words-words.ensures in
    record {
      place = omega (arith, step, c.loop-ring.invariant.place);
      so_far = index_step ring_corners c.args.rings.now c.loop-ring.ring-index _ _ c.ring-item.result _ _ _ _ _
          c.loop-ring-test.true c.ring-item.is c.as_slice.ensures c.content_words-words.ensures
          c.in_ok-put_big.ensures c.in_ok-put_big-2.ensures c.loop-ring.invariant.so_far;
    }

pub returns : goal.returns
returns g c = index_end ring_corners c.args.rings.now c.loop-ring.ring-index _ _ _ c.loop-ring-test.false c.loop-ring.invariant.so_far
