use Rattle.std.proofs.Common.{◌+◌, refl, ap}
use Rattle.shp_files.proofs.layers.Rings.{ring_corners, ring_small, records_step, records_end}
use Rattle.shp_files.proofs.write.put_records.Goals as goal

pub loop-ring-init : goal.loop-ring-init
loop-ring-init g c = record { numbered = refl; so_far = refl }

pub put_record-requires : goal.put_record-requires
put_record-requires g c =
    ring_small ring_corners c.args.rings.now c.loop-ring.ring-index c.ring-item.result _ c.loop-ring-test.true
    c.ring-item.is c.as_slice.ensures c.requires.corners

pub loop-ring-preserved : goal.loop-ring-preserved
loop-ring-preserved g c = record {
  numbered = ap (λ n. n + 1) c.loop-ring.invariant.numbered;
  so_far = records_step ring_corners c.args.rings.now c.loop-ring.ring-index _ c.ring-item.result _ _ _ _
      c.loop-ring-test.true c.ring-item.is c.as_slice.ensures c.loop-ring.invariant.numbered
      c.in_ok-put_record.ensures c.loop-ring.invariant.so_far;
}

pub returns : goal.returns
returns g c = records_end ring_corners c.args.rings.now c.loop-ring.ring-index _ _ c.loop-ring-test.false c.loop-ring.invariant.so_far
