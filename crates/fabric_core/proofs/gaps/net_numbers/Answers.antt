use Rattle.std.proofs.Common.{sym, ap, subst, arith, suc, [], ◌∷◌, ◌++◌, length, take, add-one}
use Rattle.edge_chains.specs.Counts.{AreNetOf}
use Rattle.fabric_core.specs.own.Lists.{corners_of_rings}
use Rattle.fabric_core.proofs.rows.NetSums.{rings_more, count_more, count_so_far, take_all_rings}
use Rattle.fabric_core.proofs.gaps.net_numbers.Goals as goal

pub add-requires : goal.add-requires
add-requires g c =
    let i = c.loop-ring.ring-index in
    let more = count_more c.args.rings.now i c.ring-item.result (omega (arith, c.loop-ring-test.true)) c.ring-item.is in
    let so_far = count_so_far c.args.rings.now (suc i) in
    omega (arith, more, so_far, c.loop-ring.invariant.edges, c.requires.together, ap length c.as_slice.ensures)

pub loop-ring-preserved : goal.loop-ring-preserved
loop-ring-preserved g c =
    let i = c.loop-ring.ring-index in
    let more = rings_more c.args.rings.now i c.ring-item.result (omega (arith, c.loop-ring-test.true)) c.ring-item.is in
    let count = count_more c.args.rings.now i c.ring-item.result (omega (arith, c.loop-ring-test.true)) c.ring-item.is in
    rw add-one (record {
      net = subst (λ rings. AreNetOf c.add.new.self rings []) (sym more)
          (subst (λ ring. AreNetOf c.add.new.self (corners_of_rings (take i c.args.rings.now) ++ ring ∷ []) []) c.as_slice.ensures
          (c.in_ok-add.ensures.net_so_far (corners_of_rings (take i c.args.rings.now)) [] c.loop-ring.invariant.net));
      edges = omega (arith, c.in_ok-add.ensures.edges, c.loop-ring.invariant.edges, count, ap length c.as_slice.ensures);
    })

pub take-requires : goal.take-requires
take-requires g c =
    omega (
      arith,
      count_so_far c.args.rings.now c.loop-ring.ring-index,
      c.loop-ring.invariant.edges,
      c.requires.together,
      c.requires.in_city,
    )

pub returns : goal.returns
returns g c =
    let whole = take_all_rings c.args.rings.now c.loop-ring.ring-index (omega (arith, c.loop-ring-test.false)) in
    subst (λ rings. AreNetOf c.take.new.self (corners_of_rings rings) (c.args.refined.now ∷ [])) whole
    (c.in_ok-take.ensures.net_so_far (corners_of_rings (take c.loop-ring.ring-index c.args.rings.now)) [] c.loop-ring.invariant.net)
