use Rattle.std.proofs.Common.{rules, ◌≡◌, ◌≢◌, ◌+◌, inl, refl, sym, ◌∙◌, arith, [], drop}
use Rattle.fabric_core.specs.own.Lists.{numbered_rows}
use Rattle.fabric_core.proofs.loads.LoadRefusals.{asked_apart, tells_first_ring, tells_all_rings}
use Rattle.fabric_core.proofs.loads.ToldRings.{none_looked_at, nil_of_no_length, one_kept, one_told, all_kept, all_told, first_told, headed}
use Rattle.fabric_core.proofs.rings.checked.Goals as goal

pub loop-corners-init : goal.loop-corners-init
loop-corners-init g c =
    let all : c.into_iter-corners-iterator.result.rest.items ≡ c.args.rings.items = search rules in record {
      looked_at = none_looked_at c.args.numbers.now c.args.rings.items c.into_iter-corners-iterator.result.rest.items
          c.in_ok-checked.checked.items c.new-faults.result.items all c.in_ok-checked.ensures.items c.new-faults.ensures.items;
      none_told = λ e. c.new-faults.ensures.items;
    }

pub loop-corners-preserved-in-Continue-branch-2 : goal.loop-corners-preserved-in-Continue-branch-2
loop-corners-preserved-in-Continue-branch-2 g c =
    rw c.in_ok-push-in-Ok.ensures.items (record {
      looked_at = one_kept c.args.numbers.now c.args.rings.items c.loop-corners.corners-iterator.rest.items c.next.new.self.rest.items
          c.loop-corners.checked.items c.loop-corners.faults.items c.in-Ok.ring c.in-Some.corners c.requires.numbered
          c.loop-corners.invariant.looked_at c.in-Some.ensures.steps.0 c.in-Ok.ensures.ok;
      none_told = c.loop-corners.invariant.none_told;
    })

pub loop-corners-preserved : goal.loop-corners-preserved
loop-corners-preserved g c =
    rw c.in_ok-push-in-All.ensures.items (record {
      looked_at = one_told c.args.numbers.now c.args.rings.items c.loop-corners.corners-iterator.rest.items c.next.new.self.rest.items
          c.loop-corners.checked.items c.loop-corners.faults.items c.in-Some.corners c.in-Err.fault _
          (c.len-in-Err.result + c.len-in-Err-2.result) c.requires.numbered c.loop-corners.invariant.looked_at
          c.in-Some.ensures.steps.0
          (omega (
            arith,
            c.len-in-Err.ensures,
            c.len-in-Err-2.ensures,
            c.loop-corners.checked.ok.0,
            c.loop-corners.faults.ok.0,
          )) refl c.in-Err.ensures.err;
      none_told = λ first. absurd (asked_apart (sym first ∙ c.in-All.is));
    })

pub returns-in-First-clause-err : goal.returns-in-First-clause-err
returns-in-First-clause-err g c =
    inl (tells_first_ring c.args.asked (numbered_rows c.args.numbers.now c.args.rings.items) _ c.in-Err.fault _ c.in-First.is
    c.from.ensures.0 c.from.ensures.1
    (first_told c.args.numbers.now c.args.rings.items c.loop-corners.corners-iterator.rest.items c.next.new.self.rest.items
    c.loop-corners.checked.items c.loop-corners.faults.items c.in-Some.corners c.in-Err.fault _
    (c.len-in-Err.result + c.len-in-Err-2.result) c.requires.numbered c.loop-corners.invariant.looked_at
    (c.loop-corners.invariant.none_told c.in-First.is) c.in-Some.ensures.steps.0
    (omega (
      arith,
      c.len-in-Err.ensures,
      c.len-in-Err-2.ensures,
      c.loop-corners.checked.ok.0,
      c.loop-corners.faults.ok.0,
    )) refl c.in-Err.ensures.err))

pub returns-then-is_empty-clause-ok : goal.returns-then-is_empty-clause-ok
returns-then-is_empty-clause-ok g c =
    let empty : c.loop-corners.faults.len ≡ 0 = search rules in
    all_kept c.args.numbers.now c.args.rings.items c.loop-corners.corners-iterator.rest.items
    c.loop-corners.checked.items c.loop-corners.faults.items
    (nil_of_no_length _ (sym c.loop-corners.corners-iterator.rest.ok.0 ∙ c.in-None.ensures.steps.0)) c.loop-corners.invariant.looked_at
    (nil_of_no_length _ (sym c.loop-corners.faults.ok.0 ∙ empty))

pub returns-clause-err : goal.returns-clause-err
returns-clause-err g c =
    let some : c.loop-corners.faults.items ≢ [] = search rules in
    inl (tells_all_rings c.args.asked (numbered_rows c.args.numbers.now c.args.rings.items) c.index.result.now.0 c.index.result.now.1
    (drop 1 c.loop-corners.faults.items) c.loop-corners.faults c.loop-corners.invariant.none_told
    (all_told c.args.numbers.now c.args.rings.items c.loop-corners.corners-iterator.rest.items
    c.loop-corners.checked.items c.loop-corners.faults.items
    (nil_of_no_length _ (sym c.loop-corners.corners-iterator.rest.ok.0 ∙ c.in-None.ensures.steps.0)) c.loop-corners.invariant.looked_at)
    (headed c.loop-corners.faults.items c.index.result.now some c.index.ensures))
