use Rattle.std.proofs.Common.{◌≡◌, ◌++◌, ◌∷◌, [], ◌∙◌, ap, arith, if◌then◌else◌, Bool, List}
use Rattle.std.proofs.lemmas.List.{get_or_default}
use Rattle.geo_exact.specs.declared.corner.Corner.{Corner}
use Rattle.geo_exact.specs.Places.{origin}
use Rattle.ring_edits.specs.Edits.{joins}
use Rattle.ring_edits.specs.own.Between.{edge_at}
use Rattle.ring_edits.proofs.PutLoops.{put_more, put_end}
use Rattle.ring_edits.proofs.inserts.put_all.Goals.{then-is_joining+in_ok-push-2, else-is_joining}
use Rattle.ring_edits.proofs.inserts.put_all.Goals as goal

-- what was pushed, by what the test told
pushed : (b : Bool) (r : Bool) (xs ys zs : List Corner) → r ≡ b → zs ≡ (if r then ys else xs) → zs ≡ (if b then ys else xs)
pushed b r xs ys zs e h = h ∙ ap (λ t. if t then ys else xs) e

pub loop-i-preserved : goal.loop-i-preserved
loop-i-preserved g c =
    let old = c.loop-i.list.items in let here = old ++ c.index-ring-i.result ∷ [] in
    let new : c.if-is_joining.list.items ≡ (if c.is_joining.result then here ++ c.args.at ∷ [] else here) =
    elim c.if-is_joining.branch [
      | then-is_joining+in_ok-push-2 w ↦ rw w.if-is_joining.true
          (let last = w.in_ok-push-2.ensures.items in let first = c.in_ok-push.ensures.items in let z = w.list-is in cc)
      | else-is_joining w ↦ rw w.if-is_joining.false (let first = c.in_ok-push.ensures.items in let z = w.list-is in cc)
    ] in
    put_more c.args.from c.args.to c.args.at c.args.ring.now old c.if-is_joining.list.items c.loop-i.i c.index-ring-i.result
    (omega (arith, c.loop-i-test.true))
    (c.index-ring-i.is ∙ get_or_default c.args.ring.now c.loop-i.i c.index-ring-i.result origin (omega (arith, c.loop-i-test.true)))
    (pushed (joins c.args.from c.args.to (edge_at c.args.ring.now c.loop-i.i)) c.is_joining.result here (here ++ c.args.at ∷ [])
    c.if-is_joining.list.items c.is_joining.ensures new)
    c.loop-i.invariant

pub returns : goal.returns
returns g c =
    put_end c.args.from c.args.to c.args.at c.args.ring.now c.loop-i.list.items c.loop-i.i (omega (arith, c.loop-i-test.false))
    c.loop-i.invariant
