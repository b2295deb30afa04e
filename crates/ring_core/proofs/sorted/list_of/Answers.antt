use Rattle.std.proofs.Common.{◌≡◌, ◌+ℤ◌, ◌^◌, ◌++◌, ◌∷◌, [], pos, get_or, refl, subst, arith, below_more}
use Rattle.std.specs.List.{Contains}
use Rattle.std.proofs.lemmas.List.{get_or_read}
use Rattle.std.proofs.lemmas.List.Elements.{Contains-append_left, Contains-push}
use Rattle.geo_exact.specs.declared.corner.Corner.{Corner}
use Rattle.geo_exact.specs.Places.{origin, corner_at}
use Rattle.ring_core.specs.declared.sorted.Listed.{Listed}
use Rattle.ring_core.specs.own.Sorted.{IsListed, along}
use Rattle.ring_core.proofs.sorted.list_of.Goals as goal

pub loop-j-preserved : goal.loop-j-preserved
loop-j-preserved g c =
    let axis = c.args.axis in let corners = c.args.corners.now in let numbers = c.args.numbers.now in let j = c.loop-j.j in
    let items = c.loop-j.list.items in
    let it : Listed = record { key = c.key.result; corner = c.index-corners-j.result; number = get_or numbers j 0 } in
    let here : c.index-corners-j.result ≡ corner_at corners j =
    get_or_read corners j c.index-corners-j.result c.loop-j-test.true c.index-corners-j.is origin in
    rw c.in_ok-push.ensures.items (below_more
    (λ i. (x : Listed) × Contains (items ++ it ∷ []) x × IsListed axis corners numbers i x) j
    (λ i q. let h = c.loop-j.invariant i q in (h.0, Contains-append_left items (it ∷ []) h.0 h.1, h.2)) (
      it,
      Contains-push items it,
      record {
        key = subst (λ (q : Corner). pos c.key.result ≡ along axis q +ℤ pos (2 ^ 63)) here c.key.ensures;
        corner = here;
        number = refl;
      },
    ))

pub returns : goal.returns
returns g c = λ j b. c.loop-j.invariant j (omega (arith, b, c.loop-j-test.false))
