use Rattle.std.proofs.Common.{◌≡◌, sym, ◌∙◌, ap, [], ◌∷◌, ◌++◌, length, take, drop, map}
use Rattle.geo_exact.specs.Rings.{begun_at_least}
use Rattle.fabric_core.proofs.loads.RefinedRings.{noded_rings, take_whole, length_map}
use Rattle.fabric_core.proofs.loads.Shared.{last_alike}
use Rattle.fabric_core.proofs.refine.begun.Goals as goal

pub returns : goal.returns
returns g c = λ records city numbered rings.
    let popped : c.args.noded.items ≡ c.pop.new.self.items ++ c.in-Some.refined ∷ [] = c.in-Some.ensures.items in
    let begun : c.begin_all.new.rings ≡ map begun_at_least c.pop.new.self.items = c.begin_all.ensures
    ∙ ap (map begun_at_least) c.deref_mut.ensures.value in
    let written : take c.pop.new.self.len (c.begin_all.new.rings ++ drop (length c.begin_all.new.rings)
    c.pop.new.self.items) ≡ c.begin_all.new.rings =
    take_whole c.begin_all.new.rings (drop (length c.begin_all.new.rings) c.pop.new.self.items) c.pop.new.self.len
    (c.pop.new.self.ok.0 ∙ sym (length_map begun_at_least c.pop.new.self.items) ∙ sym (ap length begun)) in (
      last_alike _ _ _ _ (sym c.in-Some-pop.ensures.items ∙ rings),
      noded_rings records city c.args.all.rings.items c.args.all.corners.items
          c.args.noded.items c.pop.new.self.items
          c.in-Some.refined c.args.all.numbers.items _ numbered rings c.requires.corners c.requires.noded popped
          (written ∙ begun),
    )
