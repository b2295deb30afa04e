use Rattle.std.proofs.Common.{◌≡◌, sym, ◌∙◌, ap, subst, arith, ◌∷◌, length}
use Rattle.std.specs.List.{AllByRecursion}
use Rattle.parcel_table.specs.Table.{Table, HasId, with_shape}
use Rattle.fabric_core.specs.own.Lists.{replaced}
use Rattle.fabric_core.proofs.edits.ChangedParcels.{ids_stay}
use Rattle.fabric_core.proofs.tiled.replace_all.Goals as goal

pub loop-shape-preserved : goal.loop-shape-preserved
loop-shape-preserved g c =
    let now = c.loop-shape.parcels.parcels in let shape = c.in-Some.shape in let id = c.in-Some-split_first.id.now in
    let rest = c.in-Some-split_first.rest.now in
    let ids : c.loop-shape.left.now ≡ id ∷ rest = c.in-Some-split_first.ensures.cases.0 in
    let shapes = c.in-Some.ensures.steps.0 in
    let changed = ap (λ table. table.parcels) c.replace.ensures in record {
      rest = c.replace.ensures ∙ ap (λ (t : Table _). record t { parcels = with_shape id shape now }) c.loop-shape.invariant.rest
          ∙ ap (λ parcels. record c.args.parcels.now { parcels = parcels }) (sym changed);
      same_end = ap (λ parcels. replaced rest c.next.new.self.rest.items parcels) changed
          ∙ sym (ap (λ xs. replaced xs c.loop-shape.shape-iterator.rest.items now) ids
          ∙ ap (λ xs. replaced (id ∷ rest) xs now) shapes)
          ∙ c.loop-shape.invariant.same_end;
      same_length = omega (arith, ap length ids, ap length shapes, c.loop-shape.invariant.same_length);
      here = subst (λ parcels. AllByRecursion (HasId parcels) rest) (sym changed)
          (ids_stay id shape now rest (subst (AllByRecursion (HasId now)) ids c.loop-shape.invariant.here).1);
    }
