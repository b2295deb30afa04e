use Rattle.std.proofs.Common.{sym, subst, arith, length, ◌≤◌}
use Rattle.geo_exact.specs.declared.limits.TheConstants.{LAYER_RECORDS}
use Rattle.fabric_core.specs.own.Lists.{corners_of_shapes}
use Rattle.fabric_core.proofs.loads.Loaded.{loaded, kept, rows_few}
use Rattle.fabric_core.proofs.tiled.Tiled.new.Goals as goal

pub invariant_of-result : goal.invariant_of-result
invariant_of-result g c =
    kept c.args.numbers.now (corners_of_shapes c.args.shapes.items) c.in_ok-parcels.parcels.parcels c.args.city c.args.refined c.args.area
    c.in_ok-parcels.index c.in_ok-parcels.ensures.rows c.requires.checked c.requires.area c.in_ok-parcels.ensures.area
    c.in_ok-parcels.ensures.indexed

pub returns-clause-no_fault : goal.returns-clause-no_fault
returns-clause-no_fault g c =
    loaded c.args.numbers.now (corners_of_shapes c.args.shapes.items) c.in_ok-parcels.parcels.parcels c.args.city c.args.refined
    c.in_ok-parcels.ensures.rows c.requires.checked

pub returns-clause-fresh : goal.returns-clause-fresh
returns-clause-fresh g c =
    let rings = corners_of_shapes c.args.shapes.items in record {
      none_gone = c.in_ok-parcels.ensures.none_gone;
      next_is = c.in_ok-parcels.ensures.next;
      small = c.in_ok-parcels.ensures.small;
      few = subst (λ rows. length rows ≤ LAYER_RECORDS) (sym c.in_ok-parcels.ensures.rows)
          (let few = c.requires.checked.few in omega (arith, few, rows_few c.args.numbers.now rings));
      city_few = c.requires.checked.is_city.few;
    }
